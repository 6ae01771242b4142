-- The least sums over a rank's legs and the rows of higher ranks, with its own targets, are the near row of its node.
use Rattle.std.proofs.Common.{◌+◌, ◌<◌, ◌++◌, ◌∷◌, [], length, map, sym, ◌∙◌, subst, inl, inr}
use Rattle.std.specs.Prelude.{slice_index_or}
use Rattle.ch_hierarchy.proofs.code.Ranked.{node_of_rank}
use Rattle.ch_query.proofs.by_weight.LoweredWords.{lowered_then}
use Rattle.ch_rows.specs.Buckets.{IsBucketAmong}
use Rattle.ch_hierarchy.specs.Direction.{facing}
use Rattle.ch_rows.specs.Near.{Wanted}
use Rattle.ch_rows.specs.Offers.{AreUnoffered, AreOffered}
use Rattle.ch_rows.specs.Sums.{IsSum, IsSumOf}
use Rattle.ch_rows.specs.Sweep.{AreRowsTo, IsOwed, entry_of_leg}
use Rattle.ch_rows.proofs.NearRows.{bucket_among}
use Rattle.ch_rows.proofs.Swept.{legs_among, row_among, row_made, rows_more}
use Rattle.ch_rows.proofs.rows.Nearest.make_row.Goals as goal

pub offer_row-requires-clause-bucket : goal.offer_row-requires-clause-bucket
offer_row-requires-clause-bucket c =
    let t = c.self.inside in
    let H = facing t.searched.now.direction t.hierarchy.now in
    let none = subst (λ (w : Wanted). AreUnoffered (length w.targets) c.args.offers.now) (sym c.self.view_is) c.requires.offers in
    subst (IsBucketAmong (length c.args.offers.now)) (sym c.row.ensures)
    (subst (λ n. IsBucketAmong n (slice_index_or t.searched.now.buckets c.args.rank [])) (sym none.size)
    (bucket_among H t.searched.now.within t.searched.now.count t.searched.now.targets.items t.searched.now.buckets
    c.self.invariant c.args.rank))

pub offer_legs-requires-clause-legs : goal.offer_legs-requires-clause-legs
offer_legs-requires-clause-legs c =
    let t = c.self.inside in
    let k = c.args.rank in
    let H = facing t.searched.now.direction t.hierarchy.now in
    let kept = c.self.invariant.kept in
    let done = subst (λ (w : Wanted). AreRowsTo w k c.args.rows.now) (sym c.self.view_is) c.requires.rows in
    let low = subst (λ (w : Wanted). k < length w.hierarchy.level) (sym c.self.view_is) c.requires.rank in
    let v = node_of_rank H kept.2.levelled k low in
    legs_among H kept t.searched.now.within t.searched.now.count t.searched.now.targets.items t.searched.now.buckets
    c.self.invariant k c.args.rows.now done v.0 v.1 v.2 c.ranked_legs-legs.result.now (c.ranked_legs-legs.ensures.legs v.0 v.1 v.2)

pub offer_legs-requires-clause-rows : goal.offer_legs-requires-clause-rows
offer_legs-requires-clause-rows c rank =
    let t = c.self.inside in
    let k = c.args.rank in
    let H = facing t.searched.now.direction t.hierarchy.now in
    let kept = c.self.invariant.kept in
    let done = subst (λ (w : Wanted). AreRowsTo w k c.args.rows.now) (sym c.self.view_is) c.requires.rows in
    let low = subst (λ (w : Wanted). k < length w.hierarchy.level) (sym c.self.view_is) c.requires.rank in
    let v = node_of_rank H kept.2.levelled k low in
    let none = subst (λ (w : Wanted). AreUnoffered (length w.targets) c.args.offers.now) (sym c.self.view_is) c.requires.offers in
    let size = c.in_ok-offer_row.ensures.size in
    subst (λ n. IsBucketAmong n (slice_index_or c.args.rows.now rank [])) (sym none.size ∙ sym size)
    (row_among H kept t.searched.now.within t.searched.now.count t.searched.now.targets.items t.searched.now.buckets
    c.self.invariant k c.args.rows.now done v.0 v.1 v.2 c.ranked_legs-legs.result.now
    (c.ranked_legs-legs.ensures.legs v.0 v.1 v.2) rank)

pub returns-clause-row : goal.returns-clause-row
returns-clause-row c =
    let t = c.self.inside in
    let k = c.args.rank in
    let rows = c.args.rows.now in
    let legs = c.ranked_legs-legs.result.now in
    let H = facing t.searched.now.direction t.hierarchy.now in
    let kept = c.self.invariant.kept in
    let result = c.sort_and_cut.new.row.items in
    let fresh = c.args.offers.now in
    let least = c.offer_legs.new.offers in
    let wanted : Wanted = record {
      hierarchy = H;
      targets = t.searched.now.targets.items;
      limit = t.searched.now.within;
      count =
          t.searched.now.count;
    } in
    let done = subst (λ (w : Wanted). AreRowsTo w k rows) (sym c.self.view_is) c.requires.rows in
    let none = subst (λ (w : Wanted). AreUnoffered (length w.targets) fresh) (sym c.self.view_is) c.requires.offers in
    let bucket = slice_index_or t.searched.now.buckets k [] in
    let own = subst (λ l. AreOffered (IsSum t.searched.now.within 0 l) fresh c.offer_row.new.offers) c.row.ensures
    c.in_ok-offer_row.ensures in
    let offered = lowered_then (λ j x. IsSum t.searched.now.within 0 bucket (x, j))
    (λ j x. IsSumOf t.searched.now.within (map entry_of_leg legs) rows (x, j)) (λ j x. IsOwed t.searched.now.within bucket legs rows (x, j))
    fresh c.offer_row.new.offers least (λ j x s. inl s) (λ j x s. inr s) (λ j x o. o) own c.in_ok-offer_legs.ensures in
    subst (λ (w : Wanted). AreRowsTo w (k + 1) (rows ++ result ∷ [])) c.self.view_is
    (rows_more wanted k rows result done
    (λ v lt here. row_made H kept t.searched.now.within t.searched.now.count t.searched.now.targets.items t.searched.now.buckets
    c.self.invariant k rows done v lt here legs (c.ranked_legs-legs.ensures.legs v lt here)
    fresh least c.take.new.row.items result none offered c.in_ok-take.ensures.taken c.sort_and_cut.ensures))
