-- The search space of a source, seen in the direction that is asked for, lowers the offers.
use Rattle.std.proofs.Common.{[], length, sym, subst}
use Rattle.std.specs.Prelude.{slice_index_or}
use Rattle.ch_query.specs.SearchSpace.{IsRankedSpace}
use Rattle.ch_rows.specs.Buckets.{IsBucketAmong}
use Rattle.ch_hierarchy.specs.Direction.{facing}
use Rattle.ch_rows.specs.LeastSums.{AreLeastSums}
use Rattle.ch_rows.specs.Near.{Wanted}
use Rattle.ch_rows.specs.Offers.{AreUnoffered}
use Rattle.ch_rows.proofs.Facing.{faced_nodes, kept_faced, source_space}
use Rattle.ch_rows.proofs.NearRows.{bucket_among}
use Rattle.ch_rows.proofs.rows.Nearest.offer_sums.Goals as goal

pub lower_by_search-requires-clause-kept : goal.lower_by_search-requires-clause-kept
lower_by_search-requires-clause-kept c = let t = c.self.inside in kept_faced t.searched.now.direction t.hierarchy.now c.self.invariant.kept

pub lower_by_search-requires-clause-ranks : goal.lower_by_search-requires-clause-ranks
lower_by_search-requires-clause-ranks c =
    let t = c.self.inside in faced_nodes t.searched.now.direction t.hierarchy.now (length t.searched.now.buckets) c.self.invariant.held.size

pub lower_by_search-requires-clause-buckets : goal.lower_by_search-requires-clause-buckets
lower_by_search-requires-clause-buckets c rank =
    let t = c.self.inside in
    let none = subst (λ (w : Wanted). AreUnoffered (length w.targets) c.args.room.now.offers) (sym c.self.view_is) c.requires.room.1 in
    subst (λ n. IsBucketAmong n (slice_index_or t.searched.now.buckets rank [])) (sym none.size)
    (bucket_among (facing t.searched.now.direction t.hierarchy.now) t.searched.now.within t.searched.now.count
    t.searched.now.targets.items t.searched.now.buckets c.self.invariant rank)

pub returns-clause-sums : goal.returns-clause-sums
returns-clause-sums c =
    let t = c.self.inside in
    let bound = c.args.bound in
    let s = c.args.source in
    let none = subst (λ (w : Wanted). AreUnoffered (length w.targets) c.args.room.now.offers) (sym c.self.view_is) c.requires.room.1 in
    let found = c.in_ok-lower_by_search.ensures.lowered in
    subst (λ (w : Wanted). AreLeastSums w bound s c.lower_by_search.new.row) c.self.view_is
    (record {
      buckets = t.searched.now.buckets;
      held = c.self.invariant;
      space = found.0;
      up = source_space t.searched.now.direction t.hierarchy.now bound s found.0
          (subst (λ side. IsRankedSpace t.hierarchy.now side bound s found.0) c.side.ensures found.1);
      fresh = c.args.room.now.offers;
      none = none;
      offered = found.2;
    })
