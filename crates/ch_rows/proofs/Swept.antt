-- The rows of all nodes. The row of a node is made of its bucket and the rows of higher nodes.
use Rattle.std.proofs.Common.{◌≡◌, ℕ, ◌+◌, ◌<◌, ◌≤◌, ◌⊎◌, List, [], ◌∷◌, ◌++◌, length, map, Contains, Option, Some, get_or, refl}
use Rattle.std.proofs.Common.{sym, ◌∙◌, ap, subst, arith, inl, inr}
use Rattle.std.specs.Prelude.{All, AllPairs, slice_index, slice_index_or}
use Rattle.std.proofs.lemmas.Bool.{cases_lt}
use Rattle.std.proofs.lemmas.List.{get_or_past, get_or_push, get_or_append_left, length_push}
use Rattle.std.proofs.lemmas.List.Elements.{All-contains, Contains-get_or}
use Rattle.ch_graph.specs.declared.limits.TheConstants.{MOST_WEIGHT}
use Rattle.ch_graph.specs.declared.cost.Cost.{Cost}
use Rattle.ch_graph.specs.Cost.{cost_sum, no_cost}
use Rattle.ch_graph.specs.Walk.{IsLeast}
use Rattle.ch_graph.specs.WalkLaws.{IsWalkCost}
use Rattle.ch_graph.proofs.CostSums.{cost_sum_assoc}
use Rattle.ch_graph.proofs.Lists.{contains_map, contains_map_of}
use Rattle.ch_graph.proofs.WalkCosts.{IsWalkCost-cost_sum, IsLeast-IsAtMost, IsLeast-back}
use Rattle.ch_hierarchy.specs.declared.leg.Leg.{Leg}
use Rattle.ch_hierarchy.specs.declared.ranked.RankedLeg.{RankedLeg}
use Rattle.ch_hierarchy.specs.Hierarchy.{LevelsAndLegs, nodes_of}
use Rattle.ch_hierarchy.specs.Paths.{IsUpwardPath, path_cost}
use Rattle.ch_hierarchy.specs.KeptLaws.{IsLeastMeeting}
use Rattle.ch_hierarchy.specs.Ranked.{rank_of, ranked_leg}
use Rattle.ch_hierarchy.specs.Rows.{row}
use Rattle.ch_hierarchy.specs.declared.side.Side.TheVariants.{Up}
use Rattle.ch_hierarchy.proofs.code.Ranked.{rank_below, rank_one, node_of_rank}
use Rattle.ch_hierarchy.proofs.theory.KeptWalks.{kept_has_walks, meetings_are_distances}
use Rattle.ch_hierarchy.proofs.theory.LegPaths.{path_cost-cons}
use Rattle.ch_query.specs.Distance.{IsKeptForSome}
use Rattle.ch_query.specs.Limits.{IsWithin, IsDistanceWithin}
use Rattle.ch_query.specs.Search.{IsUpwardCost}
use Rattle.ch_query.proofs.one_side.End.{least_reached}
use Rattle.ch_query.proofs.one_side.Expanding.{leg_up, reached_by_leg}
use Rattle.ch_query.proofs.one_side.TightNodes.{sum_walk, tight_down}
use Rattle.ch_query.proofs.two_sides.SharedSums.{within_less}
use Rattle.ch_rows.specs.Buckets.{HoldNearest, IsBucketAmong}
use Rattle.ch_rows.specs.First.{IsNearer, IsSortedAndCut}
use Rattle.ch_rows.specs.Offers.{AreUnoffered, AreOffered, AreTaken}
use Rattle.ch_rows.specs.Near.{IsDistanceTo, IsNearRow, Wanted}
use Rattle.ch_rows.specs.Sweep.{entry_of_leg, IsOwed, AreRowsTo}
use Rattle.ch_rows.proofs.Distances.{least_of, of_least, one_distance}
use Rattle.ch_rows.proofs.NearRows.{entry_at, down, bucket_among, bucket_apart}
use Rattle.ch_rows.proofs.LeastRows.{IsOutdone, places_apart, outdone_by, row_of_offers}
use Rattle.ch_rows.proofs.HeldSpaces.{space_at, spaces_count}

-- one more row
pub rows_more : (wanted : Wanted) (k : ℕ) (rows : List (List (ℕ × ℕ))) (list : List (ℕ × ℕ)) → AreRowsTo wanted k rows →
    ((v : ℕ) → v < nodes_of wanted.hierarchy → rank_of wanted.hierarchy v ≡ k →
    IsNearRow wanted.hierarchy wanted.limit wanted.count wanted.targets v list) →
    AreRowsTo wanted (k + 1) (rows ++ list ∷ [])
rows_more wanted k rows list done is = record {
  size = let size = done.size in let one = length_push rows list in omega arith;
  each = λ v lt low.
      let rank = rank_of wanted.hierarchy v in
      let size = done.size in
      let Row : List (ℕ × ℕ) → Type 0 = IsNearRow wanted.hierarchy wanted.limit wanted.count wanted.targets v in
      elim (cases_lt rank k) [
        | inl less ↦ subst Row (sym (get_or_append_left rows (list ∷ []) [] rank (omega arith))) (done.each v lt less)
        | inr past ↦
            let here : rank ≡ k = omega arith in
            subst Row (sym (get_or_push rows list [] rank (omega arith))) (is v lt here)
      ];
}

from_none : (x y : ℕ) → x ≡ y → 0 + x ≡ y
from_none x y same = omega arith

-- a pair of a bucket
in_among : (n : ℕ) (list : List (ℕ × ℕ)) → IsBucketAmong n list → (f : ℕ × ℕ) → Contains list f → (f.0 ≤ MOST_WEIGHT) × (f.1 < n)
in_among n list among f c = All-contains (λ (e : ℕ × ℕ). (e.0 ≤ MOST_WEIGHT) × (e.1 < n)) list f among.entries c

module _ (H : LevelsAndLegs) (kept : IsKeptForSome H) where
  -- the weight of a walk within the limit is at least a distance
  walk_distance : (limit : Option ℕ) (s t : ℕ) (d : Cost) → IsWalkCost kept.0 s t d → IsWithin limit d.weight →
      (y : ℕ) × IsDistanceWithin H limit s t (Some y) × (y ≤ d.weight)
  walk_distance limit s t d walk low = elim ((kept_has_walks kept.0 H kept.1 kept.2).decided s t) [
    | inl found ↦
        let c = found.0 in
        let meeting = ((meetings_are_distances kept.0 H kept.1 kept.2).least s t c).0 found.1 in
        let le = (IsLeast-IsAtMost kept.0 s t c d found.1 walk).0 in
        (c.weight, of_least H limit s t c meeting (within_less limit c.weight d.weight le low), le)
    | inr away ↦ absurd (away walk.0 walk.1)
  ]

  -- a distance is the weight of a least walk
  distance_walk : (limit : Option ℕ) (s t x : ℕ) → IsDistanceWithin H limit s t (Some x) →
      (c : Cost) × IsLeast kept.0 s t c × (c.weight ≡ x)
  distance_walk limit s t x d =
      let m = least_of H limit s t x d in (m.0, ((meetings_are_distances kept.0 H kept.1 kept.2).least s t m.0).1 m.1, m.2)

  -- a distance is at most the greatest weight of a path
  pub distance_light : (limit : Option ℕ) (s t x : ℕ) → IsDistanceWithin H limit s t (Some x) → x ≤ MOST_WEIGHT
  distance_light limit s t x d =
      let w = distance_walk limit s t x d in
      let low = ((kept_has_walks kept.0 H kept.1 kept.2).meets s t w.0 w.1).6 in
      let is = w.2 in
      omega arith

  -- the empty path reaches its own node
  stays : (v : ℕ) → IsUpwardCost H.up v v no_cost
  stays v = record { path = ([], refl, refl); weight = omega arith }

  -- a path down is a walk
  fall_walk : (v t : ℕ) (b : Cost) → IsUpwardCost H.down t v b → (d : Cost) × IsWalkCost kept.0 v t d × (d.weight ≡ b.weight)
  fall_walk v t b down = (cost_sum no_cost b, sum_walk H kept v t v no_cost b (stays v) down, omega arith)

  -- a leg followed by a distance gives a walk
  leg_then_walk : (v t : ℕ) (l : Leg) (limit : Option ℕ) (y : ℕ) → Contains (row H.up v) l → IsDistanceWithin H limit l.node t (Some y) →
      (d : Cost) × IsWalkCost kept.0 v t d × (d.weight ≡ l.cost.weight + y)
  leg_then_walk v t l limit y has dist =
      let w = distance_walk limit l.node t y dist in
      let leg = (kept_has_walks kept.0 H kept.1 kept.2).rises v l.node (l ∷ []) (has, refl) in
      let is = w.2 in
      let cost = path_cost-cons l [] in
      let weight : (path_cost (l ∷ [])).weight ≡ l.cost.weight = ap (λ (q : Cost). q.weight) cost ∙ (omega arith) in
      (cost_sum (path_cost (l ∷ [])) w.0, IsWalkCost-cost_sum kept.0 v l.node t (path_cost (l ∷ [])) w.0 leg w.1.walk, omega arith)

  -- a distance is the weight of a path down, or of a leg up followed by a distance
  record BeginsWithLeg (limit : Option ℕ) (v t x : ℕ) : Type 0 where
    leg : Leg
    has : Contains (row H.up v) leg
    rest : ℕ
    distance : IsDistanceWithin H limit leg.node t (Some rest)
    sum : leg.cost.weight + rest ≡ x

  goes_on : (limit : Option ℕ) (v t x : ℕ) (c : Cost) → IsLeastMeeting H v t c → c.weight ≡ x → IsWithin limit x →
      (m : ℕ) (a b : Cost) → IsUpwardCost H.up v m a →
      IsUpwardCost H.down t m b → cost_sum a b ≡ c → ((v ≡ m) × (b.weight ≡ x)) ⊎ BeginsWithLeg limit v t x
  goes_on limit v t x c least is low m a b up down sum = at up.path.0 up.path.1 up.path.2
    where
      weights : a.weight + b.weight ≡ x
      weights = ap (λ (q : Cost). q.weight) sum ∙ is

      at : (legs : List Leg) → IsUpwardPath H.up v m legs → path_cost legs ≡ a → ((v ≡ m) × (b.weight ≡ x)) ⊎ BeginsWithLeg limit v t x
      at [] path cost = inl (path, let e = ap (λ (q : Cost). q.weight) cost in let w = weights in omega arith)
      at (l ∷ legs) path cost =
          let w = weights in
          let e = ap (λ (q : Cost). q.weight) (sym (path_cost-cons l legs) ∙ cost) in
          let light = up.weight in
          let r = path_cost legs in
          let rest = cost_sum r b in
          let on : IsUpwardCost H.up l.node m r = record { path = (legs, path.1, refl); weight = omega arith } in
          let leg = reached_by_leg H kept.2.levelled Up v l path.0 in
          let first = (kept_has_walks kept.0 H kept.1 kept.2).rises v l.node leg.path.0 leg.path.1 in
          let walk = subst (IsWalkCost kept.0 v l.node) leg.path.2 first in
          let onward = sum_walk H kept l.node t m r b on down in
          let same : c ≡ cost_sum l.cost rest = sym sum ∙ ap (λ q. cost_sum q b) (sym cost ∙ path_cost-cons l legs)
          ∙ cost_sum_assoc l.cost r b in
          let whole = subst (IsLeast kept.0 v t) same (((meetings_are_distances kept.0 H kept.1 kept.2).least v t c).1 least) in
          let back = IsLeast-back kept.0 v l.node t l.cost rest whole walk onward in
          let meeting = ((meetings_are_distances kept.0 H kept.1 kept.2).least l.node t rest).0 back in
          inr (record {
            leg = l;
            has = path.0;
            rest = rest.weight;
            distance = of_least H limit l.node t rest meeting (within_less limit rest.weight x (omega arith) low);
            sum = omega arith;
          })

  -- the targets' buckets, and the rows of the higher nodes
  module _ (limit count : Option ℕ) (targets : List ℕ) (buckets : List (List (ℕ × ℕ))) (hold : HoldNearest H limit count targets buckets)
      (k : ℕ) (rows : List (List (ℕ × ℕ)))
      (done : AreRowsTo (record { hierarchy = H; targets = targets; limit = limit; count = count }) k rows)
      (v : ℕ) (below_n : v < nodes_of H) (here : rank_of H v ≡ k) (legs : List RankedLeg)
      (ranked : legs ≡ map (ranked_leg H) (row H.up v)) where
    abbrev D : ℕ × ℕ → Type 0
    D = IsDistanceTo H limit targets v

    abbrev bucket : List (ℕ × ℕ)
    bucket = slice_index_or buckets k []

    abbrev S : ℕ × ℕ → Type 0
    S = IsOwed limit bucket legs rows

    rank_low : k < nodes_of H
    rank_low = subst (λ q. q < nodes_of H) here (rank_below H kept.2.levelled v below_n)

    -- a leg leads to a node that has its row already
    leg_row : (l : Leg) → Contains (row H.up v) l → (l.node < nodes_of H) × (rank_of H l.node < k) × (l.cost.weight ≤ MOST_WEIGHT)
    leg_row l has =
        let up = leg_up H kept.2.levelled Up v l has in
        let higher = up.higher in
        let levels = (kept.2.levelled.levels.0 l.node 0 up.node).1 in
        let is = here in
        (up.node, omega arith, up.weight)

    row_of_leg : (l : Leg) → Contains (row H.up v) l → IsNearRow H limit count targets l.node (slice_index_or rows (rank_of H l.node) [])
    row_of_leg l has = let r = leg_row l has in done.each l.node r.0 r.1

    -- an entry of the legs comes from a leg
    leg_of : (rank weight : ℕ) → Contains (map entry_of_leg legs) (rank, weight) →
        (l : Leg) × Contains (row H.up v) l × (rank_of H l.node ≡ rank) × (l.cost.weight ≡ weight)
    leg_of rank weight c =
        let r = contains_map_of entry_of_leg legs (rank, weight) c in
        let l = contains_map_of (ranked_leg H) (row H.up v) r.0 (subst (λ q. Contains q r.0) ranked r.1) in (
          l.0,
          l.1,
          ap (λ (q : RankedLeg). q.rank) l.2 ∙ ap (λ (q : ℕ × ℕ). q.0) r.2,
          ap (λ (q : RankedLeg). q.weight) l.2
              ∙ ap (λ (q : ℕ × ℕ). q.1) r.2,
        )

    entry_has : (l : Leg) → Contains (row H.up v) l → Contains (map entry_of_leg legs) (rank_of H l.node, l.cost.weight)
    entry_has l has = contains_map entry_of_leg legs (ranked_leg H l)
        (subst (λ q. Contains q (ranked_leg H l)) (sym ranked) (contains_map (ranked_leg H) (row H.up v) l has))

    -- each offer is at least a distance
    pub owed_below : (e : ℕ × ℕ) → S e → (x : ℕ) × D (x, e.1) × (x ≤ e.0)
    owed_below e (inl own) =
        let r = entry_at H limit count targets buckets hold k (own.0, e.1) rank_low own.1 in
        let at = (space_at hold e.1 r.0).sound k own.0 r.1 in
        let one : at.0 ≡ v = rank_one H kept.2.levelled at.0 v at.1 below_n (at.2 ∙ sym here) in
        let path = at.3 in
        let walk = fall_walk v (slice_index targets e.1) path.0
        (subst (λ q. IsUpwardCost H.down (slice_index targets e.1) q path.0) one path.1) in
        let is = walk.2 in
        let is' = path.2 in
        let sum = own.2 in
        let same : walk.0.weight ≡ e.0 = omega arith in
        let d = walk_distance limit v (slice_index targets e.1) walk.0 walk.1 (subst (IsWithin limit) (sym same) own.3) in
        (d.0, (r.0, d.1), let le = d.2 in omega arith)
    owed_below e (inr leg) =
        let l = leg_of leg.0 leg.1 leg.2 in
        let sum = leg.3 in
        let near = row_of_leg l.0 l.1 in
        let pair = near.sound (sum.0, e.1) (subst (λ q. Contains (slice_index_or rows q []) (sum.0, e.1)) (sym l.2) sum.1) in
        let walk = leg_then_walk v (slice_index targets e.1) l.0 limit sum.0 l.1 pair.1 in
        let is = walk.2 in
        let is' = l.3 in
        let is'' = sum.2 in
        let same : walk.0.weight ≡ e.0 = omega arith in
        let d = walk_distance limit v (slice_index targets e.1) walk.0 walk.1 (subst (IsWithin limit) (sym same) sum.3) in
        (d.0, (pair.0, d.1), let le = d.2 in omega arith)

    -- the rows of higher nodes have weights of paths, in order
    pub row_among : (rank : ℕ) → IsBucketAmong (length targets) (slice_index_or rows rank [])
    row_among rank = elim (cases_lt rank k) [
      | inl less ↦ of_node rank less
      | inr past ↦ (let size = done.size in let none = get_or_past rows rank [] (omega arith) in record {
        order = subst (AllPairs IsNearer) (sym none) (λ i j d low within. absurd (omega arith));
        entries = λ i d lt. absurd (let size = ap length none in omega arith);
      })
    ]
      where
        of_node : (rank : ℕ) → rank < k → IsBucketAmong (length targets) (slice_index_or rows rank [])
        of_node rank less =
            let low = rank_low in
            let u = node_of_rank H kept.2.levelled rank (omega arith) in
            let near = subst (λ q. IsNearRow H limit count targets u.0 (slice_index_or rows q [])) u.2
            (done.each u.0 u.1 (subst (λ q. q < k) (sym u.2) less)) in
            let list = slice_index_or rows rank [] in
            record {
              order = near.order;
              entries = λ i d lt.
                  let e = get_or list i d in
                  let pair = near.sound e (Contains-get_or list i d lt) in
                  (distance_light limit u.0 (slice_index targets e.1) e.0 pair.1, pair.0);
            }

    -- each offer is to a place, and is at most the sum of two paths
    pub owed_among : (e : ℕ × ℕ) → S e → (e.1 < length targets) × (e.0 ≤ MOST_WEIGHT + MOST_WEIGHT)
    owed_among e (inl own) =
        let among = bucket_among H limit count targets buckets hold k in
        let c = own.1 in
        let r = in_among (length targets) bucket among (own.0, e.1) c in
        let sum = own.2 in
        let low = r.0 in
        (r.1, omega arith)
    owed_among e (inr leg) =
        let l = leg_of leg.0 leg.1 leg.2 in
        let sum = leg.3 in
        let r = in_among (length targets) (slice_index_or rows leg.0 []) (row_among leg.0) (sum.0, e.1) sum.1 in
        let low = (leg_row l.0 l.1).2 in
        let low' = r.0 in
        let is = l.3 in
        let is' = sum.2 in
        (r.1, omega arith)

    -- a distance is offered, or is outdone by offers
    pub owed_reached : (e : ℕ × ℕ) → D e → S e ⊎ IsOutdone count S e
    owed_reached e d =
        let t = slice_index targets e.1 in
        let m = least_of H limit v t e.0 d.1 in
        let c = m.1.meets in
        let a = c.1.0 in
        let b = c.1.1 in
        let up = least_reached H.up v c.0 a c.1.2 in
        let fall = least_reached H.down t c.0 b c.1.3 in
        elim (goes_on limit v t e.0 m.0 m.1 m.2 m.3 c.0 a b up fall c.1.4) [
          | inl own ↦
              let tight = tight_down H kept v t c.0 a b m.0 m.1 up fall c.1.4 in
              let low = m.3 in
              let low' = subst (IsWithin limit) (sym own.1) low in
              let has = ((space_at hold e.1 d.0).whole c.0 b tight low').1 in
              let rank : rank_of H c.0 ≡ k = ap (rank_of H) (sym own.0) ∙ here in
              let there = subst (λ q. Contains (down H limit count targets buckets hold e.1) (q, b.weight)) rank has in
              let size = spaces_count hold in
              let lt = d.0 in
              elim ((hold.held.each k rank_low).whole (b.weight, e.1) (omega arith, there)) [
                | inl in_bucket ↦ inl (inl (b.weight, in_bucket, let is = own.1 in omega arith, low))
                | inr full ↦ inr (subst (λ q. IsOutdone count S (q, e.1)) (from_none b.weight e.0 own.1)
                    (outdone_by count S bucket 0 b.weight e.1
                    (bucket_apart H limit count targets buckets hold k rank_low)
                    full
                    (λ f h le. inl (f.0, h, refl, within_less limit (0 + f.0) e.0 (let is = own.1 in omega arith) low))))
              ]
          | inr first ↦
              let l = first.leg in
              let near = row_of_leg l first.has in
              let u = l.node in
              let list = slice_index_or rows (rank_of H u) [] in
              let low = m.3 in
              elim (near.whole (first.rest, e.1) (d.0, first.distance)) [
                | inl in_row ↦ inl (inr (rank_of H u, l.cost.weight, entry_has l first.has, (first.rest, in_row, sym first.sum, low)))
                | inr full ↦ inr (subst (λ q. IsOutdone count S (q, e.1)) first.sum (outdone_by count S list l.cost.weight first.rest e.1
                    (places_apart (IsDistanceTo H limit targets u) list near.order near.sound
                    (λ x y j p q. one_distance H limit u (slice_index targets j) x y p.1 q.1))
                    full
                    (λ f h le. inr (
                      rank_of H u,
                      l.cost.weight,
                      entry_has l first.has,
                      (f.0, h, refl, within_less limit (l.cost.weight + f.0) e.0 (let is = first.sum in omega arith) low),
                    ))))
              ]
        ]

    -- the legs lead to ranks that have their rows already
    pub legs_among : All (λ (l : RankedLeg). (l.rank < length rows) × (l.weight ≤ MOST_WEIGHT)) legs
    legs_among i d lt =
        let c = contains_map_of (ranked_leg H) (row H.up v) (get_or legs i d)
        (subst (λ q. Contains q (get_or legs i d)) ranked (Contains-get_or legs i d lt)) in
        let r = leg_row c.0 c.1 in
        let low = r.1 in
        let light = r.2 in
        let is = ap (λ (q : RankedLeg). q.rank) c.2 in
        let is' = ap (λ (q : RankedLeg). q.weight) c.2 in
        let size = done.size in
        (omega arith, omega arith)

    -- the least offers make the row
    pub row_made : (fresh least : List ℕ) (taken result : List (ℕ × ℕ)) → AreUnoffered (length targets) fresh →
        AreOffered S fresh least → AreTaken least taken →
        IsSortedAndCut count taken result → IsNearRow H limit count targets v result
    row_made fresh least taken result none offered out cut =
        row_of_offers (length targets) count S D
        (λ e s. let r = owed_among e s in let low = r.1 in (r.0, omega arith))
        (λ x y j a b. one_distance H limit v (slice_index targets j) x y a.1 b.1)
        owed_below owed_reached fresh least taken result none offered out cut
