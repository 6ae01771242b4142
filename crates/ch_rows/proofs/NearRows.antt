-- The row of a source: the least sums of its search space and the buckets, put in order and cut.
use Rattle.std.proofs.Common.{ℕ, ◌+◌, ◌<◌, ◌≤◌, List, [], length, get_or, Contains, Option}
use Rattle.std.proofs.Common.{◌⊎◌, refl, sym, subst, arith, inl, inr}
use Rattle.std.specs.Prelude.{◌≢◌, AllPairs, slice_index, slice_index_or}
use Rattle.std.proofs.lemmas.Bool.{cases_lt}
use Rattle.std.proofs.lemmas.List.{get_or_past}
use Rattle.std.proofs.lemmas.List.Elements.{Contains-get_or}
use Rattle.ch_hierarchy.specs.Hierarchy.{LevelsAndLegs, nodes_of}
use Rattle.ch_hierarchy.specs.declared.side.Side.TheVariants.{Up}
use Rattle.ch_query.specs.Limits.{IsWithin}
use Rattle.ch_query.specs.SearchSpace.{IsRankedSpace}
use Rattle.ch_query.specs.SearchSpaceLaws.{IsSharedSum}
use Rattle.ch_query.proofs.two_sides.SharedSums.{within_less}
use Rattle.ch_rows.specs.declared.offers.TheConstants.{UNOFFERED}
use Rattle.ch_rows.specs.First.{IsNearer, IsSortedAndCut}
use Rattle.ch_rows.specs.Near.{IsDistanceTo, IsNearRow}
use Rattle.ch_rows.specs.Buckets.{HoldNearest, IsBucketAmong}
use Rattle.ch_rows.specs.Offers.{AreUnoffered, AreOffered, AreTaken}
use Rattle.ch_rows.specs.Sums.{IsSumOf}
use Rattle.ch_rows.proofs.Distances.{one_distance, distance_shared, shared_distance}
use Rattle.ch_rows.proofs.Held.{held_within}
use Rattle.ch_rows.proofs.LeastRows.{IsOutdone, outdone_by, places_apart, row_of_offers}
use Rattle.ch_rows.proofs.HeldSpaces.{rank_once, rank_within, shared_low, space_at, space_weight, spaces_count}

-- the buckets of targets
module _ (H : LevelsAndLegs) (limit count : Option ℕ) (targets : List ℕ) (buckets : List (List (ℕ × ℕ)))
    (hold : HoldNearest H limit count targets buckets) where
  abbrev pub down : ℕ → List (ℕ × ℕ)
  down j = slice_index_or hold.spaces j []

  -- an entry of a bucket is an entry of a space
  pub entry_at : (rank : ℕ) (e : ℕ × ℕ) → rank < nodes_of H → Contains (slice_index_or buckets rank []) e →
      (e.1 < length targets) × Contains (down e.1) (rank, e.0)
  entry_at rank e lt c =
      let r = (hold.held.each rank lt).sound e c in
      let size = spaces_count hold in
      let low = r.0 in
      (omega arith, r.1)

  -- past the last rank there is no entry
  rank_held : (rank : ℕ) (e : ℕ × ℕ) → Contains (slice_index_or buckets rank []) e → rank < nodes_of H
  rank_held rank e c = let size = hold.held.size in let lt = held_within buckets rank e c in omega arith

  pub bucket_among : (rank : ℕ) → IsBucketAmong (length targets) (slice_index_or buckets rank [])
  bucket_among rank = record {
    order = elim (cases_lt rank (nodes_of H)) [
      | inl lt ↦ (hold.held.each rank lt).order
      | inr past ↦ (let size = hold.held.size in subst (AllPairs IsNearer) (sym (get_or_past buckets rank [] (omega arith)))
          (λ i j d less within. absurd (omega arith)))
    ];
    entries = λ k d lt.
        let bucket = slice_index_or buckets rank [] in
        let e = get_or bucket k d in
        let c = Contains-get_or bucket k d lt in
        let r = entry_at rank e (rank_held rank e c) c in
        (space_weight (space_at hold e.1 r.0) rank e.0 r.1, r.0);
  }

  -- a bucket has each place once
  pub bucket_apart : (rank : ℕ) → rank < nodes_of H → AllPairs (λ a b. a.1 ≢ b.1) (slice_index_or buckets rank [])
  bucket_apart rank lt =
      places_apart (λ f. (f.1 < length targets) × Contains (down f.1) (rank, f.0)) (slice_index_or buckets rank [])
      (hold.held.each rank lt).order (λ f c. entry_at rank f lt c)
      (λ x y j a b. rank_once (space_at hold j a.0) rank x y a.1 b.1)

  -- a source, and its space within a bound that is at most the limit
  module _ (bound : Option ℕ) (lesser : (x : ℕ) → IsWithin bound x → IsWithin limit x) (s : ℕ) (ups : List (ℕ × ℕ))
      (up : IsRankedSpace H Up bound s ups) where
    -- a sum is shared by the space of the source and the space of its place
    pub sum_shared : (e : ℕ × ℕ) → IsSumOf bound ups buckets e →
        (e.1 < length targets) × IsSharedSum ups (down e.1) e.0 × IsWithin bound e.0
    sum_shared e h =
        let r = entry_at h.0 (h.3.0, e.1) (rank_held h.0 (h.3.0, e.1) h.3.1) h.3.1 in
        (r.0, (h.0, h.1, h.3.0, h.2, r.1, sym h.3.2), h.3.3)

    sum_among : (e : ℕ × ℕ) → IsSumOf bound ups buckets e → (e.1 < length targets) × (e.0 < UNOFFERED)
    sum_among e sum =
        let r = sum_shared e sum in
        let most = shared_low up (space_at hold e.1 r.0) e.0 r.1 in
        (r.0, omega arith)

    -- a sum is at least a distance
    sum_below : (e : ℕ × ℕ) → IsSumOf bound ups buckets e → (x : ℕ) × IsDistanceTo H bound targets s (x, e.1) × (x ≤ e.0)
    sum_below e offer =
        let sum = sum_shared e offer in
        let r = shared_distance H hold.kept bound limit lesser s (slice_index targets e.1) ups (down e.1) up (space_at hold e.1 sum.0)
        e.0 sum.1 sum.2 in
        (r.0, (sum.0, r.1), r.2)

    -- a distance is a sum, or a bucket leaves its place out
    distance_reached : (e : ℕ × ℕ) → IsDistanceTo H bound targets s e →
        IsSumOf bound ups buckets e ⊎ IsOutdone count (IsSumOf bound ups buckets) e
    distance_reached e d =
        let r = distance_shared H hold.kept bound limit lesser s (slice_index targets e.1) ups (down e.1) up (space_at hold e.1 d.0)
        e.0 d.1 in
        let sum = r.0 in
        let rank = rank_within up hold.kept.2.levelled sum.0 sum.1 sum.3 in
        let low = subst (IsWithin bound) (sym sum.5) r.1 in
        let size = spaces_count hold in
        let lt = d.0 in
        elim ((hold.held.each sum.0 rank).whole (sum.2, e.1) (omega arith, sum.4)) [
          | inl has ↦ inl (sum.0, sum.1, sum.3, (sum.2, has, sym sum.5, r.1))
          | inr full ↦ inr (subst (λ q. IsOutdone count (IsSumOf bound ups buckets) (q, e.1)) sum.5
              (outdone_by count (IsSumOf bound ups buckets) (slice_index_or buckets sum.0 []) sum.1 sum.2 e.1
              (bucket_apart sum.0 rank) full
              (λ f has le. (sum.0, sum.1, sum.3, (f.0, has, refl, within_less bound (sum.1 + f.0) (sum.1 + sum.2) le low)))))
        ]

    -- the least sums, moved into a row that is put in order and cut
    pub near_row : (fresh least : List ℕ) (row result : List (ℕ × ℕ)) → AreUnoffered (length targets) fresh →
        AreOffered (IsSumOf bound ups buckets) fresh least → AreTaken least row → IsSortedAndCut count row result →
        IsNearRow H bound count targets s result
    near_row =
        row_of_offers (length targets) count (IsSumOf bound ups buckets) (IsDistanceTo H bound targets s) sum_among
        (λ x y j a b. one_distance H bound s (slice_index targets j) x y a.1 b.1) sum_below distance_reached
