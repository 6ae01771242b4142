-- Near rows in the graph, near rows within a lesser limit, and the places of near rows.
use Rattle.std.proofs.Common.{◌≡◌, ℕ, ◌<◌, ◌≤◌, List, length, get_or, Option, Some, sym, ap, subst, arith, inl, inr}
use Rattle.std.specs.Prelude.{All, slice_index}
use Rattle.std.proofs.lemmas.Bool.{cases_lt}
use Rattle.std.proofs.lemmas.List.Elements.{Contains-get_or}
use Rattle.ch_graph.specs.Graph.{Network, IsWithinLimits}
use Rattle.ch_hierarchy.specs.Hierarchy.{LevelsAndLegs}
use Rattle.ch_hierarchy.specs.Kept.{IsKept}
use Rattle.ch_query.specs.Limits.{IsWithin, IsDistanceWithin}
use Rattle.ch_hierarchy.specs.declared.direction.Direction.{Direction}
use Rattle.ch_hierarchy.specs.Direction.{facing}
use Rattle.ch_rows.specs.First.{AreFirst}
use Rattle.ch_rows.specs.Near.{IsDistanceTo, IsWalkTo, IsNearRow, IsNearestRow, IsWantedRow, Wanted}
use Rattle.ch_rows.proofs.Distances.{least_of, of_least}
use Rattle.ch_rows.proofs.Facing.{distance_in, in_distance}

-- equivalent properties have the same first pairs
pub first_alike : (count : Option ℕ) (P Q : ℕ × ℕ → Type 0) (list : List (ℕ × ℕ)) → ((e : ℕ × ℕ) → P e → Q e) → ((e : ℕ × ℕ) → Q e → P e) →
    AreFirst count P list → AreFirst count Q list
first_alike count P Q list to from first =
    record { order = first.order; few = first.few; sound = λ e c. to e (first.sound e c); whole = λ e q. first.whole e (from e q) }

-- a near row is a near row of each graph that the hierarchy is right for
pub row_of_graph : (g : Network) (H : LevelsAndLegs) (direction : Direction) (limit count : Option ℕ) (targets : List ℕ) (s : ℕ)
    (row : List (ℕ × ℕ)) → IsWithinLimits g → IsKept g H →
    IsNearRow (facing direction H) limit count targets s row → IsNearestRow g direction limit count targets s row
row_of_graph g H direction limit count targets s row limits kept =
    first_alike count (IsDistanceTo (facing direction H) limit targets s) (IsWalkTo g direction limit targets s) row
    (λ e d. let r = distance_in g H limits kept limit s (slice_index targets e.1) e.0 direction d.1 in (d.0, r.0, r.1))
    (λ e w. (w.0, in_distance g H limits kept limit s (slice_index targets e.1) e.0 direction w.1 w.2))

-- a row within a lesser limit that is full is the row within the limit
pub full_row : (H : LevelsAndLegs) (limit : Option ℕ) (most k : ℕ) (targets : List ℕ) (s : ℕ) (row : List (ℕ × ℕ)) →
    ((x : ℕ) → x ≤ most → IsWithin limit x) → length row ≡ k →
    IsNearRow H (Some most) (Some k) targets s row → IsNearRow H limit (Some k) targets s row
full_row H limit most k targets s row lesser full near = record {
  order = near.order;
  few = near.few;
  sound = λ e c.
      let d = near.sound e c in
      let t = slice_index targets e.1 in
      let m = least_of H (Some most) s t e.0 d.1 in (
        d.0,
        subst (λ q. IsDistanceWithin H limit s t (Some q)) m.2
            (of_least H limit s t m.0 m.1 (subst (IsWithin limit) (sym m.2) (lesser e.0 m.3))),
      );
  whole = λ e d.
      let t = slice_index targets e.1 in
      let m = least_of H limit s t e.0 d.1 in
      elim (cases_lt most e.0) [
        | inl over ↦ inr (
          ap Some (sym full),
          λ i f lt.
              let other = get_or row i f in
              let there = near.sound other (Contains-get_or row i f lt) in
              let low = (least_of H (Some most) s (slice_index targets other.1) other.0 there.1).3 in
              inl (omega arith),
        )
        | inr le ↦ near.whole e (
          d.0,
          subst (λ q. IsDistanceWithin H (Some most) s t (Some q)) m.2
              (of_least H (Some most) s t m.0 m.1 (let same = m.2 in omega arith)),
        )
      ];
}

-- the places in a near row are places of targets
pub row_places : (wanted : Wanted) (s : ℕ) (row : List (ℕ × ℕ)) → IsWantedRow wanted s row →
    All (λ (e : ℕ × ℕ). e.1 < length wanted.targets) row
row_places wanted s row near i d lt = (near.sound (get_or row i d) (Contains-get_or row i d lt)).0
