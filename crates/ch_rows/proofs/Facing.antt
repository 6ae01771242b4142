-- Facts about a hierarchy that is reversed.
use Rattle.std.proofs.Common.{◌≡◌, ℕ, List, [], ◌∷◌, Vec, Result, Ok, Err, IfOk, sym, subst}
use Rattle.std.specs.Prelude.{Option, Some}
use Rattle.std.specs.List.{AllZip}
use Rattle.std.specs.declared.alloc.Global.{Global}
use Rattle.ch_graph.specs.Graph.{Network, IsWithinLimits}
use Rattle.ch_hierarchy.specs.Hierarchy.{LevelsAndLegs, nodes_of}
use Rattle.ch_hierarchy.specs.Kept.{IsKept}
use Rattle.ch_hierarchy.specs.Turned.{turned_hierarchy}
use Rattle.ch_hierarchy.specs.declared.side.Side.{Side}
use Rattle.ch_hierarchy.specs.declared.side.Side.TheVariants.{Up, Down}
use Rattle.ch_hierarchy.proofs.theory.KeptWalks.{meetings_are_distances}
use Rattle.ch_query.specs.Distance.{IsKeptForSome}
use Rattle.ch_query.specs.Limits.{IsWithin, IsDistanceWithin}
use Rattle.ch_query.specs.SearchSpace.{IsRankedSpace}
use Rattle.ch_query.proofs.one_side.TightNodes.{kept_turned, least_meeting_turned}
use Rattle.ch_hierarchy.specs.declared.direction.Direction.{Direction}
use Rattle.ch_hierarchy.specs.declared.direction.Direction.TheVariants.{To, From}
use Rattle.ch_hierarchy.specs.Direction.{source_side, target_side, facing}
use Rattle.ch_rows.specs.Near.{IsDistanceIn}
use Rattle.ch_rows.proofs.Distances.{least_of, of_least}

-- a hierarchy that is right for some graph is right for some graph when it is reversed
pub kept_facing : (direction : Direction) (H : LevelsAndLegs) → IsKeptForSome H → IsKeptForSome (facing direction H)
kept_facing To H kept = kept
kept_facing From H kept = kept_turned H kept

-- a space down is a space up in the reversed hierarchy
space_down_turned : (H : LevelsAndLegs) (limit : Option ℕ) (s : ℕ) (list : List (ℕ × ℕ)) → IsRankedSpace H Down limit s list →
    IsRankedSpace (turned_hierarchy H) Up limit s list
space_down_turned H limit s list space = record {
  distinct = space.distinct;
  sound = space.sound;
  whole = λ v c tight low. space.whole v c (tight.0, least_meeting_turned (turned_hierarchy H) s v c tight.1) low;
}

space_up_turned : (H : LevelsAndLegs) (limit : Option ℕ) (s : ℕ) (list : List (ℕ × ℕ)) → IsRankedSpace H Up limit s list →
    IsRankedSpace (turned_hierarchy H) Down limit s list
space_up_turned H limit s list space = record {
  distinct = space.distinct;
  sound = space.sound;
  whole = λ v c tight low. space.whole v c (tight.0, least_meeting_turned (turned_hierarchy H) v s c tight.1) low;
}

-- the space of a source is a space up
pub source_space : (direction : Direction) (H : LevelsAndLegs) (limit : Option ℕ) (s : ℕ) (list : List (ℕ × ℕ)) →
    IsRankedSpace H (source_side direction) limit s list →
    IsRankedSpace (facing direction H) Up limit s list
source_space To H limit s list space = space
source_space From H limit s list space = space_down_turned H limit s list space

-- the space of a target is a space down
target_space : (direction : Direction) (H : LevelsAndLegs) (limit : Option ℕ) (s : ℕ) (list : List (ℕ × ℕ)) →
    IsRankedSpace H (target_side direction) limit s list →
    IsRankedSpace (facing direction H) Down limit s list
target_space To H limit s list space = space
target_space From H limit s list space = space_up_turned H limit s list space

-- the distances in the reversed hierarchy are those of each graph that the hierarchy is right for
module _ (g : Network) (H : LevelsAndLegs) (limits : IsWithinLimits g) (kept : IsKept g H) (limit : Option ℕ) (s t x : ℕ) where
  pub distance_in : (direction : Direction) → IsDistanceWithin (facing direction H) limit s t (Some x) →
      IsDistanceIn g direction s t x × IsWithin limit x
  distance_in To d =
      let m = least_of H limit s t x d in
      (((meetings_are_distances g H limits kept).distance s t x).1 (m.0, m.1, m.2), m.3)
  distance_in From d =
      let m = least_of (turned_hierarchy H) limit s t x d in
      (((meetings_are_distances g H limits kept).distance t s x).1 (m.0, least_meeting_turned (turned_hierarchy H) s t m.0 m.1, m.2), m.3)

  pub in_distance : (direction : Direction) → IsDistanceIn g direction s t x → IsWithin limit x →
      IsDistanceWithin (facing direction H) limit s t (Some x)
  in_distance To d low =
      let m = ((meetings_are_distances g H limits kept).distance s t x).0 d in
      subst (λ q. IsDistanceWithin H limit s t (Some q)) m.2 (of_least H limit s t m.0 m.1 (subst (IsWithin limit) (sym m.2) low))
  in_distance From d low =
      let m = ((meetings_are_distances g H limits kept).distance t s x).0 d in
      subst (λ q. IsDistanceWithin (turned_hierarchy H) limit s t (Some q)) m.2
      (of_least (turned_hierarchy H) limit s t m.0 (least_meeting_turned H t s m.0 m.1) (subst (IsWithin limit) (sym m.2) low))

-- a hierarchy that is right for some graph when it is reversed is right for some graph
pub kept_faced : (direction : Direction) (H : LevelsAndLegs) → IsKeptForSome (facing direction H) → IsKeptForSome H
kept_faced To H kept = kept
kept_faced From H kept = kept_turned (turned_hierarchy H) kept

-- a hierarchy has as many nodes when it is reversed
pub faced_nodes : (direction : Direction) (H : LevelsAndLegs) (n : ℕ) → n ≡ nodes_of (facing direction H) → n ≡ nodes_of H
faced_nodes To H n is = is
faced_nodes From H n is = is

-- the spaces of targets
target_spaces : (direction : Direction) (H : LevelsAndLegs) (limit : Option ℕ) (targets : List ℕ) (spaces : List (Vec (ℕ × ℕ) Global)) →
    AllZip (λ t (space : Vec (ℕ × ℕ) Global). IsRankedSpace H (target_side direction) limit t space.items) targets spaces →
    AllZip (λ t (space : Vec (ℕ × ℕ) Global). IsRankedSpace (facing direction H) Down limit t space.items) targets spaces
target_spaces direction H limit [] [] each = tt
target_spaces direction H limit [] (space ∷ spaces) each = absurd each
target_spaces direction H limit (t ∷ targets) [] each = absurd each
target_spaces direction H limit (t ∷ targets) (space ∷ spaces) each =
    (target_space direction H limit t space.items each.0, target_spaces direction H limit targets spaces each.1)

-- the spaces that a search on the side of targets found
pub searched_spaces : {E : Type 0} (direction : Direction) (H : LevelsAndLegs) (limit : Option ℕ) (targets : List ℕ) (side : Side)
    (found : Result (Vec (Vec (ℕ × ℕ) Global) Global) E) → side ≡ target_side direction →
    IfOk found (λ spaces. AllZip (λ t space. IsRankedSpace H side limit t space.items) targets spaces.items) →
    IfOk found (λ spaces. AllZip (λ t space. IsRankedSpace (facing direction H) Down limit t space.items) targets spaces.items)
searched_spaces direction H limit targets side (Ok spaces) is each =
    target_spaces direction H limit targets spaces.items
    (subst (λ s. AllZip (λ t (space : Vec (ℕ × ℕ) Global). IsRankedSpace H s limit t space.items) targets spaces.items) is each)
searched_spaces direction H limit targets side (Err error) is each = tt
