-- Lists of zeros, and bounds on the neighbours of a node.
use Rattle.std.proofs.Common.{◌≡◌, ℕ, ◌<◌, List, get_or, subst, arith, inl, inr, replicate, Contains}
use Rattle.std.specs.Prelude.{All, slice_index}
use Rattle.std.proofs.lemmas.Bool.{cases_lt}
use Rattle.std.proofs.lemmas.List.{get_or-replicate, get_or_past, length-replicate}
use Rattle.std.proofs.lemmas.List.Elements.{Contains-get_or}
use Rattle.ch_hierarchy.specs.declared.leg.Leg.{Leg}
use Rattle.ch_contract.specs.Legs.{Legs, AreLegsWithin}
use Rattle.ch_contract.specs.LegRows.{AreLegsFrom, AreLegsTo}
use Rattle.ch_contract.specs.Neighbours.{neighbours_in}
use Rattle.ch_contract.proofs.code.Neighbours.{neighbour_within}

-- a list of zeros has 0 at each place, and past its end
pub zeros : (n x : ℕ) → slice_index (replicate n 0) x ≡ 0
zeros n x = elim (cases_lt x n) [
  | inl lt ↦ get_or-replicate n x 0 0 lt
  | inr past ↦ get_or_past (replicate n 0) x 0 (omega (arith, length-replicate {A = ℕ} n 0))
]

-- the neighbours are below the number of nodes
pub neighbours_within : (n : ℕ) (L : Legs) (v : ℕ) (up down : List Leg) (list : List ℕ) → AreLegsFrom L v up → AreLegsTo L v down →
    AreLegsWithin n L → list ≡ neighbours_in up down → All (λ x. x < n) list
neighbours_within n L v up down list from to within e k d lt =
    neighbour_within L v up down from to n (get_or list k d) within
    (subst (λ l. Contains l (get_or list k d)) e (Contains-get_or list k d lt))
