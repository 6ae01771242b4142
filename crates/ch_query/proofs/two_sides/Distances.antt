-- The cost of the least meeting of a kept hierarchy is the distance, and a limit leaves one value of it.
use Rattle.std.proofs.Common.{◌≡◌, ℕ, Option, Some, None, refl, sym, ◌∙◌, arith, inl, inr}
use Rattle.std.specs.Prelude.{MatchOption}
use Rattle.std.specs.Option.{option_map}
use Rattle.std.proofs.lemmas.Bool.{cases_lt}
use Rattle.ch_graph.specs.declared.cost.Cost.{Cost}
use Rattle.ch_hierarchy.specs.Hierarchy.{LevelsAndLegs}
use Rattle.ch_hierarchy.specs.Paths.{IsMeet, NeverMeets}
use Rattle.ch_hierarchy.specs.KeptLaws.{IsLeastMeeting}
use Rattle.ch_hierarchy.proofs.theory.KeptWalks.{meetings_are_distances}
use Rattle.ch_query.specs.Distance.{IsDistanceBy, IsLeastWeight}
use Rattle.ch_query.specs.Limits.{IsCut}

-- the meet has a least meeting
pub meet_is_least : (H : LevelsAndLegs) (s t m : ℕ) (c : Cost) → IsMeet H s t m c → IsLeastMeeting H s t c
meet_is_least H s t m c meet = record { meets = (m, meet.meets); least = λ n d there. (meet.least n d there).0 }

module _ (H : LevelsAndLegs) (s t : ℕ) where
  -- the weight at the meet is the least weight
  pub least_weight : (o : Option (Cost × ℕ)) → MatchOption o (NeverMeets H s t) (λ e. IsMeet H s t e.1 e.0) →
      IsLeastWeight H s t (option_map (λ e. e.0.weight) o)
  least_weight None never = never
  least_weight (Some e) meet = (e.0, meet_is_least H s t e.1 e.0 meet, refl)

  -- the least weight is the distance in each graph that the hierarchy is kept for
  pub weight_is_distance : (o : Option ℕ) → IsLeastWeight H s t o → IsDistanceBy H s t o
  weight_is_distance None never g limits kept = ((meetings_are_distances g H limits kept).never s t).1 never
  weight_is_distance (Some x) least g limits kept = ((meetings_are_distances g H limits kept).distance s t x).1 least

-- a value has only one cut within a limit
pub one_cut : (limit whole a b : Option ℕ) → IsCut limit whole a → IsCut limit whole b → a ≡ b
one_cut limit None a b h k = h ∙ sym k
one_cut None (Some x) a b h k = h.0 tt ∙ sym (k.0 tt)
one_cut (Some most) (Some x) a b h k = elim (cases_lt most x) [
  | inl above ↦ h.1 (λ low. omega arith) ∙ sym (k.1 (λ low. omega arith))
  | inr low ↦ h.0 low ∙ sym (k.0 low)
]
