-- Each distance is less than the word for none.
use Rattle.std.proofs.Common.{ℕ, ◌<◌, ◌≤◌, Option, Some, None, inl, inr, sym, refl, subst, arith}
use Rattle.std.proofs.lemmas.Bool.{cases_lt}
use Rattle.std.proofs.lemmas.Option.{none-some, same_Some}
use Rattle.ch_graph.specs.declared.limits.TheConstants.{MOST_WEIGHT}
use Rattle.ch_graph.proofs.LeastSearch.{IsDistance-IsLeast}
use Rattle.ch_graph.proofs.SimpleWalks.{IsLeast-weight}
use Rattle.ch_hierarchy.specs.Hierarchy.{LevelsAndLegs}
use Rattle.ch_query.specs.Distance.{IsKeptForSome, IsDistanceBy}
use Rattle.ch_query.specs.Limits.{IsCut}
use Rattle.ch_engine.specs.Cells.{IsWordOf, no_distance, word_of}

-- a distance that is cut at a limit is below the word for none if the whole distance is
cut_below : (limit : Option ℕ) (x y : ℕ) → IsCut limit (Some x) (Some y) → x ≤ MOST_WEIGHT → y < no_distance
cut_below None x y cut bound = let same = same_Some y x (cut.0 tt) in omega arith
cut_below (Some most) x y cut bound = elim (cases_lt most x) [
  | inl more ↦ absurd (none-some y (sym (cut.1 (λ le. omega arith))))
  | inr le ↦ let same = same_Some y x (cut.0 le) in omega arith
]

module _ (H : LevelsAndLegs) (kept : IsKeptForSome H) (s t : ℕ) where
  -- a distance is at most MOST_WEIGHT, because a least walk visits no node twice
  distance_bound : (x : ℕ) → IsDistanceBy H s t (Some x) → x ≤ MOST_WEIGHT
  distance_bound x d =
      let g = kept.0 in
      let least = IsDistance-IsLeast g s t x (d g kept.1 kept.2) in
      subst (λ weight. weight ≤ MOST_WEIGHT) least.2 (IsLeast-weight g s t least.0 kept.1 least.1)

  -- the word of a distance within a limit is right
  pub word_within : (limit whole : Option ℕ) → IsDistanceBy H s t whole → (answer : Option ℕ) → IsCut limit whole answer →
      IsWordOf answer (word_of answer)
  word_within limit None d answer cut = subst (λ a. IsWordOf a (word_of a)) (sym cut) refl
  word_within limit (Some x) d None cut = refl
  word_within limit (Some x) d (Some y) cut = (refl, cut_below limit x y cut (distance_bound x d))
