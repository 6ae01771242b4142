-- One more tree of a place.
use Rattle.std.proofs.Common.{◌≡◌, ℕ, ◌<◌, List, [], ◌∷◌, ◌++◌, length, get_or, set, Option, Some, None}
use Rattle.std.proofs.Common.{inl, inr, sym, ◌∙◌, ap, subst, arith}
use Rattle.std.proofs.lemmas.Bool.{cases_eq}
use Rattle.std.proofs.lemmas.Option.{same_Some}
use Rattle.std.proofs.lemmas.List.{get_or-set_other, get_or-set_same, get_or_append_left, get_or_push, length_push}
use Rattle.ch_hierarchy.specs.Hierarchy.{LevelsAndLegs}
use Rattle.ch_hierarchy.specs.declared.side.Side.{Side}
use Rattle.ch_engine.specs.declared.sum_trees.Branch.{Branch}
use Rattle.ch_engine.specs.Lines.{Lines}
use Rattle.ch_engine.specs.TableSums.{AreBranches}

module _ (side : Side) (H : LevelsAndLegs) (lines : Lines) (values nodes : List ℕ) where
  -- tree i is that of place p
  abbrev pub Is : List (List Branch) → ℕ → ℕ → Type 0
  Is trees p i = (i < length trees) × AreBranches side H lines values (get_or nodes p 0) (get_or trees i [])

  -- the trees before stay those of their places, and the new one is that of its place
  pub trees_more : (numbers : List (Option ℕ)) (trees : List (List Branch)) (place : ℕ) (branches : List Branch) → place < length numbers →
      AreBranches side H lines values (get_or nodes place 0) branches →
      ((p i : ℕ) → get_or numbers p None ≡ Some i → Is trees p i) →
      (p i : ℕ) → get_or (set numbers place (Some (length trees))) p None ≡ Some i → Is (trees ++ branches ∷ []) p i
  trees_more numbers trees place branches low made are p i at =
      let long = length_push trees branches in
      elim (cases_eq p place) [
        | inl same ↦ (
            let here : length trees ≡ i = same_Some _ _ (sym (get_or-set_same numbers place (Some (length trees)) None low)
            ∙ sym (ap (λ (n : ℕ). get_or (set numbers place (Some (length trees))) n None) same) ∙ at) in
            let own : get_or (trees ++ branches ∷ []) i [] ≡ branches = get_or_push trees branches [] i here in (
              omega (arith, here, long),
              subst (λ (n : ℕ). AreBranches side H lines values (get_or nodes n 0) (get_or (trees ++ branches ∷ []) i []))
                  (sym same) (subst (AreBranches side H lines values (get_or nodes place 0)) (sym own) made),
            ))
        | inr away ↦ (
            let old = are p i (sym (get_or-set_other numbers place p (Some (length trees)) None away) ∙ at) in (
              omega (arith, old.0, long),
              subst (AreBranches side H lines values (get_or nodes p 0))
                  (sym (get_or_append_left trees (branches ∷ []) [] i old.0)) old.1,
            ))
      ]
