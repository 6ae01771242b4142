-- Lists that are read in order.
use Rattle.std.proofs.Common.{get_or, ◌≡◌, ℕ, ◌+◌, ◌<◌, List, length, Contains, sym, ◌∙◌, subst, arith, inl, inr}
use Rattle.std.specs.Prelude.{slice_get, Some, ◌↔◌, false, IsTrue}
use Rattle.std.proofs.lemmas.List.{get_or_default}
use Rattle.std.proofs.lemmas.Bool.{cases_lt, false≢true}
use Rattle.std.proofs.lemmas.Option.{get_or_from_slice_get}
use Rattle.ch_hierarchy.specs.Assembling.{IsFirstFailing}

module _ {X : Type 0} (P : X → Type 0) (xs : List X) where
  -- a property of each element that is read holds of all elements
  pub all_read : (d : X) → ((i : ℕ) → i < length xs → P (get_or xs i d)) → (x : X) → Contains xs x → P x
  all_read d at x h = subst P (sym (get_or_default xs h.0 x d h.1) ∙ h.2) (at h.0 h.1)

  -- one more element is read
  pub read_more : (i : ℕ) (e : X) → ((j : ℕ) (d : X) → j < i → P (get_or xs j d)) → i < length xs → P (get_or xs i e) → (j : ℕ) (d : X) →
      j < i + 1 → P (get_or xs j d)
  read_more i e before within here j d lt = elim (cases_lt j i) [
    | inl less ↦ before j d less
    | inr ge ↦ let same : i ≡ j = omega arith in subst (λ k. P (get_or xs k d)) same (subst P (get_or_default xs i e d within) here)
  ]

  -- the element at this place is the first that fails
  pub first_failing : (i : ℕ) (e : X) → ((j : ℕ) (d : X) → j < i → P (get_or xs j d)) → i < length xs → (IsTrue false ↔ P (get_or xs i e)) →
      IsFirstFailing P xs i
  first_failing i e before lt tells =
      record { within = lt; fails = λ d h. false≢true (tells.1 (subst P (get_or_default xs i d e lt) h)); before = before }

  -- a property of the element at a place
  pub held_at : (i : ℕ) (x : X) → ((d : X) → P (get_or xs i d)) → slice_get xs i ≡ Some x → P x
  held_at i x h at = subst P (get_or_from_slice_get xs i x x at) (h x)
