-- What holds of some entry of a list, where the list has one more entry.
use Rattle.std.proofs.Common.{◌≡◌, ℕ, ◌⊎◌, List, [], ◌∷◌, ◌++◌, Contains, sym, subst, inl, inr}
use Rattle.std.proofs.lemmas.List.Elements.{Contains-append_left, Contains-push, Contains-push_cases}

-- some entry of the list is related by Q
abbrev pub HasSome : (ℕ → ℕ → Type 0) → List (ℕ × ℕ) → Type 0
HasSome Q list = (a b : ℕ) × Contains list (a, b) × Q a b

module _ (Q : ℕ → ℕ → Type 0) (list before : List (ℕ × ℕ)) (entry : ℕ × ℕ) (is : list ≡ before ++ entry ∷ []) where
  -- it is an entry of the list before, or the new one
  pub some_cases : HasSome Q list → HasSome Q before ⊎ Q entry.0 entry.1
  some_cases h = elim (Contains-push_cases before entry (h.0, h.1) (subst (λ l. Contains l (h.0, h.1)) is h.2)) [
    | inl old ↦ inl (h.0, h.1, old, h.3)
    | inr new ↦ inr (subst (λ (e : ℕ × ℕ). Q e.0 e.1) (sym new) h.3)
  ]

  -- an entry of the list before is one of the list
  pub some_old : HasSome Q before → HasSome Q list
  some_old h = (h.0, h.1, subst (λ l. Contains l (h.0, h.1)) (sym is) (Contains-append_left before (entry ∷ []) (h.0, h.1) h.2), h.3)

  -- so is the new one
  pub some_new : Q entry.0 entry.1 → HasSome Q list
  some_new q = (entry.0, entry.1, subst (λ l. Contains l entry) (sym is) (Contains-push before entry), q)
