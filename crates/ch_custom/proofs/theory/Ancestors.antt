-- The ends of each pair are an ancestor and its descendant.
use Rattle.std.proofs.Common.{ℕ, suc, zero, ◌+◌, ◌<◌, ◌≤◌, List, [], ◌∷◌, ◌++◌, sym, subst, arith, inl, inr}
use Rattle.ch_custom.specs.Customizing.{HasParent, IsPair}
use Rattle.ch_custom.specs.Ancestors.{IsParent, LeadsUp, IsAncestor, IsClimb, ClimbsVisitAncestors}

-- one way up after another
joined : (n : ℕ) (order : List ℕ) (rows : List (List ℕ)) (i j k : ℕ) (ps qs : List ℕ) → LeadsUp n order rows i j ps →
    LeadsUp n order rows j k qs → LeadsUp n order rows i k (ps ++ qs)
joined n order rows i j k [] qs one two = subst (λ z. LeadsUp n order rows z k qs) (sym one) two
joined n order rows i j k (p ∷ ps) qs one two = (one.0, joined n order rows p j k ps qs one.1 two)

module _ (n : ℕ) (order : List ℕ) (rows : List (List ℕ)) (parents : (k : ℕ) → k < n → HasParent n order rows k) where
  -- the higher end of a pair is an ancestor, for places of which at most `fuel` are after the lower end
  of_pair : (fuel i j : ℕ) → n ≤ i + fuel → i < n → j < n → IsPair order rows i j → IsAncestor n order rows i j
  of_pair zero i j few lt below p = absurd (omega arith)
  of_pair (suc fuel) i j few lt below p = at (parents i lt) (of_pair fuel)
    where
      at : HasParent n order rows i → ((i j : ℕ) → n ≤ i + fuel → i < n → j < n → IsPair order rows i j → IsAncestor n order rows i j) →
          IsAncestor n order rows i j
      at (inl none) more = absurd (none j below p)
      at (inr h) more =
          let later = h.1 in
          let small : h.0 < n = elim (h.2 j below p) [
            | inl same ↦ subst (λ z. z < n) same below
            | inr rest ↦ let less = rest.0 in
                omega arith
          ] in
          let own : IsParent n order rows i h.0 = record { later = (h.1, small); rest = h.2 } in
          elim (h.2 j below p) [
            | inl same ↦ (h.0 ∷ [], (own, sym same))
            | inr rest ↦ let further = more h.0 j (omega arith) small below rest.1 in (h.0 ∷ further.0, (own, further.1))
          ]

  -- each place that a walk comes to is an ancestor of its start
  of_climb : (i j : ℕ) (xs : List ℕ) → i < n → IsClimb n order rows i j xs → IsAncestor n order rows i j
  of_climb i j [] lt c = ([], c)
  of_climb i j (x ∷ xs) lt c =
      let first = of_pair n i x (omega arith) lt c.0 c.1 in
      let rest = of_climb x j xs c.0 c.2 in
      (first.0 ++ rest.0, joined n order rows i x j first.0 rest.0 first.1 rest.1)

-- climbs visit ancestors
pub climbs_visit_ancestors : ClimbsVisitAncestors
climbs_visit_ancestors n order rows parents i j xs lt c = of_climb n order rows parents i j xs lt c
