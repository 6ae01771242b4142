-- Binary search finds an element by its number, in a list in order of these numbers.
use Rattle.std.proofs.Common.{◌≡◌, ℕ, ◌<◌, ◌≤◌, List, length, refl, ap, subst, arith, get_or, inl, inr}
use Rattle.std.specs.Prelude.{AllPairs}
use Rattle.std.proofs.lemmas.Bool.{cases_lt}
use Rattle.std.specs.Cmp.{ranks}
use Rattle.std.specs.List.{HoldsAt}
use Rattle.std.specs.List.Sorted.{IsNonDecreasingBy, IsPartitionPoint}
use Rattle.std.specs.Ordering.{MatchOrdering, nat_cmp, ordering_index}
use Rattle.std.specs.declared.cmp.Ordering.{Ordering}
use Rattle.std.specs.declared.cmp.Ordering.TheVariants.{Less, Equal, Greater}

-- what the result of comparing two numbers means
says : (a b : ℕ) (o : Ordering) → nat_cmp a b ≡ o → MatchOrdering o (a < b) (a ≡ b) (b < a)
says a b o e = subst (λ q. MatchOrdering q (a < b) (a ≡ b) (b < a)) e (ranks a b)

-- a greater number does not compare lower
rises : (x a b : ℕ) → a ≤ b → ordering_index (nat_cmp a x) ≤ ordering_index (nat_cmp b x)
rises x a b le = at (nat_cmp a x) (nat_cmp b x) refl refl
  where
    at : (o p : Ordering) → nat_cmp a x ≡ o → nat_cmp b x ≡ p → ordering_index o ≤ ordering_index p
    at Less p e f = omega arith
    at Equal Less e f = let s = says a x Equal e in let t = says b x Less f in absurd (omega arith)
    at Equal Equal e f = omega arith
    at Equal Greater e f = omega arith
    at Greater Less e f = let s = says a x Greater e in let t = says b x Less f in absurd (omega arith)
    at Greater Equal e f = let s = says a x Greater e in let t = says b x Equal f in absurd (omega arith)
    at Greater Greater e f = omega arith

module _ {T : Type 0} (number : T → ℕ) (list : List T) (n : ℕ) where
  -- an element that compares equal has the number
  pub found_number : (i : ℕ) (d : T) → HoldsAt (λ (t : T). nat_cmp (number t) n ≡ Equal) list i → number (get_or list i d) ≡ n
  found_number i d equal = says (number (get_or list i d)) n Equal (equal d)

  -- the list is in order of the comparison
  numbers_rise : AllPairs (λ (a b : T). number a < number b) list →
      IsNonDecreasingBy (λ (t : T). ordering_index (nat_cmp (number t) n)) list
  numbers_rise order i j d le lt = elim (cases_lt i j) [
    | inl less ↦ (let r = order i j d less lt in rises n (number (get_or list i d)) (number (get_or list j d)) (omega arith))
    | inr ge ↦ let same : i ≡ j = omega arith in
        let e = ap (λ k. ordering_index (nat_cmp (number (get_or list k d)) n)) same in omega arith
  ]

  -- if an element has the number, the search finds it
  pub number_not_missed : AllPairs (λ (a b : T). number a < number b) list → (k : ℕ) (d : T) → k < length list →
      number (get_or list k d) ≡ n → (i : ℕ) →
      (IsNonDecreasingBy (λ (t : T). ordering_index (nat_cmp (number t) n)) list →
      IsPartitionPoint (λ (t : T). nat_cmp (number t) n ≡ Less) (λ (t : T). nat_cmp (number t) n ≡ Greater) list i) → ⊥
  number_not_missed order k d low is i parted =
      let p = parted (numbers_rise order) in
      elim (cases_lt k i) [
        | inl lt ↦ (let s = says (number (get_or list k d)) n Less (p.0 k d (omega arith) lt) in omega arith)
        | inr ge ↦ (let s = says (number (get_or list k d)) n Greater (p.1 k d ge low) in omega arith)
      ]
