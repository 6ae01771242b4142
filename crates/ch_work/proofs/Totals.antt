-- Totals over views when one view changes, is split in two, or is joined to another.
use Rattle.std.proofs.Common.{◌≡◌, ◌≢◌, ◌⊎◌, ℕ, zero, suc, ◌+◌, ◌<◌, ◌≤◌, ◌==◌, ◌&&◌, nat_lt, List, [], ◌∷◌, ◌++◌, set, refl, sym}
use Rattle.std.proofs.Common.{ap, true, false, Bool, arith}
use mathlib.Core.Option.{some, some-ne-none, some-injective}
use lib.ListN.{get_elem?}
use Rattle.std.proofs.lemmas.Bool.Decides.{nat_tests}
use Rattle.ch_work.specs.Counts.{bit, total}

module _ {A : Type 0} (f : A → ℕ) where
  -- the total after one view is replaced
  pub total_set : (views : List A) (j : ℕ) (v w : A) → get_elem? views j ≡ some v → total f (set views j w) + f v ≡ total f views + f w
  total_set [] j v w e = absurd (some-ne-none v (sym e))
  total_set (x ∷ xs) zero v w e = let e' : f x ≡ f v = ap f (some-injective x v e) in omega arith
  total_set (x ∷ xs) (suc j) v w e = let h = total_set xs j v w e in omega arith

  -- the total after one view grows
  pub total_grow : (views : List A) (j : ℕ) (v w : A) (d : ℕ) → get_elem? views j ≡ some v → f w ≡ f v + d →
      total f (set views j w) ≡ total f views + d
  total_grow views j v w d at e = let h = total_set views j v w at in omega arith

  -- the total of two lists one after the other
  pub total_append : (xs ys : List A) → total f (xs ++ ys) ≡ total f xs + total f ys
  total_append [] ys = omega arith
  total_append (x ∷ xs) ys = let h = total_append xs ys in omega arith

  -- the total of a list with one more item
  pub total_push : (xs : List A) (y : A) → total f (xs ++ y ∷ []) ≡ total f xs + f y
  total_push xs y = let h = total_append xs (y ∷ []) in omega arith

  -- the part of one view is at most the total
  pub total_at : (views : List A) (j : ℕ) (v : A) → get_elem? views j ≡ some v → f v ≤ total f views
  total_at [] j v e = absurd (some-ne-none v (sym e))
  total_at (x ∷ xs) zero v e = let e' : f x ≡ f v = ap f (some-injective x v e) in omega arith
  total_at (x ∷ xs) (suc j) v e = let h = total_at xs j v e in omega arith

  -- splitting a view in two keeps the total
  pub total_split : (views : List A) (i : ℕ) (v left right : A) → get_elem? views i ≡ some v → f left + f right ≡ f v →
      total f (set views i left ++ right ∷ []) ≡ total f views
  total_split views i v left right at e = let s = total_set views i v left at in let p = total_push (set views i left) right in omega arith

  -- joining a view to another keeps the total
  pub total_join : (views : List A) (i j : ℕ) (v w both spent : A) → get_elem? views i ≡ some v → get_elem? (set views i both) j ≡ some w →
      f both ≡ f v + f w → f spent ≡ 0 → total f (set (set views i both) j spent) ≡ total f views
  total_join views i j v w both spent at there e z =
      let s = total_set views i v both at in let t = total_set (set views i both) j w spent there in omega arith

  -- if f is at most g at each view, so it is in total
  pub total_le : (g : A → ℕ) (views : List A) → ((j : ℕ) (u : A) → get_elem? views j ≡ some u → f u ≤ g u) → total f views ≤ total g views
  total_le g [] each = omega arith
  total_le g (x ∷ xs) each = let a : f x ≤ g x = each 0 x refl in let b = total_le g xs (λ j u e. each (suc j) u e) in omega arith

  -- if g is 0 in total, and f is 0 wherever g is, f is 0 in total
  total_none : (g : A → ℕ) (views : List A) → total g views ≡ 0 → ((j : ℕ) (u : A) → get_elem? views j ≡ some u → g u ≡ 0 → f u ≡ 0) →
      total f views ≡ 0
  total_none g [] e none = refl
  total_none g (x ∷ xs) e none = let a : f x ≡ 0 = none 0 x refl (omega arith) in
      let b = total_none g xs (omega arith) (λ j u at z. none (suc j) u at z) in omega arith

  -- if one view has the whole total of g, and f is 0 wherever g is, that view has the whole total of f
  pub total_whole : (g : A → ℕ) (views : List A) (i : ℕ) (v : A) → get_elem? views i ≡ some v → total g views ≡ g v →
      ((j : ℕ) (u : A) → get_elem? views j ≡ some u → g u ≡ 0 → f u ≡ 0) → total f views ≡ f v
  total_whole g [] i v at e none = absurd (some-ne-none v (sym at))
  total_whole g (x ∷ xs) zero v at e none =
      let a : f x ≡ f v = ap f (some-injective x v at) in
      let b : g x ≡ g v = ap g (some-injective x v at) in
      let c = total_none g xs (omega arith) (λ j u there z. none (suc j) u there z) in omega arith
  total_whole g (x ∷ xs) (suc i) v at e none =
      let le : g v ≤ total g xs = at_g xs i v at in
      let a : f x ≡ 0 = none 0 x refl (omega arith) in
      let b = total_whole g xs i v at (omega arith) (λ j u there z. none (suc j) u there z) in omega arith
    where
      at_g : (ys : List A) (j : ℕ) (u : A) → get_elem? ys j ≡ some u → g u ≤ total g ys
      at_g [] j u t = absurd (some-ne-none u (sym t))
      at_g (y ∷ ys) zero u t = let t' : g y ≡ g u = ap g (some-injective y u t) in omega arith
      at_g (y ∷ ys) (suc j) u t = let h = at_g ys j u t in omega arith

-- a number is equal to itself
pub one_same : (x : ℕ) → bit (x == x) ≡ 1
one_same x = grind (arith, nat_tests)

-- the numbers below c + 1 are those below c, and c itself
pub below_next : (x c : ℕ) → bit (nat_lt x c) + bit (c == x) ≡ bit (nat_lt x (c + 1))
below_next x c = grind (arith, nat_tests)

-- a number that counts as below c is below c
pub below_is : (x c : ℕ) → 0 < bit (nat_lt x c) → x < c
below_is x c h = grind (arith, nat_tests)

-- a pair of numbers is equal to itself
pub pair_same : (i x : ℕ) → bit ((i == i) && (x == x)) ≡ 1
pair_same i x = grind (arith, nat_tests)

-- two pairs of numbers are equal, or do not count as equal
pub pair_cases : (a b i x : ℕ) → ((a ≡ i) × (b ≡ x)) ⊎ (bit ((a == i) && (b == x)) ≡ 0)
pair_cases a b i x = grind (arith, nat_tests)

-- a truth value counts at most once
pub bit_one : (b : Bool) → bit b ≤ 1
bit_one true = omega arith
bit_one false = omega arith

-- a number below c counts as below c
pub below_true : (x c : ℕ) → x < c → bit (nat_lt x c) ≡ 1
below_true x c h = grind (arith, nat_tests)

-- a number that is not equal does not count
pub one_other : (x y : ℕ) → x ≢ y → bit (x == y) ≡ 0
one_other x y n = grind (arith, nat_tests)
