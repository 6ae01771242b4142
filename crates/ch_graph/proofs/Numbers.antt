-- Tests of numbers.
use Rattle.std.proofs.Common.{◌≡◌, ℕ, true, false, arith}
use Rattle.std.specs.Prelude.{eqb}
use Rattle.std.proofs.lemmas.Bool.Decides.{nat_tests}

-- the test of equality holds of a number and itself
pub eqb-refl : (a : ℕ) → eqb a a ≡ true
eqb-refl a = grind (arith, nat_tests)

-- the test of equality fails for numbers that differ
pub not_eqb : (a b : ℕ) → (a ≡ b → ⊥) → eqb a b ≡ false
not_eqb a b ne = grind (arith, nat_tests)

-- the test of equality gives the same in either order
pub eqb_flips : (a b : ℕ) → eqb a b ≡ eqb b a
eqb_flips a b = grind (arith, nat_tests)
