-- Values of consecutive pieces: one more value, and two lists of values one after the other.
use Rattle.std.proofs.Common.{◌≡◌, ℕ, ◌+◌, ◌*◌, min, List, [], ◌∷◌, ◌++◌, length, subst, refl, arith, length-append}
use Rattle.ch_work.specs.Pieces.{MeanEach, AreValues}

module _ {X : Type 0} (m : ℕ → ℕ → X → Type 0) (n p : ℕ) where
  -- the values of pieces from k on, and then of the pieces after them
  means-append : (xs ys : List X) (k j : ℕ) → j ≡ k + length xs → MeanEach m n p k xs → MeanEach m n p j ys → MeanEach m n p k (xs ++ ys)
  means-append [] ys k j e hx hy = let e' : j ≡ k = omega arith in subst (λ (i : ℕ). MeanEach m n p i ys) e' hy
  means-append (x ∷ xs) ys k j e hx hy = (hx.0, means-append xs ys (k + 1) j (omega arith) hx.1 hy)

  -- the values of consecutive pieces, and then of the pieces after them
  pub values-append : (xs ys : List X) (a b c : ℕ) → AreValues m n p a b xs → AreValues m n p b c ys → AreValues m n p a c (xs ++ ys)
  values-append xs ys a b c hx hy = (omega (arith, length-append xs ys, hx.0, hy.0), means-append xs ys a b (omega (arith, hx.0)) hx.1 hy.1)

  -- one more value
  pub values-push : (xs : List X) (x : X) (a k : ℕ) → AreValues m n p a k xs → m (k * p) (min (k * p + p) n) x →
      AreValues m n p a (k + 1) (xs ++ x ∷ [])
  values-push xs x a k hx h = values-append xs (x ∷ []) a k (k + 1) hx (refl, (h, tt))
