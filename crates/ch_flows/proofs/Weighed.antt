-- Sums of flows, each times a number, when one flow changes.
use Rattle.std.proofs.Common.{◌≡◌, ◌≢◌, ℕ, zero, suc, ◌+◌, ◌*◌, ◌<◌, ◌≤◌, List, [], ◌∷◌, length, get_or, set, replicate, refl, ap, arith}
use Rattle.std.proofs.Math.Nat.{add-mul, mul-add}
use Rattle.ch_flows.specs.Handing.{weighed}

-- one flow is replaced
pub weighed-set : (share : ℕ → ℕ) (xs : List ℕ) (i y : ℕ) → i < length xs →
    weighed share (set xs i y) + get_or xs i 0 * share i ≡ weighed share xs + y * share i
weighed-set share [] i y low = absurd (omega (arith, low))
weighed-set share (x ∷ xs) zero y low = omega arith
weighed-set share (x ∷ xs) (suc i) y low = omega (arith, weighed-set (λ k. share (suc k)) xs i y (omega (arith, low)))

-- a flow gets more
pub weighed-more : (share : ℕ → ℕ) (xs : List ℕ) (i y : ℕ) → i < length xs →
    weighed share (set xs i (get_or xs i 0 + y)) ≡ weighed share xs + y * share i
weighed-more share xs i y low =
    omega (arith, weighed-set share xs i (get_or xs i 0 + y) low, add-mul (get_or xs i 0) y (share i))

-- a flow is taken away
pub weighed-none : (share : ℕ → ℕ) (xs : List ℕ) (i : ℕ) → i < length xs →
    weighed share (set xs i 0) + get_or xs i 0 * share i ≡ weighed share xs
weighed-none share xs i low = omega (arith, weighed-set share xs i 0 low)

-- each flow is part of the sum
pub weighed-one : (share : ℕ → ℕ) (xs : List ℕ) (i : ℕ) → i < length xs → get_or xs i 0 * share i ≤ weighed share xs
weighed-one share xs i low = omega (arith, weighed-none share xs i low)

-- a flow and what it gets are part of the sum and of what is added
pub weighed-part : (share : ℕ → ℕ) (xs : List ℕ) (i y : ℕ) → i < length xs →
    (get_or xs i 0 + y) * share i ≤ weighed share xs + y * share i
weighed-part share xs i y low = omega (arith, weighed-one share xs i low, add-mul (get_or xs i 0) y (share i))

-- a flow is handed to two
pub weighed-handed : (share : ℕ → ℕ) (xs : List ℕ) (i a b f : ℕ) → i < length xs → f ≡ get_or xs i 0 → share i ≡ share a + share b →
    weighed share (set xs i 0) + f * share a + f * share b ≡ weighed share xs
weighed-handed share xs i a b f low is split =
    let e : f * share i ≡ f * (share a + share b) = ap (λ (n : ℕ). f * n) split in
    let g : f * share i ≡ get_or xs i 0 * share i = ap (λ (n : ℕ). n * share i) is in
    omega (arith, weighed-none share xs i low, mul-add f (share a) (share b), e, g)

-- if no flow counts, the sum is 0
pub weighed-zero : (share : ℕ → ℕ) (xs : List ℕ) → ((i : ℕ) → i < length xs → get_or xs i 0 * share i ≡ 0) → weighed share xs ≡ 0
weighed-zero share [] none = refl
weighed-zero share (x ∷ xs) none =
    omega (arith, none zero (omega arith), weighed-zero (λ k. share (suc k)) xs (λ i low. none (suc i) (omega (arith, low))))

-- the sum is the flow of one leg, if no other flow counts
pub weighed-only : (share : ℕ → ℕ) (xs : List ℕ) (j : ℕ) → j < length xs → share j ≡ 1 →
    ((i : ℕ) → i < length xs → i ≢ j → get_or xs i 0 * share i ≡ 0) → weighed share xs ≡ get_or xs j 0
weighed-only share [] j low one none = absurd (omega (arith, low))
weighed-only share (x ∷ xs) zero low one none =
    let e : x * share 0 ≡ x * 1 = ap (λ (n : ℕ). x * n) one in
    omega (arith, e, weighed-zero (λ k. share (suc k)) xs (λ i less. none (suc i) (omega (arith, less)) (λ same. omega (arith, same))))
weighed-only share (x ∷ xs) (suc j) low one none =
    omega (
      arith,
      none zero (omega arith) (λ same. omega (arith, same)),
      weighed-only (λ k. share (suc k)) xs j (omega (arith, low)) one
          (λ i less other. none (suc i) (omega (arith, less)) (λ same. other (omega (arith, same)))),
    )

-- a product is 0 if one of its factors is
pub none_left : (x y : ℕ) → x ≡ 0 → x * y ≡ 0
none_left x y e = let m : x * y ≡ 0 * y = ap (λ (n : ℕ). n * y) e in omega (arith, m)

pub none_right : (x y : ℕ) → y ≡ 0 → x * y ≡ 0
none_right x y e = let m : x * y ≡ x * 0 = ap (λ (n : ℕ). x * n) e in omega (arith, m)

-- no flows weigh nothing
pub weighed-replicate : (share : ℕ → ℕ) (n : ℕ) → weighed share (replicate n 0) ≡ 0
weighed-replicate share zero = refl
weighed-replicate share (suc n) = omega (arith, weighed-replicate (λ k. share (suc k)) n)
