-- How items are cut into pieces, and the values of consecutive pieces.
use Rattle.std.specs.Prelude.{◌≡◌, ℕ, ◌+◌, ◌*◌, ◌/◌, ◌%◌, min, List, [], ◌∷◌, length}

-- the number of pieces of p items that cover n items
abbrev pub pieces_of : ℕ → ℕ → ℕ
pieces_of n p = n / p + min 1 (n % p)

-- each value has the meaning of its piece's range, where the first value is that of piece k
abbrev pub MeanEach : {X : Type 0} → (ℕ → ℕ → X → Type 0) → ℕ → ℕ → ℕ → List X → Type 0
MeanEach meaning n p k [] = Unit {0}
MeanEach meaning n p k (x ∷ xs) = meaning (k * p) (min (k * p + p) n) x × MeanEach meaning n p (k + 1) xs

-- the values of the pieces from `first` up to `last`, in order
abbrev pub AreValues : {X : Type 0} → (ℕ → ℕ → X → Type 0) → ℕ → ℕ → ℕ → ℕ → List X → Type 0
AreValues meaning n p first last xs = (first + length xs ≡ last) × MeanEach meaning n p first xs
