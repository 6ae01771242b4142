-- The sums of a search space up from a source and the buckets of the targets.
use Rattle.std.specs.Prelude.{◌≡◌, ℕ, ◌+◌, List, Contains, Option}
use Rattle.ch_query.specs.Limits.{IsWithin}
use Rattle.ch_query.specs.Lowered.{IsSumOver}

-- x is the sum of the weight at a node and that of place j in the node's bucket
abbrev pub IsSumAt : ℕ → List (ℕ × ℕ) → ℕ → ℕ → Type 0
IsSumAt weight bucket j x = (b : ℕ) × Contains bucket (j, b) × (x ≡ weight + b)

-- x is such a sum at some rank of the search space
abbrev pub IsSumIn : List (ℕ × ℕ) → List (List (ℕ × ℕ)) → ℕ → ℕ → Type 0
IsSumIn = IsSumOver IsSumAt

-- e.0 is the sum, within the limit, of the weight at a node and the weight of place e.1 in the node's bucket
abbrev pub IsSum : Option ℕ → ℕ → List (ℕ × ℕ) → ℕ × ℕ → Type 0
IsSum limit weight bucket e = (x : ℕ) × Contains bucket (x, e.1) × (e.0 ≡ weight + x) × IsWithin limit e.0

-- e is such a sum at one of the ranks of these entries
abbrev pub IsSumOf : Option ℕ → List (ℕ × ℕ) → List (List (ℕ × ℕ)) → ℕ × ℕ → Type 0
IsSumOf limit space buckets e = IsSumOver (λ weight bucket j x. IsSum limit weight bucket (x, j)) space buckets e.1 e.0
