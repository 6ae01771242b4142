-- Rows of neighbours in one array, and the arcs of a part.
use Rattle.std.specs.Prelude.{◌≡◌, ℕ, ◌+◌, ◌<◌, ◌≤◌, List, length, All}

-- the numbers are below n
abbrev pub AreBelow : ℕ → List ℕ → Type 0
AreBelow n xs = All (λ x. x < n) xs

-- the numbers are at most n
abbrev pub AreUpTo : ℕ → List ℕ → Type 0
AreUpTo n xs = All (λ x. x ≤ n) xs

-- there is a row for each of n nodes. It begins and ends among the heads, which are nodes
pub record AreRows (n : ℕ) (starts ends heads : List ℕ) : Type 0 where
  pub starts_count : length starts ≡ n
  pub ends_count : length ends ≡ n
  pub starts_within : AreUpTo (length heads) starts
  pub ends_within : AreUpTo (length heads) ends
  pub nodes : AreBelow n heads

-- the arcs of n nodes: each arc has a node at its end, and an arc that leads back
pub record IsPart (n : ℕ) (starts heads twins : List ℕ) : Type 0 where
  pub starts_count : length starts ≡ n + 1
  pub twins_count : length twins ≡ length heads
  pub within : AreUpTo (length heads) starts
  pub nodes : AreBelow n heads
  pub arcs : AreBelow (length heads) twins
