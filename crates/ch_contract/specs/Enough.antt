-- Contraction with enough shortcuts: all that are needed, and possibly more that change no least cost.
use Rattle.std.specs.Prelude.{◌≡◌, ◌≢◌, ℕ, ◌<◌, ◌≤◌, List, Contains, Some}
use Rattle.ch_graph.specs.declared.limits.TheConstants.{MOST_WEIGHT}
use Rattle.ch_graph.specs.Cost.{IsAtMost, cost_sum}
use Rattle.ch_contract.specs.declared.shortcut.Shortcut.{Shortcut}
use Rattle.ch_contract.specs.Legs.{Label, Legs, SameLegs}
use Rattle.ch_contract.specs.Contraction.{IsShortcut, Contracts, legs_after_contraction}

-- s is the sum of two legs through v, and keeps the limits of a graph of n nodes
pub record IsPairThrough (n : ℕ) (L : Legs) (v : ℕ) (s : Shortcut) : Type 0 where
  pub apart : s.from ≢ s.to
  pub legs : (a b : Label) × (L s.from v ≡ Some a) × (L v s.to ≡ Some b) × (s.cost ≡ cost_sum a.cost b.cost)
  pub weight : s.cost.weight ≤ MOST_WEIGHT
  pub arcs : s.cost.arcs < n

-- the list is enough for v: it has all shortcuts of v, and its members are sums of two legs through v. No
-- member costs more than a leg between the same two nodes
pub record AreEnough (n h : ℕ) (L : Legs) (v : ℕ) (list : List Shortcut) : Type 0 where
  pub pairs : (s : Shortcut) → Contains list s → IsPairThrough n L v s
  pub no_dearer : (s : Shortcut) (l : Label) → Contains list s → L s.from s.to ≡ Some l → IsAtMost s.cost l.cost
  pub needed : (s : Shortcut) → IsShortcut n h L v s → Contains list s

-- M are the legs after v is contracted in L with enough shortcuts
abbrev pub ContractsWithEnough : ℕ → ℕ → Legs → ℕ → Legs → Type 0
ContractsWithEnough n h L v M = (list : List Shortcut) × AreEnough n h L v list × SameLegs M (legs_after_contraction L v list)

-- M are the legs after v is contracted in L, where a witness has at most k legs, for some bound k from 1 to h. With the
-- bound 1 each sum of two legs is put in, unless a leg between the same two nodes costs at most as much
abbrev pub ContractsWithin : ℕ → ℕ → Legs → ℕ → Legs → Type 0
ContractsWithin n h L v M = (k : ℕ) × (1 ≤ k) × (k ≤ h) × Contracts n k L v M
