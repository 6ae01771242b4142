-- The legs of a topology in arrays: a place for each pair, whether there is a leg or not.
use Rattle.std.specs.Prelude.{◌≡◌, ℕ, ◌+◌, ◌<◌, ◌≤◌, nat_le, if◌then◌else◌, List, length, All, Contains, slice_index_or, Option, Some, None}
use Rattle.ch_graph.specs.declared.limits.TheConstants.{MOST_WEIGHT}
use Rattle.ch_hierarchy.specs.declared.leg.Leg.{Leg}
use Rattle.ch_contract.specs.Legs.{Label}
use Rattle.ch_contract.specs.LegRows.{label_of}
use Rattle.ch_custom.specs.Customizing.{leg_over}

-- the leg at a place of an array; a weight past MOST_WEIGHT stands for no leg
abbrev pub held_leg : Leg → Option Label
held_leg l = if nat_le l.cost.weight MOST_WEIGHT then Some (label_of l) else None

-- a leg of an array: two of them can be added up
abbrev pub IsHeld : Leg → Type 0
IsHeld l = (l.cost.weight ≤ MOST_WEIGHT + 1) × (l.cost.arcs ≤ MOST_WEIGHT)

-- each leg of a row is lowered over v: to the sum of this leg and the one of `others` to the same node, if there is one
pub record AreLoweredOver (n v : ℕ) (one : Leg) (others before after : List Leg) : Type 0 where
  pub size : length after ≡ length before
  pub nodes : (k : ℕ) (d : Leg) → k < length before → (slice_index_or after k d).node ≡ (slice_index_or before k d).node
  pub lowered : (k : ℕ) (d l : Leg) → k < length before → Contains others l → l.node ≡ (slice_index_or before k d).node →
      held_leg (slice_index_or after k d) ≡ leg_over n v (held_leg one) (held_leg l) (held_leg (slice_index_or before k d))
  pub kept : (k : ℕ) (d : Leg) → k < length before → ((l : Leg) → Contains others l → l.node ≡ (slice_index_or before k d).node → ⊥) →
      slice_index_or after k d ≡ slice_index_or before k d

-- the legs of a row before this place are lowered over v, and the others are as they were
pub record AreLoweredTo (n v : ℕ) (one : Leg) (others before : List Leg) (place : ℕ) (after : List Leg) : Type 0 where
  pub size : length after ≡ length before
  pub nodes : (k : ℕ) (d : Leg) → k < length before → (slice_index_or after k d).node ≡ (slice_index_or before k d).node
  pub lowered : (k : ℕ) (d l : Leg) → k < place → k < length before → Contains others l → l.node ≡ (slice_index_or before k d).node →
      held_leg (slice_index_or after k d) ≡ leg_over n v (held_leg one) (held_leg l) (held_leg (slice_index_or before k d))
  pub kept : (k : ℕ) (d : Leg) → k < length before → ((l : Leg) → Contains others l → l.node ≡ (slice_index_or before k d).node → ⊥) →
      slice_index_or after k d ≡ slice_index_or before k d
  pub later : (k : ℕ) (d : Leg) → place ≤ k → k < length before → slice_index_or after k d ≡ slice_index_or before k d
  pub held : All IsHeld after
