-- The weights that the plain distance has found for each node while it relaxes arcs.
use Rattle.std.specs.Prelude.{◌≡◌, ℕ, ◌+◌, ◌*◌, ◌<◌, ◌≤◌, Bool, true, false, List, All, length, slice_index_or, slice_set}
use Rattle.std.specs.Prelude.{unwrap_or, is_some, Option, Some, None}
use Rattle.std.specs.List.{sum_by, count_by}
use Rattle.ch_graph.specs.declared.limits.TheConstants.{MOST_WEIGHT, MOST_SUM}
use Rattle.ch_graph.specs.declared.arc.InArc.{InArc}
use Rattle.ch_graph.specs.Graph.{Network}
use Rattle.ch_graph.specs.Walk.{IsWalk, weight_of}

-- the weight of v in a list of weights by node
abbrev pub weight_at : List (Option ℕ) → ℕ → Option ℕ
weight_at best v = slice_index_or best v None

-- each known weight is that of a walk from s; it is at most MOST_WEIGHT / nodes for each other node that is known
pub record IsPartial (g : Network) (s : ℕ) (best : List (Option ℕ)) : Type 0 where
  pub nodes : length best ≡ g.nodes
  pub start : weight_at best s ≡ Some 0
  pub walks : (v d : ℕ) → weight_at best v ≡ Some d → (arcs : List InArc) × IsWalk g s v arcs × (weight_of arcs ≡ d)
  pub small : (v d : ℕ) → weight_at best v ≡ Some d → g.nodes * d + MOST_WEIGHT ≤ count_by is_some best * MOST_WEIGHT

-- the arc shows no lighter walk
abbrev pub IsRelaxed : List (Option ℕ) → InArc → Type 0
IsRelaxed best a = (d : ℕ) → weight_at best a.from ≡ Some d → (e : ℕ) × (weight_at best a.to ≡ Some e) × (e ≤ d + a.weight)

-- a sum that falls with each change
abbrev pub total : List (Option ℕ) → ℕ
total best = sum_by (λ o. unwrap_or o MOST_SUM) best

-- the arc showed a lighter walk to its end than was known, and its weight is known now
pub record IsLowered (old new : List (Option ℕ)) (a : InArc) : Type 0 where
  pub before : ℕ
  pub from : weight_at old a.from ≡ Some before
  pub lighter : (now : ℕ) → weight_at old a.to ≡ Some now → before + a.weight < now
  pub later : new ≡ slice_set old a.to (Some (before + a.weight))

-- these arcs were relaxed in turn: either that changed something and the total fell, or each was relaxed already and
-- nothing changed
pub record IsRound (changed : Bool) (old new : List (Option ℕ)) (arcs : List InArc) : Type 0 where
  pub less : changed ≡ true → total new < total old
  pub same : changed ≡ false → (new ≡ old) × All (IsRelaxed old) arcs
