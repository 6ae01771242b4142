-- Saved hierarchies.
use Rattle.std.specs.Prelude.{ℕ, List}
use Rattle.ch_graph.specs.declared.saved.SavedLeg.{SavedLeg}

-- a saved hierarchy as contracts see it: its nodes in order of level, and its legs
pub record OrderAndLegs : Type 0 where
  pub order : List ℕ
  pub legs : List SavedLeg
