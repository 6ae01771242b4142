-- Routes and answers as contracts see them: their arcs are a list.
use Rattle.std.specs.Prelude.{ℕ, List, Option}
use Rattle.ch_graph.specs.declared.arc.InArc.{InArc}

-- a walk and its weight
pub record Way : Type 0 where
  pub weight : ℕ
  pub arcs : List InArc

-- the nodes of a query, their distance, and the arcs of the route if it is wanted
pub record Reply : Type 0 where
  pub from : ℕ
  pub to : ℕ
  pub weight : Option ℕ
  pub arcs : Option (List InArc)
