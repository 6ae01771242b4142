-- The text of distances with their routes.
use Rattle.std.specs.Prelude.{◌≡◌, ℕ, true, List, [], ◌++◌, length, flat_map, Option, Some, None, codes, decimal}
use Rattle.ch_graph.specs.declared.arc.InArc.{InArc}
use Rattle.ch_graph.specs.Graph.{Network}
use Rattle.ch_hierarchy.specs.Hierarchy.{LevelsAndLegs}
use Rattle.ch_query.specs.declared.answer.Answer.{Answer}
use Rattle.ch_query.specs.Routes.{IsLeastWalk}
use Rattle.ch_query.specs.Replies.{HasArcs}
use Rattle.ch_text.specs.Distances.{Answers, HasText, distance_text, node_text}

abbrev pub arc_text : InArc → List ℕ
arc_text a = codes "a " ++ node_text a.from ++ codes " " ++ node_text a.to ++ codes " " ++ decimal a.weight ++ codes "\n"

-- the number of arcs, and then the arcs
abbrev pub route_text : Option (List InArc) → List ℕ
route_text None = []
route_text (Some arcs) = codes "r " ++ decimal (length arcs) ++ codes "\n" ++ flat_map arc_text arcs

abbrev pub answer_text : Answer → List ℕ
answer_text a = distance_text a ++ route_text a.arcs

-- an answer with the arcs of its route. They are a walk of least weight, and have the fewest arcs of all such walks
pub record AnswersWithRoute (g : Network) (H : LevelsAndLegs) (query : ℕ × ℕ) (a : Answer) : Type 0 where
  pub answers : Answers g query a
  pub route : HasArcs H true query.0 query.1 a.weight a.arcs
  pub walk : (arcs : List InArc) → a.arcs ≡ Some arcs → IsLeastWalk g query.0 query.1 arcs

-- the text of the distances and routes, by one of these hierarchies
abbrev pub IsRouteText : Network → (LevelsAndLegs → Type 0) → List (ℕ × ℕ) → List ℕ → Type 0
IsRouteText g From queries text = (H : LevelsAndLegs) × From H × HasText answer_text (AnswersWithRoute g H) queries text
