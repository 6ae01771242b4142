-- The text of distances.
use Rattle.std.specs.Prelude.{◌≡◌, ℕ, ◌+◌, List, ◌++◌, flat_map, Option, Some, None, codes, decimal}
use Rattle.std.specs.List.{AllZip}
use Rattle.ch_graph.specs.Graph.{Network}
use Rattle.ch_graph.specs.Walk.{IsAnswer}
use Rattle.ch_query.specs.declared.answer.Answer.{Answer}

-- nodes are printed from 1 on
abbrev pub node_text : ℕ → List ℕ
node_text v = decimal (v + 1)

abbrev pub weight_text : Option ℕ → List ℕ
weight_text None = codes "-"
weight_text (Some x) = decimal x

abbrev pub distance_text : Answer → List ℕ
distance_text a = codes "d " ++ node_text a.from ++ codes " " ++ node_text a.to ++ codes " " ++ weight_text a.weight ++ codes "\n"

-- the answer has the nodes of its query and their distance, or no distance exactly if there is no walk
pub record Answers (g : Network) (query : ℕ × ℕ) (a : Answer) : Type 0 where
  pub from : a.from ≡ query.0
  pub to : a.to ≡ query.1
  pub weight : IsAnswer g query.0 query.1 a.weight

-- an answer without arcs
abbrev pub AnswersShortly : Network → ℕ × ℕ → Answer → Type 0
AnswersShortly g query a = Answers g query a × (a.arcs ≡ None)

-- the text has an answer for each query, in order, and `written` gives the text of each
abbrev pub HasText : (Answer → List ℕ) → (ℕ × ℕ → Answer → Type 0) → List (ℕ × ℕ) → List ℕ → Type 0
HasText written P queries text = (answers : List Answer) × AllZip P queries answers × (text ≡ flat_map written answers)

-- the text of the distances, without routes
abbrev pub IsDistanceText : Network → List (ℕ × ℕ) → List ℕ → Type 0
IsDistanceText g queries text = HasText distance_text (AnswersShortly g) queries text
