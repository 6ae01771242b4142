-- The lines of arcs: the place of each in the list of the graph's arcs, counted from 0.
use Rattle.std.specs.Prelude.{◌≡◌, ◌≢◌, ℕ, ◌-◌, ◌^◌, ◌<◌, ◌≤◌, ◌⊎◌, List, [], length, map, slice_index, slice_index_or, None}
use Rattle.std.specs.List.{range_with_len}
use Rattle.ch_graph.specs.declared.arc.InArc.{InArc}
use Rattle.ch_graph.specs.Graph.{Network, IsWithinLimits}
use Rattle.ch_graph.specs.Sorting.{with_key}
use Rattle.ch_hierarchy.specs.declared.leg.Leg.{Leg}
use Rattle.ch_hierarchy.specs.Rows.{row}
use Rattle.ch_hierarchy.specs.Hierarchy.{LevelsAndLegs}
use Rattle.ch_hierarchy.specs.Kept.{IsKept}
use Rattle.ch_hierarchy.specs.declared.side.Side.{Side}
use Rattle.ch_hierarchy.specs.declared.side.Side.TheVariants.{Up, Down}

-- the word for no line: the greatest number of 32 bits
abbrev pub no_line : ℕ
no_line = 2 ^ 32 - 1

-- the arc on a line
abbrev pub arc_on : List InArc → ℕ → InArc
arc_on arcs line = slice_index_or arcs line (record { from = 0; to = 0; weight = 0 })

-- an arc from u to w is on this line
abbrev pub Leads : List InArc → ℕ → ℕ → ℕ → Type 0
Leads arcs u w line = (line < length arcs) × ((arc_on arcs line).from ≡ u) × ((arc_on arcs line).to ≡ w)

-- the arc on line j is lighter than that on line k, or as light and not after it
abbrev pub Precedes : List InArc → ℕ → ℕ → Type 0
Precedes arcs j k = ((arc_on arcs j).weight < (arc_on arcs k).weight) ⊎ (((arc_on arcs j).weight ≡ (arc_on arcs k).weight) × (j ≤ k))

-- of the lines with P one of least weight, and of these the first
pub record IsFirstLine (arcs : List InArc) (P : ℕ → Type 0) (line : ℕ) : Type 0 where
  pub is : P line
  pub least : (k : ℕ) → P k → Precedes arcs line k

-- that line, or the word for none if there is none with P
abbrev pub IsLineWord : List InArc → (ℕ → Type 0) → ℕ → Type 0
IsLineWord arcs P word = IsFirstLine arcs P word ⊎ ((word ≡ no_line) × ((k : ℕ) → P k → ⊥))

-- the nodes from which and to which a leg of v and the node x leads
abbrev pub tail_of : Side → ℕ → ℕ → ℕ
tail_of Up v x = v
tail_of Down v x = x

abbrev pub head_of : Side → ℕ → ℕ → ℕ
head_of Up v x = x
head_of Down v x = v

-- the other node of leg k
abbrev pub node_at : List Leg → ℕ → ℕ
node_at legs k = (slice_index_or legs k (record { node = 0; cost = record { weight = 0; arcs = 0 }; middle = None })).node

-- there is a word for each leg of these rows: the line of the arc between its ends
pub record AreLinesOn (side : Side) (arcs : List InArc) (rows : List (List Leg)) (words : List (List ℕ)) : Type 0 where
  pub count : length words ≡ length rows
  pub long : (v : ℕ) → v < length rows → length (slice_index_or words v []) ≡ length (row rows v)
  pub each : (v k : ℕ) → v < length rows → k < length (row rows v) →
      IsLineWord arcs (Leads arcs (tail_of side v (node_at (row rows v) k)) (head_of side v (node_at (row rows v) k)))
      (slice_index (slice_index_or words v []) k)

-- a word for each leg up and for each leg down, and the number of lines
pub record Lines : Type 0 where
  pub up : List (List ℕ)
  pub down : List (List ℕ)
  pub count : ℕ

-- the words are the lines of the graph's arcs, and there is a line for each arc
abbrev pub AreLines : Network → LevelsAndLegs → Lines → Type 0
AreLines g H lines = AreLinesOn Up g.arcs H.up lines.up × AreLinesOn Down g.arcs H.down lines.down × (lines.count ≡ length g.arcs)

-- the hierarchy is right for some graph, and the lines are those of its arcs
abbrev pub IsOfSome : LevelsAndLegs → Lines → Type 0
IsOfSome H lines = (g : Network) × IsWithinLimits g × IsKept g H × AreLines g H lines

-- the line of the arc from u to w, in each graph that the hierarchy is right for and that has these lines
abbrev pub IsLineBy : LevelsAndLegs → Lines → ℕ → ℕ → ℕ → Type 0
IsLineBy H lines u w word = (g : Network) → IsWithinLimits g → IsKept g H → AreLines g H lines → IsLineWord g.arcs (Leads g.arcs u w) word

-- how lines are found: an arc is seen from one of its ends
abbrev pub near_end : Side → InArc → ℕ
near_end Up a = a.from
near_end Down a = a.to

abbrev pub far_end : Side → InArc → ℕ
far_end Up a = a.to
far_end Down a = a.from

-- all lines, each with the end from which its arc is seen
abbrev pub ended_lines : Side → List InArc → List (ℕ × ℕ)
ended_lines side arcs = map (with_key (λ line. near_end side (arc_on arcs line))) (range_with_len 0 (length arcs))

-- a line among the first n of these, whose arc has the other end x
abbrev pub IsSeen : List InArc → Side → List ℕ → ℕ → ℕ → ℕ → Type 0
IsSeen arcs side seen n x line = (i : ℕ) × (i < n) × (slice_index seen i ≡ line) × (far_end side (arc_on arcs line) ≡ x)

-- of a word and a line the one that precedes; the word may be the word for none
pub record IsBetter (arcs : List InArc) (word line result : ℕ) : Type 0 where
  pub one : (result ≡ line) ⊎ ((result ≡ word) × (word ≢ no_line))
  pub before_line : Precedes arcs result line
  pub before_word : word ≢ no_line → Precedes arcs result word

-- the word beside the leg at a node, or the word for none
abbrev pub IsWordAt : List Leg → List ℕ → ℕ → ℕ → Type 0
IsWordAt legs words node word =
    ((k : ℕ) × (k < length legs) × (node_at legs k ≡ node) × (word ≡ slice_index words k))
    ⊎ ((word ≡ no_line) × ((k : ℕ) → k < length legs → node_at legs k ≢ node))
