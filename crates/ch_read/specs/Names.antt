-- The values that files name; nodes are numbered from 1 in a file and from 0 in a value.
use Rattle.std.specs.Prelude.{◌≡◌, ℕ, ◌-◌, ◌==◌, if◌then◌else◌, List, map, slice_index, Option, Some, None, option_map}
use Rattle.ch_graph.specs.declared.arc.InArc.{InArc}
use Rattle.ch_graph.specs.declared.saved.SavedLeg.{SavedLeg}
use Rattle.ch_graph.specs.Graph.{Network}
use Rattle.ch_graph.specs.Saved.{OrderAndLegs}
use Rattle.ch_read.specs.declared.form.Form.TheVariants.{Graph, Queries, Nodes, Saved}
use Rattle.ch_read.specs.declared.form.Part.TheVariants.{First, Second}
use Rattle.ch_read.specs.Words.{lines}
use Rattle.ch_read.specs.Forms.{heading_in, items_in}
use Rattle.ch_read.specs.Checks.{IsAccepted}

-- the arc from U to V of weight W
abbrev pub arc_from : List ℕ → InArc
arc_from ns = record { from = slice_index ns 0 - 1; to = slice_index ns 1 - 1; weight = slice_index ns 2 }

-- the query from S to T
abbrev pub pair_from : List ℕ → ℕ × ℕ
pair_from ns = (slice_index ns 0 - 1, slice_index ns 1 - 1)

-- the node V
abbrev pub node_from : List ℕ → ℕ
node_from ns = slice_index ns 0 - 1

-- the node of this number, or `None` for 0
abbrev pub node_or_none : ℕ → Option ℕ
node_or_none v = if v == 0 then None else Some (v - 1)

-- the leg from U to V of weight W and A arcs, through M
abbrev pub leg_from : List ℕ → SavedLeg
leg_from ns =
    record {
      from = slice_index ns 0 - 1;
      to = slice_index ns 1 - 1;
      cost = record { weight = slice_index ns 2; arcs = slice_index ns 3 };
      middle = node_or_none (slice_index ns 4);
    }

-- the bytes name this graph
pub record NamesGraph (bytes : List ℕ) (g : Network) : Type 0 where
  pub accepted : IsAccepted Graph bytes
  pub nodes : option_map (λ h. h.nodes) (heading_in Graph (lines bytes)) ≡ Some g.nodes
  pub arcs : g.arcs ≡ map arc_from (items_in Graph First (lines bytes))

-- the bytes name these queries on a graph of n nodes
pub record NamesQueries (bytes : List ℕ) (n : ℕ) (pairs : List (ℕ × ℕ)) : Type 0 where
  pub accepted : IsAccepted (Queries n) bytes
  pub value : pairs ≡ map pair_from (items_in (Queries n) First (lines bytes))

-- the bytes name these nodes of a graph of n nodes
pub record NamesNodes (bytes : List ℕ) (n : ℕ) (nodes : List ℕ) : Type 0 where
  pub accepted : IsAccepted (Nodes n) bytes
  pub value : nodes ≡ map node_from (items_in (Nodes n) First (lines bytes))

-- the bytes name this hierarchy on a graph of n nodes
pub record NamesSaved (bytes : List ℕ) (n : ℕ) (saved : OrderAndLegs) : Type 0 where
  pub accepted : IsAccepted (Saved n) bytes
  pub order : saved.order ≡ map node_from (items_in (Saved n) First (lines bytes))
  pub legs : saved.legs ≡ map leg_from (items_in (Saved n) Second (lines bytes))

-- the bytes name a hierarchy with this order of the nodes, on a graph of n nodes
abbrev pub NamesOrder : List ℕ → ℕ → List ℕ → Type 0
NamesOrder bytes n order = (legs : List SavedLeg) × NamesSaved bytes n (record { order = order; legs = legs })
