-- The entries of the trees are nodes, and the stops are those of the trees.
use Rattle.std.proofs.Common.{◌<◌, ℕ, List, map, All, sym, subst, ◌∙◌}
use Rattle.ch_flows.specs.declared.tree.Mark.{Mark as AnyMark}
use Rattle.ch_flows.specs.declared.tree.Tree.{Tree as AnyTree}
use Rattle.ch_flows.specs.Meetings.{AreStops, kept_of}
use Rattle.ch_flows.proofs.CellMeetings.{lists_low}
use Rattle.ch_flows.proofs.table.columns_of.Goals as goal

pub stops_of-requires : goal.stops_of-requires
stops_of-requires c =
    let H = c.args.hierarchy.now in
    let trees = c.in_ok-trees.trees.items in
    let Low : List AnyTree → ℕ → Type 0 = λ ts n.
    All (λ (list : List (ℕ × AnyMark)). All (λ (e : ℕ × AnyMark). e.0 < n) list) (map kept_of ts) in
    subst (λ (ts : List AnyTree). Low ts c.nodes.result) (sym c.deref.ensures.value)
    (subst (Low trees) (sym c.nodes.ensures.nodes)
    (lists_low H c.target_trees.new.branches.items trees c.in_ok-trees.ensures.nodes c.nodes.ensures.levelled))

pub returns-clause-columns : goal.returns-clause-columns
returns-clause-columns c = record {
  trees = c.in_ok-trees.ensures.nodes;
  branches = c.in_ok-trees.ensures.branches;
  count = c.in_ok-stops.ensures.count ∙ c.nodes.ensures.nodes;
  stops = subst (λ (ts : List AnyTree). AreStops c.in_ok-stops.stops (map kept_of ts)) c.deref.ensures.value c.in_ok-stops.ensures.stops;
}
