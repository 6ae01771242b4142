-- Where a number is no node, all places may be in a row, and each cell has room.
use Rattle.std.proofs.Common.{rules, ◌≡◌, ◌*◌, length, refl}
use Rattle.ch_hierarchy.specs.Hierarchy.{nodes_of}
use Rattle.ch_engine.specs.NearTable.{KeepsAll, places_of}
use Rattle.ch_engine.specs.Refusals.{AreNodes}
use Rattle.ch_engine.proofs.engine.Engine.near_table.Goals as goal

pub returns-then-not-are_nodes-clause-refused : goal.returns-then-not-are_nodes-clause-refused
returns-then-not-are_nodes-clause-refused c =
    let held = c.args.self.now in
    let whole : KeepsAll held.near = search rules in
    let room : length c.args.cells.now ≡ length c.args.sources.now * places_of held.near = search rules in
    let strange : AreNodes (nodes_of held.hierarchy) c.args.sources.now → ⊥ = search rules in
    (refl, (whole, room, strange))
