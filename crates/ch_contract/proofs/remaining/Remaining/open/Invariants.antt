-- The arcs before the current one are put in on both sides, except loops, and no leg is set aside.
use Rattle.std.proofs.Common.{◌≡◌, [], replicate, take}
use Rattle.std.specs.Prelude.{filter}
use Rattle.ch_contract.proofs.theory.Opening.{joins}
use Rattle.ch_contract.proofs.code.OpenLists.{AreOpenLists}
use Rattle.ch_contract.proofs.remaining.Remaining.open.Given as goal

-- the arcs so far were put in on both sides, except loops, and no leg is set aside
abbrev pub invariant-loop-arc : goal.invariant-loop-arc
invariant-loop-arc l =
    AreOpenLists l.nodes (filter joins (take l.arc-index l.arc-items)) l.outs.rows l.ins.rows
    × ((l.outs.aside ≡ replicate l.nodes []) × (l.ins.aside ≡ replicate l.nodes []))
