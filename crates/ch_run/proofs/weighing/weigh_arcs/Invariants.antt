-- The arcs so far have the weights of the map, and the set has those of its keys that they have.
use Rattle.std.proofs.Common.{◌≡◌, map, take}
use Rattle.ch_run.specs.Weighing.{AreMet, weighed_by}
use Rattle.ch_run.proofs.weighing.weigh_arcs.Given as goal

abbrev pub invariant-loop-arc : goal.invariant-loop-arc
invariant-loop-arc l = record {
  weighed : l.weighed.items ≡ map (weighed_by l.found) (take l.arc-index l.arcs);
  met : AreMet l.found (take l.arc-index l.arcs) l.met;
}
