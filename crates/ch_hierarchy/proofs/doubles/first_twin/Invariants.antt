-- For each lower node the last entry before the current one is known, and so is the least place of a twin among them.
use Rattle.ch_hierarchy.specs.Doubles.{IsLessened}
use Rattle.ch_hierarchy.proofs.code.Doubled.{AreLast, IsTwinBelow}
use Rattle.ch_hierarchy.proofs.doubles.first_twin.Given as goal

abbrev pub invariant-loop-entry : goal.invariant-loop-entry
invariant-loop-entry l = record {
  last : AreLast l.n l.entries l.entry-index l.last.items;
  least : IsLessened (IsTwinBelow l.entries l.entry-index) l.fn.known l.least;
}
