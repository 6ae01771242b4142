-- The hierarchy that was assembled is the one that the saved one names.
use Rattle.std.proofs.Common.{refl}
use Rattle.ch_query.proofs.checking.founded.Goals as goal

pub first_unfounded-requires-clause-named : goal.first_unfounded-requires-clause-named
first_unfounded-requires-clause-named c = (c.in_ok-hierarchy.ensures.value c.in_ok-hierarchy.hierarchy).0 refl
