-- The hierarchy that was assembled is the one that the saved one names.
use Rattle.std.proofs.Common.{refl}
use Rattle.ch_query.proofs.checking.founded_by.Goals as goal

pub first_unfounded_by-requires-clause-named : goal.first_unfounded_by-requires-clause-named
first_unfounded_by-requires-clause-named g c κs within = (c.in_ok-hierarchy.ensures.value c.in_ok-hierarchy.hierarchy).0 refl
