-- Both legs of the pair are lowered.
use Rattle.ch_hierarchy.specs.declared.side.Side.TheVariants.{Up, Down}
use Rattle.ch_custom.proofs.lowering.lower_pair.Goals as goal

pub lower-requires-clause-first : goal.lower-requires-clause-first
lower-requires-clause-first c = (c.requires.one Down).0

pub lower-requires-clause-second : goal.lower-requires-clause-second
lower-requires-clause-second c = (c.requires.other Up).0

pub lower-requires-clause-leg : goal.lower-requires-clause-leg
lower-requires-clause-leg c = c.requires.pair Up

pub lower-requires-2-clause-first : goal.lower-requires-2-clause-first
lower-requires-2-clause-first c = (c.requires.one Up).0

pub lower-requires-2-clause-second : goal.lower-requires-2-clause-second
lower-requires-2-clause-second c = (c.requires.other Down).0

pub lower-requires-2-clause-leg : goal.lower-requires-2-clause-leg
lower-requires-2-clause-leg c = c.requires.pair Down
