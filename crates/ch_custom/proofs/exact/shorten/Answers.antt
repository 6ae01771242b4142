-- Both legs of the pair are lowered.
use Rattle.ch_hierarchy.specs.declared.side.Side.TheVariants.{Up, Down}
use Rattle.ch_custom.proofs.exact.shorten.Goals as goal

pub lower-requires-clause-first : goal.lower-requires-clause-first
lower-requires-clause-first c = (c.requires.first Up).0

pub lower-requires-clause-second : goal.lower-requires-clause-second
lower-requires-clause-second c = (c.requires.second Up).0

pub lower-requires-clause-leg : goal.lower-requires-clause-leg
lower-requires-clause-leg c = c.requires.pair Up

pub lower-requires-2-clause-first : goal.lower-requires-2-clause-first
lower-requires-2-clause-first c = (c.requires.first Down).0

pub lower-requires-2-clause-second : goal.lower-requires-2-clause-second
lower-requires-2-clause-second c = (c.requires.second Down).0

pub lower-requires-2-clause-leg : goal.lower-requires-2-clause-leg
lower-requires-2-clause-leg c = c.requires.pair Down
