-- The node may be in the part of its row, or in any part.
use Rattle.ch_custom.proofs.theory.Parts.{may_be_given}
use Rattle.ch_custom.proofs.parts.part_for.Goals as goal

pub returns-clause-found : goal.returns-clause-found
returns-clause-found c = may_be_given _ _ _ _ _ c.in_ok-part.ensures c.given_part.ensures.given
