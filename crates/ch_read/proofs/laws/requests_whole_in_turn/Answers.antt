-- A reader that is fed and asked in turn gives each request once and in order, and holds no whole one back.
use Rattle.ch_read.proofs.RequestTurns.{given_in_turn, given_to_the_end, given_to_the_fault}
use Rattle.ch_read.proofs.RequestsHeldBack.{not_held_back}
use Rattle.ch_read.proofs.laws.requests_whole_in_turn.Goals as goal

pub returns-clause-first : goal.returns-clause-first
returns-clause-first c = given_in_turn

pub returns-clause-whole : goal.returns-clause-whole
returns-clause-whole c = not_held_back

pub returns-clause-ended : goal.returns-clause-ended
returns-clause-ended c = given_to_the_end

pub returns-clause-fault : goal.returns-clause-fault
returns-clause-fault c = given_to_the_fault
