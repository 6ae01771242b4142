-- An output whose bytes are known took exactly the bytes that its writes took.
use Rattle.ch_text.proofs.Moves.{fault-told, whole-told}
use Rattle.ch_text.proofs.laws.writes_tell.Goals as goal

pub returns-clause-whole : goal.returns-clause-whole
returns-clause-whole g c = whole-told g.O.Output.write_gives g.O.Output.taken g.met.O.Output.tells

pub returns-clause-part : goal.returns-clause-part
returns-clause-part g c = fault-told g.O.Output.write_gives g.O.Output.taken g.met.O.Output.tells
