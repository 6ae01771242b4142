-- An input whose bytes are known had exactly the bytes that its reads gave, and has none left.
use Rattle.ch_text.proofs.Moves.{gave-told}
use Rattle.ch_text.proofs.laws.reads_tell.Goals as goal

pub returns : goal.returns
returns g c = gave-told g.I.Input.read_gives g.I.Input.left g.met.I.Input.tells
