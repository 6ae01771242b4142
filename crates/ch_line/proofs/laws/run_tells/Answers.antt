-- The story of a run over inputs says what is written, which files are refused, and which failed calls are reported.
use Rattle.ch_line.proofs.Told.{run_tells}
use Rattle.ch_line.proofs.laws.run_tells.Goals as goal

pub returns : goal.returns
returns g c = λ old new requests requests' output output' result went. run_tells g.I.Input.read_gives g.J.Input.read_gives
    g.O.Output.write_gives requests requests' output output' result old new went
