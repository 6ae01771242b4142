-- The reads of an input whose bytes are known can give these bytes alone.
use Rattle.std.proofs.Common.{Option, List, ℕ, sym, subst}
use Rattle.ch_text.specs.Device.{HasGiven}
use Rattle.ch_text.proofs.Moves.{gave-told}
use Rattle.ch_run.proofs.laws.known_bytes.Goals as goal

pub returns : goal.returns
returns g c = λ old new bytes known given all.
    let told = gave-told g.I.Input.read_gives g.I.Input.left g.met.I.Input.tells old given new all in
    sym (subst (λ (left : Option (List ℕ)). HasGiven left (g.I.Input.left new) given) known told).0
