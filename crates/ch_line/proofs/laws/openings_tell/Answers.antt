-- Opened files have the bytes known of their names, and a missing file ends the openings with its fault.
use Rattle.std.proofs.Common.{subst, sym}
use Rattle.ch_line.specs.Line.{EndsAtMissing}
use Rattle.ch_line.proofs.Opening.{all-there, ends-at, goes-on, have-bytes, not-all-opened}
use Rattle.ch_line.proofs.laws.openings_tell.Goals as goal

pub returns-clause-bytes : goal.returns-clause-bytes
returns-clause-bytes g c = have-bytes g.F.Files.opens _ g.F.Files.known g.met.F.Files.tells

pub returns-clause-there : goal.returns-clause-there
returns-clause-there g c = all-there g.F.Files.opens _ g.F.Files.known g.met.F.Files.tells

pub returns-clause-unopened : goal.returns-clause-unopened
returns-clause-unopened g c = not-all-opened g.F.Files.opens _ g.F.Files.known g.met.F.Files.tells

pub returns-clause-missing : goal.returns-clause-missing
returns-clause-missing g c = λ files old new result fault same stops.
    subst (EndsAtMissing (g.F.Files.known old) files) (sym same)
    (ends-at g.F.Files.opens _ g.F.Files.known g.met.F.Files.tells Unit files old new fault stops)

pub returns-clause-all : goal.returns-clause-all
returns-clause-all g c = λ files inputs old new result are. goes-on (g.F.Files.known old) files result
    (all-there g.F.Files.opens _ g.F.Files.known g.met.F.Files.tells files inputs old new are)
