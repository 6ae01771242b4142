-- An output counts a write that failed or was idle exactly where there was one.
use Rattle.std.proofs.Common.{[]}
use Rattle.ch_text.proofs.Moves.{fault-counts, took-counts}
use Rattle.ch_text.proofs.laws.writes_count.Goals as goal

pub returns-clause-whole : goal.returns-clause-whole
returns-clause-whole g c =
    λ old text new took. took-counts g.O.Output.write_gives g.O.Output.failed g.O.Output.idle g.met.O.Output.counts old text [] new took

pub returns-clause-part : goal.returns-clause-part
returns-clause-part g c = fault-counts g.O.Output.write_gives g.O.Output.failed g.O.Output.idle g.met.O.Output.counts
