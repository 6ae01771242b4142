-- An input counts a failed read exactly where there was one.
use Rattle.ch_text.proofs.Moves.{all-counts, until-counts}
use Rattle.ch_text.proofs.laws.reads_count.Goals as goal

pub returns-clause-all : goal.returns-clause-all
returns-clause-all g c = all-counts g.I.Input.read_gives g.I.Input.failed g.met.I.Input.counts

pub returns-clause-fault : goal.returns-clause-fault
returns-clause-fault g c = until-counts g.I.Input.read_gives g.I.Input.failed g.met.I.Input.counts
