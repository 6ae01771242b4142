-- Failed calls that a run reports exactly are those that its devices count.
use Rattle.ch_run.proofs.Counted.{reads_once, writes_once}
use Rattle.ch_run.proofs.laws.reports_count.Goals as goal

pub returns-clause-reads : goal.returns-clause-reads
returns-clause-reads g c = λ old new which result reports. reads_once g.met.I.Input.counts (λ same. same) reports

pub returns-clause-writes : goal.returns-clause-writes
returns-clause-writes g c = λ old new result reports. writes_once g.met.O.Output.counts reports
