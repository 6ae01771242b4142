-- The text of a hierarchy that is right for a graph names this hierarchy again.
use Rattle.ch_run.proofs.ReadBack.{hierarchy_reads_back, saved_reads_back}
use Rattle.ch_run.proofs.laws.saved_text_reads_back.Goals as goal

pub returns-clause-kept : goal.returns-clause-kept
returns-clause-kept c = hierarchy_reads_back

pub returns-clause-saved : goal.returns-clause-saved
returns-clause-saved c = saved_reads_back
