-- A run that can count no more failures, or has no memory for its buffer, answers no request.
use Rattle.ch_run.proofs.Owed.{ends_as}
use Rattle.ch_run.proofs.Served.{served_none, serves_memory}
use Rattle.ch_run.proofs.run.serving.serve.Goals as goal

-- a device has no room for one more failure
pub returns-then-not-counts_one_more : goal.returns-then-not-counts_one_more
returns-then-not-counts_one_more g c = serves_memory served_none

pub returns-in_err-buffer : goal.returns-in_err-buffer
returns-in_err-buffer g c = rw (ends_as _ _ c.from_residual.ensures.1) (serves_memory served_none)
