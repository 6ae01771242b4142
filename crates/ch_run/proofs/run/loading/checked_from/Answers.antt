-- The saved hierarchy that was read is right for the graph, or its first fault ends the run.
use Rattle.std.proofs.Common.{refl}
use Rattle.ch_run.proofs.run.loading.checked_from.Goals as goal

pub returns-in-Ok-clause-value : goal.returns-in-Ok-clause-value
returns-in-Ok-clause-value g c = let told = c.in_ok-saved.ensures.read in
    (told.0, told.1, (c.in_ok-saved.saved, told.2, c.in-Ok.ensures.hierarchy))

pub returns-in-Err-Fault-clause-ends : goal.returns-in-Err-Fault-clause-ends
returns-in-Err-Fault-clause-ends g c = let told = c.in_ok-saved.ensures.read in
    let first = (c.in-Err-Fault.ensures.fault c.in-Err-Fault.fault).0 (let field = c.in-Err-Fault.fault-is in cc) in
    (refl, (told.0, told.1, (c.in_ok-saved.saved, told.2, first)))
