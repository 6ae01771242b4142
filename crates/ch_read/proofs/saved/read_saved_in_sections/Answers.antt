-- An error of reading in sections is the fault of the bytes of a saved hierarchy.
use Rattle.ch_read.specs.declared.form.Form.TheVariants.{Saved}
use Rattle.ch_read.proofs.Limits.{fault_both_ways}
use Rattle.ch_read.proofs.saved.read_saved_in_sections.Goals as goal

pub returns-in_err-order-clause-fault : goal.returns-in_err-order-clause-fault
returns-in_err-order-clause-fault g c = fault_both_ways (Saved c.args.n) c.args.bytes.now c.from_residual.result
    c.in_err-order.field-0.0 c.from_residual.ensures.1 c.in_err-order.ensures
