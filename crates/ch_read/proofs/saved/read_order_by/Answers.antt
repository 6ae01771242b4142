-- An error of reading an order is the fault of its bytes as a saved hierarchy.
use Rattle.std.proofs.Common.{◌≡◌}
use Rattle.ch_read.specs.declared.form.Form.TheVariants.{Saved}
use Rattle.ch_read.proofs.Limits.{fault_both_ways, error_of_items}
use Rattle.ch_read.proofs.saved.read_order_by.Goals as goal

pub returns-in_err-order-clause-fault : goal.returns-in_err-order-clause-fault
returns-in_err-order-clause-fault g c =
    fault_both_ways (Saved c.args.n) c.args.bytes.now _ c.in_err-order.field-0.0
    (error_of_items (λ e. e ≡ c.in_err-order.field-0.0) c.from_residual.result c.from_residual.ensures.1) c.in_err-order.ensures
