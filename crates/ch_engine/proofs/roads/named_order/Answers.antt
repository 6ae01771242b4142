-- The order is that of the bytes, or any without bytes, and a fault is the first of the bytes.
use Rattle.std.proofs.Common.{rules, ℕ, Err, refl, sym, ap, subst}
use Rattle.ch_graph.specs.Saved.{OrderAndLegs}
use Rattle.ch_read.specs.Checks.{IsFault}
use Rattle.ch_read.specs.Names.{NamesSaved}
use Rattle.ch_read.specs.declared.form.Form.TheVariants.{Saved}
use Rattle.ch_engine.specs.Topologies.{IsNamedOrder}
use Rattle.ch_engine.proofs.Orders.{named_by}
use Rattle.ch_engine.proofs.WhichHierarchy.{some_bytes}
use Rattle.ch_engine.proofs.roads.named_order.Goals as goal

pub returns-in-Ok-clause-order : goal.returns-in-Ok-clause-order
returns-in-Ok-clause-order c =
    let saved = c.in-Ok.saved in
    let bytes = c.args.bytes.now in
    let named = subst (λ (n : ℕ). NamesSaved bytes n saved) c.nodes.ensures.nodes ((c.in-Ok.ensures.value saved).0 refl) in
    let order = ap (λ (s : OrderAndLegs). s.order) c.saved.view_is in
    subst (IsNamedOrder bytes c.args.graph.now.nodes) (sym order)
    (named_by bytes c.args.graph.now.nodes saved (search rules) named)

pub returns-in-Err-Fault-clause-error : goal.returns-in-Err-Fault-clause-error
returns-in-Err-Fault-clause-error c =
    let f = c.in-Err-Fault.fault in
    let bytes = c.args.bytes.now in
    let faulty = (c.in-Err-Fault.ensures.fault f).0 (ap Err c.in-Err-Fault.field-0-is) in (
      some_bytes bytes (search rules),
      subst (λ e. IsFault (Saved c.args.graph.now.nodes) bytes e.line e.kind) (sym c.in-Err-Fault.fault-is)
          (subst (λ n. IsFault (Saved n) bytes f.line f.kind) c.nodes.ensures.nodes faulty),
    )
