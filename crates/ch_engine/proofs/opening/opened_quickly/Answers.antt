-- A fault is the first of the bytes, and without one the hierarchy is right.
use Rattle.std.proofs.Common.{◌≡◌, [], Err, refl, sym, ap, subst}
use Rattle.ch_hierarchy.specs.Kept.{IsKept}
use Rattle.ch_read.specs.Checks.{IsFault}
use Rattle.ch_read.specs.declared.form.Form.TheVariants.{Graph}
use Rattle.ch_order.specs.Quick.{IsHierarchyAfter}
use Rattle.ch_engine.proofs.opening.opened_quickly.Goals as goal

pub returns-in-Err-Fault-clause-error : goal.returns-in-Err-Fault-clause-error
returns-in-Err-Fault-clause-error c =
    subst (λ f. IsFault Graph c.args.graph.now f.line f.kind) (sym c.in-Err-Fault.fault-is)
    ((c.in-Err-Fault.ensures.fault c.in-Err-Fault.fault).0 (ap Err c.in-Err-Fault.field-0-is))

pub returns-clause-value : goal.returns-clause-value
returns-clause-value c =
    let roads = c.in-Ok.roads in
    let same : c.in_ok-lined.lined.0 ≡ c.in_ok-quick.quick = c.in_ok-lined.ensures.hierarchy in (
      roads,
      (c.in-Ok.ensures.value roads).0 refl,
      c.in_ok-quick.ensures.limits,
      subst (IsKept roads) (sym same) c.in_ok-quick.ensures.kept,
      subst (IsHierarchyAfter roads 5 []) (sym same) c.in_ok-quick.ensures.hierarchy,
      c.in_ok-lined.ensures.lines,
    )
