-- A fault is the first of the graph's bytes, or one of the hierarchy for the graph, and without one it is right.
use Rattle.std.proofs.Common.{◌≡◌, Err, refl, sym, ap, subst}
use Rattle.ch_hierarchy.specs.Kept.{IsKept}
use Rattle.ch_read.specs.Checks.{IsFault}
use Rattle.ch_read.specs.declared.form.Form.TheVariants.{Graph}
use Rattle.ch_engine.specs.Opened.{IsSavedOrBuilt}
use Rattle.ch_engine.proofs.WhichHierarchy.{open_error}
use Rattle.ch_engine.proofs.opening.opened.Goals as goal

pub returns-in-Err-Fault-clause-error : goal.returns-in-Err-Fault-clause-error
returns-in-Err-Fault-clause-error c =
    subst (λ f. IsFault Graph c.args.graph.now f.line f.kind) (sym c.in-Err-Fault.fault-is)
    ((c.in-Err-Fault.ensures.fault c.in-Err-Fault.fault).0 (ap Err c.in-Err-Fault.field-0-is))

pub returns-in-Err-clause-error : goal.returns-in-Err-clause-error
returns-in-Err-clause-error c =
    open_error c.args.graph.now c.args.saved.now c.in-Ok.roads c.in-Err.error ((c.in-Ok.ensures.value c.in-Ok.roads).0 refl)
    c.in-Err.ensures.error

pub returns-clause-value : goal.returns-clause-value
returns-clause-value c =
    let roads = c.in-Ok.roads in
    let from = c.in-Ok-saved_or_built in
    let same : c.in_ok-lined.lined.0 ≡ from.hierarchy = c.in_ok-lined.ensures.hierarchy in (
      roads,
      (c.in-Ok.ensures.value roads).0 refl,
      from.ensures.limits,
      subst (IsKept roads) (sym same) from.ensures.kept,
      subst (IsSavedOrBuilt roads c.args.saved.now) (sym same) from.ensures.value,
      c.in_ok-lined.ensures.lines,
    )
