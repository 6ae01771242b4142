-- A fault is the first of the saved bytes, or of the hierarchy for the graph, and without one it is right.
use Rattle.std.proofs.Common.{rules, ℕ, Err, refl, sym, ap, subst}
use Rattle.ch_hierarchy.specs.Saved.{IsFirstFault}
use Rattle.ch_read.specs.Checks.{IsFault}
use Rattle.ch_read.specs.Names.{NamesSaved}
use Rattle.ch_read.specs.declared.form.Form.TheVariants.{Saved}
use Rattle.ch_engine.proofs.WhichHierarchy.{saved_named, some_bytes}
use Rattle.ch_engine.proofs.opening.saved_or_built.Goals as goal

pub returns-in-Err-Fault-clause-error : goal.returns-in-Err-Fault-clause-error
returns-in-Err-Fault-clause-error c =
    let f = c.in-Err-Fault.fault in
    let saved = c.args.saved.now in
    let faulty = (c.in-Err-Fault.ensures.fault f).0 (ap Err c.in-Err-Fault.field-0-is) in (
      some_bytes saved (search rules),
      subst (λ e. IsFault (Saved c.args.roads.now.nodes) saved e.line e.kind) (sym c.in-Err-Fault.fault-is)
          (subst (λ n. IsFault (Saved n) saved f.line f.kind) c.nodes-nodes.ensures.nodes faulty),
    )

pub returns-in-Ok-check_alone-clause-value : goal.returns-in-Ok-check_alone-clause-value
returns-in-Ok-check_alone-clause-value c =
    let named = subst (λ (n : ℕ). NamesSaved c.args.saved.now n c.in-Ok.named) c.nodes-nodes.ensures.nodes
    ((c.in-Ok.ensures.value c.in-Ok.named).0 refl) in
    saved_named c.args.roads.now c.args.saved.now c.in-Ok.named c.in-Ok-check_alone.right (search rules) named
    c.in-Ok-check_alone.ensures.hierarchy.0

pub returns-in-Err-Fault-check_alone-clause-error :
    goal.returns-in-Err-Fault-check_alone-clause-error
returns-in-Err-Fault-check_alone-clause-error c =
    let saved = c.in-Ok.named in
    let named = (c.in-Ok.ensures.value saved).0 refl in (
      saved,
      subst (λ n. NamesSaved c.args.saved.now n saved) c.nodes-nodes.ensures.nodes named,
      subst (IsFirstFault c.args.roads.now saved) (sym c.in-Err-Fault-check_alone.fault-is)
          ((c.in-Err-Fault-check_alone.ensures.fault c.in-Err-Fault-check_alone.fault).0 (ap Err c.in-Err-Fault-check_alone.field-0-is)),
    )
