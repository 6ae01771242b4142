-- A fault is the first of the bytes, of the number of nodes, or of the per cent, and without one the order is the other's.
use Rattle.std.proofs.Common.{◌≡◌, ℕ, ◌<◌, ◌≤◌, List, Err, refl, sym, ap, subst, arith}
use Rattle.std.proofs.Math.Nat.{lt_of_not-le}
use Rattle.std.proofs.lemmas.Bool.{false≢true}
use Rattle.ch_hierarchy.specs.Hierarchy.{nodes_of}
use Rattle.ch_hierarchy.specs.Kept.{IsKept}
use Rattle.ch_read.specs.Checks.{IsFault}
use Rattle.ch_read.specs.declared.form.Form.TheVariants.{Graph}
use Rattle.ch_engine.specs.Opened.{IsBuiltInOrder, IsBuiltLike}
use Rattle.ch_engine.proofs.opening.opened_like.Goals as goal

pub returns-in-Err-Fault-clause-error : goal.returns-in-Err-Fault-clause-error
returns-in-Err-Fault-clause-error c =
    subst (λ f. IsFault Graph c.args.graph.now f.line f.kind) (sym c.in-Err-Fault.fault-is)
    ((c.in-Err-Fault.ensures.fault c.in-Err-Fault.fault).0 (ap Err c.in-Err-Fault.field-0-is))

pub returns-then-nodes-clause-error : goal.returns-then-nodes-clause-error
returns-then-nodes-clause-error c =
    let roads = c.in-Ok.roads in (
      roads,
      (c.in-Ok.ensures.value roads).0 refl,
      λ same. omega (arith, same, c.nodes.ensures.nodes, c.nodes-2.ensures.nodes, c.if-nodes.true),
    )

pub returns-in_default-clause-error : goal.returns-in_default-clause-error
returns-in_default-clause-error c =
    let roads = c.in-Ok.roads in
    let size : roads.nodes ≡ nodes_of c.args.other.now = omega (arith, c.nodes.ensures.nodes, c.nodes-2.ensures.nodes, c.if-nodes.false) in
    let above : 100 < c.args.fresh =
    lt_of_not-le {n = c.args.fresh} {m = 100} (λ few. false≢true (rw c.in_default.is at c.new.ensures.some.1 few)) in
    (roads, (c.in-Ok.ensures.value roads).0 refl, size, above)

pub returns-clause-value : goal.returns-clause-value
returns-clause-value c =
    let roads = c.in-Ok.roads in
    let built = c.in_ok-built.built in
    let by = c.in_ok-built.ensures in
    let order = c.in_ok-order.order.items in
    let given : c.as_slice.result.now ≡ order = c.as_slice.ensures.value in
    let same : c.in_ok-lined.lined.0 ≡ built = c.in_ok-lined.ensures.hierarchy in
    let size : roads.nodes ≡ nodes_of c.args.other.now = omega (arith, c.nodes.ensures.nodes, c.nodes-2.ensures.nodes, c.if-nodes.false) in
    let part = c.in-Some.part in
    let number : part.number ≡ c.args.fresh = rw c.in-Some.is at c.new.ensures.number in
    let most : c.args.fresh ≤ 100 = subst (λ n. n ≤ 100) number part.in_range in
    let like : IsBuiltLike roads c.args.other.now c.args.fresh built = (
      order,
      record { nodes = c.in_ok-order.ensures.order; levels = c.in_ok-order.ensures.levels },
      subst (λ n. IsBuiltInOrder roads order n built) number
          (subst (λ (l : List ℕ). IsBuiltInOrder roads l part.number built) given by.hierarchy),
    ) in (
      roads,
      (c.in-Ok.ensures.value roads).0 refl,
      by.limits,
      subst (IsKept roads) (sym same) by.kept,
      size,
      most,
      subst (IsBuiltLike roads c.args.other.now c.args.fresh) (sym same) like,
      c.in_ok-lined.ensures.lines,
    )
