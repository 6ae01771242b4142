-- One more sum, and the legs of one more place are taken on both sides.
use Rattle.std.proofs.Common.{◌≡◌, ◌+◌, ◌-◌, ◌∙◌, sym, subst, arith, inl, inr}
use Rattle.std.specs.Prelude.{slice_index}
use Rattle.std.proofs.lemmas.Bool.{cases_lt}
use Rattle.ch_hierarchy.specs.declared.side.Side.TheVariants.{Up, Down}
use Rattle.ch_tree.specs.Tree.{IsSweptTo, StaysBelow}
use Rattle.ch_tree.proofs.theory.Sweeps.{swept_less}
use Rattle.ch_tree.proofs.theory.Walks.{read_weight, sum_begins, sum_step}
use Rattle.ch_tree.proofs.query.sweep_common.Goals as goal

pub loop-place-init : goal.loop-place-init
loop-place-init c =
    let up = c.requires.up in
    let size = up.size in
    let within = up.within in (
      up,
      c.requires.down,
      sum_begins c.args.parents.now c.requires.tree.falls c.args.meeting c.args.ups.now.items c.args.downs.now.items
          (omega arith),
    )

pub overflow_add-index : goal.overflow_add-index
overflow_add-index c =
    let i = c.loop-place.invariant in
    let some = c.loop-place-test.true in
    let within = i.0.within in
    let one = i.0.size in
    let two = i.1.size in
    let a = c.index.result.now in
    let b = c.index-in-loop-place.result.now in
    let first = read_weight c.loop-place.ups.items (c.loop-place.place - 1) a a (omega arith) c.index.ensures in
    let second = read_weight c.loop-place.downs.items (c.loop-place.place - 1) b b (omega arith) c.index-in-loop-place.ensures in
    let low = i.0.small (c.loop-place.place - 1) in
    let down = i.1.small (c.loop-place.place - 1) in
    omega arith

pub sweep-requires-in-loop-place-clause-swept : goal.sweep-requires-in-loop-place-clause-swept
sweep-requires-in-loop-place-clause-swept c =
    let i = c.loop-place.invariant in
    let some = c.loop-place-test.true in
    let min = c.min-least.ensures in
    let e : c.loop-place.place ≡ c.loop-place.place - 1 + 1 = omega arith in
    subst (λ q. IsSweptTo c.args.hierarchy.now Down c.args.parents.now c.args._end c.min-least.result q c.loop-place.downs.items) e
    (swept_less c.args.hierarchy.now Down c.args.parents.now c.args._end c.loop-place.least c.min-least.result c.loop-place.place
    c.loop-place.downs.items (omega arith) i.1)

pub loop-place-preserved : goal.loop-place-preserved
loop-place-preserved c =
    let i = c.loop-place.invariant in
    let some = c.loop-place-test.true in
    let within = i.0.within in
    let one = i.0.size in
    let two = i.1.size in
    let a = c.index.result.now in
    let b = c.index-in-loop-place.result.now in
    let first = read_weight c.loop-place.ups.items (c.loop-place.place - 1) a a (omega arith) c.index.ensures in
    let second = read_weight c.loop-place.downs.items (c.loop-place.place - 1) b b (omega arith) c.index-in-loop-place.ensures in
    let min = c.min-least.ensures in
    let e : c.loop-place.place - 1 + 1 ≡ c.loop-place.place = omega arith in
    let up = subst (λ q. IsSweptTo c.args.hierarchy.now Up c.args.parents.now c.args._start c.min-least.result
    (slice_index c.args.parents.now q) c.sweep.new.costs.items) e c.sweep.ensures.swept in
    let down = subst (λ q. IsSweptTo c.args.hierarchy.now Down c.args.parents.now c.args._end c.min-least.result
    (slice_index c.args.parents.now q) c.sweep-in-loop-place.new.costs.items) e c.sweep-in-loop-place.ensures.swept in (
      up,
      down,
      sum_step c.args.parents.now c.requires.tree.falls c.args.meeting c.loop-place.ups.items c.loop-place.downs.items
          c.sweep.new.costs.items c.sweep-in-loop-place.new.costs.items
          c.loop-place.place c.loop-place.least (a + b) c.min-least.result (omega arith) (omega arith) (up.size
          ∙ sym one) i.2 (omega arith) (omega arith) (omega arith)
          (elim (cases_lt c.loop-place.least (a + b)) [ inl lt ↦ inl (omega arith) | inr ge ↦ inr (omega arith) ])
          (subst (λ q. StaysBelow (slice_index c.args.parents.now q) c.loop-place.ups.items c.sweep.new.costs.items) e
          c.sweep.ensures.stays)
          (subst (λ q. StaysBelow (slice_index c.args.parents.now q) c.loop-place.downs.items c.sweep-in-loop-place.new.costs.items) e
          c.sweep-in-loop-place.ensures.stays),
    )
