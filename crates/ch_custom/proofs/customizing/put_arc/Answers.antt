-- The arc is put into the row of its lower end.
use Rattle.std.proofs.Common.{arith, inl, inr}
use Rattle.ch_hierarchy.specs.declared.side.Side.TheVariants.{Up, Down}
use Rattle.ch_custom.proofs.theory.LegPairs.{lightened_rows, kept_rows}
use Rattle.ch_custom.proofs.customizing.put_arc.Goals as goal

pub returns-then-levels-arc-clause-legs : goal.returns-then-levels-arc-clause-legs
returns-then-levels-arc-clause-legs c =
    let low = c.requires.levels in
    let many = c.requires.metric in
    inl (
      c.if-levels-arc.true,
      lightened_rows Up c.args.metric.now c.lighten.new.self c.args.arc.from c.args.arc.to c.args.arc.weight
          (omega (arith, low.0)) c.lighten.ensures,
      kept_rows Up c.args.metric.now c.lighten.new.self c.args.arc.from c.args.arc.to c.args.arc.weight
          (omega (arith, low.0)) c.lighten.ensures,
    )

pub returns-else-levels-arc-clause-legs : goal.returns-else-levels-arc-clause-legs
returns-else-levels-arc-clause-legs c =
    let low = c.requires.levels in
    let many = c.requires.metric in
    let new = c.lighten-else-levels-arc.new.self in
    inr (
      c.if-levels-arc.false,
      kept_rows Down c.args.metric.now new c.args.arc.to c.args.arc.from c.args.arc.weight
          (omega (arith, low.1)) c.lighten-else-levels-arc.ensures,
      lightened_rows Down c.args.metric.now new c.args.arc.to c.args.arc.from c.args.arc.weight
          (omega (arith, low.1)) c.lighten-else-levels-arc.ensures,
    )

pub returns-then-levels-arc-clause-pairs : goal.returns-then-levels-arc-clause-pairs
returns-then-levels-arc-clause-pairs c = inl (c.if-levels-arc.true, c.lighten.ensures)

pub returns-else-levels-arc-clause-pairs : goal.returns-else-levels-arc-clause-pairs
returns-else-levels-arc-clause-pairs c = inr (c.if-levels-arc.false, c.lighten-else-levels-arc.ensures)
