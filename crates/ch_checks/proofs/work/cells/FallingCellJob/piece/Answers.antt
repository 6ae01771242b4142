-- Each item pays the weight that it owes to the first cell.
use Rattle.std.proofs.Common.{rules, ◌≡◌, ◌+◌, ◌-◌, ◌*◌, ◌≤◌, arith, inl, inr}
use mathlib.Core.Logic.{dite}
use native.Mathlib.Decide.{dec_lt}
use Rattle.ch_work.specs.Passes.{view_of}
use Rattle.ch_work.proofs.Payments.{One, paid_none, paid_then}
use Rattle.ch_checks.proofs.work.cells.FallingCellJob.piece.Invariants.{Owed}
use Rattle.ch_checks.proofs.work.cells.FallingCellJob.piece.Goals as goal

pub loop-item-init : goal.loop-item-init
loop-item-init c = (
  search rules,
  paid_none (Owed c.args.from c.args.from) (view_of c.args.pass.now) (λ cell x o. let a = o.1 in let b = o.2 in omega arith),
)

pub loop-item-preserved : goal.loop-item-preserved
loop-item-preserved c =
    let from = c.args.from in
    let item = c.loop-item.item in
    let low : from ≤ item = search rules in
    let weight = c.from.result in
    let is : weight ≡ 9 - 2 * item = c.from.ensures in
    let few : item ≤ 4 = search rules in (
      c.pay.ensures.board,
      paid_then (Owed from item) (One 0 weight) (Owed from (item + 1)) (view_of c.args.pass.now) (view_of c.loop-item.pass)
          (view_of c.pay.new.pass)
          (λ cell x o. dite (dec_lt o.0 item) (λ lt. inl (o.0, o.1, lt, o.3, o.4))
          (λ no. inr (o.3, let a = o.2 in let b = o.4 in omega arith)))
          (λ cell x o. (o.0, o.1, (let a = o.2 in omega arith), o.3, o.4))
          (λ cell x o. (item, low, omega arith, o.0, (let a = o.1 in omega arith)))
          c.loop-item.invariant.1 c.pay.ensures.paid,
    )
