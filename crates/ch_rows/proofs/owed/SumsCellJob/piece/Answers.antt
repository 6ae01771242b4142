-- One more item pays what its node owes.
use Rattle.std.proofs.Common.{rules, ◌≤◌}
use Rattle.ch_work.specs.Passes.{view_of}
use Rattle.ch_rows.proofs.Owing.{items_none, items_more}
use Rattle.ch_rows.proofs.owed.SumsCellJob.piece.Goals as goal

pub loop-item-init : goal.loop-item-init
loop-item-init c = (search rules, items_none c.args.self.now c.args.from (view_of c.args.pass.now))

pub loop-item-preserved : goal.loop-item-preserved
loop-item-preserved c =
    let a = c.args in
    let item = c.loop-item.item in
    let low : a.from ≤ item = search rules in (
      c.pay_item.ensures.board,
      items_more a.self.now a.from item low (view_of a.pass.now) (view_of c.loop-item.pass) (view_of c.pay_item.new.pass)
          c.loop-item.invariant.1 c.pay_item.ensures.paid,
    )
