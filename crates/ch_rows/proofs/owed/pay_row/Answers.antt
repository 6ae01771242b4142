-- One more target has its sum paid to its cell, if the sum is within the limit.
use Rattle.std.proofs.Common.{rules, get_or}
use Rattle.std.proofs.lemmas.List.{take_more}
use Rattle.ch_work.specs.Passes.{view_of}
use Rattle.ch_rows.proofs.Owing.{row_none, row_more}
use Rattle.ch_rows.proofs.owed.pay_row.Goals as goal

pub loop-target-init : goal.loop-target-init
loop-target-init c = (search rules, row_none c.args.within c.args.first c.args.weight (view_of c.args.pass.now))

pub loop-target-preserved : goal.loop-target-preserved
loop-target-preserved c =
    let a = c.args in
    let i = c.loop-target.target-index in
    let step = take_more a.targets.now i (0, 0) c.loop-target-test.true in (
      c.pay_within.ensures.board,
      row_more a.within a.first a.weight i a.targets.now (get_or a.targets.now i (0, 0)) step (view_of a.pass.now)
          (view_of c.loop-target.pass) (view_of c.pay_within.new.pass) c.loop-target.invariant.1 c.pay_within.ensures.paid,
    )
