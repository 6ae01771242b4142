-- The gathered lists, each row in order and cut, are the buckets of the lists.
use Rattle.std.proofs.Common.{ℕ, map, Vec}
use Rattle.std.specs.declared.alloc.Global.{Global}
use Rattle.std.proofs.lemmas.Result.{IfOk-weaker}
use Rattle.ch_rows.specs.Buckets.{AreSortedAndCut, HoldFirst}
use Rattle.ch_rows.proofs.Filled.{hold_first}
use Rattle.ch_rows.proofs.first.buckets_of.Goals as goal

pub returns : goal.returns
returns c =
    let n = c.args.nodes in
    let count = c.args.count in
    let lists = map (λ (list : Vec (ℕ × ℕ) Global). list.items) c.args.lists.items in
    let rows = c.in_ok-rows.rows in
    let held = c.in_ok-rows.ensures in
    IfOk-weaker c.first_of_each.result (AreSortedAndCut count rows) (HoldFirst n count lists)
    (hold_first n lists rows held.held (held.order c.requires.apart) count) c.first_of_each.ensures
