-- One more line is skipped, is the problem line, or adds an item to its part, and otherwise it has the first fault.
use Rattle.std.proofs.Common.{arith}
use Rattle.ch_read.proofs.Reading.{nothing_read, line_read, fault_here, all_lines, counted_by}
use Rattle.ch_read.proofs.reader.read_lines.Goals as goal

pub loop-rest-preserved-in-Skipped : goal.loop-rest-preserved-in-Skipped
loop-rest-preserved-in-Skipped g c =
    line_read c.loop-rest.invariant
    (counted_by _ c.len.result c.len-in-loop-rest.result _ _ c.new-counts.ensures (omega arith) (omega arith))
    c.in-Ok.ensures c.in-Skipped.is

pub loop-rest-preserved-in-Problem : goal.loop-rest-preserved-in-Problem
loop-rest-preserved-in-Problem g c =
    line_read c.loop-rest.invariant
    (counted_by _ c.len.result c.len-in-loop-rest.result _ _ c.new-counts.ensures (omega arith) (omega arith))
    c.in-Ok.ensures c.in-Problem.is

pub loop-rest-preserved-in_ok-push-in-First : goal.loop-rest-preserved-in_ok-push-in-First
loop-rest-preserved-in_ok-push-in-First g c =
    rw (c.in_ok-push-in-First.ensures.items, c.from_item.ensures)
    (line_read c.loop-rest.invariant
    (counted_by _ c.len.result c.len-in-loop-rest.result _ _ c.new-counts.ensures (omega arith) (omega arith))
    c.in-Ok.ensures c.in-First.is)

pub loop-rest-preserved : goal.loop-rest-preserved
loop-rest-preserved g c =
    rw (c.in_ok-push-in-Second.ensures.items, c.from_item-in-Second.ensures)
    (line_read c.loop-rest.invariant
    (counted_by _ c.len.result c.len-in-loop-rest.result _ _ c.new-counts.ensures (omega arith) (omega arith))
    c.in-Ok.ensures c.in-Second.is)

pub returns-in-Err : goal.returns-in-Err
returns-in-Err g c =
    let first = c.in-Err.ensures in
    fault_here g.A.FromItem.from_item_gives g.B.FromItem.from_item_gives c.args.form c.args.begun c.args.bytes.now c.loop-rest.rest.now
    _ _ c.loop-rest.line c.new-counts.result c.loop-rest.seen c.loop-rest.first.items c.loop-rest.second.items
    c.loop-rest.invariant first.split first.less
    (counted_by _ c.len.result c.len-in-loop-rest.result _ _ c.new-counts.ensures (omega arith) (omega arith))
    c.in-Err.kind first.fails

pub loop-rest-init : goal.loop-rest-init
loop-rest-init g c = rw (c.new-first.ensures.items, c.new-second.ensures.items)
    (nothing_read g.A.FromItem.from_item_gives g.B.FromItem.from_item_gives c.args.form c.args.begun c.args.bytes.now c.requires)

pub returns : goal.returns
returns g c =
    let room = c.loop-rest.invariant.room in (
      all_lines g.A.FromItem.from_item_gives g.B.FromItem.from_item_gives c.args.form c.args.begun c.args.bytes.now
          c.loop-rest.rest.now c.loop-rest.line c.loop-rest.seen c.loop-rest.first.items c.loop-rest.second.items
          c.loop-rest.invariant c.loop-rest-test.ensures,
      omega arith,
    )
