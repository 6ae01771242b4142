-- Lines without a fault make a whole file if the counts are right at the end, and else the end has the fault.
use Rattle.std.proofs.Common.{arith}
use Rattle.ch_read.proofs.Reading.{error_from_start, fault_at_end, whole_file, counted_by}
use Rattle.ch_read.proofs.reader.read_items.Goals as goal

pub returns-in-Err : goal.returns-in-Err
returns-in-Err g c = error_from_start c.args.form c.args.bytes.now c.in-Err.error c.in-Err.ensures

pub returns-in-Ok-check_end : goal.returns-in-Ok-check_end
returns-in-Ok-check_end g c = (
  whole_file g.A.FromItem.from_item_gives g.B.FromItem.from_item_gives c.args.form c.args.bytes.now c.in-Ok.read.lines c.new.result
      c.in-Ok.read.seen c.in-Ok.read.first.items c.in-Ok.read.second.items
      c.in-Ok.ensures.0 (counted_by _ c.len.result c.len-2.result _ _ c.new.ensures (omega arith) (omega arith))
      c.in-Ok-check_end.heading c.in-Ok-check_end.ensures,
  c.in-Ok.ensures.0.first_is,
  c.in-Ok.ensures.0.second_is,
)

pub returns-in-Err-check_end : goal.returns-in-Err-check_end
returns-in-Err-check_end g c =
    fault_at_end g.A.FromItem.from_item_gives g.B.FromItem.from_item_gives c.args.form c.args.bytes.now c.in-Ok.read.lines
    c.new.result c.in-Ok.read.seen c.in-Ok.read.first.items c.in-Ok.read.second.items
    c.in-Ok.ensures.0 (counted_by _ c.len.result c.len-2.result _ _ c.new.ensures (omega arith) (omega arith))
    c.in-Err-check_end.kind c.in-Err-check_end.ensures
