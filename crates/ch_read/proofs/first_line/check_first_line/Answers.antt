-- A line in the plain form has the content or the fault of its item.
use Rattle.ch_read.proofs.PlainLines.{first_line_is, first_line_fails}
use Rattle.ch_read.proofs.first_line.check_first_line.Goals as goal

pub returns-in-Ok : goal.returns-in-Ok
returns-in-Ok c =
    let found = c.in-Some-plain_item.ensures in
    first_line_is c.args.form _ c.args.seen c.in-Some.heading c.args.counts c.of.result _ c.args.bytes.now _ _
    found.0 found.1 c.in-Some.is c.of.ensures c.in-Ok.item _ c.in-Ok.ensures c.line_of.ensures

pub returns-in-Err : goal.returns-in-Err
returns-in-Err c =
    let found = c.in-Some-plain_item.ensures in
    first_line_fails c.args.form _ c.args.seen c.in-Some.heading c.args.counts c.of.result _ c.args.bytes.now _ _
    found.0 found.1 c.in-Some.is c.of.ensures c.in-Err.kind c.in-Err.ensures
