-- A line that is skipped leaves the file's lines to come, and the problem line gives the heading.
use Rattle.ch_read.proofs.Reading.{skip_line, head_line}
use Rattle.ch_read.proofs.sections.split_head.Goals as goal

pub loop-rest-preserved : goal.loop-rest-preserved
loop-rest-preserved c =
    let holds = rw (c.in-Ok-Skipped.field-0-is) at c.in-Ok-Skipped.ensures in
    skip_line c.args.form c.args.bytes.now c.loop-rest.rest.now _ _ c.new.result c.loop-rest.invariant c.split_line.ensures.line
    c.split_line.ensures.less c.new.ensures holds.0 holds.1 holds.2

pub returns-in-Ok-Problem : goal.returns-in-Ok-Problem
returns-in-Ok-Problem c =
    let holds = rw (c.in-Ok-Problem.field-0-is) at c.in-Ok-Problem.ensures in
    head_line c.args.form c.args.bytes.now c.loop-rest.rest.now _ _ c.new.result c.in-Ok-Problem.heading c.loop-rest.invariant
    c.split_line.ensures.line c.split_line.ensures.less c.new.ensures holds.0 holds.1 holds.2
