-- The lines of a section, read without a fault after the heading, are a section of the file.
use Rattle.ch_read.specs.Words.{lines}
use Rattle.ch_read.proofs.Reading.{section_read}
use Rattle.ch_read.proofs.sections.SectionReaderListJob.value.Goals as goal

pub returns-in-Ok-clause-value : goal.returns-in-Ok-clause-value
returns-in-Ok-clause-value g c =
    section_read g.A.FromItem.from_item_gives g.B.FromItem.from_item_gives c.args.self.now.form c.args.self.now.heading
    (lines c.args.section.now.now) c.in-Ok.content.lines c.in-Ok.content.seen c.in-Ok.content.first.items c.in-Ok.content.second.items
    c.in-Ok.ensures.0
