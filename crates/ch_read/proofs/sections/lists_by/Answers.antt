-- The items of all sections, one after the other, are those of one section with all their lines.
use Rattle.ch_read.proofs.Cuts.{all_sections}
use Rattle.ch_read.proofs.sections.lists_by.Goals as goal

pub returns : goal.returns
returns g c =
    all_sections g.A.FromItem.from_item_gives g.B.FromItem.from_item_gives c.args.form c.args.heading c.args.sections.now
    c.in_ok-read.read.items c.in_ok-read.ensures c.lists_of.result c.lists_of.ensures
