-- Once each node is contracted, the levels and the rows that were kept make a levelled hierarchy.
use Rattle.std.proofs.Common.{refl}
use Rattle.ch_order.proofs.ConstructionCalls.{all_rows}
use Rattle.ch_order.proofs.construction.Construction.finish.Goals as goal

pub from_rows-requires : goal.from_rows-requires
from_rows-requires c = c.requires.levelled _ (all_rows c.args.self _ c.requires.sizes refl c.in_ok-ups.ensures.up c.in_ok-ups.ensures.down)
