-- The middle of a shortcut is a node with both of its legs in its rows.
use Rattle.ch_query.proofs.routing.PendingLegs.{middle_within, first_has, second_has}
use Rattle.ch_query.proofs.routes.unpacking.split.Goals as goal

pub down-requires : goal.down-requires
down-requires c = middle_within c.args.hierarchy.now c.requires.kept c.args.leg c.args.middle c.requires.leg c.requires.middle

pub leg_at-first-requires : goal.leg_at-first-requires
leg_at-first-requires c = first_has c.args.hierarchy.now c.requires.kept c.args.leg c.args.middle c.requires.leg c.requires.middle
    c.down.result.now c.down.ensures.row

pub leg_at-second-requires : goal.leg_at-second-requires
leg_at-second-requires c = second_has c.args.hierarchy.now c.requires.kept c.args.leg c.args.middle c.requires.leg c.requires.middle
    c.up.result.now c.up.ensures.row
