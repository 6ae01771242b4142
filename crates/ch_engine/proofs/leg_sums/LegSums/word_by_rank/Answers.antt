-- The leg at the rank of a node is the leg at the node.
use Rattle.ch_engine.specs.LegSums.{leg_on}
use Rattle.ch_engine.proofs.LegSums.{leg_in, leg_of_rank}
use Rattle.ch_hierarchy.specs.Rows.{row as the_row_of}
use Rattle.ch_hierarchy.specs.Side.{rows_of}
use Rattle.std.proofs.Common.{sym, ◌∙◌}
use Rattle.ch_engine.proofs.leg_sums.LegSums.word_by_rank.Goals as goal

pub returns-in-Some : goal.returns-in-Some
returns-in-Some c = λ lines values sums known.
    let H = c.args.hierarchy.now in
    let legs = the_row_of (rows_of H c.args.side) c.args.node in
    let place = c.in-Some.place in
    let at = leg_of_rank H c.ranked_legs-legs.ensures.levelled c.args.side c.args.node c.args.other c.requires.other
    c.ranked_legs-legs.result.now
    (c.ranked_legs-legs.ensures.row c.args.node c.requires.node (sym c.rank.ensures.rank)) place c.in-Some.ensures.0
    (c.in-Some.ensures.1 ∙ c.rank-2.ensures.rank) in
    (leg_on legs place, leg_in legs place at.0, at.1, c.word.ensures lines values sums at.0 known)
