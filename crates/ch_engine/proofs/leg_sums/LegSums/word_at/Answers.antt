-- The word at the place of a leg is the word of that leg.
use Rattle.std.proofs.Common.{◌≡◌, ◌<◌, List, length, sym, subst}
use Rattle.ch_hierarchy.specs.declared.leg.Leg.{Leg as AnyLeg}
use Rattle.ch_hierarchy.specs.Rows.{IsRow, row as the_row_of}
use Rattle.ch_hierarchy.specs.Side.{rows_of}
use Rattle.ch_query.proofs.routing.Rows.{rows_ordered}
use Rattle.ch_engine.specs.LegSums.{leg_on}
use Rattle.ch_engine.specs.Lines.{node_at}
use Rattle.ch_engine.proofs.LegSums.{leg_in}
use Rattle.ch_engine.proofs.leg_sums.LegSums.word_at.Goals as goal

pub place_in-requires : goal.place_in-requires
place_in-requires c =
    subst IsRow (sym c.legs.ensures.row) (rows_ordered c.args.hierarchy.now c.legs.ensures.levelled c.args.side c.args.node)

pub returns-in-Some : goal.returns-in-Some
returns-in-Some c = λ lines values sums known.
    let legs = the_row_of (rows_of c.args.hierarchy.now c.args.side) c.args.node in
    let place = c.in-Some.place in
    let at : (place < length legs) × (node_at legs place ≡ c.args.other) =
    subst (λ (them : List AnyLeg). (place < length them) × (node_at them place ≡ c.args.other)) c.legs.ensures.row c.in-Some.ensures in
    (leg_on legs place, leg_in legs place at.0, at.1, c.word.ensures lines values sums at.0 known)
