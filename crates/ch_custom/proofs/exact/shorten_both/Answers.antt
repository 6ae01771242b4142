-- The other pair is seen from its higher node.
use Rattle.std.proofs.Common.{refl, sym, subst}
use Rattle.ch_custom.specs.LegPairs.{AreHeld}
use Rattle.ch_custom.specs.declared.leg_pair.LegPair.{LegPair}
use Rattle.ch_custom.proofs.theory.ExactRows.{turned_ready, both_lowered}
use Rattle.ch_custom.proofs.exact.shorten_both.Goals as goal

-- the default of an index
abbrev blank : LegPair
blank = record { node = 0; up = record { weight = 0; arcs = 0; middle = 0 }; down = record { weight = 0; arcs = 0; middle = 0 } }

pub shorten-requires-2-clause-second : goal.shorten-requires-2-clause-second
shorten-requires-2-clause-second c =
    subst AreHeld (sym c.turned.ensures) (turned_ready c.args.between.now c.requires.between)

pub returns : goal.returns
returns c =
    both_lowered c.args.nodes c.args.between.now c.args.near c.args.far blank c.args.row.now _ c.shorten.new.pair c.shorten-2.new.pair
    c.requires.near c.requires.far c.requires.apart c.shorten.ensures.node c.shorten-2.ensures.node c.shorten.ensures.legs
    c.turned.result c.turned.ensures c.shorten-2.ensures.legs c.shorten.ensures.held c.shorten-2.ensures.held c.requires.row refl
