-- The row is shortened over one more of its pairs.
use Rattle.std.proofs.Common.{arith}
use Rattle.ch_custom.specs.declared.leg_pair.LegPair.{LegPair}
use Rattle.ch_custom.proofs.theory.ExactRows.{all_more}
use Rattle.ch_custom.proofs.exact.shorten_over_all.Goals as goal

-- the default of an index
abbrev blank : LegPair
blank = record { node = 0; up = record { weight = 0; arcs = 0; middle = 0 }; down = record { weight = 0; arcs = 0; middle = 0 } }

pub loop-place-preserved : goal.loop-place-preserved
loop-place-preserved c =
    all_more c.args.graph.now c.args.node c.args.metric.now c.args.row.now c.requires.ready.sound c.requires.ready.others
    c.loop-place.place blank
    c.loop-place.row c.shorten_over.new.row c.row.result.now c.loop-place.invariant
    (let size = c.loop-place.invariant.short.size in let lt = c.loop-place-test.true in omega arith) c.row.ensures c.shorten_over.ensures
