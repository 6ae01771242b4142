-- The words of both legs of a middle add up to the sum along the leg.
use Rattle.std.proofs.Common.{sym, subst}
use Rattle.ch_engine.specs.LegSums.{IsLegSum}
use Rattle.ch_engine.proofs.LegSums.{middle_sum}
use Rattle.ch_engine.proofs.leg_sums.LegSums.through.Goals as goal

pub returns : goal.returns
returns c = λ lines values leg sums middle known.
    let H = c.args.hierarchy.now in
    let both = c.joined.ensures known in
    let a = c.word_at-first.ensures lines values sums both.0 in
    let b = c.word_at-second.ensures lines values sums both.1 in
    subst (IsLegSum H lines values c.args.from c.args.to leg) (sym both.2)
    (middle_sum H lines values c.args.from c.args.to c.args.middle leg a.0 b.0 c.word_at-first.result c.word_at-second.result middle
    a.1 a.2 b.1 b.2 a.3 b.3)
