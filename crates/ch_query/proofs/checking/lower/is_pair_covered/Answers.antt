-- A leg within the bound is a way up and down within it.
use Rattle.std.proofs.Common.{refl}
use Rattle.ch_query.proofs.faults.Pairs.{leg_covers}
use Rattle.ch_query.proofs.checking.lower.is_pair_covered.Goals as goal

pub returns-then-is_leg_within-clause-covered : goal.returns-then-is_leg_within-clause-covered
returns-then-is_leg_within-clause-covered c = (
  λ _. leg_covers c.args.hierarchy.now c.if-is_leg_within.ensures.levelled c.args.start c.args.end c.args.most
      (c.if-is_leg_within.ensures.within.0 refl),
  λ _. refl,
)
