-- A leg leads there within the bound exactly if there is one and its cost is not above the bound.
use Rattle.std.proofs.Common.{subst}
use Rattle.std.proofs.lemmas.Bool.{false≢true}
use Rattle.ch_query.specs.Checking.{IsLegCost}
use Rattle.ch_query.proofs.faults.LegCosts.{within_some, within_none}
use Rattle.ch_query.proofs.checking.leg_costs.is_leg_within.Goals as goal

pub returns-in-Some-clause-within : goal.returns-in-Some-clause-within
returns-in-Some-clause-within c =
    within_some c.args.hierarchy.now c.args.start c.args.end c.args.most c.in-Some.cost c.is_below.result
    (subst (IsLegCost c.args.hierarchy.now c.args.start c.args.end) c.in-Some.is c.leg_cost.ensures.cost) c.is_below.ensures

pub returns-in-None-clause-within : goal.returns-in-None-clause-within
returns-in-None-clause-within c = (
  λ no. absurd (false≢true no),
  λ h. absurd (within_none c.args.hierarchy.now c.args.start c.args.end c.args.most
      (subst (IsLegCost c.args.hierarchy.now c.args.start c.args.end) c.in-None.is c.leg_cost.ensures.cost) h),
)
