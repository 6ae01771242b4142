-- The label of the arc's end changes only to the weight of a lighter walk over this arc.
use Rattle.std.proofs.Common.{◌≡◌, ℕ, ◌+◌, ◌<◌, arith, Some, sym, ◌∙◌, refl}
use Rattle.std.proofs.lemmas.Option.{same_Some}
use Rattle.ch_graph.specs.Relaxing.{weight_at}
use Rattle.ch_graph.proofs.plain.relax.Goals as goal
use Rattle.ch_graph.proofs.plain.relax.Goals.{Joined-best-arc-2, in-Some-best+else-now-sum, in_default-best}

lighter : (c : Joined-best-arc-2) (now : ℕ) → weight_at c.args.best.now c.args.arc.to ≡ Some now →
    c.in-Some.before + c.args.arc.weight < now
lighter c now e = elim c.match-best-arc-2.branch [
  | in-Some-best+else-now-sum w ↦ let same = same_Some _ _ (sym w.in-Some-best.is ∙ e) in let less = w.if-now-sum.false in omega arith
  | in_default-best w ↦ absurd (w.in_default-best.not-Some now e)
]

pub returns-clause-lowered : goal.returns-clause-lowered
returns-clause-lowered c _ = record {
  before = c.in-Some.before;
  from = c.in-Some.is;
  lighter = lighter (goal.at.returns-clause-lowered c).Joined-best-arc-2;
  later = refl;
}
