-- The trees have the sums for these values.
use Rattle.std.proofs.Common.{◌≡◌, List, ℕ, ap, ◌∙◌, subst}
use Rattle.std.specs.Prelude.{MatchOption, ⊤}
use Rattle.ch_engine.specs.Held.{Held}
use Rattle.ch_engine.specs.LegSums.{values_of}
use Rattle.ch_engine.specs.PlaceTrees.{ArePairTrees}
use Rattle.ch_engine.proofs.engine.Engine.trees_for.Goals as goal

pub returns-clause-trees : goal.returns-clause-trees
returns-clause-trees c =
    let self = c.sums_for.new.self in
    let found = c.pair_trees.result in
    let list : values_of c.deref-2.result.now ≡ c.args.values.now = ap values_of c.deref-2.ensures ∙ c.in-Ok-sums_for.ensures.values in
    subst (λ (h : Held). MatchOption found ⊤ (ArePairTrees h.hierarchy h.lines c.args.values.now)) c.sums_for.ensures.same
    (subst (λ (v : List ℕ). MatchOption found ⊤ (ArePairTrees self.hierarchy self.lines v)) list c.pair_trees.ensures.trees)
