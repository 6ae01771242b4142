-- The trees of both sides are those of the engine's network, and no tree is by node yet.
use Rattle.std.proofs.Common.{◌∙◌, ap, subst}
use Rattle.std.proofs.lemmas.Option.{none-some}
use Rattle.ch_hierarchy.specs.Hierarchy.{LevelsAndLegs}
use Rattle.ch_hierarchy.specs.declared.side.Side.TheVariants.{Up, Down}
use Rattle.ch_engine.specs.Held.{Held}
use Rattle.ch_engine.specs.Lines.{Lines}
use Rattle.ch_engine.specs.PlaceTrees.{AreNodeTrees}
use Rattle.ch_engine.proofs.engine.Engine.pair_trees.Goals as goal

pub returns-clause-trees : goal.returns-clause-trees
returns-clause-trees c =
    let values = c.args.kept.now.values.items in
    let same = ap (λ (h : Held). (h.hierarchy, h.lines)) c.self.view_is in
    record {
      up = subst (λ (n : LevelsAndLegs × Lines). AreNodeTrees Up n.0 n.1 values c.in-Ok-node_trees.ups) (c.deref.ensures ∙ same)
          c.in-Ok-node_trees.ensures.trees;
      down = subst (λ (n : LevelsAndLegs × Lines). AreNodeTrees Down n.0 n.1 values c.in-Ok-node_trees-2.downs) (c.deref-2.ensures ∙ same)
          c.in-Ok-node_trees-2.ensures.trees;
      noted = λ s is. absurd (none-some s is);
    }
