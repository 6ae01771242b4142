-- The lists have the ancestors of the two nodes.
use Rattle.std.proofs.Common.{◌+◌, sym, subst}
use Rattle.ch_hierarchy.specs.declared.side.Side.TheVariants.{Up, Down}
use Rattle.ch_query.specs.Climbs.{AreAncestors}
use Rattle.ch_tree.specs.Ancestors.{AreRanksAbove}
use Rattle.ch_tree.proofs.theory.Ancestors.{tree_ancestors}
use Rattle.ch_tree.proofs.routes.route.Goals as goal

pub route_by_ancestors-requires-clause-ups : goal.route_by_ancestors-requires-clause-ups
route_by_ancestors-requires-clause-ups c =
    let parents = c.args.parents.now in
    subst (AreAncestors c.args.hierarchy.now Up c.args.start) (sym c.as_slice-first.ensures.value)
    (tree_ancestors c.args.hierarchy.now c.rank.ensures.levelled Up parents c.requires.tree c.args.start c.requires.start
    c.in_ok-ups.ups.items (subst (λ q. AreRanksAbove parents (q + 1) c.in_ok-ups.ups.items) c.rank.ensures.rank c.in_ok-ups.ensures))

pub route_by_ancestors-requires-clause-downs : goal.route_by_ancestors-requires-clause-downs
route_by_ancestors-requires-clause-downs c =
    let parents = c.args.parents.now in
    subst (AreAncestors c.args.hierarchy.now Down c.args.end) (sym c.as_slice-second.ensures.value)
    (tree_ancestors c.args.hierarchy.now c.rank.ensures.levelled Down parents c.requires.tree c.args.end c.requires.end
    c.in_ok-downs.downs.items (subst (λ q. AreRanksAbove parents (q + 1) c.in_ok-downs.downs.items) c.rank-2.ensures.rank
    c.in_ok-downs.ensures))
