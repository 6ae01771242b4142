-- The nodes that are judged wait, and are few enough nodes, so judging them gives them other keys alone.
use Rattle.std.proofs.Common.{◌<◌, List, ℕ, sym, ap, subst, length, arith}
use Rattle.std.specs.Prelude.{All}
use Rattle.std.proofs.lemmas.List.Elements.{All-contains}
use Rattle.ch_order.specs.Quick.{HasKey}
use Rattle.ch_order.proofs.QuickSteps.{keyed_within, rekeyed_ranked, under_way_rekeyed}
use Rattle.ch_order.proofs.construction.Construction.rank_stale.Goals as goal

pub rank-requires-clause-nodes : goal.rank-requires-clause-nodes
rank-requires-clause-nodes g c κs within =
    subst (λ (l : List ℕ). All (λ x. x < c.args.self.remaining.nodes) l) (sym c.as_slice.ensures.value)
    (keyed_within c.args.self.waiting _ _ c.requires.under_way.sizes.keys c.in_ok-stale.ensures.keys)

pub rank-requires-clause-count : goal.rank-requires-clause-count
rank-requires-clause-count g c κs within =
    omega (arith, ap length c.as_slice.ensures.value, c.in_ok-stale.ensures.count, c.requires.count)

pub returns : goal.returns
returns g c =
    let keys = subst (λ (l : List ℕ). All (HasKey c.args.self.waiting) l) (sym c.as_slice.ensures.value) c.in_ok-stale.ensures.keys in
    let r = c.in_ok-ranked.ensures in
    under_way_rekeyed _ _ _ _ c.requires.under_way _ r.sizes r.nodes
    (rekeyed_ranked _ _ _ _ _ _ (λ x has. All-contains (HasKey c.args.self.waiting) _ x keys has) r.ranked)
    (r.ready c.args.hops.number c.requires.under_way.ready)
