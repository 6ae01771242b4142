-- The entries of the search are a search space, whose ranks and weights are those of nodes and paths.
use Rattle.std.proofs.Common.{◌<◌, ◌≤◌, length, sym, subst}
use Rattle.std.specs.Prelude.{All}
use Rattle.std.proofs.lemmas.Result.{on_ok_weaker}
use Rattle.ch_graph.specs.declared.limits.TheConstants.{MOST_WEIGHT}
use Rattle.ch_query.specs.Lowered.{AreLowered, IsSumOver}
use Rattle.ch_query.proofs.by_weight.LoweredWords.{space_among}
use Rattle.ch_query.proofs.weights.lowering.lower_by_search.Goals as goal

pub lower_by_space-requires-clause-space : goal.lower_by_space-requires-clause-space
lower_by_space-requires-clause-space g c =
    let a = c.args in
    let space = c.gather.new.found.items in
    subst (All (λ entry. (entry.0 < length a.buckets.now) × (entry.1 ≤ MOST_WEIGHT))) (sym c.deref.ensures.value)
    (subst (λ n. All (λ entry. (entry.0 < n) × (entry.1 ≤ MOST_WEIGHT)) space) (sym c.requires.ranks)
    (space_among a.hierarchy.now c.requires.kept.2.levelled a.start.side a.start.within a.start.source space c.in_ok-gather.ensures.space))

pub returns-clause-lowered : goal.returns-clause-lowered
returns-clause-lowered g c =
    let a = c.args in
    let words = g.L.Lowering.words in
    let sums = g.L.Lowering.sums a.lowering.now in
    on_ok_weaker c.lower_by_space.result
    (λ lowered. (
      c.gather.new.found.items,
      c.in_ok-gather.ensures.space,
      subst (λ l. AreLowered (IsSumOver sums l a.buckets.now) (words a.row.now) (words c.lower_by_space.new.row)) c.deref.ensures.value
          lowered,
    )) c.lower_by_space.ensures
