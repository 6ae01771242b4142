-- The words of the cells are made of the least sums of the source's search space and the buckets.
use Rattle.std.proofs.Common.{◌≡◌, ◌<◌, ◌≤◌, ◌++◌, ℕ, List, [], get_or, length, map, replicate, All, ap, sym, subst, ◌∙◌}
use Rattle.std.specs.Vec.{with_items}
use Rattle.std.proofs.lemmas.List.{length-replicate, with_items_is}
use Rattle.std.proofs.lemmas.Result.{on_ok_weaker}
use Rattle.ch_graph.specs.declared.cost.TheConstants.{UNREACHED}
use Rattle.ch_graph.specs.declared.limits.TheConstants.{MOST_WEIGHT}
use Rattle.ch_hierarchy.specs.Hierarchy.{nodes_of}
use Rattle.ch_hierarchy.specs.declared.side.Side.{Side}
use Rattle.ch_hierarchy.specs.declared.side.Side.TheVariants.{Up}
use Rattle.ch_query.specs.Lowered.{AreLowered}
use Rattle.ch_query.specs.SearchSpace.{IsRankedSpace}
use Rattle.ch_engine.specs.Tables.{IsEntryAmong, IsSumBy, cell_word}
use Rattle.ch_engine.proofs.TableWords.{row_is}
use Rattle.ch_engine.proofs.network.Network.push_row.Goals as goal

pub lower_row-requires-clause-space : goal.lower_row-requires-clause-space
lower_row-requires-clause-space c = λ k d low.
    let among = subst (All (λ (e : ℕ × ℕ). (e.0 < nodes_of c.args.self.now.0) × (e.1 ≤ MOST_WEIGHT))) (sym c.deref.ensures.value)
    c.in_ok-space.ensures.among in
    (among k d low).1

pub lower_row-requires-clause-buckets : goal.lower_row-requires-clause-buckets
lower_row-requires-clause-buckets c = λ i.
    let size : length c.in_ok-row.row.items ≡ length c.args.buckets.now.targets.now =
    ap length c.in_ok-row.ensures ∙ length-replicate (length c.args.buckets.now.targets.now) UNREACHED in
    subst (λ (n : ℕ). All (IsEntryAmong n) (get_or c.args.buckets.now.rows i []))
    (sym (ap length c.as_mut_slice.ensures.value ∙ size)) (c.requires.spaces.among i)

pub returns-clause-row : goal.returns-clause-row
returns-clause-row c =
    let v = c.args.self.now in
    let limit = c.args.start.within in
    let targets = c.args.buckets.now.targets.now in
    let s = c.args.start.source in
    let names = c.args.buckets.now.slots.now.names in
    let rows = c.args.buckets.now.rows in
    let row = c.in_ok-row.row in
    let new = c.lower_row.new.row in
    let space = c.deref.result.now in
    let most = c.most_sum.result in
    let up = subst (IsRankedSpace v.0 Up limit s) (sym c.deref.ensures.value)
    (subst (λ (side : Side). IsRankedSpace v.0 side limit s c.in_ok-space.space.items) c.requires.side c.in_ok-space.ensures.space) in
    let lent : c.as_mut_slice.result.now ≡ row.items = c.as_mut_slice.ensures.value in
    let lowered : AreLowered (IsSumBy names rows space) (replicate (length targets) UNREACHED) new =
    subst (λ (l : List ℕ). AreLowered (IsSumBy names rows space) l new) (lent ∙ c.in_ok-row.ensures) c.lower_row.ensures in
    let written : (with_items row new).items ≡ new =
    with_items_is row new (c.lower_row.ensures.size ∙ ap length lent ∙ sym row.ok.0) in
    let whole : c.deref-2.result.now ≡ new = c.deref-2.ensures.value ∙ written in
    on_ok_weaker _ (λ (is : c.push_cells.new.words.items ≡ c.args.words.now.items ++ map (cell_word most) c.deref-2.result.now). (
      map (cell_word most) new,
      is ∙ ap (λ (l : List ℕ). c.args.words.now.items ++ map (cell_word most) l) whole,
      row_is v.0 c.space.ensures.kept limit targets names rows c.requires.spaces s space up new lowered most c.most_sum.ensures,
    )) c.push_cells.ensures
