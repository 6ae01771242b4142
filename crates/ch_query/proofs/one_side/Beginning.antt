-- A search at its beginning: its source is reached, and no other node is.
use Rattle.std.proofs.Common.{◌≡◌, ℕ, ◌<◌, ◌≤◌, length, Some, None, refl, sym, ◌∙◌, ap, subst, arith, set, length-set}
use Rattle.std.specs.Prelude.{is_some}
use Rattle.ch_graph.specs.declared.limits.TheConstants.{MOST_WEIGHT}
use Rattle.ch_graph.specs.Cost.{no_cost, cost_at}
use Rattle.ch_hierarchy.specs.Hierarchy.{LevelsAndLegs, nodes_of, IsLevelled}
use Rattle.ch_query.specs.declared.question.Question.{Question}
use Rattle.ch_query.specs.declared.sides.search.Search.{Search}
use Rattle.ch_query.specs.Questions.{stalling}
use Rattle.ch_query.specs.Search.{IsSearch}
use Rattle.ch_query.specs.Meeting.{IsFresh}
use Rattle.ch_hierarchy.specs.Ranked.{rank_of}
use Rattle.ch_hierarchy.specs.declared.side.Side.TheVariants.{Up}
use Rattle.ch_hierarchy.specs.Side.{rows_of}
use Rattle.ch_query.specs.ByNode.{by_node, costs_of, keys_of}
use Rattle.ch_query.specs.Underway.{idle_of, IsTouched, IsUnderway, IsClean}
use Rattle.ch_query.proofs.one_side.ByNode.{by_node-size, by_node-set, by_node-some}
use Rattle.ch_query.proofs.one_side.Expanding.{rows_size}
use Rattle.ch_query.proofs.one_side.Begun.{never_some, begun_known, begun_fresh as fresh, begun_search}

-- x is clean, and y is x with the source s reached
module _ (H : LevelsAndLegs) (k : IsLevelled H) (x y : Search) (s : ℕ) (clean : IsClean (nodes_of H) x) (within : s < nodes_of H)
    (costs : y.labels.costs ≡ set x.labels.costs (rank_of H s) (Some no_cost)) (queue : y.queue ≡ set x.queue (rank_of H s) (Some no_cost))
    (parents : y.labels.parents ≡ set x.labels.parents (rank_of H s) s) (touched : IsTouched y.labels.costs y.touched) where
  -- at first no node has a cost
  unknown : (w : ℕ) → cost_at (costs_of H x) w ≡ None
  unknown w = never_some _ (λ c is.
      let there = (by_node-some H x.labels.costs w c is).1 in
      let listed = clean.room.touched.listed (rank_of H w) (ap is_some there) in
      let lt = listed.1 in
      let none = clean.nothing in
      omega arith)

  -- at first no node has a key
  keyless : (w : ℕ) → cost_at (keys_of H x) w ≡ None
  keyless w = never_some _ (λ c is. clean.queue (rank_of H w) c (by_node-some H x.queue w c is).1)

  -- the costs by node after the source was reached
  costs_then : costs_of H y ≡ set (costs_of H x) s (Some no_cost)
  costs_then = ap (λ q. by_node H q None) costs ∙ by_node-set H k x.labels.costs None (Some no_cost) s clean.nodes within

  keys_then : keys_of H y ≡ set (keys_of H x) s (Some no_cost)
  keys_then = ap (λ q. by_node H q None) queue ∙ by_node-set H k x.queue None (Some no_cost) s (clean.room.queue ∙ clean.nodes) within

  -- for any question from the source
  module _ (q : Question) (source : q.source ≡ s) (most : q.most ≤ MOST_WEIGHT) where
    -- there are as many costs as rows
    costs_size : length (costs_of H x) ≡ length (rows_of H q.side)
    costs_size = by_node-size H x.labels.costs None ∙ sym (rows_size H k q.side)

    keys_size : length (keys_of H x) ≡ length (rows_of H q.side)
    keys_size = by_node-size H x.queue None ∙ sym (rows_size H k q.side)

    in_rows : s < length (rows_of H q.side)
    in_rows = (let size = rows_size H k q.side in omega arith)

    -- no node is settled
    begun_fresh_for : IsFresh H y
    begun_fresh_for v c settled = fresh q.most (rows_of H q.side) s (idle_of H q) (costs_of H x) (keys_of H x) most costs_size keys_size
        in_rows unknown keyless v c
        (ap (λ r. cost_at r v) (sym costs_then) ∙ settled.0, ap (λ r. cost_at r v) (sym keys_then) ∙ settled.1)

    -- the search is underway
    pub begun_underway : IsUnderway H q y
    begun_underway = record {
      levelled = k;
      sizes = (
        ap length costs ∙ length-set x.labels.costs (rank_of H s) (Some no_cost) ∙ clean.nodes,
        ap length queue ∙ length-set x.queue (rank_of H s) (Some no_cost) ∙ clean.room.queue ∙ clean.nodes,
        ap length parents ∙ length-set x.labels.parents (rank_of H s) s ∙ clean.room.parents ∙ clean.nodes,
      );
      search = subst (λ r. IsSearch q.most (rows_of H q.side) r (idle_of H q) (costs_of H y) (keys_of H y)) (sym source)
          (subst (λ r. IsSearch q.most (rows_of H q.side) s (idle_of H q) (costs_of H y) r) (sym keys_then)
          (subst (λ r. IsSearch q.most (rows_of H q.side) s (idle_of H q) r (set (keys_of H x) s (Some no_cost))) (sym costs_then)
          (begun_search q.most (rows_of H q.side) s (idle_of H q) (costs_of H x) (keys_of H x) most costs_size keys_size in_rows
          unknown keyless)));
      parents = record {
        size = by_node-size H y.labels.parents 0 ∙ sym (by_node-size H y.labels.costs None);
        led = λ v c away e. absurd
            (away ((begun_known q.most (rows_of H q.side) s (idle_of H q) (costs_of H x) (keys_of H x) most costs_size keys_size
            in_rows unknown keyless v c
            (ap (λ r. cost_at r v) (sym costs_then) ∙ e)).0 ∙ sym source));
        first = λ v c settled. absurd (begun_fresh_for v c settled);
      };
      touched = touched;
    }

  -- no node is settled
  pub begun_fresh : IsFresh H y
  begun_fresh = begun_fresh_for (stalling Up s) refl (omega arith)
