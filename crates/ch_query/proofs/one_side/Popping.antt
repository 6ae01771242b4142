-- The node with the least key leaves the queue.
use Rattle.std.proofs.Common.{◌≡◌, ◌↔◌, IsTrue, ℕ, ◌+◌, ◌<◌, Bool, true, false, not, List, length, Option, Some, None, refl, sym}
use Rattle.std.proofs.Common.{◌∙◌, ap, subst, arith, set, length-set, inl, inr}
use Rattle.std.specs.Ordering.{is_gt, MatchOrdering}
use Rattle.std.specs.declared.cmp.Ordering.{Ordering}
use Rattle.std.specs.declared.cmp.Ordering.TheVariants.{Less, Equal, Greater}
use Rattle.std.proofs.lemmas.Bool.{cases_lt, false≢true}
use Rattle.std.proofs.lemmas.List.{get_or_past}
use Rattle.std.proofs.lemmas.Option.{none-some}
use Rattle.ch_graph.specs.declared.cost.Cost.{Cost}
use Rattle.ch_graph.specs.Cost.{IsAtMost, IsBelow, cost_cmp, cost_at}
use Rattle.ch_graph.proofs.CostOrder.{IsAtMost_refl, IsAtMost_trans, IsAtMost_or_IsBelow, IsBelow-IsAtMost, cost_cmp_tells}
use Rattle.ch_hierarchy.specs.Hierarchy.{LevelsAndLegs, nodes_of}
use Rattle.ch_queue.specs.Queue.{IsLeastEntry}
use Rattle.ch_hierarchy.specs.Ranked.{rank_of}
use Rattle.ch_hierarchy.specs.Side.{rows_of}
use Rattle.ch_query.specs.ByNode.{by_node, costs_of, keys_of, parents_of}
use Rattle.ch_query.specs.declared.question.Question.{Question}
use Rattle.ch_query.specs.declared.sides.search.Search.{Search}
use Rattle.ch_query.specs.Search.{IsLeastKey, IsExpanding, OrNode, count_unsettled}
use Rattle.ch_query.specs.Parents.{AreParents}
use Rattle.ch_query.specs.TwoSided.{LeadsKeys}
use Rattle.ch_query.specs.Underway.{idle_of, count_unsettled_in, IsUnderway, IsExpandingAt}
use Rattle.ch_query.proofs.one_side.ByNode.{by_node-size, by_node-at, by_node-set, by_node-some}
use Rattle.ch_query.proofs.one_side.Steps.{popped, popped_falls}
use Rattle.ch_query.proofs.one_side.Parents.{popped_parents}

-- what the comparison of two costs means if it is not greater
at_most_by : (a b : Cost) (o : Ordering) → MatchOrdering o (IsBelow a b) (a ≡ b) (IsBelow b a) → is_gt o ≡ false → IsAtMost a b
at_most_by a b Less h e = IsBelow-IsAtMost a b h
at_most_by a b Equal h e = subst (IsAtMost a) h (IsAtMost_refl a)
at_most_by a b Greater h e = absurd (false≢true (sym e))

-- the least entry of a queue has the least cost
pub least_key : (queue : List (Option Cost)) (e : Cost × ℕ) → IsLeastEntry cost_cmp queue e → IsLeastKey queue e.1 e.0
least_key queue e l = record { has = l.has; least = λ x d k. at_most_by e.0 d (cost_cmp e.0 d) (cost_cmp_tells e.0 d) (l.least x d k).0 }

-- a node with a key is a node
pub key_within : (queue : List (Option Cost)) (v : ℕ) (c : Cost) → cost_at queue v ≡ Some c → v < length queue
key_within queue v c e =
    elim (cases_lt v (length queue)) [ inl lt ↦ lt | inr ge ↦ absurd (none-some _ (sym (get_or_past queue v None ge) ∙ e)) ]

-- a queue whose least key is at most that of another leads it
leads_by : (first second : List (Option Cost)) (a b : Cost × ℕ) → IsLeastEntry cost_cmp first a → IsLeastEntry cost_cmp second b →
    IsAtMost a.0 b.0 → LeadsKeys first second
leads_by first second a b l k le v d h = (a.1, a.0, l.has, IsAtMost_trans a.0 b.0 d le ((least_key second b k).least v d h))

-- the test of the least keys of two queues says which of them leads
pub leads_as_told : (first second : List (Option Cost)) (a b : Cost × ℕ) → IsLeastEntry cost_cmp first a →
    IsLeastEntry cost_cmp second b → (told : Bool) → IsTrue told ↔ IsBelow b.0 a.0 →
    (not told ≡ true → LeadsKeys first second) × (not told ≡ false → LeadsKeys second first)
leads_as_told first second a b l k true i =
    (λ e. absurd (false≢true e), λ _. leads_by second first b a k l (IsBelow-IsAtMost b.0 a.0 (i.0 refl)))
leads_as_told first second a b l k false i = (
  λ _. elim (IsAtMost_or_IsBelow a.0 b.0) [ inl le ↦ leads_by first second a b l k le | inr less ↦ absurd (false≢true (i.1 less)) ],
  λ e. absurd (false≢true (sym e)),
)

-- the search with this queue in place of its own
abbrev pub with_queue : Search → List (Option Cost) → Search
with_queue x q = record x { queue = q }

-- a rank with a key is a rank
pub key_rank : (H : LevelsAndLegs) (q : Question) (x : Search) (rank : ℕ) (c : Cost) → IsUnderway H q x →
    IsLeastEntry cost_cmp x.queue (c, rank) →
    rank < nodes_of H
key_rank H q x rank c u l = let lt = key_within x.queue rank c l.has in let size = u.sizes.1 in omega arith

-- v is a node of least key, and q is the queue without v
pub record IsPopped (H : LevelsAndLegs) (x : Search) (q : List (Option Cost)) (v : ℕ) (c : Cost) : Type 0 where
  pub key : IsLeastKey (keys_of H x) v c
  pub size : length q ≡ length x.queue
  pub rest : keys_of H (with_queue x q) ≡ set (keys_of H x) v None

-- the node of the rank that leaves the queue is such a node
pub popped_at : (H : LevelsAndLegs) (q : Question) (x : Search) (queue : List (Option Cost)) (v rank : ℕ) (c : Cost) → IsUnderway H q x →
    v < nodes_of H → rank_of H v ≡ rank →
    IsLeastEntry cost_cmp x.queue (c, rank) → queue ≡ set x.queue rank None → IsPopped H x queue v c
popped_at H q x queue v rank c u within at l e = record {
  key = record {
    has = by_node-at H x.queue None None v within ∙ ap (cost_at x.queue) at ∙ l.has;
    least = λ w d known. (least_key x.queue (c, rank) l).least (rank_of H w) d (by_node-some H x.queue w d known).1;
  };
  size = ap length e ∙ length-set x.queue rank None;
  rest = ap (λ r. by_node H r None) (e ∙ ap (λ r. set x.queue r None) (sym at))
      ∙ by_node-set H u.levelled x.queue None None v u.sizes.1 within;
}

-- a search under way whose node of least key leaves the queue
module _ (H : LevelsAndLegs) (q : Question) (x : Search) (queue : List (Option Cost)) (v : ℕ) (c : Cost) (u : IsUnderway H q x)
    (p : IsPopped H x queue v c) where
  -- the node has a key
  within : v < length (keys_of H x)
  within = key_within (keys_of H x) v c p.key.has

  -- the legs of the node are taken next
  pub pop_expands : IsExpandingAt H q (with_queue x queue) v c
  pop_expands = record {
    levelled = u.levelled;
    sizes = (u.sizes.0, p.size ∙ u.sizes.1, u.sizes.2);
    within = (let a = within in let b = by_node-size H x.queue None in omega arith);
    search = subst (λ r. IsExpanding q.most (rows_of H q.side) q.source (OrNode (idle_of H q) v) (costs_of H x) r v c) (sym p.rest)
        (popped _ _ _ _ _ u.search v c p.key.has p.key.least within);
    parents = subst (λ r. AreParents q.most (rows_of H q.side) q.source (OrNode (idle_of H q) v) (costs_of H x) r (parents_of H x))
        (sym p.rest)
        (popped_parents _ _ _ _ _ _ u.search u.parents v c p.key.has p.key.least within);
    touched = u.touched;
  }

  -- one node fewer is unsettled
  pub pop_falls : count_unsettled_in H (with_queue x queue) + 1 ≡ count_unsettled_in H x
  pop_falls = ap (λ r. count_unsettled (costs_of H x) r + 1) p.rest ∙ popped_falls _ _ _ _ _ u.search v c p.key.has p.key.least within
