-- One side of two searches settles a node.
use Rattle.std.proofs.Common.{◌≡◌, ℕ, ◌<◌, ◌≤◌, get_or, List, length, map, Option, Some, None, refl, sym, ◌∙◌, ap, subst, arith}
use Rattle.std.proofs.Common.{inl, inr}
use Rattle.std.proofs.lemmas.List.{get_or-map, length-map}
use Rattle.std.proofs.lemmas.List.Elements.{Contains-get_or}
use Rattle.std.proofs.lemmas.Option.{same_Some, none-some}
use Rattle.ch_graph.specs.declared.limits.TheConstants.{MOST_WEIGHT, MOST_PATH_ARCS}
use Rattle.ch_graph.specs.declared.cost.Cost.{Cost}
use Rattle.ch_graph.specs.Cost.{IsAtMost, cost_sum, cost_at}
use Rattle.ch_hierarchy.specs.Hierarchy.{LevelsAndLegs, IsLevelled}
use Rattle.ch_hierarchy.specs.Rows.{row}
use Rattle.ch_hierarchy.specs.declared.ranked.RankedLeg.{RankedLeg}
use Rattle.ch_hierarchy.specs.declared.side.Side.{Side}
use Rattle.ch_hierarchy.proofs.theory.NoLeg.{no_leg}
use Rattle.ch_graph.proofs.CostOrder.{IsAtMost_refl, IsAtMost_trans, IsAtMost_antisymm}
use Rattle.ch_hierarchy.specs.Ranked.{rank_of, ranked_leg}
use Rattle.ch_hierarchy.specs.Side.{rows_of}
use Rattle.ch_hierarchy.proofs.code.Ranked.{rank_below}
use Rattle.ch_query.specs.ByNode.{IsSomeRank, costs_of, keys_of}
use Rattle.ch_query.specs.declared.question.Question.{Question}
use Rattle.ch_query.specs.declared.sides.search.Search.{Search}
use Rattle.ch_query.specs.Search.{IsSettled, IsUpwardCost}
use Rattle.ch_query.specs.TwoSided.{MeetsFirst, IsSeen, LeadsKeys, IsPast}
use Rattle.ch_query.specs.Underway.{IsUnderway, KeepsSettled}
use Rattle.ch_query.specs.Meeting.{IsLeastAfter, IsFoundBy, IsFresh, AreMeeting}
use Rattle.ch_graph.proofs.CostSums.{cost_sum_comm}
use Rattle.ch_query.proofs.one_side.ByNode.{by_node-at, by_node-some}
use Rattle.ch_query.proofs.one_side.Steps.{popped_settled}
use Rattle.ch_query.proofs.one_side.Expanding.{leg_up, reached_arcs}
use Rattle.ch_query.proofs.one_side.PathLaws.{below_then}
use Rattle.ch_query.proofs.one_side.Popping.{IsPopped, with_queue, key_within}

-- coming first is transitive
pub first_trans : (a b c : Cost × ℕ) → MeetsFirst a b → MeetsFirst b c → MeetsFirst a c
first_trans a b c h k = (
  IsAtMost_trans a.0 b.0 c.0 h.0 k.0,
  λ same.
      let back : IsAtMost b.0 a.0 = subst (IsAtMost b.0) (sym same) k.0 in
      let ab = IsAtMost_antisymm a.0 b.0 h.0 back in
      let i = h.1 ab in
      let j = k.1 (sym ab ∙ same) in
      omega arith,
)

-- the two sides can be exchanged
pub swapped : (H : LevelsAndLegs) (q r : Question) (x y : Search) (least : Option (Cost × ℕ)) → AreMeeting H q r x y least →
    AreMeeting H r q y x least
swapped H q r x y least m = record {
  here = m.there;
  there = m.here;
  seen = λ v a b h k. let e = m.seen v b a k h in (e.0, e.1, subst (λ sum. MeetsFirst e.0 (sum, v)) (cost_sum_comm b a) e.2);
  found = λ e is. let f = m.found e is in (f.1, f.0, f.3, f.2, cost_sum_comm f.1 f.0 ∙ f.4);
}

-- if the queue that leads is past the least sum, so is the other
past_both : (first second : List (Option Cost)) (least : Option (Cost × ℕ)) → LeadsKeys first second → IsPast first least →
    IsPast second least
past_both first second least leads past v d k =
    let l = leads v d k in let p = past l.0 l.1 l.2 in (p.0, p.1, below_then p.0.0 l.1 d p.2 l.3)

-- if the side that leads stops, both sides are past the least sum
pub both_stopped : (x x' y : Search) (least least' : Option (Cost × ℕ)) → LeadsKeys x.queue y.queue →
    (x' ≡ x) × (least' ≡ least) × IsPast x.queue least → IsPast x'.queue least' × IsPast y.queue least'
both_stopped x x' y least least' leads s =
    let past : IsPast x.queue least' = subst (IsPast x.queue) (sym s.1) s.2 in
    (subst (λ (z : Search). IsPast z.queue least') (sym s.0) past, past_both x.queue y.queue least' leads past)

-- a queue that is past the least sum by rank is past it by node
pub past_by_node : (H : LevelsAndLegs) (x : Search) (least : Option (Cost × ℕ)) → IsPast x.queue least → IsPast (keys_of H x) least
past_by_node H x least past v d e = past (rank_of H v) d (by_node-some H x.queue v d e).1

-- the new sum is at most the old one
pub sum_keeps : (o : Option Cost) (v : ℕ) (c : Cost) (least least' : Option (Cost × ℕ)) → IsLeastAfter o v c least least' →
    (d : Cost × ℕ) → least ≡ Some d → (f : Cost × ℕ) × (least' ≡ Some f) × MeetsFirst f d
sum_keeps None v c least least' is d e = (d, is ∙ e, (IsAtMost_refl d.0, λ _. omega arith))
sum_keeps (Some b) v c least least' is d e = is.covers_old d e

-- the new sum is at most the sum at v
pub sum_gains : (o : Option Cost) (v : ℕ) (c : Cost) (least least' : Option (Cost × ℕ)) → IsLeastAfter o v c least least' →
    (b : Cost) → o ≡ Some b → (f : Cost × ℕ) × (least' ≡ Some f) × MeetsFirst f (cost_sum c b, v)
sum_gains None v c least least' is b e = absurd (none-some _ e)
sum_gains (Some d) v c least least' is b e =
    subst (λ r. (f : Cost × ℕ) × (least' ≡ Some f) × MeetsFirst f (cost_sum c r, v)) (same_Some _ _ e) is.covers_new

-- both sides have reached v, and the sum there counts
module _ (H : LevelsAndLegs) (q r : Question) (x y : Search) (here : IsUnderway H q x) (there : IsUnderway H r y) (v : ℕ) (c : Cost)
    (known : cost_at (costs_of H x) v ≡ Some c) (least least' : Option (Cost × ℕ)) where
  -- the new sum is the sum of two paths
  found_at : (o : Option Cost) → cost_at (costs_of H y) v ≡ o → IsFoundBy H q r least → IsLeastAfter o v c least least' →
      IsFoundBy H q r least'
  found_at None at found is f e = found f (sym is ∙ e)
  found_at (Some d) at found is f e = elim is.chosen [
    | inl new ↦
        let same : (cost_sum c d, v) ≡ f = same_Some _ _ (sym new ∙ e) in
        subst (λ (n : Cost × ℕ). (a b : Cost) × IsUpwardCost (rows_of H q.side) q.source n.1 a
        × IsUpwardCost (rows_of H r.side) r.source n.1 b × (cost_sum a b ≡ n.0)) same
        (c, d, here.search.sound v c known, there.search.sound v d at, refl)
    | inr old ↦ found f (sym old ∙ e)
  ]

  pub sum_found : IsFoundBy H q r least → IsLeastAfter (cost_at (costs_of H y) v) v c least least' → IsFoundBy H q r least'
  sum_found = found_at _ refl

-- the searches are still meeting after the sum at a reached node counts
pub met_too : (H : LevelsAndLegs) (q r : Question) (x y : Search) (least : Option (Cost × ℕ)) → AreMeeting H q r x y least →
    (v : ℕ) (c : Cost) → cost_at (costs_of H x) v ≡ Some c → (least' : Option (Cost × ℕ)) →
    IsLeastAfter (cost_at (costs_of H y) v) v c least least' → AreMeeting H q r x y least'
met_too H q r x y least m v c known least' met = record {
  here = m.here;
  there = m.there;
  seen = λ w a b h k.
      let old = m.seen w a b h k in
      let new = sum_keeps _ v c least least' met old.0 old.1 in
      (new.0, new.1, first_trans new.0 old.0 (cost_sum a b, w) new.2 old.2);
  found = sum_found H q r x y m.here m.there v c known least least' m.found met;
}

-- two searches that have begun are meeting, and no sum is known
pub begun_meeting : (H : LevelsAndLegs) (q r : Question) (x y : Search) → IsUnderway H q x → IsUnderway H r y → IsFresh H x →
    AreMeeting H q r x y None
begun_meeting H q r x y here there fresh = record {
  here = here;
  there = there;
  seen = λ v a b settled _. absurd (fresh v a settled);
  found = λ e is. absurd (none-some e is);
}

-- one side settles v at cost c
module _ (H : LevelsAndLegs) (q r : Question) (x y : Search) (least : Option (Cost × ℕ)) (m : AreMeeting H q r x y least)
    (queue : List (Option Cost)) (v : ℕ) (c : Cost) (p : IsPopped H x queue v c)
    (least' : Option (Cost × ℕ)) (met : IsLeastAfter (cost_at (costs_of H y) v) v c least least') where
  -- the new sum is at most that of each node that both sides have settled
  seen : IsSeen (costs_of H x) (keys_of H (with_queue x queue)) (costs_of H y) (keys_of H y) least'
  seen w a b h k = elim (popped_settled _ _ _ _ _ m.here.search v c p.key.has p.key.least (key_within (keys_of H x) v c p.key.has) w a
      (subst (λ keys. IsSettled (costs_of H x) keys w a) p.rest h)) [
        | inl was ↦
            let old = m.seen w a b was k in
            let new = sum_keeps _ v c least least' met old.0 old.1 in
            (new.0, new.1, first_trans new.0 old.0 (cost_sum a b, w) new.2 old.2)
        | inr is ↦
            let sum = sum_gains _ v c least least' met b (ap (cost_at (costs_of H y)) (sym is.0) ∙ k.0) in (
              sum.0,
              sum.1,
              subst (λ n. MeetsFirst sum.0 (cost_sum a b, n)) (sym is.0)
                  (subst (λ d. MeetsFirst sum.0 (cost_sum d b, v)) (sym is.1) sum.2),
            )
      ]

  -- after the node's legs were taken, or it stayed idle, the searches are still meeting
  pub met_then : (z : Search) → IsUnderway H q z → KeepsSettled H (with_queue x queue) z → AreMeeting H q r z y least'
  met_then z u settled = record {
    here = u;
    there = m.there;
    seen = λ w a b h k. seen w a b (settled w a h) k;
    found = sum_found H q r x y m.here m.there v c (m.here.search.queued v c p.key.has) least least' m.found met;
  }

-- a known cost is within the limits
pub known_arcs : (H : LevelsAndLegs) (q : Question) (x : Search) (v : ℕ) (c : Cost) → IsUnderway H q x → cost_at (costs_of H x) v ≡ Some c →
    (c.weight ≤ MOST_WEIGHT) × (c.arcs ≤ MOST_PATH_ARCS)
known_arcs H q x v c u known = let r = u.search.sound v c known in (r.weight, reached_arcs H u.levelled q.side q.source v c r)

-- a rank is below the length of a search's lists
pub rank_in_labels : (H : LevelsAndLegs) (q : Question) (x : Search) (rank : ℕ) → IsUnderway H q x → IsSomeRank H rank →
    rank < length x.labels.costs
rank_in_labels H q x rank u r = let within = rank_below H u.levelled r.0 r.1 in let is = r.2 in let size = u.sizes.0 in omega arith

-- a cost at a rank is the known cost of its node
pub known_at : (H : LevelsAndLegs) (x : Search) (rank : ℕ) (c : Cost) (r : IsSomeRank H rank) → cost_at x.labels.costs rank ≡ Some c →
    cost_at (costs_of H x) r.0 ≡ Some c
known_at H x rank c r known = by_node-at H x.labels.costs None None r.0 r.1 ∙ ap (cost_at x.labels.costs) (sym r.2) ∙ known

-- the node of the leg of v at place i has the rank that is read
pub own_rank : (H : LevelsAndLegs) → IsLevelled H → (side : Side) (v : ℕ) (items : List RankedLeg) (i : ℕ) (d : RankedLeg) →
    items ≡ map (ranked_leg H) (row (rows_of H side) v) → i < length items → IsSomeRank H (get_or items i d).rank
own_rank H k side v items i d e lt =
    let legs = row (rows_of H side) v in
    let size = ap length e ∙ length-map legs (ranked_leg H) in
    let low : i < length legs = omega arith in
    let leg = get_or legs i no_leg in (
      leg.node,
      (leg_up H k side v leg (Contains-get_or legs i no_leg low)).node,
      ap (λ (r : RankedLeg). r.rank) (ap (λ r. get_or r i d) e ∙ get_or-map (ranked_leg H) legs i no_leg d low),
    )
