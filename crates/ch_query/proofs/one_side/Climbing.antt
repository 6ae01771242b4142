-- A search without a queue: its beginning, one ancestor, and its end, which is a search with nothing left to settle.
use Rattle.std.proofs.Common.{◌≡◌, ℕ, ◌+◌, ◌^◌, ◌<◌, ◌≤◌, List, [], ◌∷◌, ◌++◌, length, length-set, Contains, take, map, Option, Some, None}
use Rattle.std.proofs.Common.{refl, sym, ◌∙◌, ap, subst, arith, get_or, get_or-set_same, get_or-set_other, set, inl, inr}
use Rattle.std.specs.Prelude.{◌⊎◌, is_some, slice_index}
use Rattle.std.proofs.lemmas.Bool.{cases_eq}
use Rattle.std.proofs.lemmas.List.{take_more, get_or-map, length-map}
use Rattle.std.proofs.lemmas.List.Elements.{Contains-get_or}
use Rattle.std.proofs.lemmas.Option.{none-some, same_Some}
use Rattle.ch_graph.specs.declared.limits.TheConstants.{MOST_WEIGHT}
use Rattle.ch_graph.specs.declared.cost.Cost.{Cost}
use Rattle.ch_graph.specs.Cost.{cost_sum, no_cost, cost_at}
use Rattle.ch_hierarchy.specs.declared.leg.Leg.{Leg}
use Rattle.ch_hierarchy.specs.declared.ranked.RankedLeg.{RankedLeg}
use Rattle.ch_hierarchy.specs.Rows.{row}
use Rattle.ch_hierarchy.specs.declared.side.Side.{Side}
use Rattle.ch_hierarchy.specs.Side.{rows_of}
use Rattle.ch_hierarchy.specs.Hierarchy.{LevelsAndLegs, nodes_of, IsLevelled}
use Rattle.ch_hierarchy.specs.Ranked.{rank_of, ranked_leg}
use Rattle.ch_hierarchy.proofs.code.Ranked.{rank_below, rank_one}
use Rattle.ch_hierarchy.proofs.theory.NoLeg.{no_leg}
use Rattle.ch_query.specs.declared.question.Question.{Question}
use Rattle.ch_query.specs.declared.sides.search.Search.{Search}
use Rattle.ch_query.specs.ByNode.{by_node, costs_of, keys_of, parents_of}
use Rattle.ch_query.specs.Climbs.{AreAncestors, AreMetTo, IsAmong, IsClimbing, IsLedBy, IsPartPass, IsTakingLegs, IsUnqueued, Takes}
use Rattle.ch_query.specs.Meeting.{AreMeeting, IsLeastAfter}
use Rattle.ch_query.specs.Parents.{IsNoEarlier}
use Rattle.ch_query.specs.Questions.{stalling}
use Rattle.ch_query.specs.Search.{IsEmpty, IsRelaxedFrom, IsUpwardCost}
use Rattle.ch_query.specs.TwoSided.{MeetsFirst}
use Rattle.ch_query.specs.Underway.{leg_of_ranked, IsClean, IsSized, IsTouched, IsUnderway}
use Rattle.ch_query.proofs.one_side.Begun.{never_some}
use Rattle.ch_query.proofs.one_side.ByNode.{by_node-size, by_node-at, by_node-set, by_node-some}
use Rattle.ch_query.proofs.one_side.Expanding.{leg_up, level_small, reached_arcs, rows_size}
use Rattle.ch_query.proofs.one_side.Passes.{takes_more}
use Rattle.ch_query.proofs.two_sides.MeetingSteps.{first_trans, sum_found, sum_gains, sum_keeps}

-- among more places
among_more : (H : LevelsAndLegs) (ranks : List ℕ) (k n : ℕ) → k ≤ n → (v : ℕ) → IsAmong H ranks k v → IsAmong H ranks n v
among_more H ranks k n le v a = (a.0, omega (arith, a.1), a.2, a.3)

-- the change of a leg taken by rank, seen by node
module _ (H : LevelsAndLegs) (k : IsLevelled H) (y z : Search) (v : ℕ) (c : Cost) (l : Leg) (sizes : IsSized (nodes_of H) y)
    (within : l.node < nodes_of H) where
  cost_there : cost_at (costs_of H y) l.node ≡ cost_at y.labels.costs (rank_of H l.node)
  cost_there = by_node-at H y.labels.costs None None l.node within

  parent_there : slice_index (parents_of H y) l.node ≡ slice_index y.labels.parents (rank_of H l.node)
  parent_there = by_node-at H y.labels.parents 0 0 l.node within

  parents_then : z.labels.parents ≡ set y.labels.parents (rank_of H l.node) v → parents_of H z ≡ set (parents_of H y) l.node v
  parents_then e = ap (λ q. by_node H q 0) e ∙ by_node-set H k y.labels.parents 0 v l.node sizes.2 within

  pub takes_by_node :
      Takes MOST_WEIGHT y.labels.costs y.labels.parents v c (leg_of_ranked (ranked_leg H l)) z.labels.costs z.labels.parents →
      Takes MOST_WEIGHT (costs_of H y) (parents_of H y) v c l (costs_of H z) (parents_of H z)
  takes_by_node (inl (e, is, inl (early, g))) = inl (
    ap (λ q. by_node H q None) e,
    (λ low. let r = is low in (r.0, cost_there ∙ r.1, r.2)),
    inl ((λ low known. let a = early low (sym cost_there ∙ known) in let b = parent_there in omega arith), ap (λ q. by_node H q 0) g),
  )
  takes_by_node (inl (e, is, inr (equal, lt, g))) = inl (
    ap (λ q. by_node H q None) e,
    (λ low. let r = is low in (r.0, cost_there ∙ r.1, r.2)),
    inr (cost_there ∙ equal, (let b = parent_there in omega arith), parents_then g),
  )
  takes_by_node (inr (light, lower, e, g)) = inr (
    light,
    record {
      within = (let size = by_node-size H y.labels.costs None in omega arith);
      lower = λ d known. lower.lower d (sym cost_there ∙ known);
    },
    ap (λ q. by_node H q None) e ∙ by_node-set H k y.labels.costs None (Some (cost_sum c l.cost)) l.node sizes.0 within,
    parents_then g,
  )

-- taking a leg keeps the lengths of the lists
takes_sizes : (n most : ℕ) (y z : Search) (v : ℕ) (c : Cost) (l : Leg) → IsSized n y → z.queue ≡ y.queue →
    Takes most y.labels.costs y.labels.parents v c l z.labels.costs z.labels.parents → IsSized n z
takes_sizes n most y z v c l s f (inl (e, is, inl (early, g))) = (ap length e ∙ s.0, ap length f ∙ s.1, ap length g ∙ s.2)
takes_sizes n most y z v c l s f (inl (e, is, inr (equal, lt, g))) =
    (ap length e ∙ s.0, ap length f ∙ s.1, ap length g ∙ length-set y.labels.parents l.node v ∙ s.2)
takes_sizes n most y z v c l s f (inr (light, lower, e, g)) = (
  ap length e ∙ length-set y.labels.costs l.node _ ∙ s.0,
  ap length f ∙ s.1,
  ap length g ∙ length-set y.labels.parents l.node v ∙ s.2,
)

-- a cost that is known after a leg was taken was known before, or is that of the leg's node
takes_known : (most : ℕ) (best best' : List (Option Cost)) (parents parents' : List ℕ) (v : ℕ) (c : Cost) (l : Leg) →
    Takes most best parents v c l best' parents' → (x : ℕ) (e : Cost) → cost_at best' x ≡ Some e → (cost_at best x ≡ Some e) ⊎ (x ≡ l.node)
takes_known most best best' parents parents' v c l (inl (same, relaxed, rest)) x e known = inl (sym (ap (λ q. cost_at q x) same) ∙ known)
takes_known most best best' parents parents' v c l (inr (light, lower, is, g)) x e known = elim (cases_eq x l.node) [
  | inl here ↦ inr here
  | inr away ↦ inl (sym (get_or-set_other best l.node x _ None away) ∙ sym (ap (λ q. cost_at q x) is) ∙ known)
]

-- the same way with more nodes whose costs are final
led_more : (rows : List (List Leg)) (F G : ℕ → Type 0) → ((v : ℕ) → F v → G v) → (best : List (Option Cost)) (x : ℕ) (e : Cost) (p : ℕ) →
    IsLedBy rows F best x e p → IsLedBy rows G best x e p
led_more rows F G sub best x e p q =
    record { cost = q.cost; final = sub p q.final; known = q.known; leg = q.leg; has = q.has; node = q.node; sum = q.sum }

-- x is clean, and y is x with the source s reached
module _ (H : LevelsAndLegs) (k : IsLevelled H) (ranks : List ℕ) (x y : Search) (s : ℕ) (clean : IsClean (nodes_of H) x)
    (within : s < nodes_of H) (first : (0 < length ranks) × (slice_index ranks 0 ≡ rank_of H s))
    (costs : y.labels.costs ≡ set x.labels.costs (rank_of H s) (Some no_cost)) (queue : y.queue ≡ x.queue)
    (parents : y.labels.parents ≡ set x.labels.parents (rank_of H s) s) (touched : IsTouched y.labels.costs y.touched) where
  -- at first no node has a cost
  unknown : (w : ℕ) → cost_at (costs_of H x) w ≡ None
  unknown w = never_some _ (λ c is.
      let there = (by_node-some H x.labels.costs w c is).1 in
      let listed = clean.room.touched.listed (rank_of H w) (ap is_some there) in
      let lt = listed.1 in
      let none = clean.nothing in
      omega arith)

  in_costs : s < length (costs_of H x)
  in_costs = let size = by_node-size H x.labels.costs None in omega arith

  costs_then : costs_of H y ≡ set (costs_of H x) s (Some no_cost)
  costs_then = ap (λ q. by_node H q None) costs ∙ by_node-set H k x.labels.costs None (Some no_cost) s clean.nodes within

  -- only the source has a cost
  only_source : (v : ℕ) (c : Cost) → cost_at (costs_of H y) v ≡ Some c → (v ≡ s) × (no_cost ≡ c)
  only_source v c e =
      let now = ap (λ q. cost_at q v) (sym costs_then) ∙ e in
      elim (cases_eq v s) [
        | inl is ↦ (
          is,
          same_Some _ _ (sym (ap (cost_at (set (costs_of H x) s (Some no_cost))) is
              ∙ get_or-set_same (costs_of H x) s (Some no_cost) None in_costs) ∙ now),
        )
        | inr away ↦ absurd (none-some c (sym (get_or-set_other (costs_of H x) s v (Some no_cost) None away ∙ unknown v) ∙ now))
      ]

  pub climb_begins : (side : Side) → IsClimbing H (stalling side s) ranks 0 y
  climb_begins side = record {
    search = record {
      levelled = k;
      sizes = (
        ap length costs ∙ length-set x.labels.costs (rank_of H s) (Some no_cost) ∙ clean.nodes,
        ap length queue ∙ clean.room.queue ∙ clean.nodes,
        ap length parents ∙ length-set x.labels.parents (rank_of H s) s ∙ clean.room.parents ∙ clean.nodes,
      );
      touched = touched;
      queue = subst IsEmpty (sym queue) clean.queue;
      listed = λ v c e. let is = only_source v c e in (0, first.0, first.0, first.1 ∙ ap (rank_of H) (sym is.0));
    };
    pass = record {
      size = by_node-size H y.labels.parents 0 ∙ sym (by_node-size H y.labels.costs None);
      start = ap (λ q. cost_at q s) costs_then ∙ get_or-set_same (costs_of H x) s (Some no_cost) None in_costs;
      sound = λ v c e. let is = only_source v c e in
          subst (λ q. IsUpwardCost (rows_of H side) s v q) is.1 (record { path = ([], sym is.0, refl); weight = omega arith });
      taken = λ v c t known l has. absurd (let lt = t.1 in omega arith);
      led = λ v c ne e. absurd (ne (only_source v c e).0);
    };
  }

module _ (H : LevelsAndLegs) (q : Question) (ranks : List ℕ) (k : ℕ) (x : Search) (p : IsClimbing H q ranks k x) where
  -- more nodes have final costs
  more : (v : ℕ) → IsAmong H ranks k v → IsAmong H ranks (k + 1) v
  more = among_more H ranks k (k + 1) (omega arith)

  -- the next ancestor is not reached
  pub climb_skips : cost_at x.labels.costs (slice_index ranks k) ≡ None → IsClimbing H q ranks (k + 1) x
  climb_skips none = record {
    search = p.search;
    pass = record {
      size = p.pass.size;
      start = p.pass.start;
      sound = p.pass.sound;
      taken = λ v c t e. elim (cases_eq t.0 k) [
        | inl is ↦ absurd (none-some c (sym none ∙ ap (λ r. cost_at x.labels.costs (slice_index ranks r)) (sym is)
            ∙ ap (cost_at x.labels.costs) t.3 ∙ (by_node-some H x.labels.costs v c e).1))
        | inr ne ↦ p.pass.taken v c (t.0, (let lt = t.1 in omega arith), t.2, t.3) e
      ];
      led = λ y e ne at. led_more _ _ _ more _ y e _ (p.pass.led y e ne at);
    };
  }

  -- the next ancestor is v, whose legs are taken from here on
  pub climb_opens : (v : ℕ) (c : Cost) → cost_at (costs_of H x) v ≡ Some c → IsTakingLegs H q ranks k v c [] x
  climb_opens v c known = record {
    search = p.search;
    part = record {
      pass = record {
        size = p.pass.size;
        start = p.pass.start;
        sound = p.pass.sound;
        taken = p.pass.taken;
        led = λ y e ne at. led_more _ _ _ more _ y e _ (p.pass.led y e ne at);
      };
      known = known;
      relaxed = λ l of. absurd (let lt = of.1 in omega arith);
    };
  }

-- the program reads the leg at place i of the legs of v, which is at place k of the ancestors of the source
module _ {H : LevelsAndLegs} {q : Question} {ranks : List ℕ} {y : Search} {k v : ℕ} {c : Cost} {items : List RankedLeg} {i : ℕ}
    (d : RankedLeg) (p : IsTakingLegs H q ranks k v c (take i (row (rows_of H q.side) v)) y)
    (a : AreAncestors H q.side q.source ranks) (place : k < length ranks) (v_low : v < nodes_of H)
    (v_is : slice_index ranks k ≡ rank_of H v)
    (e : items ≡ map (ranked_leg H) (row (rows_of H q.side) v)) (lt : i < length items) where
  -- it is a leg of the row
  low : i < length (row (rows_of H q.side) v)
  low = (let size = ap length e ∙ length-map (row (rows_of H q.side) v) (ranked_leg H) in omega arith)

  here : Leg
  here = get_or (row (rows_of H q.side) v) i no_leg

  has : Contains (row (rows_of H q.side) v) here
  unfolding here
  has = Contains-get_or (row (rows_of H q.side) v) i no_leg low

  -- the leg that is read is that leg by rank
  is : get_or items i d ≡ ranked_leg H here
  unfolding here
  is = ap (λ r. get_or r i d) e ∙ get_or-map (ranked_leg H) (row (rows_of H q.side) v) i no_leg d low

  -- the leg leads to a higher node
  rises : (rank_of H here.node < rank_of H v) × (here.node < nodes_of H) × (here.cost.weight ≤ MOST_WEIGHT)
      × (here.cost.arcs < nodes_of H)
  rises =
      let up = leg_up H p.search.levelled q.side v here has in
      let higher = up.higher in
      let small = level_small H p.search.levelled here.node in
      (omega arith, up.node, up.weight, up.arcs)

  in_labels : rank_of H here.node < length y.labels.costs
  in_labels = let r = rank_below H p.search.levelled here.node rises.1 in let s = p.search.sizes.0 in omega arith

  pub taken_rank : (get_or items i d).rank < length y.labels.costs
  taken_rank = subst (λ (r : RankedLeg). r.rank < length y.labels.costs) (sym is) in_labels

  reached : IsUpwardCost (rows_of H q.side) q.source v c
  reached = p.part.pass.sound v c p.part.known

  pub taken_weights : (c.weight ≤ MOST_WEIGHT) × ((get_or items i d).weight ≤ MOST_WEIGHT)
  taken_weights = (reached.weight, subst (λ (r : RankedLeg). r.weight ≤ MOST_WEIGHT) (sym is) rises.2)

  few : c.arcs + here.cost.arcs < 2 ^ 63
  few =
      let most = reached_arcs H p.search.levelled q.side q.source v c reached in
      let arcs = rises.3 in
      let count = p.search.levelled.count in
      omega arith

  pub taken_arcs : c.arcs + (get_or items i d).arcs < 2 ^ 63
  taken_arcs = subst (λ (r : RankedLeg). c.arcs + r.arcs < 2 ^ 63) (sym is) few

  -- the cost of its node is not final
  unsettled : IsAmong H ranks (k + 1) here.node → ⊥
  unsettled t =
      let rise = rises.0 in
      let at = t.3 in
      elim (cases_eq t.0 k) [
        | inl here_is ↦ (let one = ap (slice_index ranks) here_is in omega arith)
        | inr ne ↦ (let before = t.1 in let fall = a.falls t.0 k (omega arith) place in omega arith)
      ]

  -- the leg is taken
  module _ (z : Search) (queue : z.queue ≡ y.queue)
      (r : Takes MOST_WEIGHT y.labels.costs y.labels.parents v c (leg_of_ranked (get_or items i d)) z.labels.costs z.labels.parents)
      (touched : IsTouched z.labels.costs z.touched) where
    by_rank : Takes MOST_WEIGHT y.labels.costs y.labels.parents v c (leg_of_ranked (ranked_leg H here)) z.labels.costs z.labels.parents
    by_rank = subst (λ leg. Takes MOST_WEIGHT y.labels.costs y.labels.parents v c (leg_of_ranked leg) z.labels.costs z.labels.parents) is r

    takes : Takes MOST_WEIGHT (costs_of H y) (parents_of H y) v c here (costs_of H z) (parents_of H z)
    takes = takes_by_node H p.search.levelled y z v c here p.search.sizes rises.1 by_rank

    part : IsPartPass (rows_of H q.side) q.source (IsAmong H ranks k) (IsAmong H ranks (k + 1)) (costs_of H z) (parents_of H z) v c
        (take i (row (rows_of H q.side) v) ++ here ∷ [])
    part = takes_more (rows_of H q.side) q.source (IsAmong H ranks k) (IsAmong H ranks (k + 1))
        (among_more H ranks k (k + 1) (omega arith)) (costs_of H y) (parents_of H y) v c (k, omega arith, place, v_is)
        (take i (row (rows_of H q.side) v)) p.part here has unsettled
        (let size = by_node-size H y.labels.costs None in let node = rises.1 in omega arith)
        (costs_of H z) (parents_of H z) takes

    pub takes_step : IsTakingLegs H q ranks k v c (take (i + 1) (row (rows_of H q.side) v)) z
    unfolding here
    takes_step = subst (λ legs. IsTakingLegs H q ranks k v c legs z) (sym (take_more (row (rows_of H q.side) v) i no_leg low)) (record {
      search = record {
        levelled = p.search.levelled;
        sizes = takes_sizes (nodes_of H) MOST_WEIGHT y z v c (leg_of_ranked (ranked_leg H here)) p.search.sizes queue by_rank;
        touched = touched;
        queue = subst IsEmpty (sym queue) p.search.queue;
        listed = λ w b known. elim (takes_known MOST_WEIGHT (costs_of H y) (costs_of H z) (parents_of H y) (parents_of H z) v c here takes
            w b known) [
              | inl old ↦ p.search.listed w b old
              | inr at ↦ subst (IsAmong H ranks (length ranks)) (sym at) (a.legs v here v_low (k, place, place, v_is) has)
            ];
      };
      part = part;
    })

-- all legs of v were taken
pub climb_done : (H : LevelsAndLegs) (q : Question) (ranks : List ℕ) (k v : ℕ) (c : Cost) (legs : List Leg) (y : Search) → v < nodes_of H →
    slice_index ranks k ≡ rank_of H v → IsTakingLegs H q ranks k v c legs y → legs ≡ row (rows_of H q.side) v →
    IsClimbing H q ranks (k + 1) y
climb_done H q ranks k v c legs y v_low v_is p e = record {
  search = p.search;
  pass = record {
    size = p.part.pass.size;
    start = p.part.pass.start;
    sound = p.part.pass.sound;
    taken = λ w b t known. elim (cases_eq t.0 k) [
      | inl is ↦
          let w_low = (by_node-some H y.labels.costs w b known).0 in
          let one : v ≡ w = rank_one H p.search.levelled v w v_low w_low (sym v_is ∙ ap (slice_index ranks) (sym is) ∙ t.3) in
          let cost : c ≡ b = same_Some _ _ (sym p.part.known ∙ ap (cost_at (costs_of H y)) one ∙ known) in
          subst (λ n. (l : Leg) → Contains (row (rows_of H q.side) n) l → IsRelaxedFrom MOST_WEIGHT (costs_of H y) b l
          × IsNoEarlier MOST_WEIGHT (costs_of H y) (parents_of H y) n b l) one
          (subst (λ d. (l : Leg) → Contains (row (rows_of H q.side) v) l → IsRelaxedFrom MOST_WEIGHT (costs_of H y) d l
          × IsNoEarlier MOST_WEIGHT (costs_of H y) (parents_of H y) v d l) cost
          (λ l of. p.part.relaxed l (subst (λ xs. Contains xs l) (sym e) of)))
      | inr ne ↦ p.part.pass.taken w b (t.0, (let lt = t.1 in omega arith), t.2, t.3) known
    ];
    led = p.part.pass.led;
  };
}

-- when the legs of all ancestors were taken, nothing is left to settle
pub climb_ends : (H : LevelsAndLegs) (side : Side) (s : ℕ) (ranks : List ℕ) (count : ℕ) (x : Search) → length ranks ≤ count →
    IsClimbing H (stalling side s) ranks count x → IsUnderway H (stalling side s) x
climb_ends H side s ranks count x whole p =
    let u = p.search in
    let all : (v : ℕ) (c : Cost) → cost_at (costs_of H x) v ≡ Some c → IsAmong H ranks count v =
    λ v c e. among_more H ranks (length ranks) count whole v (u.listed v c e) in
    let no_key : (v : ℕ) → cost_at (keys_of H x) v ≡ None =
    λ v. never_some _ (λ c e. u.queue (rank_of H v) c (by_node-some H x.queue v c e).1) in
    record {
      levelled = u.levelled;
      sizes = u.sizes;
      search = record {
        limits = omega arith;
        sizes = (
          by_node-size H x.labels.costs None ∙ sym (rows_size H u.levelled side),
          by_node-size H x.queue None ∙ sym (rows_size H u.levelled side),
        );
        start = p.pass.start;
        sound = p.pass.sound;
        light = λ v c e. (p.pass.sound v c e).weight;
        queued = λ v c e. absurd (none-some c (sym (no_key v) ∙ e));
        order = λ v w c d s e. absurd (none-some d (sym (no_key w) ∙ e));
        frontier = λ v c is. inr (λ l has. (p.pass.taken v c (all v c is.0) is.0 l has).0);
      };
      parents = record {
        size = p.pass.size;
        led = λ y e ne k. let by = p.pass.led y e ne k in record {
          cost = by.cost;
          settled = (by.known, no_key (slice_index (parents_of H x) y));
          leg = by.leg;
          has = by.has;
          node = by.node;
          sum = by.sum;
        };
        first = λ v c is. inr (λ l has. (p.pass.taken v c (all v c is.0) is.0 l has).1);
      };
      touched = u.touched;
    }

-- a step of the sums of two searches
module _ (H : LevelsAndLegs) (q r : Question) (ranks : List ℕ) (k : ℕ) (x y : Search) (least : Option (Cost × ℕ))
    (m : AreMetTo H q r ranks k x y least) where
  -- the first search has not reached the next node
  pub met_skips : cost_at x.labels.costs (slice_index ranks k) ≡ None → AreMetTo H q r ranks (k + 1) x y least
  met_skips none = record {
    seen = λ v a b t here. elim (cases_eq t.0 k) [
      | inl is ↦ absurd (none-some a (sym none ∙ ap (λ i. cost_at x.labels.costs (slice_index ranks i)) (sym is)
          ∙ ap (cost_at x.labels.costs) t.3 ∙ (by_node-some H x.labels.costs v a here).1))
      | inr ne ↦ m.seen v a b (t.0, (let lt = t.1 in omega arith), t.2, t.3) here
    ];
    found = m.found;
  }

  -- the sum of the next node counts
  pub met_more : (k_x : IsUnderway H q x) (k_y : IsUnderway H r y) (v : ℕ) → v < nodes_of H → slice_index ranks k ≡ rank_of H v →
      (c : Cost) → cost_at (costs_of H x) v ≡ Some c → (least' : Option (Cost × ℕ)) →
      IsLeastAfter (cost_at (costs_of H y) v) v c least least' → AreMetTo H q r ranks (k + 1) x y least'
  met_more k_x k_y v v_low v_is c known least' after = record {
    seen = λ w a b t here there. elim (cases_eq t.0 k) [
      | inl is ↦
          let w_low = (by_node-some H x.labels.costs w a here).0 in
          let one : v ≡ w = rank_one H k_x.levelled v w v_low w_low (sym v_is ∙ ap (slice_index ranks) (sym is) ∙ t.3) in
          let cost : c ≡ a = same_Some _ _ (sym known ∙ ap (cost_at (costs_of H x)) one ∙ here) in
          let sum = sum_gains _ v c least least' after b (ap (cost_at (costs_of H y)) one ∙ there) in (
            sum.0,
            sum.1,
            subst (λ n. MeetsFirst sum.0 (cost_sum a b, n)) one (subst (λ d. MeetsFirst sum.0 (cost_sum d b, v)) cost sum.2),
          )
      | inr ne ↦
          let old = m.seen w a b (t.0, (let lt = t.1 in omega arith), t.2, t.3) here there in
          let new = sum_keeps _ v c least least' after old.0 old.1 in
          (new.0, new.1, first_trans new.0 old.0 (cost_sum a b, w) new.2 old.2)
    ];
    found = sum_found H q r x y k_x k_y v c known least least' m.found after;
  }

-- before the first node no sum is known
pub met_none : (H : LevelsAndLegs) (q r : Question) (ranks : List ℕ) (x y : Search) → AreMetTo H q r ranks 0 x y None
met_none H q r ranks x y = record {
  seen = λ v a b t. absurd (let lt = t.1 in omega arith);
  found = λ e is. absurd (none-some e is);
}

-- past the last node the searches have met
pub met_all : (H : LevelsAndLegs) (q r : Question) (ranks : List ℕ) (count : ℕ) (x y : Search) (least : Option (Cost × ℕ)) →
    length ranks ≤ count → AreMetTo H q r ranks count x y least → IsUnqueued H ranks x → IsUnderway H q x → IsUnderway H r y →
    AreMeeting H q r x y least
met_all H q r ranks count x y least whole m u here there = record {
  here = here;
  there = there;
  seen = λ v a b h k. m.seen v a b (among_more H ranks (length ranks) count whole v (u.listed v a h.0)) h.0 k.0;
  found = m.found;
}
