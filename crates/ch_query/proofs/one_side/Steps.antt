-- The steps of one side of a search.
use Rattle.std.proofs.Common.{◌≡◌, ℕ, ◌+◌, ◌<◌, ◌≤◌, Bool, cond, List, [], ◌∷◌, ◌++◌, length, Contains, Option, Some, None, refl}
use Rattle.std.proofs.Common.{sym, ◌∙◌, ap, subst, arith, get_or, get_or-set_same, get_or-set_other, set, length-set, inl, inr}
use Rattle.std.specs.Prelude.{◌⊎◌, is_some}
use Rattle.std.proofs.lemmas.Bool.{cases_eq}
use Rattle.std.proofs.lemmas.Option.{same_Some, none-some}
use Rattle.std.specs.List.{count_by}
use Rattle.std.proofs.lemmas.List.Sums.{sum_by-set}
use Rattle.ch_graph.specs.declared.cost.Cost.{Cost}
use Rattle.ch_graph.specs.Cost.{IsAtMost, cost_sum, no_cost, cost_at}
use Rattle.ch_hierarchy.specs.declared.leg.Leg.{Leg}
use Rattle.ch_hierarchy.specs.Rows.{row}
use Rattle.ch_graph.proofs.CostOrder.{IsAtMost_refl, IsAtMost_trans, IsBelow-IsAtMost}
use Rattle.ch_query.specs.Search.{IsSettled, IsRelaxedFrom, IsUpwardCost, IsSearch, IsExpanding, OrNode, is_none, count_unsettled}
use Rattle.ch_query.specs.Search.{WouldLower}
use Rattle.ch_graph.proofs.CostSums.{IsAtMost-cost_sum_self}
use Rattle.ch_query.proofs.one_side.PathLaws.{not_lower, not_below_nothing, cost_push, path_push}

-- the change of a count by a write
count_by_set : {X : Type 0} (p : X → Bool) (xs : List X) (i : ℕ) (y d : X) → i < length xs →
    count_by p (set xs i y) + cond (p (get_or xs i d)) 1 0 ≡ count_by p xs + cond (p y) 1 0
count_by_set p xs i y d h = sum_by-set (λ x. cond (p x) 1 0) xs i y d h

-- the least key leaves the queue
module _ {most : ℕ} (rows : List (List Leg)) (s : ℕ) (Idle : ℕ → Cost → Type 0) (best queue : List (Option Cost))
    (p : IsSearch most rows s Idle best queue)
    (v : ℕ) (c : Cost) (key : cost_at queue v ≡ Some c) (least : (x : ℕ) (d : Cost) → cost_at queue x ≡ Some d → IsAtMost c d)
    (within : v < length queue) where
  -- the queue without v
  left : List (Option Cost)
  left = set queue v None

  -- v has no key
  gone : cost_at left v ≡ None
  unfolding left
  gone = get_or-set_same queue v None None within

  -- the other nodes keep their keys
  other : (x : ℕ) → (x ≡ v → ⊥) → cost_at left x ≡ cost_at queue x
  unfolding left
  other x ne = get_or-set_other queue v x None None ne

  -- the known cost of v is c
  known : cost_at best v ≡ Some c
  known = p.queued v c key

  -- a node that is settled now was settled before, or is v
  settled_was : (x : ℕ) (a : Cost) → IsSettled best left x a → IsSettled best queue x a ⊎ ((x ≡ v) × (a ≡ c))
  settled_was x a h = elim (cases_eq x v) [
    | inl here ↦ inr (here, same_Some _ _ (sym h.0 ∙ ap (cost_at best) here ∙ known))
    | inr away ↦ inl (h.0, sym (other x away) ∙ h.1)
  ]

  -- a node that has a key now had it before
  still : (x : ℕ) (d : Cost) → cost_at left x ≡ Some d → cost_at queue x ≡ Some d
  still x d e = elim (cases_eq x v) [
    | inl here ↦ absurd (none-some _ (sym gone ∙ ap (cost_at left) (sym here) ∙ e))
    | inr away ↦ sym (other x away) ∙ e
  ]

  -- v was settled last
  latest : (x : ℕ) (a : Cost) → IsSettled best left x a → IsAtMost a c
  latest x a h = elim (settled_was x a h) [
    | inl was ↦ p.order x v a c was key
    | inr is ↦ subst (λ q. IsAtMost q c) (sym is.1) (IsAtMost_refl c)
  ]

  -- the legs of v are taken next
  pub popped : IsExpanding most rows s (OrNode Idle v) best (set queue v None) v c
  unfolding left
  popped = record {
    search = record {
      limits = p.limits;
      sizes = (p.sizes.0, length-set queue v None ∙ p.sizes.1);
      start = p.start;
      sound = p.sound;
      light = p.light;
      queued = λ x d e. p.queued x d (still x d e);
      order = λ x w a d h e. elim (settled_was x a h) [
        | inl was ↦ p.order x w a d was (still w d e)
        | inr is ↦ subst (λ q. IsAtMost q d) (sym is.1) (least w d (still w d e))
      ];
      frontier = λ x a h. elim (settled_was x a h) [
        | inl was ↦ elim (p.frontier x a was) [ inl idle ↦ inl (inl idle) | inr legs ↦ inr legs ]
        | inr is ↦ inl (inr is.0)
      ];
    };
    here = (known, gone);
    latest = latest;
  }

  -- a node that is settled now was settled before, or is v
  pub popped_settled : (x : ℕ) (a : Cost) → IsSettled best (set queue v None) x a → IsSettled best queue x a ⊎ ((x ≡ v) × (a ≡ c))
  unfolding left
  popped_settled = settled_was

  -- a node that was settled is settled now
  pub popped_stays : (x : ℕ) (a : Cost) → IsSettled best queue x a → IsSettled best (set queue v None) x a
  unfolding left
  popped_stays x a h = (
    h.0,
    elim (cases_eq x v) [
      | inl here ↦ absurd (none-some _ (sym h.1 ∙ ap (cost_at queue) here ∙ key))
      | inr away ↦ other x away ∙ h.1
    ],
  )

  -- v is settled now
  pub popped_here : IsSettled best (set queue v None) v c
  unfolding left
  popped_here = (known, gone)

  -- one node fewer is unsettled
  pub popped_falls : count_unsettled best (set queue v None) + 1 ≡ count_unsettled best queue
  popped_falls = let n = count_by_set is_some queue v None None within in omega (arith, rw key at n)

-- a leg of v that shows a cheaper path
module _ {most : ℕ} (rows : List (List Leg)) (s : ℕ) (Idle : ℕ → Cost → Type 0) (best queue : List (Option Cost)) (v : ℕ) (c : Cost)
    (x : IsExpanding most rows s Idle best queue v c)
    (l : Leg) (has : Contains (row rows v) l) (light : c.weight + l.cost.weight ≤ most)
    (h : WouldLower best l.node (cost_sum c l.cost)) where
  -- the cost of the path over the leg
  d : Cost
  d = cost_sum c l.cost

  -- the costs after the leg was taken
  best' : List (Option Cost)
  best' = set best l.node (Some d)

  -- the queue after the leg was taken
  queue' : List (Option Cost)
  queue' = set queue l.node (Some d)

  -- the leg's node is a node of the queue
  in_queue : l.node < length queue
  in_queue = let a = x.search.sizes.0 in let b = x.search.sizes.1 in let lt = h.within in omega arith

  -- the cost of the leg's node is the sum
  best_here : cost_at best' l.node ≡ Some d
  unfolding best'
  best_here = get_or-set_same best l.node (Some d) None h.within

  -- the key of the leg's node is the sum
  queue_here : cost_at queue' l.node ≡ Some d
  unfolding queue'
  queue_here = get_or-set_same queue l.node (Some d) None in_queue

  -- the other costs stay the same
  best_other : (y : ℕ) → (y ≡ l.node → ⊥) → cost_at best' y ≡ cost_at best y
  unfolding best'
  best_other y ne = get_or-set_other best l.node y (Some d) None ne

  -- the other keys stay the same
  queue_other : (y : ℕ) → (y ≡ l.node → ⊥) → cost_at queue' y ≡ cost_at queue y
  unfolding queue'
  queue_other y ne = get_or-set_other queue l.node y (Some d) None ne

  -- the leg's node is not settled, because a settled cost never falls
  open_node : (a : Cost) → IsSettled best queue l.node a → ⊥
  open_node a k = not_lower c l.cost a (x.latest l.node a k) (h.lower a k.0)

  -- a node that is settled now was settled before
  settled_earlier : (y : ℕ) (a : Cost) → IsSettled best' queue' y a → IsSettled best queue y a
  settled_earlier y a k = elim (cases_eq y l.node) [
    | inl here ↦ absurd (none-some _ (sym k.1 ∙ ap (cost_at queue') here ∙ queue_here))
    | inr away ↦ (sym (best_other y away) ∙ k.0, sym (queue_other y away) ∙ k.1)
  ]

  -- a node that was settled is settled now
  settled_stays : (y : ℕ) (a : Cost) → IsSettled best queue y a → IsSettled best' queue' y a
  settled_stays y a k = elim (cases_eq y l.node) [
    | inl here ↦ absurd (open_node a (sym (ap (cost_at best) here) ∙ k.0, sym (ap (cost_at queue) here) ∙ k.1))
    | inr away ↦ (best_other y away ∙ k.0, queue_other y away ∙ k.1)
  ]

  -- a leg that was relaxed is relaxed now
  relaxed_stays : (a : Cost) (k : Leg) → IsRelaxedFrom most best a k → IsRelaxedFrom most best' a k
  unfolding d
  relaxed_stays a k r w =
      let old = r w in
      elim (cases_eq k.node l.node) [
        | inl here ↦ (
          d,
          ap (cost_at best') here ∙ best_here,
          IsAtMost_trans d old.0 _
              (IsBelow-IsAtMost _ _ (h.lower old.0 (sym (ap (cost_at best) here) ∙ old.1))) old.2,
        )
        | inr away ↦ (old.0, best_other k.node away ∙ old.1, old.2)
      ]

  -- a path reaches the leg's node at the sum
  reached : IsUpwardCost rows s l.node d
  unfolding d
  reached =
      let r = x.search.sound v c x.here.0 in
      record {
        path = (
          r.path.0 ++ l ∷ [],
          path_push rows s v r.path.0 l r.path.1 has,
          cost_push r.path.0 l
              ∙ ap (λ q. cost_sum q l.cost) r.path.2,
        );
        weight = (let most = x.search.limits in omega arith);
      }

  -- each cost is that of a path
  sound : (y : ℕ) (a : Cost) → cost_at best' y ≡ Some a → IsUpwardCost rows s y a
  sound y a e = elim (cases_eq y l.node) [
    | inl here ↦
        let is : d ≡ a = same_Some _ _ (sym best_here ∙ ap (cost_at best') (sym here) ∙ e) in
        subst (λ q. IsUpwardCost rows s q a) (sym here) (subst (IsUpwardCost rows s l.node) is reached)
    | inr away ↦ x.search.sound y a (sym (best_other y away) ∙ e)
  ]

  -- no cost is heavier than `most`
  not_heavy : (y : ℕ) (a : Cost) → cost_at best' y ≡ Some a → a.weight ≤ most
  unfolding d
  not_heavy y a e = elim (cases_eq y l.node) [
    | inl here ↦ let is : d ≡ a = same_Some _ _ (sym best_here ∙ ap (cost_at best') (sym here) ∙ e) in
        subst (λ (q : Cost). q.weight ≤ most) is light
    | inr away ↦ x.search.light y a (sym (best_other y away) ∙ e)
  ]

  -- each key is the node's cost
  queued : (y : ℕ) (a : Cost) → cost_at queue' y ≡ Some a → cost_at best' y ≡ Some a
  queued y a e = elim (cases_eq y l.node) [
    | inl here ↦ ap (cost_at best') here ∙ best_here ∙ sym queue_here ∙ ap (cost_at queue') (sym here) ∙ e
    | inr away ↦ best_other y away ∙ x.search.queued y a (sym (queue_other y away) ∙ e)
  ]

  -- no settled node costs more than a queued one
  order : (y w : ℕ) (a b : Cost) → IsSettled best' queue' y a → cost_at queue' w ≡ Some b → IsAtMost a b
  unfolding d
  order y w a b k e = elim (cases_eq w l.node) [
    | inl here ↦
        let is : d ≡ b = same_Some _ _ (sym queue_here ∙ ap (cost_at queue') (sym here) ∙ e) in
        subst (IsAtMost a) is (IsAtMost_trans a c d (x.latest y a (settled_earlier y a k)) (IsAtMost-cost_sum_self c l.cost))
    | inr away ↦ x.search.order y w a b (settled_earlier y a k) (sym (queue_other w away) ∙ e)
  ]

  -- the cost of the source is no cost
  start : cost_at best' s ≡ Some no_cost
  unfolding d
  start = elim (cases_eq s l.node) [
    | inl here ↦ absurd (not_below_nothing _ (h.lower no_cost (sym (ap (cost_at best) here) ∙ x.search.start)))
    | inr away ↦ best_other s away ∙ x.search.start
  ]

  -- the search goes on
  pub lowered : IsExpanding most rows s Idle (set best l.node (Some (cost_sum c l.cost))) (set queue l.node (Some (cost_sum c l.cost))) v c
  unfolding d best' queue'
  lowered = record {
    search = record {
      limits = x.search.limits;
      sizes = (length-set best l.node _ ∙ x.search.sizes.0, length-set queue l.node _ ∙ x.search.sizes.1);
      start = start;
      sound = sound;
      light = not_heavy;
      queued = queued;
      order = order;
      frontier = λ y a k. elim (x.search.frontier y a (settled_earlier y a k))
          [ inl idle ↦ inl idle | inr legs ↦ inr (λ m of. relaxed_stays a m (legs m of)) ];
    };
    here = settled_stays v c x.here;
    latest = λ y a k. x.latest y a (settled_earlier y a k);
  }

  -- a node that is settled now was settled before
  pub lowered_settled : (y : ℕ) (a : Cost) →
      IsSettled (set best l.node (Some (cost_sum c l.cost))) (set queue l.node (Some (cost_sum c l.cost))) y a →
      IsSettled best queue y a
  unfolding d best' queue'
  lowered_settled = settled_earlier

  -- a node that was settled is settled now
  pub lowered_stays : (y : ℕ) (a : Cost) → IsSettled best queue y a →
      IsSettled (set best l.node (Some (cost_sum c l.cost))) (set queue l.node (Some (cost_sum c l.cost))) y a
  unfolding d best' queue'
  lowered_stays = settled_stays

  -- a leg that was relaxed is relaxed now
  pub lowered_keeps : (a : Cost) (k : Leg) → IsRelaxedFrom most best a k →
      IsRelaxedFrom most (set best l.node (Some (cost_sum c l.cost))) a k
  unfolding d best' queue'
  lowered_keeps = relaxed_stays

  -- the leg is relaxed
  pub lowered_relaxes : IsRelaxedFrom most (set best l.node (Some (cost_sum c l.cost))) c l
  unfolding d best' queue'
  lowered_relaxes _ = (d, best_here, IsAtMost_refl d)

  -- the leg's node was not settled before, and is not settled now
  counts : (o q : Option Cost) → cost_at best l.node ≡ o → cost_at queue l.node ≡ q →
      count_by is_none best' + count_by is_some queue' ≡ count_by is_none best + count_by is_some queue
  unfolding best' queue'
  counts None None e f =
      let m = count_by_set is_none best l.node (Some d) None h.within in
      let n = count_by_set is_some queue l.node (Some d) None in_queue in
      omega (arith, rw e at m, rw f at n)
  counts None (Some k) e f = absurd (none-some _ (sym e ∙ x.search.queued l.node k f))
  counts (Some a) None e f = absurd (open_node a (e, f))
  counts (Some a) (Some k) e f =
      let m = count_by_set is_none best l.node (Some d) None h.within in
      let n = count_by_set is_some queue l.node (Some d) None in_queue in
      omega (arith, rw e at m, rw f at n)

  -- the number of unsettled nodes stays the same
  pub lowered_counts : count_unsettled (set best l.node (Some (cost_sum c l.cost))) (set queue l.node (Some (cost_sum c l.cost)))
      ≡ count_unsettled best queue
  unfolding d best' queue'
  lowered_counts = counts _ _ refl refl

-- a node whose legs are all relaxed, or that may stay idle
module _ {most : ℕ} (rows : List (List Leg)) (s : ℕ) (Idle : ℕ → Cost → Type 0) (best queue : List (Option Cost)) (v : ℕ) (c : Cost)
    (x : IsExpanding most rows s (OrNode Idle v) best queue v c) where
  -- the search is no longer expanding
  finish : Idle v c ⊎ ((l : Leg) → Contains (row rows v) l → IsRelaxedFrom most best c l) → IsSearch most rows s Idle best queue
  finish done = record {
    limits = x.search.limits;
    sizes = x.search.sizes;
    start = x.search.start;
    sound = x.search.sound;
    light = x.search.light;
    queued = x.search.queued;
    order = x.search.order;
    frontier = λ y a k. elim (x.search.frontier y a k) [
      | inl (inl idle) ↦ inl idle
      | inl (inr is) ↦
          let same : c ≡ a = same_Some _ _ (sym x.here.0 ∙ ap (cost_at best) (sym is) ∙ k.0) in
          subst (λ q. Idle q a ⊎ ((l : Leg) → Contains (row rows q) l → IsRelaxedFrom most best a l)) (sym is)
          (subst (λ q. Idle v q ⊎ ((l : Leg) → Contains (row rows v) l → IsRelaxedFrom most best q l)) same done)
      | inr legs ↦ inr legs
    ];
  }

  -- the case where all its legs are relaxed
  pub expanded : ((l : Leg) → Contains (row rows v) l → IsRelaxedFrom most best c l) → IsSearch most rows s Idle best queue
  expanded legs = finish (inr legs)

  -- the case where it is idle
  pub stalled : Idle v c → IsSearch most rows s Idle best queue
  stalled idle = finish (inl idle)
