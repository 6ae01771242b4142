-- The state of a construction whose first nodes are given, and whose others come in any order.
use Rattle.std.proofs.Common.{◌≡◌, ℕ, ◌+◌, ◌<◌, ◌≤◌, Bool, true, false, List, [], ◌∷◌, ◌++◌, length, refl, sym, ◌∙◌, ap, subst, arith, inl}
use Rattle.std.proofs.Common.{inr, Contains, Option, Some, None, length-set, get_or-set_same, get_or-set_other, take}
use Rattle.std.specs.Prelude.{◌≢◌, All, if◌then◌else◌, is_some, slice_index, slice_set, ℤ}
use Rattle.std.proofs.lemmas.Bool.{true≢false, cases_eq}
use Rattle.std.proofs.lemmas.List.{length_push, take_all, take-append-le}
use Rattle.std.proofs.lemmas.List.Elements.{All-push, Contains-append_left, Contains-push, Contains-push_cases}
use Rattle.std.proofs.lemmas.Option.{none-some}
use Rattle.ch_graph.specs.declared.limits.TheConstants.{MOST_NODES}
use Rattle.ch_graph.specs.Graph.{Network, IsWithinLimits}
use Rattle.ch_queue.specs.Queue.{key_of, HasNone}
use Rattle.ch_hierarchy.specs.Hierarchy.{LevelsAndLegs, IsLevelled}
use Rattle.ch_hierarchy.specs.Kept.{IsKept}
use Rattle.ch_hierarchy.specs.Saved.{IsOrderOf}
use Rattle.ch_hierarchy.proofs.theory.Ordered.{contains_or_not}
use Rattle.ch_order.specs.declared.keys.Keys.{Keys}
use Rattle.ch_contract.specs.Legs.{Legs, AreLegsWithin}
use Rattle.ch_contract.specs.Begun.{AreDifferentNodes}
use Rattle.ch_contract.specs.Contraction.{count_touching}
use Rattle.ch_contract.specs.Enough.{ContractsWithin}
use Rattle.ch_contract.proofs.theory.Enough.{hierarchy_within, pairs_within}
use Rattle.ch_contract.proofs.theory.EnoughKept.{hierarchies_with_enough_kept}
use Rattle.ch_contract.proofs.theory.GivenNodes.{all_others, no_other}
use Rattle.ch_contract.proofs.theory.OneInTurn.{not_before, one_map}
use Rattle.ch_contract.proofs.theory.OrderSteps.{then_before, then_legs}
use Rattle.ch_order.specs.Progress.{Progress, IsContraction, IsContractionBy, AreAll}
use Rattle.ch_order.specs.Priorities.{IsRanked}
use Rattle.ch_contract.specs.Remaining.{legs_of}
use Rattle.ch_order.specs.declared.construction.Construction.{Construction}
use Rattle.ch_order.specs.Construction.{IsJudging, IsReadyFor, IsSized, IsTaken, progress_of}
use Rattle.ch_contract.specs.declared.room.Room.{Room}
use Rattle.ch_contract.specs.Rooms.{IsReady}
use Rattle.ch_order.proofs.ConstructionCalls.{taken_step}
use Rattle.ch_order.specs.Quick.{AreQueued, HasKey, IsRekeyed, IsHierarchyAfter, IsHierarchyAfterSmall, IsAfterAny}
use Rattle.ch_order.specs.Quick.{IsBegunWith, IsTakenWithin, IsUnderWay}
use Rattle.ch_order.specs.declared.construction.steps.TheConstants.{MOST_GIVEN_LEGS}
use Rattle.ch_order.proofs.GivenTurns.{turns_along, turns_skip, turns_take, turns_within}
use Rattle.ch_order.specs.Steps.{IsAfterGiven, IsAfterSteps, IsAfterStepsBy}
use Rattle.ch_order.proofs.PrioritySteps.{key_within}
use Rattle.ch_order.proofs.StepsMade.{steps_rekeyed, steps_more, legs_within, depth_within, count_fewer, all_steps, all_levelled}

-- a hierarchy that begins with given nodes is kept
pub after_kept : (g : Network) (h : ℕ) (given : List ℕ) (H : LevelsAndLegs) → IsWithinLimits g → IsHierarchyAfter g h given H → IsKept g H
after_kept g h given H limits is = hierarchies_with_enough_kept g h H is.0 is.1 limits (hierarchy_within g h H is.0 is.1 limits is.2)

-- so is one that begins with the given nodes that are small
pub after_small_kept : (g : Network) (h : ℕ) (given : List ℕ) (H : LevelsAndLegs) → IsWithinLimits g → IsHierarchyAfterSmall g h given H →
    IsKept g H
after_small_kept g h given H limits is = after_kept g h is.0 H limits (is.1, is.2, is.3, is.4)

-- if no node is given, none comes first
pub after_none : (g : Network) (h : ℕ) (H : LevelsAndLegs) → IsHierarchyAfterSmall g h [] H → IsHierarchyAfter g h [] H
after_none g h H is = subst (λ l. IsHierarchyAfter g h l H) is.5 (is.1, is.2, is.3, is.4)

-- contractions with one bound are contractions with this or a lesser one
pub steps_within : (g : Network) (h : ℕ) (order : List ℕ) (L : ℕ → Legs) (p : Progress) → 1 ≤ h → IsAfterSteps g h order L p →
    IsAfterStepsBy (ContractsWithin g.nodes h) g order L p
steps_within g h order L p most a = record {
  begun = record { nodes = a.begun.nodes; start = a.begun.start; step = λ i lt. (h, most, omega arith, a.begun.step i lt) };
  limits = a.limits;
  contracted = a.contracted;
  legs = a.legs;
  size = a.size;
  levels = a.levels;
  depths = a.depths;
  up = a.up;
  down = a.down;
}

-- a contraction with a bound is one with this bound or a lesser one
pub contraction_within : (n k h : ℕ) (p : Progress) (v : ℕ) (q : Progress) → 1 ≤ k → k ≤ h → IsContraction n k p v q →
    IsContractionBy (ContractsWithin n h) p v q
contraction_within n k h p v q most le c = record {
  legs = (k, most, le, c.legs);
  contracted = c.contracted;
  levels = c.levels;
  up = c.up;
  down = c.down;
  rows = c.rows;
  depths = c.depths;
}

-- an option with a value has one
value_of : (o : Option ℤ) → is_some o ≡ true → (p : ℤ) × (o ≡ Some p)
value_of None e = absurd (true≢false (sym e))
value_of (Some p) e = (p, refl)

-- an option without a value is `None`
none_of : (o : Option ℤ) → is_some o ≡ false → o ≡ None
none_of None e = refl
none_of (Some p) e = absurd (true≢false e)

-- an option is `None` if another one is, and both have a value or neither has one
pub none_again : (o n : Option ℤ) → is_some n ≡ is_some o → o ≡ None → n ≡ None
none_again o n same none = none_of n (same ∙ ap is_some none)

-- a queue with the same nodes has a key of each node that had one
pub key_stays : (before after : Progress) (x : ℕ) → IsRekeyed before after → HasKey before.keys x → HasKey after.keys x
key_stays before after x r k = value_of (key_of after.keys x) (r.same x ∙ ap is_some k.1)

-- no change of keys is one
pub rekeyed_none : (p : Progress) → IsRekeyed p p
rekeyed_none p = record { rest = refl; size = refl; same = λ x. refl }

-- one change of keys after another is one
pub rekeyed_then : (p q r : Progress) → IsRekeyed p q → IsRekeyed q r → IsRekeyed p r
rekeyed_then p q r a b = record {
  rest = b.rest ∙ ap (λ (z : Progress). record z { keys = r.keys }) a.rest;
  size = b.size ∙ a.size;
  same = λ x. b.same x ∙ a.same x;
}

-- a node with a key gets another one
pub rekeyed_set : (p : Progress) (keys : List (Option ℤ)) (v : ℕ) (k : ℤ) → HasKey p.keys v → keys ≡ slice_set p.keys v (Some k) →
    IsRekeyed p (record p { keys = keys })
rekeyed_set p keys v k has e = record {
  rest = refl;
  size = ap length e ∙ length-set p.keys v (Some k);
  same = λ x. ap (λ l. is_some (key_of l x)) e ∙ elim (cases_eq x v) [
    | inl is ↦ subst (λ z. is_some (key_of (slice_set p.keys v (Some k)) z) ≡ is_some (key_of p.keys z)) (sym is)
        (ap is_some (get_or-set_same p.keys v (Some k) None (key_within p.keys v has.0 has.1)) ∙ sym (ap is_some has.1))
    | inr ne ↦ ap is_some (get_or-set_other p.keys v x (Some k) None ne)
  ];
}

-- if nodes with keys are judged, the queue keeps its nodes
pub rekeyed_ranked : (by : Keys) (n h : ℕ) (nodes : List ℕ) (p q : Progress) → ((x : ℕ) → Contains nodes x → HasKey p.keys x) →
    IsRanked by n h nodes p q → IsRekeyed p q
rekeyed_ranked by n h nodes p q have r = record {
  rest = r.rest;
  size = r.keys.size;
  same = λ x. elim (contains_or_not nodes x) [
    | inl has ↦ ap is_some (r.keys.anew x has).1 ∙ sym (ap is_some (have x has).1)
    | inr away ↦ ap is_some (r.keys.kept x away)
  ];
}

-- all nodes are put into the queue before the first one is contracted
pub any_at_start : (g : Network) (h : ℕ) (nodes : List ℕ) (p q : Progress) → 1 ≤ h → IsOrderOf g.nodes nodes →
    IsAfterGiven g h [] p → AreQueued nodes p q → (n : IsAfterAny g h [] q) × (length n.small ≡ 0)
any_at_start g h nodes p q most is u r = (
  record {
    order = [];
    L = u.L;
    small = [];
    steps = subst (IsAfterStepsBy (ContractsWithin g.nodes h) g [] u.L) (sym r.rest)
        (steps_rekeyed (ContractsWithin g.nodes h) g [] u.L p q.keys (steps_within g h [] u.L p most u.after));
    from = omega arith;
    first = refl;
    part = refl;
    waiting = record {
      size = r.keys.size ∙ u.keys.0;
      left = λ x lt away. let k = r.keys.anew x (all_others [] nodes g.nodes is x lt away) in (k.0, k.1);
      taken = λ x has. r.keys.kept x (no_other [] nodes g.nodes is x has) ∙ u.keys.1 x;
    };
  },
  refl,
)

module _ (g : Network) (h : ℕ) (given : List ℕ) (p : Progress) (u : IsAfterAny g h given p) where
  -- the remaining legs are within the limits
  pub any_within : AreLegsWithin g.nodes p.legs
  any_within = legs_within (ContractsWithin g.nodes h) g u.order u.L p u.steps (pairs_within g.nodes h)

  -- the legs after the last step
  legs_now : u.L (length u.order) ≡ p.legs
  legs_now = one_map (u.L (length u.order)) p.legs u.steps.legs

  -- a depth is at most the number of contracted nodes
  pub any_depth : (x : ℕ) → p.depth x ≤ p.contracted
  any_depth = depth_within (ContractsWithin g.nodes h) g u.order u.L p u.steps

  -- the state stays if the queue keeps its nodes
  pub any_rekeyed : (q : Progress) → IsRekeyed p q → IsAfterAny g h given q
  any_rekeyed q r = record {
    order = u.order;
    L = u.L;
    small = u.small;
    steps = subst (IsAfterStepsBy (ContractsWithin g.nodes h) g u.order u.L) (sym r.rest)
        (steps_rekeyed (ContractsWithin g.nodes h) g u.order u.L p q.keys u.steps);
    from = u.from;
    first = u.first;
    part = u.part;
    waiting = record {
      size = r.size ∙ u.waiting.size;
      left = λ x lt away. key_stays p q x r (u.waiting.left x lt away);
      taken = λ x has. none_of (key_of q.keys x) (r.same x ∙ ap is_some (u.waiting.taken x has));
    };
  }

  module _ (v : ℕ) (k : HasKey p.keys v) where
    -- a node with a key is a node of the graph
    pub any_node : v < g.nodes
    any_node = let lt = key_within p.keys v k.0 k.1 in let size = u.waiting.size in omega arith

    -- a node with a key is not contracted yet
    left : Contains u.order v → ⊥
    left has = none-some k.0 (sym (u.waiting.taken v has) ∙ k.1)

    -- while a node remains, the number of contracted nodes is less than the number of nodes
    pub any_count : p.contracted < g.nodes
    any_count = count_fewer (ContractsWithin g.nodes h) g u.order u.L p u.steps v any_node left

    module _ (q : Progress) (s : IsContractionBy (ContractsWithin g.nodes h) p v q) (size : length q.keys ≡ length p.keys)
        (gone : key_of q.keys v ≡ None) (same : (x : ℕ) → x ≢ v → is_some (key_of q.keys x) ≡ is_some (key_of p.keys x)) where
      -- the node is contracted and leaves the queue
      pub any_next : IsAfterAny g h given q
      any_next = record {
        order = u.order ++ v ∷ [];
        L = then_legs (length u.order) u.L q.legs;
        small = u.small;
        steps = steps_more (ContractsWithin g.nodes h) g u.order u.L p u.steps v any_node left q s;
        from = let more = length_push u.order v in let le = u.from in omega arith;
        first = take-append-le (length u.small) u.order (v ∷ []) u.from ∙ u.first;
        part = turns_along g.nodes u.L (then_legs (length u.order) u.L q.legs) 0 given u.small
            (λ k le. then_before (length u.order) u.L q.legs k (let from = u.from in omega arith)) u.part;
        waiting = record {
          size = size ∙ u.waiting.size;
          left = λ x lt away.
              let ne : x ≢ v = λ is. away (subst (Contains (u.order ++ v ∷ [])) (sym is) (Contains-push u.order v)) in
              let had = u.waiting.left x lt (λ has. away (Contains-append_left u.order (v ∷ []) x has)) in
              value_of (key_of q.keys x) (same x ne ∙ ap is_some had.1);
          taken = λ x has. elim (Contains-push_cases u.order v x has) [
            | inl earlier ↦
                let ne : x ≢ v = λ is. left (subst (Contains u.order) is earlier) in
                none_of (key_of q.keys x) (same x ne ∙ ap is_some (u.waiting.taken x earlier))
            | inr is ↦ subst (λ z. key_of q.keys z ≡ None) is gone
          ];
        };
      }

      -- if no others than given nodes were contracted, and few legs touch the node, it is the next given one
      pub any_given_next : p.contracted ≡ length u.small → count_touching g.nodes p.legs v ≤ MOST_GIVEN_LEGS →
          (n : IsAfterAny g h (given ++ v ∷ []) q) × (length n.small ≡ length u.small + 1)
      unfolding any_next
      any_given_next all fits =
          let n = any_next in
          let count : length u.order ≡ length u.small = sym u.steps.contracted ∙ all in
          let is : u.order ≡ u.small = sym (take_all (length u.small) u.order (omega (arith, count))) ∙ u.first in
          let long = length_push u.order v in
          let wide = length_push u.small v in (
            record {
              order = n.order;
              L = n.L;
              small = u.small ++ v ∷ [];
              steps = n.steps;
              from = omega (arith, count, long, wide);
              first = take_all (length (u.small ++ v ∷ [])) (u.order ++ v ∷ []) (omega (arith, count, long, wide))
                  ∙ ap (λ l. l ++ v ∷ []) is;
              part = turns_take g.nodes n.L 0 (length u.order) given u.small v n.part (omega (arith, count))
                  (subst (λ (M : Legs). count_touching g.nodes M v ≤ MOST_GIVEN_LEGS)
                  (sym (then_before (length u.order) u.L q.legs (length u.order) (omega arith) ∙ legs_now)) fits);
              waiting = n.waiting;
            },
            wide,
          )

  -- if no others than given nodes were contracted, a given node that is not among them waits, since the given nodes differ
  pub any_given_key : p.contracted ≡ length u.small → (v : ℕ) → v < g.nodes → (Contains given v → ⊥) → HasKey p.keys v
  any_given_key all v lt away =
      let count : length u.order ≡ length u.small = sym u.steps.contracted ∙ all in
      let is : u.order ≡ u.small = sym (take_all (length u.small) u.order (omega (arith, count))) ∙ u.first in
      u.waiting.left v lt (λ has. away (turns_within g.nodes u.L 0 given u.small v u.part (subst (λ l. Contains l v) is has)))

  -- if no others than given nodes were contracted, and many legs touch a node, it may wait in its turn
  pub any_given_skip : p.contracted ≡ length u.small → (v : ℕ) → MOST_GIVEN_LEGS < count_touching g.nodes p.legs v →
      (n : IsAfterAny g h (given ++ v ∷ []) p) × (length n.small ≡ length u.small)
  any_given_skip all v large =
      let count : length u.order ≡ length u.small = sym u.steps.contracted ∙ all in (
        record {
          order = u.order;
          L = u.L;
          small = u.small;
          steps = u.steps;
          from = u.from;
          first = u.first;
          part = turns_skip g.nodes u.L 0 (length u.order) given u.small v u.part (omega (arith, count))
              (subst (λ (M : Legs). MOST_GIVEN_LEGS < count_touching g.nodes M v) (sym legs_now) large);
          waiting = u.waiting;
        },
        refl,
      )

  module _ (none : HasNone p.keys) where
    -- when no node has a key, all are contracted
    whole : (x : ℕ) → x < g.nodes → Contains u.order x
    whole x lt = elim (contains_or_not u.order x) [
      | inl has ↦ has
      | inr away ↦ let k = u.waiting.left x lt away in absurd (none-some k.0 (sym (none x) ∙ k.1))
    ]

    -- then it is a hierarchy that begins with the given nodes that are small
    pub any_at_end : (H : LevelsAndLegs) → AreAll g.nodes p H → IsHierarchyAfterSmall g h given H
    any_at_end H all =
        (u.small, u.order, u.L, all_steps (ContractsWithin g.nodes h) g u.order u.L p u.steps whole H all, u.first, u.part)

    -- and it is levelled
    pub any_levelled : g.nodes ≤ MOST_NODES → (H : LevelsAndLegs) → AreAll g.nodes p H → IsLevelled H
    any_levelled count H all = all_levelled (ContractsWithin g.nodes h) g u.order u.L p u.steps whole (pairs_within g.nodes h) count H all

-- nodes with keys are nodes of the graph
pub keyed_within : (keys : List (Option ℤ)) (n : ℕ) (list : List ℕ) → length keys ≡ n → All (HasKey keys) list → All (λ x. x < n) list
keyed_within keys n list size all k d lt = let h = all k d lt in omega (arith, size, key_within keys _ h.0 h.1)

-- a list of nodes with keys grows by one at most
pub pushed_if : (keys : List (Option ℤ)) (b : Bool) (list : List ℕ) (x k : ℕ) → (b ≡ true → HasKey keys x) →
    All (HasKey keys) list × (length list ≤ k) →
    All (HasKey keys) (if b then list ++ x ∷ [] else list) × (length (if b then list ++ x ∷ [] else list) ≤ k + 1)
pushed_if keys true list x k has is = (All-push (HasKey keys) list x is.0 (has refl), omega (arith, is.1, length_push list x))
pushed_if keys false list x k has is = (is.0, omega (arith, is.1))

-- a step stays one if the queue keeps its nodes afterwards
pub rekeyed_step : (IsStep : Legs → ℕ → Legs → Type 0) (p : Progress) (v : ℕ) (q r : Progress) → IsContractionBy IsStep p v q →
    IsRekeyed q r → IsContractionBy IsStep p v r
rekeyed_step IsStep p v q r s k = subst (IsContractionBy IsStep p v) (sym k.rest) (record {
  legs = s.legs;
  contracted = s.contracted;
  levels = s.levels;
  up = s.up;
  down = s.down;
  rows = s.rows;
  depths = s.depths;
})

-- the node is taken out of the queue, and the others stay in it
module _ (keys after : List (Option ℤ)) (v : ℕ) (lt : v < length keys) (is : after ≡ slice_set keys v None) where
  pub left_gone : key_of after v ≡ None
  left_gone = ap (λ l. key_of l v) is ∙ get_or-set_same keys v None None lt

  pub left_same : (x : ℕ) → x ≢ v → is_some (key_of after x) ≡ is_some (key_of keys x)
  left_same x ne = ap (λ l. is_some (key_of l x)) is ∙ ap is_some (get_or-set_other keys v x None None ne)

-- a node can be contracted with another bound if the room is ready for that
pub ready_with : (h k : ℕ) (c : Construction) (v : ℕ) (room : Room) → IsReadyFor h c v →
    IsReady c.remaining.nodes k (legs_of c.remaining) room → IsReadyFor k (record c { room = room }) v
ready_with h k c v room next ready = record {
  sizes = record {
    nodes = next.sizes.nodes;
    keys = next.sizes.keys;
    depths = next.sizes.depths;
    levels = next.sizes.levels;
    ups = next.sizes.ups;
    downs = next.sizes.downs;
  };
  limits = next.limits;
  node = next.node;
  count = next.count;
  depth = next.depth;
  ready = (ready, next.ready.1);
}

-- a contraction with this bound or a lesser one, after which the room has any shortcuts
pub taken_within : (k h : ℕ) (before after : Construction) (v : ℕ) (neighbours : List ℕ) → 1 ≤ k → k ≤ h → IsReadyFor k before v →
    IsSized after → IsTaken k before v neighbours after → (room : Room) → IsJudging h (record after { room = room }) →
    IsTakenWithin h before v (record after { room = room })
taken_within k h before after v neighbours most le ready sizes t room judging =
    let lt : v < length before.waiting = omega (arith, ready.node, ready.sizes.keys) in
    record {
      sizes = record {
        nodes = sizes.nodes;
        keys = sizes.keys;
        depths = sizes.depths;
        levels = sizes.levels;
        ups = sizes.ups;
        downs = sizes.downs;
      };
      nodes = t.nodes;
      step = contraction_within _ k h _ _ _ most le (taken_step k before v neighbours after after.waiting t);
      size = ap length t.waiting ∙ length-set before.waiting v None;
      gone = left_gone before.waiting after.waiting v lt t.waiting;
      same = left_same before.waiting after.waiting v lt t.waiting;
      ready = judging;
    }

module _ (g : Network) (h : ℕ) (given : List ℕ) (c : Construction) where
  module _ (i : IsUnderWay g h given c) where
    -- the construction is still under way if the queue keeps its nodes
    pub under_way_rekeyed : (d : Construction) → IsSized d → d.remaining.nodes ≡ c.remaining.nodes →
        IsRekeyed (progress_of c) (progress_of d) → IsJudging h d → IsUnderWay g h given d
    under_way_rekeyed d sizes nodes keyed ready = record {
      sizes = sizes;
      nodes = nodes ∙ i.nodes;
      after = any_rekeyed g h given (progress_of c) i.after (progress_of d) keyed;
      ready = ready;
    }

    module _ (v : ℕ) (k : HasKey c.waiting v) where
      -- a node of the queue can be contracted
      pub ready_for : IsReadyFor h c v
      ready_for = record {
        sizes = i.sizes;
        limits = subst (λ n. AreLegsWithin n (legs_of c.remaining)) (sym i.nodes) (any_within g h given (progress_of c) i.after);
        node = omega (arith, i.nodes, any_node g h given (progress_of c) i.after v k);
        count = omega (arith, i.nodes, any_count g h given (progress_of c) i.after v k);
        depth = any_depth g h given (progress_of c) i.after v;
        ready = i.ready;
      }

      -- its contraction, among the nodes of the graph
      step_within : (d : Construction) → IsTakenWithin h c v d →
          IsContractionBy (ContractsWithin g.nodes h) (progress_of c) v (progress_of d)
      step_within d t = subst (λ n. IsContractionBy (ContractsWithin n h) (progress_of c) v (progress_of d)) i.nodes t.step

      -- when it is contracted, the construction is still under way
      pub under_way_next : (d : Construction) → IsTakenWithin h c v d → IsUnderWay g h given d
      under_way_next d t = record {
        sizes = t.sizes;
        nodes = t.nodes ∙ i.nodes;
        after = any_next g h given (progress_of c) i.after v k (progress_of d) (step_within d t) t.size t.gone t.same;
        ready = t.ready;
      }

      -- if no others than given nodes were contracted, and few legs touch it, it is the next given one
      pub begun_next : c.contracted ≡ length i.after.small →
          count_touching c.remaining.nodes (legs_of c.remaining) v ≤ MOST_GIVEN_LEGS → (d : Construction) → IsTakenWithin h c v d →
          IsBegunWith g h (given ++ v ∷ []) d
      begun_next all fits d t =
          let n = any_given_next g h given (progress_of c) i.after v k (progress_of d) (step_within d t) t.size t.gone t.same all
          (subst (λ n. count_touching n (legs_of c.remaining) v ≤ MOST_GIVEN_LEGS) i.nodes fits) in (
            record { sizes = t.sizes; nodes = t.nodes ∙ i.nodes; after = n.0; ready = t.ready },
            t.step.contracted ∙ omega (arith, all, n.1),
          )

  -- a given node waits in its turn if many legs touch it
  pub begun_skip : (v : ℕ) → (b : IsBegunWith g h given c) →
      MOST_GIVEN_LEGS < count_touching c.remaining.nodes (legs_of c.remaining) v → IsBegunWith g h (given ++ v ∷ []) c
  begun_skip v b large =
      let i = b.0 in
      let n = any_given_skip g h given (progress_of c) i.after b.1 v
      (subst (λ n. MOST_GIVEN_LEGS < count_touching n (legs_of c.remaining) v) i.nodes large) in (
        record { sizes = i.sizes; nodes = i.nodes; after = n.0; ready = i.ready },
        b.1 ∙ sym n.1,
      )

-- a given node is in the queue until its turn, because the given nodes differ
pub given_key : (g : Network) (h : ℕ) (given : List ℕ) (place : ℕ) (c : Construction) → AreDifferentNodes g given →
    place < length given → IsBegunWith g h (take place given) c → HasKey c.waiting (slice_index given place)
given_key g h given place c nodes lt b =
    any_given_key g h (take place given) (progress_of c) b.0.after b.1 (slice_index given place) (nodes.0 place 0 lt)
    (not_before place given lt nodes.1)
