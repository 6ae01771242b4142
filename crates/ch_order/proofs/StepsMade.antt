-- The state that the contraction of one node after the other keeps, from the first node to the last.
use Rattle.std.proofs.Common.{◌≡◌, ℕ, ◌+◌, ◌<◌, ◌≤◌, true, false, List, [], ◌∷◌, ◌++◌, length, sym, ◌∙◌, ap, subst, arith, inl, inr}
use Rattle.std.proofs.Common.{Contains, Option, None, take, length-set, get_or-set_same, get_or-set_other}
use Rattle.std.specs.Prelude.{◌≢◌, slice_index, slice_set, ◌||◌, is_some, ℤ, ◌≤ℤ◌}
use Rattle.std.proofs.lemmas.Bool.{cases_eq, cases_lt}
use Rattle.std.proofs.lemmas.List.{length_push, get_or_default, get_or_past, take_all, take-append-le}
use Rattle.ch_graph.specs.declared.limits.TheConstants.{MOST_NODES}
use Rattle.ch_queue.specs.Queue.{key_of, HasNone}
use Rattle.ch_graph.specs.Graph.{Network}
use Rattle.ch_order.specs.declared.keys.Keys.{Keys}
use Rattle.ch_contract.specs.Legs.{Legs, AreLegsWithin, opening}
use Rattle.ch_contract.specs.Contraction.{Contracts}
use Rattle.ch_contract.specs.Order.{are_neighbours, next_depth, depth_after, AreTaken}
use Rattle.ch_contract.specs.Like.{IsHierarchyFrom}
use Rattle.ch_order.specs.Steps.{IsAfterGiven, IsAfterSteps, IsAfterStepsBy}
use Rattle.ch_contract.specs.LegRows.{AreLegsFrom, AreLegsTo}
use Rattle.ch_hierarchy.specs.Hierarchy.{LevelsAndLegs, IsLevelled}
use Rattle.ch_hierarchy.specs.Saved.{IsOrderOf}
use Rattle.ch_contract.specs.Built.{IsHierarchyIn}
use Rattle.ch_order.specs.Progress.{Progress, HasPriority, IsKeyBy, IsNext, IsOpen, IsContraction, IsContractionBy, IsStep, AreAll}
use Rattle.ch_order.specs.Priorities.{AreRefreshed, IsRanked}
use Rattle.ch_contract.proofs.theory.Contracting.{ContractsWithPairs, pairs_by_needed}
use Rattle.ch_contract.proofs.theory.Levelled.{within_steps, gone_steps, levelled}
use Rattle.ch_contract.proofs.theory.Enough.{hierarchy_by}
use Rattle.ch_contract.proofs.theory.OneInTurn.{one_map}
use Rattle.ch_contract.proofs.theory.OrderSteps.{AreLeast, then_legs, next, begun_fewer, begun_more, begun_none, begun_all, least_more}
use Rattle.ch_order.proofs.Depths.{depth_most, depth_more}
use Rattle.ch_contract.proofs.theory.GivenNodes.{all_others, no_other}
use Rattle.ch_order.proofs.PrioritySteps.{AreKept, all_taken, next_within, next_left, next_first, kept_more, kept_ranked}
use Rattle.ch_contract.proofs.theory.RowSteps.{levels_more, rows_more}

-- the state after these steps, of which the first k are given: each later node came first, and the remaining nodes have their keys
pub record IsAfter (k : ℕ) (by : Keys) (g : Network) (h : ℕ) (order : List ℕ) (L : ℕ → Legs) (p : Progress) : Type 0 where
  pub steps : IsAfterSteps g h order L p
  pub from : k ≤ length order
  pub least : AreLeast k by.by g h order L
  pub priorities : AreKept k by g.nodes h order L p.keys

-- the state after some steps, of which the first are given
pub record IsAfterSomeSteps (by : Keys) (g : Network) (h : ℕ) (given : List ℕ) (p : Progress) : Type 0 where
  pub order : List ℕ
  pub L : ℕ → Legs
  pub after : IsAfter (length given) by g h order L p
  pub first : take (length given) order ≡ given

-- the state at the start, when no step was made
pub given_none : (g : Network) (h : ℕ) (p : Progress) → IsOpen g p → IsAfterGiven g h [] p
given_none g h p o = record {
  L = λ i. opening g;
  after = record {
    begun = begun_none (Contracts g.nodes h) g;
    limits = o.limits;
    contracted = o.contracted;
    legs = λ a b. sym (o.legs a b);
    size = o.size;
    levels = λ i lt. absurd (omega arith);
    depths = o.depths;
    up = λ i lt. absurd (omega arith);
    down = λ i lt. absurd (omega arith);
  };
  keys = o.keys;
}

module _ (IsStep : Legs → ℕ → Legs → Type 0) (g : Network) (order : List ℕ) (L : ℕ → Legs) (p : Progress)
    (u : IsAfterStepsBy IsStep g order L p) (pairs : (M : Legs) (v : ℕ) (N : Legs) → IsStep M v N → ContractsWithPairs g.nodes M v N) where
  -- no contracted node is a neighbour of any node
  none_earlier : (v x : ℕ) → Contains order x → are_neighbours (L (length order)) v x ≡ false
  none_earlier v x has =
      let n : ℕ = length order in
      let at : slice_index order has.0 ≡ x = get_or_default order has.0 0 x has.1 ∙ has.2 in
      let gone = gone_steps g.nodes n order L (λ i lt. pairs _ _ _ (u.begun.step i lt)) has.0 n has.1 (omega arith) v in
      subst (λ z. are_neighbours (L n) v z ≡ false) at (λ i. is_some (gone.1 i) || is_some (gone.0 i))

  -- the remaining legs are within the limits
  pub legs_within : AreLegsWithin g.nodes p.legs
  legs_within =
      let n : ℕ = length order in
      let start = subst (AreLegsWithin g.nodes) (sym (one_map (L 0) (opening g) u.begun.start)) u.limits in
      subst (AreLegsWithin g.nodes) (one_map (L n) p.legs u.legs)
      (within_steps g.nodes n order L start (λ i lt. pairs _ _ _ (u.begun.step i lt)) n (omega arith))

module _ (IsStep : Legs → ℕ → Legs → Type 0) (g : Network) (order : List ℕ) (L : ℕ → Legs) (p : Progress)
    (u : IsAfterStepsBy IsStep g order L p) where
  -- a depth is at most the number of contracted nodes
  pub depth_within : (x : ℕ) → p.depth x ≤ p.contracted
  depth_within x =
      let deep = u.depths x in
      let most = depth_most order L (length order) x in
      let count = u.contracted in
      omega arith

module _ (IsStep : Legs → ℕ → Legs → Type 0) (g : Network) (order : List ℕ) (L : ℕ → Legs) (p : Progress)
    (u : IsAfterStepsBy IsStep g order L p) (v : ℕ) (within : v < g.nodes) (left : Contains order v → ⊥) where
  -- the number of contracted nodes is less than the number of nodes
  pub count_fewer : p.contracted < g.nodes
  count_fewer = omega (arith, begun_fewer IsStep g order L u.begun v within left, u.contracted)

  module _ (q : Progress) (s : IsContractionBy IsStep p v q) where
    -- the legs before the step
    before : p.legs ≡ L (length order)
    before = sym (one_map (L (length order)) p.legs u.legs)

    -- the step is such a step
    pub contracts : IsStep (L (length order)) v q.legs
    contracts = subst (λ (M : Legs). IsStep M v q.legs) before s.legs

    -- the depths after the step
    pub deep : (x : ℕ) → q.depth x ≡ depth_after (order ++ v ∷ []) (then_legs (length order) L q.legs) (length order + 1) x
    deep = depth_more order L v q.legs p.depth q.depth u.depths
        (subst (λ (M : Legs). (x : ℕ) → q.depth x ≡ next_depth M v p.depth x) before s.depths)

    -- the state after one more step
    pub steps_more : IsAfterStepsBy IsStep g (order ++ v ∷ []) (then_legs (length order) L q.legs) q
    steps_more =
        let n : ℕ = length order in
        let count : q.contracted ≡ n + 1 = s.contracted ∙ ap (λ z. z + 1) u.contracted in
        record {
          begun = begun_more IsStep g order L v q.legs u.begun within left contracts;
          limits = u.limits;
          contracted = count ∙ sym (length_push order v);
          legs = λ a b. ap (λ z. then_legs n L q.legs z a b) (length_push order v) ∙ ap (λ (M : Legs). M a b) (next order L v q.legs);
          size = ap length s.levels ∙ length-set p.levels v q.contracted ∙ u.size;
          levels = levels_more order v left L q.legs p.levels q.levels (let size = u.size in omega (arith, within))
              (s.levels ∙ ap (slice_set p.levels v) count) u.levels;
          depths = λ x. deep x ∙ ap (λ z. depth_after (order ++ v ∷ []) (then_legs n L q.legs) z x) (sym (length_push order v));
          up = rows_more order v left AreLegsFrom L q.legs p.up q.up (subst (λ (M : Legs). AreLegsFrom M v (q.up v)) before s.up)
              (λ x ne. (s.rows x ne).0) u.up;
          down = rows_more order v left AreLegsTo L q.legs p.down q.down
              (subst (λ (M : Legs). AreLegsTo M v (q.down v)) before s.down) (λ x ne. (s.rows x ne).1) u.down;
        }

-- the steps do not depend on the keys
pub steps_rekeyed : (IsStep : Legs → ℕ → Legs → Type 0) (g : Network) (order : List ℕ) (L : ℕ → Legs) (p : Progress)
    (keys : List (Option ℤ)) → IsAfterStepsBy IsStep g order L p → IsAfterStepsBy IsStep g order L (record p { keys = keys })
steps_rekeyed IsStep g order L p keys a = record {
  begun = a.begun;
  limits = a.limits;
  contracted = a.contracted;
  legs = a.legs;
  size =
      a.size;
  levels = a.levels;
  depths = a.depths;
  up = a.up;
  down = a.down;
}

module _ (IsStep : Legs → ℕ → Legs → Type 0) (g : Network) (order : List ℕ) (L : ℕ → Legs) (p : Progress)
    (u : IsAfterStepsBy IsStep g order L p) (whole : (x : ℕ) → x < g.nodes → Contains order x) where
  -- if the steps have all nodes, all are taken
  pub all_taken_once : AreTaken IsStep g order L
  all_taken_once = begun_all IsStep g order L u.begun whole

  -- the levels and the rows are then the hierarchy of the steps
  pub all_steps : (H : LevelsAndLegs) → AreAll g.nodes p H → IsHierarchyIn IsStep g H order L
  all_steps H all =
      let size = all_taken_once.nodes.0 in
      let node : (i : ℕ) → i < g.nodes → slice_index order i < g.nodes = λ i lt. all_taken_once.nodes.1 i 0 (omega arith) in
      record {
        contracted = all_taken_once;
        sizes = (ap length all.level ∙ all.sizes.0, all.sizes.1, all.sizes.2);
        level = λ i lt. ap (λ l. slice_index l (slice_index order i)) all.level ∙ u.levels i (omega arith);
        up = λ i lt. subst (AreLegsFrom (L i) (slice_index order i)) (sym (all.rows (slice_index order i) (node i lt)).0)
            (u.up i (omega arith));
        down = λ i lt. subst (AreLegsTo (L i) (slice_index order i)) (sym (all.rows (slice_index order i) (node i lt)).1)
            (u.down i (omega arith));
      }

  -- and that hierarchy is levelled
  pub all_levelled : ((M : Legs) (v : ℕ) (N : Legs) → IsStep M v N → ContractsWithPairs g.nodes M v N) → g.nodes ≤ MOST_NODES →
      (H : LevelsAndLegs) → AreAll g.nodes p H → IsLevelled H
  all_levelled pairs count H all = levelled g H order L (hierarchy_by IsStep (ContractsWithPairs g.nodes) g H order L (all_steps H all)
      (λ i lt. pairs _ _ _)) count u.limits

-- a queue in which no node has a key stays so if a key is removed
none_removed : (keys : List (Option ℤ)) (v : ℕ) → HasNone keys → HasNone (slice_set keys v None)
none_removed keys v none x = elim (cases_eq x v) [
  | inl e ↦ elim (cases_lt v (length keys)) [
    | inl lt ↦ subst (λ z. key_of (slice_set keys v None) z ≡ None) (sym e) (get_or-set_same keys v None None lt)
    | inr past ↦ get_or_past (slice_set keys v None) x None (omega (arith, length-set keys v None))
  ]
  | inr ne ↦ get_or-set_other keys v x None None ne ∙ none x
]

-- one more given node is contracted
pub given_more : (g : Network) (h : ℕ) (given : List ℕ) (p : Progress) (v : ℕ) (q : Progress) → IsAfterGiven g h given p →
    v < g.nodes → (Contains given v → ⊥) → IsContraction g.nodes h p v q → q.keys ≡ slice_set p.keys v None →
    IsAfterGiven g h (given ++ v ∷ []) q
given_more g h given p v q u within left s keys = record {
  L = then_legs (length given) u.L q.legs;
  after = steps_more (Contracts g.nodes h) g given u.L p u.after v within left q s;
  keys = (ap length keys ∙ length-set p.keys v None ∙ u.keys.0, subst HasNone (sym keys) (none_removed p.keys v u.keys.1));
}

-- the nodes that remain are judged after the given ones
pub steps_at_start : (by : Keys) (g : Network) (h : ℕ) (given others : List ℕ) (p q : Progress) → IsOrderOf g.nodes
    (given ++ others) → IsAfterGiven g h given p → IsRanked by g.nodes h others p q → IsAfterSomeSteps by g h given q
steps_at_start by g h given others p q is u r = record {
  order = given;
  L = u.L;
  after = record {
    steps = subst (IsAfterSteps g h given u.L) (sym r.rest) (steps_rekeyed (Contracts g.nodes h) g given u.L p q.keys u.after);
    from = omega arith;
    least = λ i x ge lt inside away. absurd (omega arith);
    priorities = kept_ranked by g.nodes h given u.L p.depth others p.keys q.keys u.keys.0 u.keys.1 u.after.depths
        (all_others given others g.nodes is) (no_other given others g.nodes is)
        (subst (λ (M : Legs). AreRefreshed (IsKeyBy by g.nodes h M p.depth) others p.keys q.keys)
        (sym (one_map (u.L (length given)) p.legs u.after.legs)) r.keys);
  };
  first = take_all (length given) given (omega arith);
}

module _ (by : Keys) (g : Network) (h : ℕ) (given : List ℕ) (p : Progress) (u : IsAfterSomeSteps by g h given p) where
  -- the remaining legs are within the limits
  pub steps_within : AreLegsWithin g.nodes p.legs
  steps_within = legs_within (Contracts g.nodes h) g u.order u.L p u.after.steps (pairs_by_needed g.nodes h)

  -- a depth is at most the number of contracted nodes
  pub steps_depth : (x : ℕ) → p.depth x ≤ p.contracted
  steps_depth = depth_within (Contracts g.nodes h) g u.order u.L p u.after.steps

  module _ (v : ℕ) (f : IsNext p.keys v) where
    -- the next node is a node of the graph
    pub steps_node : v < g.nodes
    steps_node = next_within (length given) by g.nodes h u.order u.L p.keys u.after.priorities v f

    -- the next node is not contracted yet
    left : Contains u.order v → ⊥
    left = next_left (length given) by g.nodes h u.order u.L p.keys u.after.priorities v f

    -- while a node remains, the number of contracted nodes is less than the number of nodes
    pub steps_count : p.contracted < g.nodes
    steps_count = count_fewer (Contracts g.nodes h) g u.order u.L p u.after.steps v steps_node left

    -- one more step keeps the state after some steps
    pub steps_next : f.priority ≤ℤ by.exact → (q : Progress) → IsStep by g.nodes h p v q → IsAfterSomeSteps by g h given q
    steps_next small q s =
        let n : ℕ = length u.order in
        let k : ℕ = length given in
        let a = u.after in
        let c = s.contraction in
        let same : p.legs ≡ u.L n = sym (one_map (u.L n) p.legs a.steps.legs) in
        record {
          order = u.order ++ v ∷ [];
          L = then_legs n u.L q.legs;
          after = record {
            steps = steps_more (Contracts g.nodes h) g u.order u.L p a.steps v steps_node left q c;
            from = let size = length_push u.order v in let le = a.from in omega arith;
            least = least_more k by.by g h u.order u.L v q.legs a.least a.from
                (next_first k by g.nodes h u.order u.L p.keys a.priorities v f small);
            priorities = kept_more k by g.nodes h u.order u.L p.keys a.priorities a.from v q.legs q.keys s.size s.taken left q.depth
                (deep (Contracts g.nodes h) g u.order u.L p a.steps v steps_node left q c)
                (subst (λ (M : Legs). (x : ℕ) → are_neighbours M v x ≡ true →
                HasPriority (IsKeyBy by g.nodes h q.legs q.depth) q.keys x) same s.anew)
                (subst (λ (M : Legs). (x : ℕ) → x ≢ v → are_neighbours M v x ≡ false → key_of q.keys x ≡ key_of p.keys x) same s.kept)
                (none_earlier (Contracts g.nodes h) g u.order u.L p a.steps (pairs_by_needed g.nodes h) v);
          };
          first = take-append-le k u.order (v ∷ []) a.from ∙ u.first;
        }

  module _ (none : HasNone p.keys) where
    whole : (x : ℕ) → x < g.nodes → Contains u.order x
    whole = all_taken (length given) by g.nodes h u.order u.L p.keys u.after.priorities none

    -- it is the hierarchy with the given nodes
    pub steps_at_end : (H : LevelsAndLegs) → AreAll g.nodes p H → IsHierarchyFrom by.by g h given H
    steps_at_end H all =
        let a = u.after.steps in
        let size = (all_taken_once (Contracts g.nodes h) g u.order u.L p a whole).nodes.0 in (
          u.order,
          u.L,
          all_steps (Contracts g.nodes h) g u.order u.L p a whole H all,
          u.first,
          λ i x ge lt inside away.
              u.after.least i x ge (omega arith) inside away,
        )

    -- the hierarchy is levelled
    pub steps_levelled : g.nodes ≤ MOST_NODES → (H : LevelsAndLegs) → AreAll g.nodes p H → IsLevelled H
    steps_levelled count H all =
        all_levelled (Contracts g.nodes h) g u.order u.L p u.after.steps whole (pairs_by_needed g.nodes h) count H all
