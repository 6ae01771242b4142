-- An order of contraction that grows by one node.
use Rattle.std.proofs.Common.{◌≡◌, ℕ, zero, suc, ◌+◌, ◌-◌, ◌<◌, ◌≤◌, Bool, true, false, add-one, List, [], ◌∷◌, ◌++◌, length, take}
use Rattle.std.proofs.Common.{refl, sym, ◌∙◌, ap, subst, arith, inl, inr, Contains}
use Rattle.std.specs.Prelude.{◌≢◌, AllPairs, All, nat_le, if◌then◌else◌, slice_index, ℤ}
use Rattle.std.proofs.lemmas.Bool.{cases_eq}
use Rattle.std.proofs.lemmas.Bool.Decides.{nat_tests}
use Rattle.std.proofs.lemmas.List.{take_all, take-append-le, get_or_append_left, get_or_push, length_push}
use Rattle.std.proofs.lemmas.List.Elements.{All-push}
use Rattle.ch_graph.specs.Graph.{Network}
use Rattle.ch_contract.specs.declared.measure.OrderBy.{OrderBy}
use Rattle.ch_contract.specs.Legs.{Legs, opening}
use Rattle.ch_contract.specs.Order.{are_neighbours, IsLastTouch, IsContractedBefore, AreTaken}
use Rattle.ch_contract.specs.Like.{IsPriorityFrom}
use Rattle.ch_contract.specs.Begun.{IsBegunBy}
use Rattle.ch_hierarchy.proofs.theory.Ordered.{distinct_most, whole_least, pairs_push}
use Rattle.ch_contract.proofs.theory.OneInTurn.{Agree, from_along}

-- after the first i steps, of which k are given, v comes before x
abbrev pub ComesBefore : ℕ → OrderBy → ℕ → ℕ → List ℕ → (ℕ → Legs) → ℕ → ℕ → ℕ → Type 0
ComesBefore k by n h order L i v x =
    (p q : ℤ) × IsPriorityFrom k by n h order L i v p × IsPriorityFrom k by n h order L i x q × IsContractedBefore p v q x

-- each node of this list after the first k came before all that remained
abbrev pub AreLeast : ℕ → OrderBy → Network → ℕ → List ℕ → (ℕ → Legs) → Type 0
AreLeast k by g h order L = (i x : ℕ) → k ≤ i → i < length order → x < g.nodes → (Contains (take i order) x → ⊥) →
    ComesBefore k by g.nodes h order L i (slice_index order i) x

-- the legs up to step i, and then M
abbrev pub then_legs : ℕ → (ℕ → Legs) → Legs → ℕ → Legs
then_legs i L M k = if nat_le k i then L k else M

-- up to step i the legs are as before
pub then_before : (i : ℕ) (L : ℕ → Legs) (M : Legs) (k : ℕ) → k ≤ i → then_legs i L M k ≡ L k
then_before i L M k le = let t : nat_le k i ≡ true = grind (arith, nat_tests) in rw t refl

-- after step i the legs are M
pub then_next : (i : ℕ) (L : ℕ → Legs) (M : Legs) (k : ℕ) → i < k → then_legs i L M k ≡ M
then_next i L M k lt = let t : nat_le k i ≡ false = grind (arith, nat_tests) in rw t refl

-- orders that agree up to a step agree up to each earlier one
agree_less : (i k : ℕ) (order : List ℕ) (L : ℕ → Legs) (other : List ℕ) (M : ℕ → Legs) → k ≤ i → Agree i order L other M →
    Agree k order L other M
agree_less i k order L other M le a = record { nodes = λ j lt. a.nodes j (omega arith); legs = λ j below. a.legs j (omega arith) }

-- the last touch of x after one more step that did not touch it
pub untouched_more : (order : List ℕ) (L : ℕ → Legs) (i x j : ℕ) → are_neighbours (L i) (slice_index order i) x ≡ false →
    IsLastTouch order L i x j → IsLastTouch order L (i + 1) x j
untouched_more order L i x j none t = record {
  within = let le = t.within in omega arith;
  touched = t.touched;
  later = λ k le lt. elim (cases_eq k i) [
    | inl e ↦ subst (λ z. are_neighbours (L z) (slice_index order z) x ≡ false) (sym e) none
    | inr ne ↦ t.later k le (omega arith)
  ];
}

-- the last touch of x after one more step that touched it
pub touched_more : (order : List ℕ) (L : ℕ → Legs) (i x : ℕ) → are_neighbours (L i) (slice_index order i) x ≡ true →
    IsLastTouch order L (i + 1) x (i + 1)
touched_more order L i x touch = record {
  within = omega arith;
  touched = λ first. let e : i + 1 - 1 ≡ i = omega arith in subst (λ z. are_neighbours (L z) (slice_index order z) x ≡ true) (sym e) touch;
  later = λ k le lt. absurd (omega arith);
}

-- some step touched x last, or none did
pub last_touch : (order : List ℕ) (L : ℕ → Legs) (i x : ℕ) → (j : ℕ) × IsLastTouch order L i x j
last_touch order L zero x =
    (0, record { within = omega arith; touched = λ first. absurd (omega arith); later = λ k le lt. absurd (omega arith) })
last_touch order L (suc i) x = subst (λ z. (j : ℕ) × IsLastTouch order L z x j) (add-one i)
    (at (are_neighbours (L i) (slice_index order i) x) refl (last_touch order L i x))
  where
    at : (b : Bool) → are_neighbours (L i) (slice_index order i) x ≡ b → (j : ℕ) × IsLastTouch order L i x j →
        (j : ℕ) × IsLastTouch order L (i + 1) x j
    at true e rest = (i + 1, touched_more order L i x e)
    at false e rest = (rest.0, untouched_more order L i x rest.0 e rest.1)

-- the number of contracted nodes is at most the number of nodes
pub begun_most : (g : Network) (order : List ℕ) → All (λ v. v < g.nodes) order → AllPairs ◌≢◌ order → length order ≤ g.nodes
begun_most g order below distinct = distinct_most order g.nodes distinct (λ q has. subst (λ z. z < g.nodes) has.2 (below has.0 q has.1))

module _ (order : List ℕ) (L : ℕ → Legs) (v : ℕ) (M : Legs) where
  -- the order with one more node at its end
  abbrev pub more : List ℕ
  more = order ++ v ∷ []

  -- the legs with the legs after the new step
  abbrev pub legs_more : ℕ → Legs
  legs_more = then_legs (length order) L M

  -- the earlier nodes keep their places
  pub before : (k : ℕ) → k < length order → slice_index order k ≡ slice_index more k
  before k lt = sym (get_or_append_left order (v ∷ []) 0 k lt)

  -- the next node is at the end
  pub here : slice_index more (length order) ≡ v
  here = get_or_push order v 0 (length order) refl

  -- the longer order agrees with the shorter one
  pub agree : Agree (length order) order L more legs_more
  agree = record { nodes = before; legs = λ k le. sym (then_before (length order) L M k le) }

  -- the legs before the step and after it
  pub now : legs_more (length order) ≡ L (length order)
  now = then_before (length order) L M (length order) (omega arith)

  pub next : legs_more (length order + 1) ≡ M
  next = then_next (length order) L M (length order + 1) (omega arith)

module _ (IsStep : Legs → ℕ → Legs → Type 0) (g : Network) (order : List ℕ) (L : ℕ → Legs) (b : IsBegunBy IsStep g order L) (v : ℕ)
    (within : v < g.nodes) (left : Contains order v → ⊥) where
  -- after one more remaining node is taken, the taken nodes differ
  pub nodes_more : All (λ x. x < g.nodes) (more order L v (L 0)) × AllPairs ◌≢◌ (more order L v (L 0))
  nodes_more = (All-push (λ x. x < g.nodes) order v b.nodes.0 within, pairs_push order v b.nodes.1 left)

  -- the number of taken nodes is less than the number of nodes
  pub begun_fewer : length order < g.nodes
  begun_fewer = omega (arith, begun_most g (order ++ v ∷ []) nodes_more.0 nodes_more.1, length_push order v)

module _ (IsStep : Legs → ℕ → Legs → Type 0) (g : Network) (order : List ℕ) (L : ℕ → Legs) (v : ℕ) (M : Legs)
    (b : IsBegunBy IsStep g order L) (within : v < g.nodes) (left : Contains order v → ⊥) (step : IsStep (L (length order)) v M) where
  -- the step is such a step
  step_here : IsStep (legs_more order L v M (length order)) (slice_index (more order L v M) (length order))
      (legs_more order L v M (length order + 1))
  step_here =
      let two = subst (λ (N : Legs). IsStep N v M) (sym (now order L v M)) step in
      let three = subst (λ x. IsStep (legs_more order L v M (length order)) x M) (sym (here order L v M)) two in
      subst (λ (N : Legs). IsStep (legs_more order L v M (length order))
      (slice_index (more order L v M) (length order)) N) (sym (next order L v M)) three

  -- earlier steps are such steps
  step_before : (k : ℕ) → k < length order →
      IsStep (legs_more order L v M k) (slice_index (more order L v M) k) (legs_more order L v M (k + 1))
  step_before k lt =
      let one = subst (λ (N : Legs). IsStep N (slice_index order k) (L (k + 1)))
      ((agree order L v M).legs k (omega arith)) (b.step k lt) in
      let two = subst (λ x. IsStep (legs_more order L v M k) x (L (k + 1))) (before order L v M k lt) one in
      subst (λ (N : Legs). IsStep (legs_more order L v M k) (slice_index (more order L v M) k) N)
      ((agree order L v M).legs (k + 1) (omega arith)) two

  -- all steps are such steps
  step_more : (k : ℕ) → k < length (more order L v M) →
      IsStep (legs_more order L v M k) (slice_index (more order L v M) k) (legs_more order L v M (k + 1))
  step_more k lt = elim (cases_eq k (length order)) [
    | inl e ↦ subst (λ z. IsStep (legs_more order L v M z) (slice_index (more order L v M) z)
        (legs_more order L v M (z + 1))) (sym e) step_here
    | inr ne ↦ let size = length_push order v in step_before k (omega arith)
  ]

  -- the nodes of the longer order are taken in order
  pub begun_more : IsBegunBy IsStep g (order ++ v ∷ []) (then_legs (length order) L M)
  begun_more = record {
    nodes = nodes_more IsStep g order L b v within left;
    start = λ x y. ap (λ (N : Legs). N x y) (then_before (length order) L M 0 (omega arith)) ∙ b.start x y;
    step = step_more;
  }

module _ (k : ℕ) (by : OrderBy) (g : Network) (h : ℕ) (order : List ℕ) (L : ℕ → Legs) (v : ℕ) (M : Legs)
    (least : AreLeast k by g h order L) (from : k ≤ length order)
    (first : (x : ℕ) → x < g.nodes → (Contains order x → ⊥) → ComesBefore k by g.nodes h order L (length order) v x) where
  -- at each earlier step the node came before all remaining nodes
  least_before : (i x : ℕ) → k ≤ i → i < length order → x < g.nodes → (Contains (take i order) x → ⊥) →
      ComesBefore k by g.nodes h (more order L v M) (legs_more order L v M) i (slice_index (more order L v M) i) x
  least_before i x ge lt inside away =
      let r = least i x ge lt inside away in
      let a = agree_less (length order) i order L (more order L v M) (legs_more order L v M) (omega arith) (agree order L v M) in
      let one = from_along k by g.nodes h i order L (more order L v M) (legs_more order L v M) (slice_index order i) r.0 ge a r.2 in (
        r.0,
        r.1,
        subst (λ z. IsPriorityFrom k by g.nodes h (more order L v M) (legs_more order L v M) i z r.0)
            (before order L v M i lt) one,
        from_along k by g.nodes h i order L (more order L v M) (legs_more order L v M) x r.1 ge a
            r.3,
        subst (λ z. IsContractedBefore r.0 z r.1 x) (before order L v M i lt) r.4,
      )

  -- at this step the node comes before all remaining nodes
  least_here : (x : ℕ) → x < g.nodes → (Contains order x → ⊥) →
      ComesBefore k by g.nodes h (more order L v M) (legs_more order L v M) (length order) (slice_index (more order L v M) (length order)) x
  least_here x inside away =
      let r = first x inside away in
      let n : ℕ = length order in
      let one = from_along k by g.nodes h n order L (more order L v M) (legs_more order L v M) v r.0 from (agree order L v M) r.2 in (
        r.0,
        r.1,
        subst (λ z. IsPriorityFrom k by g.nodes h (more order L v M) (legs_more order L v M) n z r.0)
            (sym (here order L v M)) one,
        from_along k by g.nodes h n order L (more order L v M) (legs_more order L v M) x r.1 from
            (agree order L v M) r.3,
        subst (λ z. IsContractedBefore r.0 z r.1 x) (sym (here order L v M)) r.4,
      )

  -- at all steps after the given ones the node comes before all remaining nodes
  pub least_more : AreLeast k by g h (more order L v M) (legs_more order L v M)
  least_more i x ge lt inside away = elim (cases_eq i (length order)) [
    | inl e ↦
        let whole : take i (more order L v M) ≡ order = take-append-le i order (v ∷ []) (omega arith) ∙ take_all i order (omega arith) in
        subst (λ z. ComesBefore k by g.nodes h (more order L v M) (legs_more order L v M) z (slice_index (more order L v M) z) x)
        (sym e) (least_here x inside (λ has. away (subst (λ l. Contains l x) (sym whole) has)))
    | inr ne ↦
        let size = length_push order v in
        let below : i < length order = omega arith in
        let part : take i (more order L v M) ≡ take i order = take-append-le i order (v ∷ []) (omega arith) in
        least_before i x ge below inside (λ has. away (subst (λ l. Contains l x) (sym part) has))
  ]

-- no node is taken in an empty list
pub begun_none : (IsStep : Legs → ℕ → Legs → Type 0) (g : Network) → IsBegunBy IsStep g [] (λ i. opening g)
begun_none IsStep g = record {
  nodes = (λ k d lt. absurd (omega arith), λ i j d lt inside. absurd (omega arith));
  start = λ x y. refl;
  step = λ i lt. absurd (omega arith);
}

-- a list of taken nodes that has all nodes is an order in which all are taken
pub begun_all : (IsStep : Legs → ℕ → Legs → Type 0) (g : Network) (order : List ℕ) (L : ℕ → Legs) → IsBegunBy IsStep g order L →
    ((x : ℕ) → x < g.nodes → Contains order x) → AreTaken IsStep g order L
begun_all IsStep g order L b each =
    let size : length order ≡ g.nodes = omega (arith, whole_least order g.nodes each, begun_most g order b.nodes.0 b.nodes.1) in
    record {
      nodes = (size, b.nodes.0, b.nodes.1);
      start = b.start;
      step = λ i lt. b.step i (omega arith);
    }
