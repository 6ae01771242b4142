-- The rounds of a search: after k rounds the least costs of chains of at most k legs are known.
use Rattle.std.proofs.Common.{◌≡◌, ℕ, suc, ◌+◌, ◌*◌, ◌<◌, ◌≤◌, List, [], ◌∷◌, length, get_or, All, rules, Some, Contains, refl, sym}
use Rattle.std.proofs.Common.{◌∙◌, ap, subst, arith, inl, inr}
use Rattle.std.specs.Prelude.{◌⊎◌, ◌≢◌}
use Rattle.std.specs.List.{AllByRecursion}
use Rattle.std.proofs.lemmas.List.Elements.{All-from_get_or, All-contains, Contains-get_or}
use Rattle.std.proofs.Math.Nat.{mul-le-mul_right}
use Rattle.ch_graph.specs.declared.limits.TheConstants.{MOST_NODES, MOST_WEIGHT, MOST_HOPS}
use Rattle.ch_contract.specs.declared.held_cost.TheConstants.{MOST_CHAIN_ARCS, NEVER_ARCS}
use Rattle.ch_graph.specs.declared.cost.Cost.{Cost}
use Rattle.ch_graph.specs.Cost.{IsAtMost, cost_sum, no_cost}
use Rattle.ch_hierarchy.specs.declared.leg.Leg.{Leg}
use Rattle.ch_contract.specs.declared.witness_search.Wanted.{Wanted}
use Rattle.ch_contract.specs.Legs.{Label, Legs, IsChain, chain_cost, leg_cost, AreLegsWithin}
use Rattle.ch_hierarchy.specs.Rows.{row}
use Rattle.ch_contract.specs.LegRows.{label_of}
use Rattle.ch_contract.specs.LegLists.{AreRows, legs_into}
use Rattle.ch_contract.specs.HeldCosts.{never, IsHeld}
use Rattle.ch_contract.specs.KnownCosts.{Known, ChainStart, known_in, known_at, Lowers, IsOnly, IsClean, IsAfterRounds, IsRoomFor}
use Rattle.ch_contract.specs.KnownCosts.{IsLegLight, AreTouched, IsOneMoreOf, step_to, IsWanted, AreLeastCosts, IsSpread, AreSteps}
use Rattle.ch_contract.specs.KnownCosts.{IsFront, AreLegsUpTo}
use Rattle.ch_contract.proofs.theory.RowLegs.{row_has, row_member, leg_at}
use Rattle.ch_hierarchy.proofs.theory.NoLeg.{no_leg}
use Rattle.ch_contract.proofs.theory.WitnessSearch.{some_of}
use Rattle.ch_graph.proofs.CostOrder.{IsAtMost_refl, IsAtMost_trans, IsAtMost-no_cost}
use Rattle.ch_graph.proofs.CostSums.{IsAtMost-cost_sum}

-- a wanted chain of at most k legs has at most k + 1 legs
pub wanted_more : (L : Legs) (s : Wanted) (k x : ℕ) (d : Cost) → IsWanted L s k x d → IsWanted L s (k + 1) x d
wanted_more L s k x d w =
    let short = w.0.short in (record { nodes = w.0.nodes; chain = w.0.chain; short = omega arith; away = w.0.away; cost = w.0.cost }, w.1)

-- a leg of the list of a node is a leg into the node
listed_leg : (lists : List (List Leg)) (x : ℕ) (l : Leg) → AreRows lists → Contains (row lists x) l →
    legs_into lists l.node x ≡ Some (label_of l)
listed_leg lists x l rows c = row_has (row lists x) l (rows x) c

-- one more leg in front of a wanted chain makes a wanted chain
one_more_wanted : (lists : List (List Leg)) (s : Wanted) (k : ℕ) (front : List ChainStart) (x : ℕ) (d : Cost) → AreRows lists →
    AreSteps (legs_into lists) s k front → IsOneMoreOf lists front s x d → IsWanted (legs_into lists) s (k + 1) x d
one_more_wanted lists s k front x d rows steps m =
    let L = legs_into lists in
    let f = m.0 in
    let more = m.2 in
    let l = more.0 in
    let rest = (steps f m.1).0 in
    let short = rest.short in
    let leg : L x f.node ≡ Some (label_of l) =
    subst (λ z. L z f.node ≡ Some (label_of l)) more.2 (listed_leg lists f.node l rows more.1) in (
      record {
        nodes = f.node ∷ rest.nodes;
        chain = (rw leg refl, rest.chain);
        short = omega arith;
        away = (more.3, (rest.away.0, rest.away.1));
        cost = ap (λ o. cost_sum (leg_cost o) (chain_cost L f.node rest.nodes)) leg ∙ ap (cost_sum l.cost) rest.cost ∙ sym more.4;
      },
      more.5,
    )

-- a round: the front is spread, and the nodes with lowered costs are the next front
module _ (lists : List (List Leg)) (s : Wanted) (k : ℕ) (front : List ChainStart) (old new : Known) (rows : AreRows lists)
    (least : AreLeastCosts (legs_into lists) s k old) (steps : AreSteps (legs_into lists) s k front)
    (whole : IsFront (legs_into lists) s old front)
    (low : Lowers (IsOneMoreOf lists front s) old new) where
  abbrev pub L : Legs
  L = legs_into lists

  -- a node that was spread stays spread
  spread_kept : (x : ℕ) (e : Cost) → IsSpread L s old x e → IsSpread L s new x e
  spread_kept x e h y l leg off le = IsAtMost_trans (known_at new y) (known_at old y) _ (low.lower y) (h y l leg off le)

  -- a node of the front is spread
  front_spread : (x : ℕ) (e : Cost) → Contains front (step_to x e) → IsSpread L s new x e
  front_spread x e c y l leg off le =
      low.whole y (cost_sum l.cost e) (step_to x e, c, (leg_at y l, row_member (row lists x) y l leg, refl, off, refl, le))

  reached_spread : (x : ℕ) → IsAtMost (known_at old x) s.most → IsSpread L s new x (known_at old x)
  reached_spread x le = elim (whole x le) [
    | inl c ↦ front_spread x (known_at old x) c
    | inr h ↦ spread_kept x (known_at old x) h
  ]

  round_sound : (x : ℕ) → (known_at new x ≡ known_at old x) ⊎ IsOneMoreOf lists front s x (known_at new x) →
      (known_at old x ≡ never) ⊎ IsWanted L s k x (known_at old x) → (known_at new x ≡ never) ⊎ IsWanted L s (k + 1) x (known_at new x)
  round_sound x (inr m) _ = inr (one_more_wanted lists s k front x _ rows steps m)
  round_sound x (inl e) (inl none) = inl (e ∙ none)
  round_sound x (inl e) (inr w) = inr (subst (IsWanted L s (k + 1) x) (sym e) (wanted_more L s k x _ w))

  -- after the round the known cost is at most that of each wanted chain of at most k + 1 legs
  whole_cons : (x : ℕ) (d : Cost) (nodes : List ℕ) → IsChain L x s.end nodes → length nodes ≤ k + 1 → x ≢ s.avoided →
      AllByRecursion (λ y. y ≢ s.avoided) nodes → chain_cost L x nodes ≡ d → IsAtMost d s.most → IsAtMost (known_at new x) d
  whole_cons x d [] chain short off away cost le =
      IsAtMost_trans (known_at new x) (known_at old x) d (low.lower x)
      (least.whole x d (record { nodes = []; chain = chain; short = omega arith; away = (off, tt); cost = cost }, le))
  whole_cons x d (y ∷ ys) chain short off away cost le =
      let l = some_of (L x y) chain.0 in
      let rest = chain_cost L y ys in
      let sum : cost_sum l.0.cost rest ≡ d = ap (λ o. cost_sum (leg_cost o) rest) (sym l.1) ∙ cost in
      let part : IsAtMost rest (cost_sum l.0.cost rest) = (omega arith, λ e. omega arith) in
      let light : IsAtMost rest s.most = IsAtMost_trans rest d s.most (subst (IsAtMost rest) sum part) le in
      let known : IsAtMost (known_at old y) rest = least.whole y rest
      (record { nodes = ys; chain = chain.1; short = omega arith; away = away; cost = refl }, light) in
      let less : IsAtMost (cost_sum l.0.cost (known_at old y)) d = subst (IsAtMost (cost_sum l.0.cost (known_at old y))) sum
      (IsAtMost-cost_sum l.0.cost l.0.cost (known_at old y) rest (IsAtMost_refl l.0.cost) known) in
      let spread = reached_spread y (IsAtMost_trans (known_at old y) rest s.most known light) in
      IsAtMost_trans (known_at new x) (cost_sum l.0.cost (known_at old y)) d (spread x l.0 l.1 off (IsAtMost_trans _ d s.most less le)) less

  pub next_costs : AreLeastCosts L s (k + 1) new
  next_costs = record {
    sound = λ x. round_sound x (low.sound x) (least.sound x);
    whole = λ x d w. whole_cons x d w.0.nodes w.0.chain w.0.short w.0.away.0 w.0.away.1 w.0.cost w.1;
  }

  pub next_steps : old.next ≡ [] → AreSteps L s (k + 1) new.next
  next_steps none f c = elim (low.next f c) [
    | inl early ↦ let no = subst (λ z. Contains z f) none early in let at = no.1 in absurd (omega arith)
    | inr m ↦ one_more_wanted lists s k front f.node f.cost rows steps m
  ]

  pub next_front : IsFront L s new new.next
  next_front x le = elim (low.fresh x) [
    | inl same ↦ inr (subst (IsSpread L s new x) (sym same) (reached_spread x (subst (λ z. IsAtMost z s.most) same le)))
    | inr at ↦ inl at.0
  ]

-- touched nodes stay touched, and nodes with lowered costs become touched
touched_next : (P : ℕ → Cost → Type 0) (old new : Known) → AreTouched old → Lowers P old new → AreTouched new
touched_next P old new t low = record {
  each = λ x. each x (low.fresh x) (t.each x);
  within = All-from_get_or (λ x. x < length new.costs) new.touched 0
      (λ i lt. within _ (low.touched _ (Contains-get_or new.touched i 0 lt)));
}
  where
    each : (x : ℕ) → (known_at new x ≡ known_at old x) ⊎ (Contains new.next (step_to x (known_at new x)) × Contains new.touched x) →
        (known_at old x ≡ never) ⊎ Contains old.touched x → (known_at new x ≡ never) ⊎ Contains new.touched x
    each x (inr at) _ = inr at.1
    each x (inl e) (inl none) = inl (e ∙ none)
    each x (inl e) (inr c) = inr (low.touched_kept x c)

    within : (x : ℕ) → Contains old.touched x ⊎ (x < length old.costs) → x < length new.costs
    within x (inl c) = let lt = All-contains (λ y. y < length old.costs) old.touched x t.within c in omega (arith, low.size)
    within x (inr lt) = omega (arith, low.size)

not_among : {X : Type 0} (xs : List X) (x : X) → xs ≡ [] → Contains xs x → ⊥
not_among xs x none c = let at = (subst (λ z. Contains z x) none c).1 in omega arith

-- at first only the empty chain is known
pub rounds_start : (n : ℕ) (L : Legs) (s : Wanted) (old new : Known) → s.end ≢ s.avoided →
    (s.most.weight ≤ MOST_WEIGHT) × (s.most.arcs < NEVER_ARCS) →
    s.end < n → IsClean n old → old.next ≡ [] → Lowers (IsOnly s.end no_cost) old new → IsAfterRounds n L s 0 new
rounds_start n L s old new off most inside clean none low = record {
  size = low.size ∙ clean.size;
  least = record { sound = λ x. sound x (low.sound x); whole = λ x d w. whole x d w.0.nodes w.0.chain w.0.short w.0.cost };
  steps = λ f c. elim (low.next f c) [
    | inl early ↦ absurd (not_among old.next f none early)
    | inr m ↦ only f.node f.cost m
  ];
  front = λ x le. front x le (low.fresh x);
  touched = touched_next (IsOnly s.end no_cost) old new
      (record { each = λ x. inl (clean.rest x); within = subst (All (λ x. x < length old.costs)) (sym clean.touched) (search rules) }) low;
}
  where
    only : (x : ℕ) (d : Cost) → IsOnly s.end no_cost x d → IsWanted L s 0 x d
    only x d m = (
      record { nodes = []; chain = m.0; short = omega arith; away = ((λ e. off (sym m.0 ∙ e)), tt); cost = sym m.1 },
      subst (λ z. IsAtMost z s.most) (sym m.1) (IsAtMost-no_cost s.most),
    )

    sound : (x : ℕ) → (known_at new x ≡ known_at old x) ⊎ IsOnly s.end no_cost x (known_at new x) →
        (known_at new x ≡ never) ⊎ IsWanted L s 0 x (known_at new x)
    sound x (inl e) = inl (e ∙ clean.rest x)
    sound x (inr m) = inr (only x _ m)

    whole : (x : ℕ) (d : Cost) (nodes : List ℕ) → IsChain L x s.end nodes → length nodes ≤ 0 → chain_cost L x nodes ≡ d →
        IsAtMost (known_at new x) d
    whole x d [] chain short cost = low.whole x d (chain, sym cost)
    whole x d (y ∷ ys) chain short cost = absurd (omega arith)

    front : (x : ℕ) → IsAtMost (known_at new x) s.most →
        (known_at new x ≡ known_at old x) ⊎ (Contains new.next (step_to x (known_at new x)) × Contains new.touched x) →
        Contains new.next (step_to x (known_at new x)) ⊎ IsSpread L s new x (known_at new x)
    front x le (inr at) = inl at.0
    front x le (inl e) =
        let low_enough : IsAtMost never s.most = subst (λ z. IsAtMost z s.most) (e ∙ clean.rest x) le in
        let weight = low_enough.0 in
        let arcs = low_enough.1 (omega (arith, most.0)) in
        absurd (omega (arith, most.1))

-- the state after one more round
pub rounds_next : (lists : List (List Leg)) (n : ℕ) (s : Wanted) (k : ℕ) (before mid new : Known) → AreRows lists →
    mid.costs ≡ before.costs → mid.touched ≡ before.touched → mid.next ≡ [] →
    IsAfterRounds n (legs_into lists) s k before → Lowers (IsOneMoreOf lists before.next s) mid new →
    IsAfterRounds n (legs_into lists) s (k + 1) new
rounds_next lists n s k before mid new rows costs touched none u low =
    let least : AreLeastCosts (legs_into lists) s k mid = record {
      sound = λ x. subst (λ (z : List Cost). (known_in z x ≡ never) ⊎ IsWanted (legs_into lists) s k x (known_in z x)) (sym costs)
          (u.least.sound x);
      whole = λ x d w. subst (λ (z : List Cost). IsAtMost (known_in z x) d) (sym costs) (u.least.whole x d w);
    } in
    let front : IsFront (legs_into lists) s mid before.next =
    λ x le. subst (λ (z : List Cost). IsAtMost (known_in z x) s.most → Contains before.next (step_to x (known_in z x))
    ⊎ ((y : ℕ) (l : Label) → legs_into lists y x ≡ Some l → y ≢ s.avoided → IsAtMost (cost_sum l.cost (known_in z x)) s.most →
    IsAtMost (known_in z y) (cost_sum l.cost (known_in z x)))) (sym costs) (u.front x) le in
    record {
      size = low.size ∙ ap length costs ∙ u.size;
      least = next_costs lists s k before.next mid new rows least u.steps front low;
      steps = next_steps lists s k before.next mid new rows least u.steps front low none;
      front = next_front lists s k before.next mid new rows least u.steps front low;
      touched = touched_next _ mid new (record {
        each = λ x. subst (λ (z : List Cost). (known_in z x ≡ never) ⊎ Contains mid.touched x) (sym costs)
            (subst (λ z. (known_at before x ≡ never) ⊎ Contains z x) (sym touched) (u.touched.each x));
        within = subst (λ (z : List Cost). All (λ x. x < length z) mid.touched) (sym costs)
            (subst (λ z. All (λ x. x < length before.costs) z) (sym touched) u.touched.within);
      }) low;
    }

-- a chain stands for at most n arcs for each of its legs
chain_arcs : (n : ℕ) (L : Legs) (u w : ℕ) (xs : List ℕ) → AreLegsWithin n L → IsChain L u w xs → (chain_cost L u xs).arcs ≤ length xs * n
chain_arcs n L u w [] limits chain = omega arith
chain_arcs n L u w (x ∷ xs) limits chain =
    let l = some_of (L u x) chain.0 in
    let leg = (limits u x l.0 l.1).arcs in
    let rest = chain_arcs n L x w xs limits chain.1 in
    let is : (chain_cost L u (x ∷ xs)).arcs ≡ l.0.cost.arcs + (chain_cost L x xs).arcs =
    ap (λ o. (cost_sum (leg_cost o) (chain_cost L x xs)).arcs) l.1 in
    subst (λ z. z ≤ suc (length xs) * n) (sym is) (omega arith)

-- at most MOST_HOPS legs of at most n arcs each have at most MOST_CHAIN_ARCS arcs
product : (k n : ℕ) → k ≤ MOST_HOPS → n ≤ MOST_NODES → k * n ≤ MOST_CHAIN_ARCS
product k n h m = omega (arith, mul-le-mul_right {m = k} {n = MOST_HOPS} n h)

-- a chain with at most as many legs as a witness may have stands for at most MOST_CHAIN_ARCS arcs
pub chain_small : (n : ℕ) (L : Legs) (u w : ℕ) (xs : List ℕ) → AreLegsWithin n L → n ≤ MOST_NODES → length xs ≤ MOST_HOPS →
    IsChain L u w xs → (chain_cost L u xs).arcs ≤ MOST_CHAIN_ARCS
chain_small n L u w xs limits small few chain =
    let arcs = chain_arcs n L u w xs limits chain in
    let bound = product (length xs) n few small in omega arith

-- a wanted chain is among the n nodes, and its cost is small
pub wanted_small : (limit n : ℕ) (L : Legs) (s : Wanted) (k x : ℕ) (d : Cost) → AreLegsWithin n L → n ≤ MOST_NODES → k ≤ MOST_HOPS →
    s.end < n → IsHeld limit s.most →
    IsWanted L s k x d → (x < n) × IsHeld limit d
wanted_small limit n L s k x d limits small few inside most w =
    (node w.0.nodes w.0.chain, record { limited = limited; weight = weight; arcs = arcs })
  where
    node : (xs : List ℕ) → IsChain L x s.end xs → x < n
    node [] chain = subst (λ z. z < n) (sym chain) inside
    node (y ∷ ys) chain = let l = some_of (L x y) chain.0 in (limits x y l.0 l.1).ends.0

    limited : d.weight ≤ 2 * limit
    limited = let le = w.1.0 in omega (arith, most.limited)

    weight : d.weight ≤ MOST_WEIGHT
    weight = let le = w.1.0 in omega (arith, most.weight)

    arcs : d.arcs ≤ MOST_CHAIN_ARCS
    arcs =
        let short = w.0.short in
        subst (λ z. z.arcs ≤ MOST_CHAIN_ARCS) w.0.cost (chain_small n L x s.end w.0.nodes limits small (omega arith) w.0.chain)

-- one more leg may be put in front of each step
pub steps_room : (limit : ℕ) (lists : List (List Leg)) (n : ℕ) (s : Wanted) (k : ℕ) (front : List ChainStart) → AreRows lists →
    AreLegsWithin n (legs_into lists) → AreLegsUpTo limit (legs_into lists) →
    n ≤ MOST_NODES → k ≤ MOST_HOPS → s.end < n → IsHeld limit s.most → AreSteps (legs_into lists) s k front →
    All (λ f. (f.node < n) × IsRoomFor limit n (row lists f.node) f) front
steps_room limit lists n s k front rows limits light small few inside most steps =
    All-from_get_or (λ f. (f.node < n) × IsRoomFor limit n (row lists f.node) f) front (step_to 0 no_cost)
    (λ i lt. room (get_or front i (step_to 0 no_cost)) (Contains-get_or front i (step_to 0 no_cost) lt))
  where
    leg : (x : ℕ) (l : Leg) → Contains (row lists x) l → IsLegLight limit n l
    leg x l c =
        let is = listed_leg lists x l rows c in
        let within = limits l.node x (label_of l) is in
        record {
          node = within.ends.0;
          cost = record {
            limited = light l.node x (label_of l) is;
            weight = within.weight;
            arcs =
                omega (arith, within.arcs);
          };
        }

    room : (f : ChainStart) → Contains front f → (f.node < n) × IsRoomFor limit n (row lists f.node) f
    room f c =
        let is = wanted_small limit n (legs_into lists) s k f.node f.cost limits small few inside most (steps f c) in (
          is.0,
          record {
            within = All-from_get_or (IsLegLight limit n) (row lists f.node) no_leg
                (λ i lt. leg f.node _ (Contains-get_or (row lists f.node) i no_leg lt));
            held = is.1;
          },
        )
