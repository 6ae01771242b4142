-- Contraction where a witness has one leg lowers each leg to the sum over the node that is taken.
use Rattle.std.proofs.Common.{◌≡◌, ℕ, suc, zero, ◌+◌, ◌<◌, ◌≤◌, Bool, true, false, cond, List, [], ◌∷◌, Option, Some, None, Contains}
use Rattle.std.proofs.Common.{refl, sym, ◌∙◌, ap, subst, arith, inl, inr}
use Rattle.std.specs.Prelude.{◌⊎◌, ◌≢◌, ◌==◌, ◌&&◌, ◌||◌, nat_le, nat_lt, slice_index}
use Rattle.std.proofs.lemmas.Bool.{cases_eq, cases_lt, eqb-true, eqb-false, true≢false, false≢true}
use Rattle.std.proofs.lemmas.Bool.Decides.{nat_tests}
use Rattle.std.proofs.lemmas.Option.{same_Some, none-some}
use Rattle.ch_graph.specs.declared.limits.TheConstants.{MOST_WEIGHT}
use Rattle.ch_graph.specs.declared.cost.Cost.{Cost}
use Rattle.ch_graph.specs.declared.arc.InArc.{InArc}
use Rattle.ch_graph.specs.Cost.{IsAtMost, cost_sum}
use Rattle.ch_graph.specs.Graph.{Network, IsWithinLimits}
use Rattle.ch_graph.proofs.CostOrder.{IsAtMost_or_IsBelow, IsBelow_not, is_lt-cost_cmp}
use Rattle.ch_graph.proofs.Lists.{contains_head, contains_tail, contains_cons, contains_none, contains_map, contains_map_of}
use Rattle.ch_graph.proofs.Numbers.{eqb-refl}
use Rattle.ch_hierarchy.proofs.theory.Ordered.{same_ends}
use Rattle.ch_contract.specs.declared.shortcut.Shortcut.{Shortcut}
use Rattle.ch_contract.specs.Legs.{Label, Legs, IsWitness, HasWitness, AreLegsWithin, opening}
use Rattle.ch_contract.specs.Contraction.{IsShortcut, AreShortcuts, Contracts, shortcut_label, leg_after_shortcuts, legs_after_contraction}
use Rattle.ch_contract.specs.Legs.{LeadsWithin}
use Rattle.ch_contract.specs.Order.{AreTaken}
use Rattle.ch_custom.specs.Customizing.{is_cheaper, leg_over, legs_lowered, Lowers, ContractingIsLowering, LoweredAreContracted, IsPair}
use Rattle.ch_custom.specs.Customizing.{HasParent, IsTopology, StaysIn, LegsStayInTopologies, TopologiesServeAllWeights, ParentsClose}
use Rattle.ch_contract.proofs.theory.Chains.{chain_cost-one}
use Rattle.ch_contract.proofs.theory.Contracting.{ContractsWithPairs, IsOverridden, override_cases, pairs_by_needed}
use Rattle.ch_contract.proofs.theory.Enough.{own_witness, hierarchy_by}
use Rattle.ch_contract.proofs.theory.Levelled.{within_more, gone_steps}
use Rattle.ch_contract.proofs.theory.OneInTurn.{one_map}
use Rattle.ch_contract.proofs.theory.OpeningLegs.{opening_leg, opening_within}
use Rattle.ch_contract.proofs.theory.WitnessSearch.{some_of}
use Rattle.ch_contract.proofs.theory.RowLegs.{none_unless}
use Rattle.ch_contract.proofs.theory.ShortcutsListed.{shortcuts_listed}

-- if a shortcut from u to w is in the list, the leg is that of such a shortcut
overridden : (v : ℕ) (list : List Shortcut) (u w : ℕ) (before : Option Label) (s : Shortcut) → Contains list s → s.from ≡ u → s.to ≡ w →
    IsOverridden v list u w before
overridden v [] u w before s c from to = absurd (contains_none s c)
overridden v (t ∷ list) u w before s c from to =
    at (t.from == u && t.to == w) refl (contains_cons t s list c) (λ d. overridden v list u w before s d from to)
  where
    met : t ≡ s → (t.from == u && t.to == w) ≡ true
    met same = rw (ap (λ (r : Shortcut). r.from) same ∙ from, ap (λ (r : Shortcut). r.to) same ∙ to, eqb-refl u, eqb-refl w) refl

    at : (b : Bool) → (t.from == u && t.to == w) ≡ b → (t ≡ s) ⊎ Contains list s → (Contains list s → IsOverridden v list u w before) →
        (r : Shortcut) × Contains (t ∷ list) r × (r.from ≡ u) × (r.to ≡ w)
        × (cond b (Some (shortcut_label v t)) (leg_after_shortcuts v list u w before) ≡ Some (shortcut_label v r))
    at true e c more = let is = same_ends u w t.from t.to e in (t, contains_head t list, is.0, is.1, refl)
    at false e (inl same) more = absurd (true≢false (sym (met same) ∙ e))
    at false e (inr later) more = let r = more later in (r.0, contains_tail r.0 t list r.1, r.2, r.3, r.4)

-- a witness of one leg is a leg that costs no more
one_leg : (L : Legs) (v u w : ℕ) (c : Cost) → HasWitness L v u w c 1 → (l : Label) × (L u w ≡ Some l) × IsAtMost l.cost c
one_leg L v u w c witness = at witness.0 witness.1
  where
    at : (xs : List ℕ) → IsWitness L v u w c 1 xs → (l : Label) × (L u w ≡ Some l) × IsAtMost l.cost c
    at [] is = absurd (let some = is.hops.0 in omega arith)
    at (x ∷ []) is =
        let l = some_of (L u x) is.chain.0 in
        (l.0, subst (λ z. L u z ≡ Some l.0) is.chain.1 l.1, subst (λ z. IsAtMost z c) (chain_cost-one L u x l.0 l.1) is.cheap)
    at (x ∷ y ∷ xs) is = absurd (let few = is.hops.1 in omega arith)

-- a cheaper cost than that of a leg is not at least that
pub cheaper_not : (c : Cost) (o : Option Label) (l : Label) → is_cheaper c o ≡ true → o ≡ Some l → IsAtMost l.cost c → ⊥
cheaper_not c None l e some le = none-some l some
cheaper_not c (Some k) l e some le =
    IsBelow_not c k.cost ((is_lt-cost_cmp c k.cost).0 e) (subst (λ (z : Label). IsAtMost z.cost c) (sym (same_Some k l some)) le)

-- if a cost is not cheaper there is a leg that costs no more
pub dearer : (c : Cost) (o : Option Label) → is_cheaper c o ≡ false → (l : Label) × (o ≡ Some l) × IsAtMost l.cost c
dearer c None e = absurd (true≢false e)
dearer c (Some l) e = (
  l,
  refl,
  elim (IsAtMost_or_IsBelow l.cost c) [
    | inl le ↦ le
    | inr below ↦ absurd (false≢true (sym e ∙ (is_lt-cost_cmp c l.cost).1 below))
  ],
)

module _ (n : ℕ) (L : Legs) (v : ℕ) (limits : AreLegsWithin n L) (list : List Shortcut) (are : AreShortcuts n 1 L v list) where
  -- without a shortcut the leg stays
  stays : (u w : ℕ) → ((s : Shortcut) → s.from ≡ u → s.to ≡ w → IsShortcut n 1 L v s → ⊥) → leg_after_shortcuts v list u w (L u w) ≡ L u w
  stays u w none = elim (override_cases v list u w (L u w)) [ inl same ↦ same | inr s ↦ absurd (none s.0 s.2 s.3 (are.sound s.0 s.1)) ]

  module _ (u w : ℕ) (a b : Label) (ea : L u v ≡ Some a) (eb : L v w ≡ Some b) where
    -- the cost over v
    abbrev sum : Cost
    sum = cost_sum a.cost b.cost

    -- a shortcut between these nodes has this cost
    costs : (s : Shortcut) → s.from ≡ u → s.to ≡ w → IsShortcut n 1 L v s → s.cost ≡ sum
    costs s from to is =
        let legs = is.legs in
        let one = same_Some legs.0 a (sym legs.2 ∙ ap (λ z. L z v) from ∙ ea) in
        let two = same_Some legs.1 b (sym legs.3 ∙ ap (L v) to ∙ eb) in
        legs.4 ∙ (λ i. cost_sum (one i).cost (two i).cost)

    -- a shortcut between these nodes is put in
    put : IsShortcut n 1 L v (record { from = u; to = w; cost = sum }) →
        leg_after_shortcuts v list u w (L u w) ≡ Some (record { cost = sum; middle = Some v })
    put is =
        let r = overridden v list u w (L u w) (record { from = u; to = w; cost = sum }) (are.whole _ is) refl refl in
        r.4 ∙ ap (λ (c : Cost). Some (record { cost = c; middle = Some v })) (costs r.0 r.2 r.3 (are.sound r.0 r.1))

    -- the leg is lowered to the cost over v
    lowered : u ≢ v → w ≢ v → u ≢ w → leg_after_shortcuts v list u w (L u w) ≡ leg_over n v (Some a) (Some b) (L u w)
    lowered nu nw ne = at (nat_le sum.weight MOST_WEIGHT) (nat_lt sum.arcs n) (is_cheaper sum (L u w)) refl refl refl
      where
        at : (x y z : Bool) → nat_le sum.weight MOST_WEIGHT ≡ x → nat_lt sum.arcs n ≡ y → is_cheaper sum (L u w) ≡ z →
            leg_after_shortcuts v list u w (L u w) ≡ cond (x && y && z) (Some (record { cost = sum; middle = Some v })) (L u w)
        at true true true e f k = put (record {
          apart = ne;
          legs = (a, b, ea, eb, refl);
          weight = grind (arith, nat_tests);
          arcs = grind (arith, nat_tests);
          needed = λ witness. let l = one_leg L v u w sum witness in cheaper_not sum (L u w) l.0 k l.1 l.2;
        })
        at true true false e f k = stays u w (λ s from to is.
            let l = dearer sum (L u w) k in
            is.needed (subst (λ c. HasWitness L v s.from s.to c 1) (sym (costs s from to is))
            (subst (λ z. HasWitness L v z s.to sum 1) (sym from)
            (subst (λ z. HasWitness L v u z sum 1) (sym to) (own_witness 1 L v u w l.0 sum (omega arith) nu nw l.1 l.2)))))
        at true false z e f k =
            stays u w (λ s from to is. let few : sum.arcs < n = subst (λ (c : Cost). c.arcs < n) (costs s from to is) is.arcs in
            grind (arith, nat_tests))
        at false y z e f k =
            stays u w (λ s from to is. let light : sum.weight ≤ MOST_WEIGHT =
            subst (λ (c : Cost). c.weight ≤ MOST_WEIGHT) (costs s from to is) is.weight in grind (arith, nat_tests))

  -- the leg between two other nodes
  between : (u w : ℕ) → u ≢ v → w ≢ v → u ≢ w → leg_after_shortcuts v list u w (L u w) ≡ leg_over n v (L u v) (L v w) (L u w)
  between u w nu nw ne = at (L u v) (L v w) refl refl
    where
      at : (o p : Option Label) → L u v ≡ o → L v w ≡ p → leg_after_shortcuts v list u w (L u w) ≡ leg_over n v o p (L u w)
      at None p e f = stays u w (λ s from to is. let legs = is.legs in none-some legs.0 (sym e ∙ ap (λ z. L z v) (sym from) ∙ legs.2))
      at (Some a) None e f = stays u w (λ s from to is. let legs = is.legs in none-some legs.1 (sym f ∙ ap (L v) (sym to) ∙ legs.3))
      at (Some a) (Some b) e f = lowered u w a b e f nu nw ne

  -- contraction lowers the legs
  lowers : (u w : ℕ) → legs_after_contraction L v list u w ≡ legs_lowered n L v u w
  lowers u w = at (u == v) (w == v) (u == w) refl refl refl
    where
      at : (x y z : Bool) → (u == v) ≡ x → (w == v) ≡ y → (u == w) ≡ z →
          cond (x || y) None (leg_after_shortcuts v list u w (L u w)) ≡ cond (x || (y || z)) None (leg_over n v (L u v) (L v w) (L u w))
      at true y z e f k = refl
      at false true z e f k = refl
      at false false true e f k =
          let same = eqb-true u w k in
          stays u w (λ s from to is. is.apart (from ∙ same ∙ sym to)) ∙ none_unless (L u w) (λ l has. (limits u w l has).ends.2 same)
      at false false false e f k = between u w (eqb-false u v e) (eqb-false w v f) (eqb-false u w k)

-- legs within the limits lead to nodes
leads : (n : ℕ) (L : Legs) → AreLegsWithin n L → LeadsWithin n L
leads n L within u x some = let l = some_of (L u x) some in (within u x l.0 l.1).ends.1

-- contraction where a witness has one leg is lowering
pub contracting_is_lowering : ContractingIsLowering
contracting_is_lowering n L v M limits = (
  (λ c u w. c.2 u w ∙ lowers n L v limits c.0 c.1 u w),
  λ low. let r = shortcuts_listed n 1 L v limits (leads n L limits) in (r.0, r.1, λ u w. low u w ∙ sym (lowers n L v limits r.0 r.1 u w)),
)

-- the legs before each lowering are within the limits
pub lowered_within : (n m : ℕ) (order : List ℕ) (L : ℕ → Legs) → AreLegsWithin n (L 0) →
    ((i : ℕ) → i < m → Lowers n (L i) (slice_index order i) (L (i + 1))) → (k : ℕ) → k ≤ m → AreLegsWithin n (L k)
lowered_within n m order L start step zero le = start
lowered_within n m order L start step (suc k) le =
    let e : k + 1 ≡ suc k = omega arith in
    let before = lowered_within n m order L start step k (omega arith) in
    subst (λ z. AreLegsWithin n (L z)) e
    (within_more n (L k) (slice_index order k) (L (k + 1)) before
    (pairs_by_needed n 1 _ _ _ ((contracting_is_lowering n (L k) (slice_index order k) (L (k + 1)) before).1 (step k (omega arith)))))

-- the hierarchy of lowered legs is one of contracted nodes
pub lowered_are_contracted : LoweredAreContracted
lowered_are_contracted g order H L limits is =
    let start = subst (AreLegsWithin g.nodes) (sym (one_map (L 0) (opening g) is.contracted.start)) (opening_within g limits) in
    hierarchy_by (Lowers g.nodes) (Contracts g.nodes 1) g H order L is (λ i lt step.
    (contracting_is_lowering g.nodes (L i) (slice_index order i) (L (i + 1))
    (lowered_within g.nodes g.nodes order L start is.contracted.step i (omega arith))).1 step)

-- a lowered leg was there before, or both legs over v were
lowered_cases : (n : ℕ) (L : Legs) (v u w : ℕ) (l : Label) → legs_lowered n L v u w ≡ Some l → ((k : Label) × (L u w ≡ Some k))
    ⊎ ((a b : Label) × (L u v ≡ Some a) × (L v w ≡ Some b))
lowered_cases n L v u w l e = at (u == v || (w == v || u == w)) e
  where
    over : (o p q : Option Label) → L u v ≡ o → L v w ≡ p → L u w ≡ q → leg_over n v o p q ≡ Some l → ((k : Label) × (L u w ≡ Some k))
        ⊎ ((a b : Label) × (L u v ≡ Some a) × (L v w ≡ Some b))
    over None p None ea eb ew f = absurd (none-some _ f)
    over None p (Some k) ea eb ew f = inl (k, ew)
    over (Some a) None None ea eb ew f = absurd (none-some _ f)
    over (Some a) None (Some k) ea eb ew f = inl (k, ew)
    over (Some a) (Some b) q ea eb ew f = inr (a, b, ea, eb)

    at : (x : Bool) → cond x None (leg_over n v (L u v) (L v w) (L u w)) ≡ Some l → ((k : Label) × (L u w ≡ Some k))
        ⊎ ((a b : Label) × (L u v ≡ Some a) × (L v w ≡ Some b))
    at true f = absurd (none-some _ f)
    at false f = over (L u v) (L v w) (L u w) refl refl refl f

module _ (g : Network) (order : List ℕ) (L : ℕ → Legs) (rows : List (List ℕ)) (limits : IsWithinLimits g)
    (taken : AreTaken (Lowers g.nodes) g order L) (topology : IsTopology g order rows) where
  -- the node at a place of the order
  abbrev node : ℕ → ℕ
  node i = slice_index order i

  -- the legs are within the limits
  within : (k : ℕ) → k ≤ g.nodes → AreLegsWithin g.nodes (L k)
  within = lowered_within g.nodes g.nodes order L
      (subst (AreLegsWithin g.nodes) (sym (one_map (L 0) (opening g) taken.start)) (opening_within g limits)) taken.step

  -- each step is a contraction
  pairs : (k : ℕ) → k < g.nodes → ContractsWithPairs g.nodes (L k) (node k) (L (k + 1))
  pairs k lt = pairs_by_needed g.nodes 1 _ _ _
      ((contracting_is_lowering g.nodes (L k) (node k) (L (k + 1)) (within k (omega arith))).1 (taken.step k lt))

  -- a place whose node is joined to the one that is taken next is later
  later : (k i : ℕ) (l : Label) → k < g.nodes → (L k (node i) (node k) ≡ Some l) ⊎ (L k (node k) (node i) ≡ Some l) → k < i
  later k i l lt leg = elim (cases_lt k i) [
    | inl past ↦ past
    | inr le ↦ elim (cases_eq i k) [
      | inl same ↦
          let loop : node i ≡ node k = ap node same in
          elim leg [
            | inl from ↦ absurd ((within k (omega arith) (node i) (node k) l from).ends.2 loop)
            | inr to ↦ absurd ((within k (omega arith) (node k) (node i) l to).ends.2 (sym loop))
          ]
      | inr ne ↦
          let gone = gone_steps g.nodes g.nodes order L pairs i k (omega arith) (omega arith) (node k) in
          elim leg [
            | inl from ↦ absurd (none-some _ (sym gone.0 ∙ from))
            | inr to ↦ absurd (none-some _ (sym gone.1 ∙ to))
          ]
    ]
  ]

  -- the legs of the arcs are between the places of pairs
  at_start : StaysIn rows g order (L 0)
  at_start i j lt below = (
    (λ some. let l = some_of (L 0 (node i) (node j)) some in let a =
        opening_leg g (node i) (node j) l.0 (sym (taken.start (node i) (node j)) ∙ l.1) in
        topology.arcs _ i j a.arc_is lt below (inl (refl, refl))),
    (λ some. let l = some_of (L 0 (node j) (node i)) some in let a =
        opening_leg g (node j) (node i) l.0 (sym (taken.start (node j) (node i)) ∙ l.1) in
        topology.arcs _ i j a.arc_is lt below (inr (refl, refl))),
  )

  -- so are the legs after one more step
  after_step : (k : ℕ) → k < g.nodes → StaysIn rows g order (L k) → StaysIn rows g order (L (k + 1))
  after_step k lt known i j before below = (
    (λ some.
        let l = some_of (L (k + 1) (node i) (node j)) some in
        elim (lowered_cases g.nodes (L k) (node k) (node i) (node j) l.0 (sym (taken.step k lt (node i) (node j)) ∙ l.1)) [
          | inl old ↦ (known i j before below).0 (rw old.1 refl)
          | inr two ↦
              let past = later k i two.0 lt (inl two.2) in
              topology.closed k i j past before below ((known k i past (omega arith)).1 (rw two.2 refl))
              ((known k j (omega arith) below).0 (rw two.3 refl))
        ]),
    (λ some.
        let l = some_of (L (k + 1) (node j) (node i)) some in
        elim (lowered_cases g.nodes (L k) (node k) (node j) (node i) l.0 (sym (taken.step k lt (node j) (node i)) ∙ l.1)) [
          | inl old ↦ (known i j before below).1 (rw old.1 refl)
          | inr two ↦
              let past = later k i two.1 lt (inr two.3) in
              topology.closed k i j past before below ((known k i past (omega arith)).0 (rw two.3 refl))
              ((known k j (omega arith) below).1 (rw two.2 refl))
        ]),
  )

  -- lowering makes no leg outside the topology
  pub stays_in : (k : ℕ) → k ≤ g.nodes → StaysIn rows g order (L k)
  stays_in zero le = at_start
  stays_in (suc k) le = let e : k + 1 ≡ suc k = omega arith in
      subst (λ z. StaysIn rows g order (L z)) e (after_step k (omega arith) (stays_in k (omega arith)))

-- lowering makes no leg outside a topology
pub legs_stay_in_topologies : LegsStayInTopologies
legs_stay_in_topologies g order L rows limits taken topology k le = stays_in g order L rows limits taken topology k le

-- a topology serves each graph with the same roads
pub topologies_serve_all_weights : TopologiesServeAllWeights
topologies_serve_all_weights g f order rows same topology = record {
  arcs = λ a i j c lt below ends.
      let pairs : InArc → ℕ × ℕ = λ b. (b.from, b.to) in
      let its = contains_map_of pairs g.arcs (pairs a) (subst (λ l. Contains l (pairs a)) (sym same.1) (contains_map pairs f.arcs a c)) in
      let from : its.0.from ≡ a.from = ap (λ (r : ℕ × ℕ). r.0) its.2 in
      let to : its.0.to ≡ a.to = ap (λ (r : ℕ × ℕ). r.1) its.2 in
      topology.arcs its.0 i j its.1 lt (omega (arith, same.0, below)) (elim ends [
        | inl e ↦ inl (e.0 ∙ sym from, e.1 ∙ sym to)
        | inr e ↦ inr (e.0 ∙ sym to, e.1 ∙ sym from)
      ]);
  closed = λ k i j a b below p q. topology.closed k i j a b (omega (arith, same.0, below)) p q;
}

-- rows that hand their places on are closed, for places of which at most `fuel` are after k
closed_by : (n : ℕ) (order : List ℕ) (rows : List (List ℕ)) → ((k : ℕ) → k < n → HasParent n order rows k) → (fuel k i j : ℕ) →
    n ≤ k + fuel → k < i → i < j → j < n → IsPair order rows k i → IsPair order rows k j → IsPair order rows i j
closed_by n order rows parents zero k i j all a b below p q = absurd (omega arith)
closed_by n order rows parents (suc fuel) k i j all a b below p q = at (parents k (omega arith)) (closed_by n order rows parents fuel)
  where
    at : HasParent n order rows k → ((k i j : ℕ) → n ≤ k + fuel → k < i → i < j → j < n → IsPair order rows k i → IsPair order rows k j →
        IsPair order rows i j) → IsPair order rows i j
    at (inl none) more = absurd (none i (omega arith) p)
    at (inr h) more = elim (h.2 i (omega arith) p) [
      | inl first ↦ elim (h.2 j below q) [
        | inl same ↦ absurd (omega (arith, first, same))
        | inr later ↦ subst (λ z. IsPair order rows z j) (sym first) later.1
      ]
      | inr one ↦ elim (h.2 j below q) [
        | inl same ↦ absurd (omega (arith, one.0, same))
        | inr two ↦ let past = h.1 in more h.0 i j (omega arith) one.0 b below one.1 two.1
      ]
    ]

-- rows that hand their places on to their least one are closed
pub parents_close : ParentsClose
parents_close n order rows parents k i j a b below p q = closed_by n order rows parents n k i j (omega arith) a b below p q
