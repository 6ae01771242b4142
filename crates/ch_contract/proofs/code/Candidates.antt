-- The searches for the shortcuts of a node, one for each leg to it.
use Rattle.std.proofs.Common.{◌≡◌, ℕ, zero, suc, ◌+◌, ◌-◌, ◌<◌, ◌≤◌, List, [], ◌∷◌, ◌++◌, length, get_or, All, Option, Some, None}
use Rattle.std.proofs.Common.{Contains, refl, sym, ◌∙◌, ap, subst, arith, inl, inr}
use Rattle.std.specs.Prelude.{◌≢◌, ◌↔◌, Result, Ok, Err, OnOk, min, ◌⊎◌, MatchOption}
use Rattle.std.specs.declared.alloc.AllocError.{AllocError}
use Rattle.ch_contract.specs.Candidates.{IsKnown, IsCandidate, IsMostFor, AreBounded, known_legs}
use Rattle.ch_graph.proofs.CostOrder.{IsAtMost_trans}
use Rattle.std.proofs.lemmas.List.Elements.{All-contains, All-from_get_or, All-push, Contains-get_or, Contains-append_left, Contains-push}
use Rattle.ch_graph.specs.declared.cost.Cost.{Cost}
use Rattle.ch_graph.specs.Cost.{IsAtMost, cost_sum}
use Rattle.ch_hierarchy.specs.declared.leg.Leg.{Leg}
use Rattle.ch_contract.specs.declared.witness_search.Wanted.{Wanted}
use Rattle.ch_contract.specs.Legs.{Label, Legs, AreLegsWithin, HasWitness, IsChain, chain_cost}
use Rattle.ch_hierarchy.specs.Rows.{row}
use Rattle.ch_contract.specs.LegRows.{label_of, AreLegsFrom, AreLegsTo}
use Rattle.ch_contract.specs.HeldCosts.{never, IsHeld}
use Rattle.ch_contract.specs.KnownCosts.{Known, IsLegLight, AreLegsUpTo, IsWanted, known_at, AreLeastCosts}
use Rattle.ch_contract.specs.LegLists.{IsWithinLimits, legs_from, legs_into}
use Rattle.ch_contract.specs.Meeting.{IsMet, AreListsWithin, AreSmall}
use Rattle.ch_contract.proofs.theory.RowLegs.{row_has, row_member, leg_at}
use Rattle.ch_hierarchy.proofs.theory.NoLeg.{no_leg}
use Rattle.ch_contract.proofs.theory.RowLemmas.{leg_from_at}
use Rattle.std.proofs.lemmas.Bool.{cases_eq, cases_lt}
use Rattle.std.proofs.lemmas.Option.{same_Some}
use Rattle.ch_graph.specs.declared.limits.TheConstants.{MOST_NODES, MOST_WEIGHT, MOST_HOPS}
use Rattle.ch_contract.specs.declared.held_cost.TheConstants.{MOST_CHAIN_ARCS, NEVER_ARCS}
use Rattle.ch_contract.specs.declared.shortcut.Shortcut.{Shortcut}
use Rattle.ch_contract.specs.ShortcutLists.{IsShortcutAmong}
use Rattle.ch_contract.specs.ShortcutLists.{AreShortcutsBefore, EndsBefore}
use Rattle.ch_contract.proofs.code.ShortcutLemmas.{before_raise}
use Rattle.ch_contract.proofs.code.KnownRounds.{wanted_small, chain_small}
use Rattle.ch_contract.proofs.code.Meetings.{met_is_witness}
use Rattle.ch_contract.proofs.code.Turning.{turned_witness}

-- of more than one leg, two are not learned
pub two_less : (hops : ℕ) → hops ≢ 1 → known_legs hops ≡ hops - 2
two_less zero more = omega arith
two_less (suc zero) more = absurd (more refl)
two_less (suc (suc hops)) more = omega arith

module _ (n : ℕ) (outs ins : List (List Leg)) (within : IsWithinLimits n outs ins) where
  -- the legs in the other direction are within the limits
  pub into_within : AreLegsWithin n (legs_into outs)
  into_within u w l e =
      let is = within.legs w u l e in
      record { ends = (is.ends.1, is.ends.0, (λ same. is.ends.2 (sym same))); weight = is.weight; arcs = is.arcs; middle = is.middle }

  pub from_rows : (v : ℕ) → AreLegsFrom (legs_from outs) v (row outs v)
  from_rows v = (within.rows.0 v, λ x. refl)

  pub to_rows : (v : ℕ) → AreLegsTo (legs_from outs) v (row ins v)
  to_rows v = (within.rows.1 v, λ x. sym (within.agree x v))

  -- the row of the legs to a node has the legs from it in the other direction
  pub turned_rows : (v : ℕ) → AreLegsFrom (legs_into outs) v (row ins v)
  turned_rows v = to_rows v

  -- the cost of each leg may be added to a known cost
  pub ins_light : (limit : ℕ) → AreLegsUpTo limit (legs_from outs) → AreListsWithin limit n ins
  ins_light limit up_to x =
      All-from_get_or (IsLegLight limit n) (row ins x) no_leg (λ i lt. light _ (Contains-get_or (row ins x) i no_leg lt))
    where
      light : (l : Leg) → Contains (row ins x) l → IsLegLight limit n l
      light l c =
          let leg = within.agree l.node x ∙ row_has (row ins x) l (within.rows.1 x) c in
          let is = within.legs l.node x (label_of l) leg in
          let count = within.nodes in
          record {
            node = is.ends.0;
            cost = record {
              limited = up_to l.node x (label_of l) leg;
              weight = is.weight;
              arcs =
                  omega (arith, is.arcs);
            };
          }

  -- the known costs are small enough for one more leg
  pub known_small : (limit : ℕ) (s : Wanted) (k : ℕ) (h : Known) → k ≤ MOST_HOPS → s.end < n → IsHeld limit s.most →
      AreLeastCosts (legs_into outs) s k h → AreSmall limit h
  known_small limit s k h few inside most least x = elim (least.sound x) [
    | inl none ↦ inl none
    | inr w ↦ inr (wanted_small limit n (legs_into outs) s k x (known_at h x) into_within within.nodes few inside most w).1
  ]

  -- the search meets the last legs of a chain exactly if there is a witness
  pub met_witness : (s : Wanted) (hops : ℕ) (h : Known) (w : ℕ) (most : Cost) → AreLeastCosts (legs_into outs) s (hops - 2) h →
      (most.weight ≤ MOST_WEIGHT) × (most.arcs < NEVER_ARCS) → IsAtMost most s.most → 1 ≤ hops → w ≢ s.avoided → w ≢ s.end →
      IsMet h ins s.avoided w most hops ↔ HasWitness (legs_from outs) s.avoided s.end w most hops
  met_witness s hops h w most least small wanted one off apart =
      let met = met_is_witness n (legs_into outs) ins s hops h w most turned_rows least small wanted one off apart in
      let turned = turned_witness (legs_from outs) s.avoided s.end w most hops in
      ((λ m. turned.0 (met.0 m)), λ x. met.1 (turned.1 x))

  -- a bound of a search that finds no chain is above each cost that it can hold
  never_above : (c : Cost) → (c.weight ≤ MOST_WEIGHT) × (c.arcs < NEVER_ARCS) → IsAtMost never c → ⊥
  never_above c small le = let weight = le.0 in let arcs = le.1 (omega (arith, small.0)) in omega (arith, small.1)

  -- a chain of at most one leg is known exactly if there is a witness of one leg
  pub known_witness : (s : Wanted) (h : Known) (w : ℕ) (most : Cost) → AreLeastCosts (legs_into outs) s 1 h →
      (most.weight ≤ MOST_WEIGHT) × (most.arcs < NEVER_ARCS) → IsAtMost most s.most → w ≢ s.avoided → w ≢ s.end →
      IsAtMost (known_at h w) most ↔ HasWitness (legs_from outs) s.avoided s.end w most 1
  known_witness s h w most least small wanted off apart =
      let turned = turned_witness (legs_from outs) s.avoided s.end w most 1 in
      ((λ le. turned.0 (found le (least.sound w))), λ x. back (turned.1 x))
    where
      some_legs : (nodes : List ℕ) → IsChain (legs_into outs) w s.end nodes → 0 < length nodes
      some_legs [] same = absurd (apart same)
      some_legs (x ∷ nodes) chain = omega arith

      found : IsAtMost (known_at h w) most → (known_at h w ≡ never) ⊎ IsWanted (legs_into outs) s 1 w (known_at h w) →
          HasWitness (legs_into outs) s.avoided w s.end most 1
      found le (inl none) = absurd (never_above most small (subst (λ z. IsAtMost z most) none le))
      found le (inr is) = (
        is.0.nodes,
        record {
          chain = is.0.chain;
          hops = (some_legs is.0.nodes is.0.chain, is.0.short);
          away = is.0.away;
          cheap = subst (λ z. IsAtMost z most) (sym is.0.cost) le;
        },
      )

      back : HasWitness (legs_into outs) s.avoided w s.end most 1 → IsAtMost (known_at h w) most
      back x =
          let cost = chain_cost (legs_into outs) w x.0 in
          IsAtMost_trans (known_at h w) cost most (least.whole w cost (
            record { nodes = x.0; chain = x.1.chain; short = x.1.hops.1; away = x.1.away; cost = refl },
            IsAtMost_trans cost most s.most x.1.cheap wanted,
          )) x.1.cheap

  -- after a search the costs of chains of the legs that it learns are known
  pub known_after : (ups downs : List (List Leg)) (s : Wanted) (hops : ℕ) (h : Known) (o : Result (Unit {0}) AllocError) →
      OnOk o (length h.costs ≡ length outs) → OnOk o (AreLeastCosts (legs_into outs) s (known_legs hops) h) →
      OnOk o (IsKnown (record { nodes = n; rows = outs; ups = ups; downs = downs }) s hops h)
  known_after ups downs s hops h (Ok x) size least = record { size = size ∙ within.sizes.0; least = least }
  known_after ups downs s hops h (Err x) size least = least

-- a candidate of a list is also one of a longer list
more_candidate : (n : ℕ) (first l : Leg) (up : List Leg) (most : Cost) →
    ((k : Leg) × Contains up k × IsCandidate n first k × (most ≡ cost_sum first.cost k.cost)) →
    (k : Leg) × Contains (up ++ l ∷ []) k × IsCandidate n first k × (most ≡ cost_sum first.cost k.cost)
more_candidate n first l up most is = (is.0, Contains-append_left up _ _ is.1, is.2, is.3)

-- the greatest cost of the candidates after one more leg that makes a candidate
pub bounded_more : (n : ℕ) (first l : Leg) (up : List Leg) (so_far : Option Cost) (cost most : Cost) →
    cost ≡ cost_sum first.cost l.cost → IsCandidate n first l →
    IsAtMost cost most → MatchOption so_far (most ≡ cost) (λ c. IsAtMost c most × ((most ≡ cost) ⊎ (most ≡ c))) →
    AreBounded n first up so_far → AreBounded n first (up ++ l ∷ []) (Some most)
bounded_more n first l up None cost most is can le same none = (
  (l, Contains-push up l, can, same ∙ is),
  All-push (IsMostFor n first most) up l (λ k d lt other. absurd (none k d lt other)) (λ it. subst (λ z. IsAtMost z most) is le),
)
bounded_more n first l up (Some c) cost most is can le more all = (
  elim more.1 [
    | inl same ↦ (l, Contains-push up l, can, same ∙ is)
    | inr same ↦ more_candidate n first l up most
        (subst (λ (z : Cost). (k : Leg) × Contains up k × IsCandidate n first k × (z ≡ cost_sum first.cost k.cost)) (sym same) all.0)
  ],
  All-push (IsMostFor n first most) up l (λ k d lt other. IsAtMost_trans _ c most (all.1 k d lt other) more.0)
      (λ it. subst (λ z. IsAtMost z most) is le),
)

-- the greatest cost of the candidates after one more leg that makes none
pub bounded_skip : (n : ℕ) (first l : Leg) (up : List Leg) (so_far : Option Cost) → (IsCandidate n first l → ⊥) →
    AreBounded n first up so_far → AreBounded n first (up ++ l ∷ []) so_far
bounded_skip n first l up None never none = All-push (λ (k : Leg). IsCandidate n first k → ⊥) up l none never
bounded_skip n first l up (Some c) never all =
    (more_candidate n first l up c all.0, All-push (IsMostFor n first c) up l all.1 (λ it. absurd (never it)))

-- the cost of two legs that are a candidate is a bound that a search can hold
pub candidate_held : (limit n : ℕ) (first l : Leg) → n ≤ MOST_NODES → first.cost.weight ≤ limit → l.cost.weight ≤ limit →
    IsCandidate n first l → IsHeld limit (cost_sum first.cost l.cost)
candidate_held limit n first l small a b is = record { limited = omega arith; weight = is.weight; arcs = omega (arith, is.arcs) }

-- the greatest cost of the candidates is a bound that a search can hold
pub bound_held : (limit n v : ℕ) (L : Legs) (first : Leg) (up : List Leg) (most : Cost) → n ≤ MOST_NODES → AreLegsUpTo limit L →
    L first.node v ≡ Some (label_of first) → AreLegsFrom L v up →
    AreBounded n first up (Some most) → IsHeld limit most
bound_held limit n v L first up most small light here row bounded =
    let is = bounded.0 in
    let l = is.0 in
    let leg = sym (row.1 l.node) ∙ row_has up l row.0 is.1 in
    subst (IsHeld limit) (sym is.3) (candidate_held limit n first l small (light first.node v (label_of first) here)
    (light v l.node (label_of l) leg) is.2)

-- if no leg from a node makes a candidate with this leg to it, no shortcut begins with this leg
pub before_no_candidate : (n h : ℕ) (L W : Legs) (v : ℕ) (first : Leg) (up : List Leg) (list : List Shortcut) →
    L first.node v ≡ Some (label_of first) → AreLegsFrom L v up →
    All (λ l. IsCandidate n first l → ⊥) up → AreShortcutsBefore n h L W v first.node 0 list →
    AreShortcutsBefore n h L W v (first.node + 1) 0 list
before_no_candidate n h L W v first up list here row none are =
    before_raise n h L W v first.node 0 (first.node + 1) 0 list are (omega arith, λ e. absurd (omega arith))
    (λ s is e. early s is e (cases_eq first.node s.from))
  where
    early : (s : Shortcut) → IsShortcutAmong n h L W v s → EndsBefore s (first.node + 1) 0 → (first.node ≡ s.from) ⊎ (first.node ≢ s.from) →
        EndsBefore s first.node 0
    early s is e (inr ne) = elim (cases_lt s.from (first.node + 1)) [
      | inl lt ↦ (omega arith, λ le. absurd (ne (omega arith)))
      | inr ge ↦ let no = e.1 ge in absurd (omega (arith, no))
    ]
    early s is e (inl same) =
        let legs = is.pair.legs in
        let m : Contains up (leg_at s.to legs.1) = row_member up s.to legs.1 (row.1 s.to ∙ legs.3) in
        let begins : label_of first ≡ legs.0 = same_Some _ _ (sym here ∙ ap (λ z. L z v) same ∙ legs.2) in
        let sum : s.cost ≡ cost_sum first.cost legs.1.cost = legs.4 ∙ ap (λ (z : Label). cost_sum z.cost legs.1.cost) (sym begins) in
        let weight = is.pair.weight in
        let arcs = is.pair.arcs in
        absurd (All-contains (λ (l : Leg). IsCandidate n first l → ⊥) up (leg_at s.to legs.1) none m (record {
          apart = λ e. is.pair.apart (sym same ∙ e);
          weight = subst (λ (z : Cost). z.weight ≤ MOST_WEIGHT) sum is.pair.weight;
          arcs = subst (λ (z : Cost). z.arcs < n) sum is.pair.arcs;
        }))

-- the costs of the legs from a node may be added to the cost of a leg
pub up_light : (n : ℕ) (L : Legs) (v : ℕ) (up : List Leg) → AreLegsWithin n L → n ≤ MOST_NODES → AreLegsFrom L v up →
    All (λ l. (l.cost.weight ≤ MOST_WEIGHT) × (l.cost.arcs ≤ MOST_NODES)) up
up_light n L v up limits small row = All-from_get_or (λ l. (l.cost.weight ≤ MOST_WEIGHT) × (l.cost.arcs ≤ MOST_NODES)) up no_leg
    (λ i lt. let is = limits v (get_or up i no_leg).node _ (leg_from_at L v up i no_leg row lt) in (is.weight, omega (arith, is.arcs)))

-- a witness stands for at most MOST_CHAIN_ARCS arcs, so a greater bound on its arcs may be lowered to that
pub capped_witness : (n : ℕ) (L : Legs) (v u w hops : ℕ) (cost : Cost) (arcs : ℕ) → AreLegsWithin n L → n ≤ MOST_NODES →
    hops ≤ MOST_HOPS → arcs ≡ min cost.arcs MOST_CHAIN_ARCS →
    HasWitness L v u w (record { weight = cost.weight; arcs = arcs }) hops ↔ HasWitness L v u w cost hops
capped_witness n L v u w hops cost arcs limits small few is = (
  λ x. (x.0, record { chain = x.1.chain; hops = x.1.hops; away = x.1.away; cheap = loose (chain_cost L u x.0) x.1.cheap }),
  λ x. (
    x.0,
    record {
      chain = x.1.chain;
      hops = x.1.hops;
      away = x.1.away;
      cheap =
          tight (chain_cost L u x.0) (chain_small n L u w x.0 limits small (omega (arith, x.1.hops.1)) x.1.chain) x.1.cheap;
    },
  ),
)
  where
    loose : (d : Cost) → IsAtMost d (record { weight = cost.weight; arcs = arcs }) → IsAtMost d cost
    loose d le = let weight = le.0 in (weight, λ e. let more = le.1 e in omega arith)

    tight : (d : Cost) → d.arcs ≤ MOST_CHAIN_ARCS → IsAtMost d cost → IsAtMost d (record { weight = cost.weight; arcs = arcs })
    tight d less le = let weight = le.0 in (weight, λ e. let more = le.1 e in omega arith)
