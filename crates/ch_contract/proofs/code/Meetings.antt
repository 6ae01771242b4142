-- A search meets the last legs of a chain exactly if there is a witness.
use Rattle.std.proofs.Common.{◌≡◌, ℕ, ◌+◌, ◌-◌, ◌<◌, ◌≤◌, List, [], ◌∷◌, length, get_or, take, Some, Contains, refl, sym, ◌∙◌, ap}
use Rattle.std.proofs.Common.{subst, arith, inl, inr}
use Rattle.std.specs.Prelude.{◌⊎◌, ◌≢◌, ◌↔◌}
use Rattle.std.proofs.lemmas.List.{take_all, take_more}
use Rattle.std.proofs.lemmas.List.Elements.{Contains-push_cases}
use Rattle.ch_graph.specs.declared.limits.TheConstants.{MOST_WEIGHT}
use Rattle.ch_contract.specs.declared.held_cost.TheConstants.{NEVER_ARCS}
use Rattle.ch_graph.specs.declared.cost.Cost.{Cost}
use Rattle.ch_graph.specs.Cost.{IsAtMost, cost_sum, no_cost}
use Rattle.ch_hierarchy.specs.declared.leg.Leg.{Leg}
use Rattle.ch_contract.specs.declared.witness_search.Wanted.{Wanted}
use Rattle.ch_contract.specs.Legs.{Legs, chain_cost, leg_cost, HasWitness, IsWitness}
use Rattle.ch_hierarchy.specs.Rows.{row}
use Rattle.ch_contract.specs.LegRows.{label_of, AreLegsFrom}
use Rattle.ch_contract.specs.HeldCosts.{never}
use Rattle.ch_contract.specs.KnownCosts.{Known, known_at, IsReached, AreLeastCosts}
use Rattle.ch_contract.specs.Meeting.{IsMet}
use Rattle.ch_contract.proofs.theory.RowLegs.{row_has, row_member, leg_at}
use Rattle.ch_contract.proofs.theory.WitnessSearch.{some_of}
use Rattle.ch_graph.proofs.CostOrder.{IsAtMost_refl, IsAtMost_trans, IsAtMost-no_cost}
use Rattle.ch_graph.proofs.CostSums.{IsAtMost-cost_sum, cost_sum_comm, cost_sum_assoc}

-- a sum with `never` is above each bound of a search
never_most : (a c : Cost) → (c.weight ≤ MOST_WEIGHT) × (c.arcs < NEVER_ARCS) → IsAtMost (cost_sum never a) c → ⊥
never_most a c small le = let weight = le.0 in let arcs = le.1 (omega arith) in omega arith

module _ (n : ℕ) (L : Legs) (lists : List (List Leg)) (s : Wanted) (hops : ℕ) (h : Known) (start : ℕ) (most : Cost)
    (from : (x : ℕ) → AreLegsFrom L x (row lists x)) (least : AreLeastCosts L s (hops - 2) h)
    (small : (most.weight ≤ MOST_WEIGHT) × (most.arcs < NEVER_ARCS))
    (wanted : IsAtMost most s.most) (one : 1 ≤ hops) (off : start ≢ s.avoided) (apart : start ≢ s.end) where
  -- a leg of a list is a leg of the graph
  leg_of : (x : ℕ) (l : Leg) → Contains (row lists x) l → L x l.node ≡ Some (label_of l)
  leg_of x l c = sym ((from x).1 l.node) ∙ row_has (row lists x) l (from x).0 c

  -- a known cost within the bound is that of a chain
  known : (x : ℕ) (a : Cost) → IsAtMost (cost_sum (known_at h x) a) most → IsReached L s (hops - 2) x (known_at h x)
  known x a le = elim (least.sound x) [
    | inl none ↦ absurd (never_most a most small (subst (λ z. IsAtMost (cost_sum z a) most) none le))
    | inr w ↦ w.0
  ]

  found_one : (l : Leg) → Contains (row lists start) l → IsAtMost (cost_sum (known_at h l.node) l.cost) most →
      HasWitness L s.avoided start s.end most hops
  found_one l c le =
      let r = known l.node l.cost le in
      let leg = leg_of start l c in
      let short = r.short in
      let cost : chain_cost L start (l.node ∷ r.nodes) ≡ cost_sum (known_at h l.node) l.cost =
      ap (λ o. cost_sum (leg_cost o) (chain_cost L l.node r.nodes)) leg ∙ ap (cost_sum l.cost) r.cost
      ∙ cost_sum_comm l.cost (known_at h l.node) in (
        l.node ∷ r.nodes,
        record {
          chain = (rw leg refl, r.chain);
          hops = (omega arith, omega arith);
          away = (off, (r.away.0, r.away.1));
          cheap = subst (λ z. IsAtMost z most) (sym cost) le;
        },
      )

  found_two : (l k : Leg) → Contains (row lists start) l → l.node ≢ s.avoided → 1 < hops → Contains (row lists l.node) k →
      IsAtMost (cost_sum (known_at h k.node) (cost_sum k.cost l.cost)) most → HasWitness L s.avoided start s.end most hops
  found_two l k c away two d le =
      let r = known k.node (cost_sum k.cost l.cost) le in
      let first = leg_of start l c in
      let second = leg_of l.node k d in
      let short = r.short in
      let beyond : chain_cost L l.node (k.node ∷ r.nodes) ≡ cost_sum k.cost (known_at h k.node) =
      ap (λ o. cost_sum (leg_cost o) (chain_cost L k.node r.nodes)) second ∙ ap (cost_sum k.cost) r.cost in
      let cost : chain_cost L start (l.node ∷ k.node ∷ r.nodes) ≡ cost_sum l.cost (cost_sum k.cost (known_at h k.node)) =
      ap (λ o. cost_sum (leg_cost o) (chain_cost L l.node (k.node ∷ r.nodes))) first ∙ ap (cost_sum l.cost) beyond in
      let turned : cost_sum (known_at h k.node) (cost_sum k.cost l.cost) ≡ cost_sum l.cost (cost_sum k.cost (known_at h k.node)) =
      cost_sum_comm (known_at h k.node) (cost_sum k.cost l.cost) ∙ ap (λ z. cost_sum z (known_at h k.node))
      (cost_sum_comm k.cost l.cost) ∙ cost_sum_assoc l.cost k.cost (known_at h k.node) in (
        l.node ∷ k.node ∷ r.nodes,
        record {
          chain = (rw first refl, (rw second refl, r.chain));
          hops = (omega arith, omega arith);
          away = (off, (away, (r.away.0, r.away.1)));
          cheap = subst (λ z. IsAtMost z most) (turned ∙ sym cost) le;
        },
      )

  met_found : IsMet h lists s.avoided start most hops → HasWitness L s.avoided start s.end most hops
  met_found m = elim m.3 [
    | inl le ↦ found_one m.0 m.1 le
    | inr b ↦ found_two m.0 b.1.0 m.1 m.2 b.0 b.1.1 b.1.2
  ]

  -- the first one or two legs of a witness are met
  met_by : (xs : List ℕ) → IsWitness L s.avoided start s.end most hops xs → IsMet h lists s.avoided start most hops
  met_by [] w = absurd (apart w.chain)
  met_by (y ∷ []) w =
      let l = some_of (L start y) w.chain.0 in
      let leg = leg_at y l.0 in
      let member = row_member (row lists start) y l.0 ((from start).1 y ∙ l.1) in
      let cost : chain_cost L start (y ∷ []) ≡ cost_sum l.0.cost no_cost = ap (λ o. cost_sum (leg_cost o) no_cost) l.1 in
      let held_cost = least.whole y no_cost (
        record { nodes = []; chain = w.chain.1; short = omega arith; away = (w.away.1.0, tt); cost = refl },
        IsAtMost-no_cost s.most,
      ) in (
        leg,
        member,
        w.away.1.0,
        inl (IsAtMost_trans (cost_sum (known_at h y) l.0.cost) (cost_sum no_cost l.0.cost) most
            (IsAtMost-cost_sum (known_at h y) no_cost l.0.cost l.0.cost held_cost (IsAtMost_refl l.0.cost))
            (subst (λ z. IsAtMost z most) (cost ∙ cost_sum_comm l.0.cost no_cost) w.cheap)),
      )
  met_by (y ∷ z ∷ zs) w =
      let l = some_of (L start y) w.chain.0 in
      let k = some_of (L y z) w.chain.1.0 in
      let rest = chain_cost L z zs in
      let member = row_member (row lists start) y l.0 ((from start).1 y ∙ l.1) in
      let second = row_member (row lists y) z k.0 ((from y).1 z ∙ k.1) in
      let short = w.hops.1 in
      let cost : chain_cost L start (y ∷ z ∷ zs) ≡ cost_sum l.0.cost (cost_sum k.0.cost rest) =
      ap (λ o. cost_sum (leg_cost o) (chain_cost L y (z ∷ zs))) l.1 ∙ ap (λ o. cost_sum l.0.cost (cost_sum (leg_cost o) rest)) k.1 in
      let turned : cost_sum l.0.cost (cost_sum k.0.cost rest) ≡ cost_sum rest (cost_sum k.0.cost l.0.cost) =
      sym (cost_sum_assoc l.0.cost k.0.cost rest) ∙ cost_sum_comm (cost_sum l.0.cost k.0.cost) rest
      ∙ ap (cost_sum rest) (cost_sum_comm l.0.cost k.0.cost) in
      let cheap : IsAtMost (cost_sum rest (cost_sum k.0.cost l.0.cost)) most = subst (λ c. IsAtMost c most) (cost ∙ turned) w.cheap in
      let part : IsAtMost rest (cost_sum rest (cost_sum k.0.cost l.0.cost)) = (omega arith, λ e. omega arith) in
      let held_cost = least.whole z rest (
        record { nodes = zs; chain = w.chain.1.1; short = omega arith; away = (w.away.1.1.0, w.away.1.1.1); cost = refl },
        IsAtMost_trans rest _ s.most part (IsAtMost_trans _ most s.most cheap wanted),
      ) in (
        leg_at y l.0,
        member,
        w.away.1.0,
        inr (
          omega arith,
          (
            leg_at z k.0,
            second,
            IsAtMost_trans (cost_sum (known_at h z) (cost_sum k.0.cost l.0.cost)) (cost_sum rest (cost_sum k.0.cost l.0.cost)) most
                (IsAtMost-cost_sum (known_at h z) rest (cost_sum k.0.cost l.0.cost) (cost_sum k.0.cost l.0.cost) held_cost
                (IsAtMost_refl _)) cheap,
          ),
        ),
      )

  -- the search meets the last legs of a chain exactly if there is a witness
  pub met_is_witness : IsMet h lists s.avoided start most hops ↔ HasWitness L s.avoided start s.end most hops
  met_is_witness = (met_found, λ w. met_by w.0 w.1)

-- an element of a list is among the first i elements, if i is at least the length
pub all_taken : {X : Type 0} (xs : List X) (i : ℕ) (x : X) → length xs ≤ i → Contains xs x → Contains (take i xs) x
all_taken xs i x past c = subst (λ z. Contains z x) (sym (take_all i xs past)) c

-- one of the first i + 1 elements is one of the first i, or is element i
pub one_more_taken : {X : Type 0} (xs : List X) (i : ℕ) (d x : X) → i < length xs → Contains (take (i + 1) xs) x →
    Contains (take i xs) x ⊎ (get_or xs i d ≡ x)
one_more_taken xs i d x lt c = Contains-push_cases (take i xs) (get_or xs i d) x (subst (λ z. Contains z x) (take_more xs i d lt) c)
