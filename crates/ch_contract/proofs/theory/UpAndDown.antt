-- In a built hierarchy, for each least walk there are an upward path and a downward path that cost at most as much.
use Rattle.std.proofs.Common.{◌≡◌, ◌≢◌, ℕ, zero, suc, ◌+◌, ◌<◌, ◌≤◌, List, [], ◌∷◌, Some, slice_index, refl, sym, ◌∙◌, ap, subst}
use Rattle.std.proofs.Common.{arith, inl, inr}
use Rattle.std.proofs.lemmas.Bool.{cases_eq}
use Rattle.ch_graph.specs.declared.cost.Cost.{Cost}
use Rattle.ch_graph.specs.Cost.{cost_sum, no_cost}
use Rattle.ch_graph.specs.Graph.{Network}
use Rattle.ch_graph.specs.Walk.{IsLeast}
use Rattle.ch_graph.specs.WalkLaws.{IsWalkCost}
use Rattle.ch_graph.proofs.CostSums.{cost_sum_assoc, cost_sum_comm, cost_sum-no_cost}
use Rattle.ch_graph.proofs.WalkCosts.{IsWalkCost-cost_sum, IsLeast-IsAtMost, IsLeast-again, IsLeast-front, IsLeast-back}
use Rattle.ch_graph.proofs.SimpleWalks.{IsLeast-weight}
use Rattle.ch_hierarchy.specs.declared.leg.Leg.{Leg}
use Rattle.ch_contract.specs.Legs.{Label, Legs, IsChain, chain_cost}
use Rattle.ch_hierarchy.specs.Hierarchy.{LevelsAndLegs}
use Rattle.ch_hierarchy.specs.Paths.{IsUpwardPath, path_cost, IsUp, IsDown, IsMeeting}
use Rattle.ch_contract.proofs.theory.WitnessSearch.{some_of}
use Rattle.ch_contract.proofs.theory.RowLegs.{leg_at}
use Rattle.ch_hierarchy.proofs.theory.LegPaths.{rises_along, falls_along}
use Rattle.ch_hierarchy.proofs.theory.MeetingPaths.{HasMeetingPaths, paths_of_none, up_first, down_last}
use Rattle.ch_contract.proofs.theory.Chains.{chain_cost-cons, chain_cost-one}
use Rattle.ch_contract.proofs.theory.StepLegs.{step_leg}
use Rattle.ch_contract.proofs.theory.KeptCosts.{IsAfter, IsChainCost, chain_walk, least_chain}
use Rattle.ch_contract.proofs.theory.BuiltLegs.{IsBuilt, contraction, step_of, up_leg, down_leg, up_walk, down_walk}

-- there is a last leg of a chain, and a chain before it
pub record HasLastLeg (L : Legs) (u w : ℕ) (c : Cost) : Type 0 where
  pub node : ℕ
  pub label : Label
  pub leg : L node w ≡ Some label
  pub cost : Cost
  pub before : IsChainCost L u node cost
  pub sum : c ≡ cost_sum cost label.cost

-- a chain that is not empty has a last leg
last_leg : (L : Legs) (u w x : ℕ) (xs : List ℕ) → IsChain L u w (x ∷ xs) → HasLastLeg L u w (chain_cost L u (x ∷ xs))
last_leg L u w x [] chain =
    let l = some_of (L u x) chain.0 in
    record {
      node = u;
      label = l.0;
      leg = subst (λ q. L u q ≡ Some l.0) chain.1 l.1;
      cost = no_cost;
      before = ([], refl, refl);
      sum = chain_cost-one L u x l.0 l.1 ∙ sym (cost_sum-no_cost l.0.cost) ∙ cost_sum_comm l.0.cost no_cost;
    }
last_leg L u w x (y ∷ xs) chain =
    let l = some_of (L u x) chain.0 in
    let r = last_leg L x w y xs chain.1 in
    let b = r.before in
    record {
      node = r.node;
      label = r.label;
      leg = r.leg;
      cost = cost_sum l.0.cost r.cost;
      before = (x ∷ b.0, (rw l.1 refl, b.1), chain_cost-cons L u x b.0 l.0 l.1 ∙ ap (cost_sum l.0.cost) b.2);
      sum = chain_cost-cons L u x (y ∷ xs) l.0 l.1 ∙ ap (cost_sum l.0.cost) r.sum ∙ sym (cost_sum_assoc l.0.cost r.cost r.label.cost);
    }

module _ {g : Network} {h : ℕ} {H : LevelsAndLegs} {order : List ℕ} {L : ℕ → Legs} (built : IsBuilt g h H order L) where
  -- a node that remains after i steps and is not the node of step i remains after i + 1 steps
  after_next : (i x : ℕ) → IsAfter order i x → slice_index order i ≢ x → IsAfter order (suc i) x
  after_next i x p ne j lt = elim (cases_eq j i) [
    | inl last ↦ subst (λ k. slice_index order k ≢ x) (sym last) ne
    | inr sooner ↦ p j (omega arith)
  ]

  -- the ends of a leg after i steps remain after i steps
  ends_after : (i u w : ℕ) (l : Label) → i ≤ g.nodes → L i u w ≡ Some l → IsAfter order i u × IsAfter order i w
  ends_after i u w l le e =
      let leg = step_leg (contraction built) i le u w l e in ((λ j lt. (leg.left j lt).0), (λ j lt. (leg.left j lt).1))

  -- for each least walk between nodes that remain after i steps, there are paths that meet
  abbrev IsClimbed : ℕ → Type 0
  IsClimbed i =
      (s t : ℕ) (c : Cost) → s < g.nodes → t < g.nodes → IsAfter order i s → IsAfter order i t → IsLeast g s t c → HasMeetingPaths H s t c

  -- the case of a walk from the node of step i: its first leg leads up, and the rest is a least walk
  from_lowest : (i t : ℕ) (c : Cost) → i < g.nodes → t < g.nodes → slice_index order i < g.nodes → IsClimbed (suc i) →
      slice_index order i ≢ t → IsAfter order i (slice_index order i) → IsAfter order i t → IsLeast g (slice_index order i) t c →
      HasMeetingPaths H (slice_index order i) t c
  from_lowest i t c lt below_t below_v climbed ne p q least =
      let chain = least_chain (contraction built) i (omega arith) (slice_index order i) t c below_t p q least in
      at chain.0 chain.1 chain.2
    where
      v : ℕ
      v = slice_index order i

      at : (xs : List ℕ) → IsChain (L i) v t xs → chain_cost (L i) v xs ≡ c → HasMeetingPaths H v t c
      at [] chain e = absurd (ne chain)
      at (x ∷ xs) chain e =
          let m = some_of (L i v x) chain.0 in
          let leg = step_leg (contraction built) i (omega arith) v x m.0 m.1 in
          let ends = leg.within.ends in
          let sum : c ≡ cost_sum m.0.cost (chain_cost (L i) x xs) = sym e ∙ chain_cost-cons (L i) v x xs m.0 m.1 in
          let rest : IsLeast g x t (chain_cost (L i) x xs) = IsLeast-back g v x t m.0.cost _ (subst (IsLeast g v t) sum least)
          leg.walk (chain_walk (contraction built) i (omega arith) x t xs chain.1) in
          let goes : HasMeetingPaths H x t (chain_cost (L i) x xs) = climbed x t _ ends.1 below_t
          (after_next i x (ends_after i v x m.0 (omega arith) m.1).1 ends.2) (after_next i t q ne) rest in
          subst (HasMeetingPaths H v t) (sym sum) (up_first H v t (leg_at x m.0) _ (up_leg built i x m.0 lt m.1) goes)

  -- the case of a walk to the node of step i: its last leg leads down, and the part before it is a least walk
  to_lowest : (i s : ℕ) (c : Cost) → i < g.nodes → s < g.nodes → slice_index order i < g.nodes → IsClimbed (suc i) →
      slice_index order i ≢ s → IsAfter order i s → IsAfter order i (slice_index order i) → IsLeast g s (slice_index order i) c →
      HasMeetingPaths H s (slice_index order i) c
  to_lowest i s c lt below_s below_v climbed ne p q least =
      let chain = least_chain (contraction built) i (omega arith) s (slice_index order i) c below_v p q least in
      at chain.0 chain.1 chain.2
    where
      v : ℕ
      v = slice_index order i

      last : HasLastLeg (L i) s v c → HasMeetingPaths H s v c
      last r =
          let leg = step_leg (contraction built) i (omega arith) r.node v r.label r.leg in
          let ends = leg.within.ends in
          let b = r.before in
          let walk : IsWalkCost g s r.node r.cost =
          subst (IsWalkCost g s r.node) b.2 (chain_walk (contraction built) i (omega arith) s r.node b.0 b.1) in
          let front : IsLeast g s r.node r.cost = IsLeast-front g s r.node v r.cost _ (subst (IsLeast g s v) r.sum least) walk leg.walk in
          let goes : HasMeetingPaths H s r.node r.cost =
          climbed s r.node _ below_s ends.0 (after_next i s p ne)
          (after_next i r.node (ends_after i r.node v r.label (omega arith) r.leg).0 (λ same. ends.2 (sym same))) front in
          subst (HasMeetingPaths H s v) (sym r.sum)
          (down_last H s v (leg_at r.node r.label) _ (down_leg built i r.node r.label lt r.leg) goes)

      at : (xs : List ℕ) → IsChain (L i) s v xs → chain_cost (L i) s xs ≡ c → HasMeetingPaths H s v c
      at [] chain e = absurd (ne (sym chain))
      at (x ∷ xs) chain e = last (subst (HasLastLeg (L i) s v) e (last_leg (L i) s v x xs chain))

  -- by recursion from the last step downwards, after which no node remains
  climb : (k i : ℕ) → i + k ≡ g.nodes → IsClimbed i
  climb zero i last s t c ls lt p q least =
      let place = step_of built s ls in
      absurd (p place.0 (omega (arith, place.1)) place.2)
  climb (suc k) i more s t c ls lt p q least = elim (cases_eq s t) [
    | inl same ↦ subst (λ y. HasMeetingPaths H s y c) same (paths_of_none H s c)
    | inr apart ↦ elim (cases_eq (slice_index order i) s) [
      | inl start ↦
          subst (λ y. HasMeetingPaths H y t c) start
          (from_lowest i t c (omega arith) lt (subst (λ y. y < g.nodes) (sym start) ls) (climb k (suc i) (omega arith))
          (λ end. apart (sym start ∙ end))
          (subst (IsAfter order i) (sym start) p) q (subst (λ y. IsLeast g y t c) (sym start) least))
      | inr on ↦ elim (cases_eq (slice_index order i) t) [
        | inl end ↦
            subst (λ y. HasMeetingPaths H s y c) end
            (to_lowest i s c (omega arith) ls (subst (λ y. y < g.nodes) (sym end) lt) (climb k (suc i) (omega arith)) on
            p (subst (IsAfter order i) (sym end) q) (subst (λ y. IsLeast g s y c) (sym end) least))
        | inr off ↦ climb k (suc i) (omega arith) s t c ls lt (after_next i s p on) (after_next i t q off) least
      ]
    ]
  ]

  -- for each upward path there is a walk of its cost
  rises : (a b : ℕ) (legs : List Leg) → IsUpwardPath H.up a b legs → IsWalkCost g a b (path_cost legs)
  rises = rises_along g H.up (up_walk built)

  -- for each downward path there is a walk of its cost
  falls : (a b : ℕ) (legs : List Leg) → IsUpwardPath H.down a b legs → IsWalkCost g b a (path_cost legs)
  falls = falls_along g H.down (down_walk built)

  -- two paths that meet and cost at most the least cost of a walk are least paths, and cost exactly that
  paths_meet : (s t : ℕ) (c : Cost) → IsLeast g s t c → HasMeetingPaths H s t c → (m : ℕ) × IsMeeting H s t m c
  paths_meet s t c least goes =
      let m : ℕ = goes.node in
      let a : Cost = path_cost goes.ups in
      let b : Cost = path_cost goes.downs in
      let up : IsWalkCost g s m a = rises s m goes.ups goes.rise in
      let down : IsWalkCost g m t b = falls t m goes.downs goes.fall in
      let sum : cost_sum a b ≡ c = IsLeast-again g s t c (cost_sum a b) least (IsWalkCost-cost_sum g s m t a b up down) goes.cheap in
      let whole : IsLeast g s t (cost_sum a b) = subst (IsLeast g s t) (sym sum) least in
      let first : IsLeast g s m a = IsLeast-front g s m t a b whole up down in
      let second : IsLeast g m t b = IsLeast-back g s m t a b whole up down in
      let is_up : IsUp H s m a =
      record {
        path = (goes.ups, goes.rise, refl);
        weight = IsLeast-weight g s m a built.limits first;
        least =
            λ legs p light. IsLeast-IsAtMost g s m a _ first (rises s m legs p);
      } in
      let is_down : IsDown H m t b =
      record {
        path = (goes.downs, goes.fall, refl);
        weight = IsLeast-weight g m t b built.limits second;
        least =
            λ legs p light. IsLeast-IsAtMost g m t b _ second (falls t m legs p);
      } in
      (m, (a, b, is_up, is_down, sum))

  -- the least cost between two nodes is that of going up and then down
  pub up_and_down : (s t : ℕ) (c : Cost) → s < g.nodes → t < g.nodes → IsLeast g s t c → (m : ℕ) × IsMeeting H s t m c
  up_and_down s t c ls lt least = paths_meet s t c least
      (climb g.nodes zero (omega arith) s t c ls lt (λ j below. absurd (omega arith)) (λ j below. absurd (omega arith)) least)
