-- After any number of steps, the least cost of a walk between remaining nodes is the cost of a chain of legs.
use Rattle.std.proofs.Common.{◌≡◌, ◌≢◌, ℕ, zero, suc, ◌<◌, ◌≤◌, List, [], ◌∷◌, slice_index, sym, ◌∙◌, subst, arith, inl, inr}
use Rattle.std.proofs.lemmas.Bool.{cases_eq}
use Rattle.ch_graph.specs.declared.arc.InArc.{InArc}
use Rattle.ch_graph.specs.declared.cost.Cost.{Cost}
use Rattle.ch_graph.specs.Cost.{IsAtMost}
use Rattle.ch_graph.specs.Graph.{Network}
use Rattle.ch_graph.specs.Walk.{IsWalk, cost_of, IsLeast}
use Rattle.ch_graph.specs.WalkLaws.{IsWalkCost, arc_cost}
use Rattle.ch_graph.proofs.CostOrder.{IsAtMost_refl}
use Rattle.ch_graph.proofs.CostSums.{cost_sum_comm, IsAtMost-cost_sum_self}
use Rattle.ch_graph.proofs.WalkCosts.{cost_of-cons, IsWalkCost-no_cost, IsWalkCost-cost_sum, IsLeast-again}
use Rattle.ch_graph.proofs.SimpleWalks.{IsLeast-arcs, IsLeast-weight}
use Rattle.ch_contract.specs.Legs.{Legs, SameLegs, IsChain, chain_cost, opening}
use Rattle.ch_contract.proofs.theory.WitnessSearch.{some_of}
use Rattle.ch_contract.proofs.theory.Chains.{HasChain, IsLight, no_chain, leg_then_chain, chain_at_most, chain_cost-cons}
use Rattle.ch_contract.proofs.theory.OpeningLegs.{opening_covers}
use Rattle.ch_contract.proofs.theory.OneContraction.{chain_stays}
use Rattle.ch_contract.proofs.theory.StepLegs.{IsContraction, step_leg, step_at}

-- x is none of the first i nodes of the order
abbrev pub IsAfter : List ℕ → ℕ → ℕ → Type 0
IsAfter order i x = (j : ℕ) → j < i → slice_index order j ≢ x

-- there is a chain of legs from u to w that costs c
abbrev pub IsChainCost : Legs → ℕ → ℕ → Cost → Type 0
IsChainCost L u w c = (xs : List ℕ) × IsChain L u w xs × (chain_cost L u xs ≡ c)

-- for each walk there is a chain of opening legs that costs at most as much: it leaves out loops
pub walk_chain : (g : Network) (L : Legs) (s t : ℕ) (xs : List InArc) → SameLegs L (opening g) → IsWalk g s t xs →
    HasChain L s t (cost_of xs)
walk_chain g L s t [] start w = subst (λ q. HasChain L s q (cost_of [])) w (no_chain L s _ (IsAtMost_refl _))
walk_chain g L s t (a ∷ xs) start w =
    let rest : HasChain L a.to t (cost_of xs) = walk_chain g L a.to t xs start w.2 in
    elim (cases_eq a.from a.to) [
      | inl loop ↦
          subst (λ q. HasChain L q t (cost_of (a ∷ xs))) (sym loop ∙ w.1)
          (chain_at_most L a.to t (cost_of xs) _ rest
          (subst (IsAtMost (cost_of xs)) (cost_sum_comm (cost_of xs) (arc_cost a) ∙ sym (cost_of-cons a xs))
          (IsAtMost-cost_sum_self (cost_of xs) (arc_cost a))))
      | inr on ↦
          let leg = opening_covers g a w.0 on in
          subst (λ q. HasChain L q t (cost_of (a ∷ xs))) w.1
          (subst (HasChain L a.from t) (sym (cost_of-cons a xs))
          (leg_then_chain L a.from a.to t (arc_cost a) (cost_of xs) (leg.0, start a.from a.to ∙ leg.1, leg.2) rest))
    ]

module _ {g : Network} {h : ℕ} {order : List ℕ} {L : ℕ → Legs} {m : ℕ} (all : IsContraction g h order L m) where
  -- for each chain of legs there is a walk of its cost
  pub chain_walk : (i : ℕ) → i ≤ m → (u w : ℕ) (xs : List ℕ) → IsChain (L i) u w xs → IsWalkCost g u w (chain_cost (L i) u xs)
  chain_walk i le u w [] chain = subst (λ q. IsWalkCost g u q (chain_cost (L i) u [])) chain (IsWalkCost-no_cost g u)
  chain_walk i le u w (x ∷ xs) chain =
      let l = some_of (L i u x) chain.0 in
      subst (IsWalkCost g u w) (sym (chain_cost-cons (L i) u x xs l.0 l.1))
      (IsWalkCost-cost_sum g u x w l.0.cost (chain_cost (L i) x xs) (step_leg all i le u x l.0 l.1).walk (chain_walk i le x w xs chain.1))

  -- a chain that costs at most the least cost costs exactly that
  least_exact : (i : ℕ) → i ≤ m → (u w : ℕ) (c : Cost) → IsLeast g u w c → HasChain (L i) u w c → IsChainCost (L i) u w c
  least_exact i le u w c least r = (r.0, r.1, IsLeast-again g u w c _ least (chain_walk i le u w r.0 r.1) r.2)

  -- least costs are light
  least_light : (u w : ℕ) (c : Cost) → w < g.nodes → IsLeast g u w c → IsLight g.nodes c
  least_light u w c lt least = (IsLeast-weight g u w c all.limits least, IsLeast-arcs g u w c all.limits lt least)

  -- the least cost of a walk between remaining nodes is the cost of a chain
  pub least_chain : (i : ℕ) → i ≤ m → (u w : ℕ) (c : Cost) → w < g.nodes → IsAfter order i u → IsAfter order i w → IsLeast g u w c →
      IsChainCost (L i) u w c
  least_chain zero le u w c lt p q least =
      least_exact zero le u w c least
      (subst (HasChain (L zero) u w) least.walk.2 (walk_chain g (L zero) u w least.walk.0 all.start least.walk.1))
  least_chain (suc i) le u w c lt p q least =
      let before : IsChainCost (L i) u w c =
      least_chain i (omega arith) u w c lt (λ j below. p j (omega arith)) (λ j below. q j (omega arith)) least in
      least_exact (suc i) le u w c least
      (subst (HasChain (L (suc i)) u w) before.2
      (chain_stays (step_at all i (omega arith)) u w before.0
      (λ same. p i (omega arith) (sym same)) (λ same. q i (omega arith) (sym same)) before.1
      (subst (IsLight g.nodes) (sym before.2) (least_light u w c lt least))))
