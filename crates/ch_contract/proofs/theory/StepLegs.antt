-- Properties of each leg after any number of steps of contraction.
use Rattle.std.proofs.Common.{◌≡◌, ◌≢◌, ℕ, zero, suc, ◌+◌, ◌<◌, ◌≤◌, List, Option, Some, None, Contains, slice_index, refl, sym}
use Rattle.std.proofs.Common.{◌∙◌, subst, arith, add-one, inl, inr}
use Rattle.std.proofs.lemmas.Bool.{cases_eq}
use Rattle.std.proofs.lemmas.Option.{same_Some}
use Rattle.ch_graph.specs.declared.cost.Cost.{Cost}
use Rattle.ch_graph.specs.Cost.{cost_sum}
use Rattle.ch_graph.specs.Graph.{Network, IsWithinLimits}
use Rattle.ch_graph.specs.WalkLaws.{IsWalkCost}
use Rattle.ch_graph.proofs.WalkCosts.{IsWalkCost-arc, IsWalkCost-cost_sum}
use Rattle.ch_contract.specs.Legs.{Label, Legs, SameLegs, IsLegWithin, opening}
use Rattle.ch_contract.specs.Enough.{ContractsWithEnough}
use Rattle.ch_contract.proofs.theory.Chains.{IsLight}
use Rattle.ch_contract.proofs.theory.OpeningLegs.{arc, opening_leg, opening_within}
use Rattle.ch_contract.proofs.theory.OneContraction.{IsOneContraction, old_or_shortcut, untouched}

-- the leg is an arc, or the sum of two legs of its middle just before the middle was contracted, within the first i
-- steps
abbrev pub IsMade : Network → List ℕ → (ℕ → Legs) → ℕ → ℕ → ℕ → Cost → Option ℕ → Type 0
IsMade g order L i u w c None = (c.arcs ≡ 1) × Contains g.arcs (arc u w c.weight)
IsMade g order L i u w c (Some v) =
    (j : ℕ) × (j < i) × (slice_index order j ≡ v) × (a b : Label) × (L j u v ≡ Some a) × (L j v w ≡ Some b) × (c ≡ cost_sum a.cost b.cost)

-- a leg after i steps: within the limits, away from the nodes contracted so far, and made of arcs
pub record IsStepLeg (g : Network) (order : List ℕ) (L : ℕ → Legs) (i u w : ℕ) (l : Label) : Type 0 where
  pub within : IsLegWithin g.nodes u w l
  pub left : (j : ℕ) → j < i → (slice_index order j ≢ u) × (slice_index order j ≢ w)
  pub walk : IsWalkCost g u w l.cost
  pub made : IsMade g order L i u w l.cost l.middle

-- a leg that was made within the first i steps was made within the first i + 1
made_later : (g : Network) (order : List ℕ) (L : ℕ → Legs) (i u w : ℕ) (c : Cost) (m : Option ℕ) → IsMade g order L i u w c m →
    IsMade g order L (suc i) u w c m
made_later g order L i u w c None h = h
made_later g order L i u w c (Some v) h = (h.0, omega (arith, h.1), h.2, h.3, h.4, h.5, h.6, h.7)

-- the first m nodes of this order are contracted one after the other, each with enough shortcuts, in a graph within the
-- limits
pub record IsContraction (g : Network) (h : ℕ) (order : List ℕ) (L : ℕ → Legs) (m : ℕ) : Type 0 where
  pub limits : IsWithinLimits g
  pub start : SameLegs (L 0) (opening g)
  pub step : (i : ℕ) → i < m → ContractsWithEnough g.nodes h (L i) (slice_index order i) (L (i + 1))

module _ {g : Network} {h : ℕ} {order : List ℕ} {L : ℕ → Legs} {m : ℕ} (all : IsContraction g h order L m) where
  -- each leg after i steps is such a leg
  abbrev AreStepLegs : ℕ → Type 0
  AreStepLegs i = (u w : ℕ) (l : Label) → L i u w ≡ Some l → IsStepLeg g order L i u w l

  -- step i is a contraction, if the legs before it are such legs
  step_from : (i : ℕ) → i < m → AreStepLegs i → IsOneContraction g.nodes h (L i) (slice_index order i) (L (suc i))
  step_from i lt before = record {
    contracts = subst (λ k. ContractsWithEnough g.nodes h (L i) (slice_index order i) (L k)) (add-one i) (all.step i lt);
    within = λ u w l e. (before u w l e).within;
  }

  -- the legs before the first step are such legs
  first_legs : AreStepLegs zero
  first_legs u w l e =
      let opens : opening g u w ≡ Some l = sym (all.start u w) ∙ e in
      let leg = opening_leg g u w l opens in
      subst (IsStepLeg g order L zero u w) (sym leg.label) (record {
        within = subst (IsLegWithin g.nodes u w) leg.label (opening_within g all.limits u w l opens);
        left = λ j lt. absurd (omega arith);
        walk = IsWalkCost-arc g (arc u w leg.weight) leg.arc_is;
        made = (refl, leg.arc_is);
      })

  -- a node that is not the node of step i and none of those before is none of the first i + 1
  left_next : (i x : ℕ) → x ≢ slice_index order i → ((j : ℕ) → j < i → slice_index order j ≢ x) → (j : ℕ) → j < suc i →
      slice_index order j ≢ x
  left_next i x ne before j below = elim (cases_eq j i) [
    | inl last ↦ subst (λ k. slice_index order k ≢ x) (sym last) (λ same. ne (sym same))
    | inr sooner ↦ before j (omega arith)
  ]

  -- a shortcut of the node of step i is such a leg
  shortcut_leg : (i u w : ℕ) (a b l : Label) → IsStepLeg g order L i u (slice_index order i) a → IsStepLeg g order L i
      (slice_index order i) w b → L i u (slice_index order i) ≡ Some a → L i (slice_index order i) w ≡ Some b →
      l ≡ record { cost = cost_sum a.cost b.cost; middle = Some (slice_index order i) } → IsLight g.nodes l.cost → u ≢ w →
      ((j : ℕ) → j < suc i → (slice_index order j ≢ u) × (slice_index order j ≢ w)) → IsStepLeg g order L (suc i) u w l
  shortcut_leg i u w a b l p q ea eb e light ne left =
      let v : ℕ = slice_index order i in
      let pe = p.within.ends in
      let qe = q.within.ends in
      let sum : IsLight g.nodes (cost_sum a.cost b.cost) = subst (λ (k : Label). IsLight g.nodes k.cost) e light in
      subst (IsStepLeg g order L (suc i) u w) (sym e) (record {
        within = record {
          ends = (pe.0, qe.1, ne);
          weight = sum.0;
          arcs = sum.1;
          middle =
              λ x same. subst (λ z. z < g.nodes) (same_Some _ _ same) pe.1;
        };
        left = left;
        walk = IsWalkCost-cost_sum g u v w a.cost b.cost p.walk q.walk;
        made = (i, omega arith, refl, a, b, ea, eb, refl);
      })

  -- the legs after one more step are such legs
  next_legs : (i : ℕ) → i < m → AreStepLegs i → AreStepLegs (suc i)
  next_legs i lt before u w l e =
      let v : ℕ = slice_index order i in
      let step = step_from i lt before in
      let away = untouched step u w l e in
      elim (old_or_shortcut step u w l e) [
        | inl old ↦
            let leg = before u w l old in
            record {
              within = leg.within;
              left = λ j below. (
                left_next i u away.0 (λ k sooner. (leg.left k sooner).0) j below,
                left_next i w away.1 (λ k sooner. (leg.left k sooner).1) j below,
              );
              walk = leg.walk;
              made = made_later g order L i u w l.cost l.middle leg.made;
            }
        | inr new ↦
            let p = before u v new.0 new.2 in
            let q = before v w new.1 new.3 in
            shortcut_leg i u w new.0 new.1 l p q new.2 new.3 new.4 new.5 new.6
            (λ j below. (
              left_next i u away.0 (λ k sooner. (p.left k sooner).0) j below,
              left_next i w away.1 (λ k sooner. (q.left k sooner).1) j below,
            ))
      ]

  -- each leg after i steps is such a leg
  pub step_leg : (i : ℕ) → i ≤ m → (u w : ℕ) (l : Label) → L i u w ≡ Some l → IsStepLeg g order L i u w l
  step_leg zero le = first_legs
  step_leg (suc i) le = next_legs i (omega arith) (step_leg i (omega arith))

  -- step i contracts the node at place i
  pub step_at : (i : ℕ) → i < m → IsOneContraction g.nodes h (L i) (slice_index order i) (L (suc i))
  step_at i lt = step_from i lt (step_leg i (omega arith))
