-- One contraction: each leg that does not touch the node stays or gets cheaper. For each light chain between other
-- nodes there is one that costs at most as much.
use Rattle.std.proofs.Common.{◌≡◌, ℕ, suc, zero, ◌<◌, Bool, true, false, cond, List, [], ◌∷◌, length, get_or, Option, Some, None}
use Rattle.std.proofs.Common.{refl, sym, ◌∙◌, ap, subst, arith, inl, inr}
use Rattle.std.specs.Prelude.{◌⊎◌, ◌≢◌, ◌==◌, ◌&&◌, ◌||◌}
use Rattle.std.specs.List.{AllByRecursion}
use Rattle.std.proofs.lemmas.Bool.{cases_eq, false≢true}
use Rattle.std.proofs.lemmas.Bool.Decides.{nat_tests}
use Rattle.std.proofs.lemmas.Option.{same_Some, none-some}
use Rattle.ch_graph.specs.declared.cost.Cost.{Cost}
use Rattle.ch_graph.specs.Cost.{IsAtMost, cost_sum}
use Rattle.ch_graph.proofs.CostOrder.{IsAtMost_refl}
use Rattle.ch_graph.proofs.CostSums.{cost_sum_assoc, cost_sum_comm, IsAtMost-cost_sum_self}
use Rattle.ch_contract.specs.declared.shortcut.Shortcut.{Shortcut}
use Rattle.ch_contract.specs.Legs.{Label, Legs, IsChain, chain_cost, AreLegsWithin}
use Rattle.ch_contract.specs.Contraction.{shortcut_label, leg_after_shortcuts}
use Rattle.ch_contract.specs.Enough.{IsPairThrough, ContractsWithEnough}
use Rattle.ch_contract.specs.Legs.{LeadsWithin}
use Rattle.ch_contract.proofs.theory.WitnessSearch.{witness_or_none, some_of}
use Rattle.ch_graph.proofs.Numbers.{not_eqb, eqb-refl}
use Rattle.ch_graph.proofs.Lists.{contains_head, contains_tail}
use Rattle.ch_contract.proofs.theory.Contracting.{IsOverridden, override_cases}
use Rattle.ch_contract.proofs.theory.Chains.{HasChain, HasLeg, IsLight, light_left, light_right, chain_cost-cons, chain_of_leg}
use Rattle.ch_contract.proofs.theory.Chains.{leg_then_chain, chain_then_chain, chain_at_most, no_loop}

-- a pair is overridden by the first shortcut of the list, or by a later one
first_or : (v : ℕ) (t : Shortcut) (list : List Shortcut) (u w : ℕ) (before : Option Label) (b : Bool) → (t.from == u && t.to == w) ≡ b →
    (b ≡ false → IsOverridden v list u w before) → IsOverridden v (t ∷ list) u w before
first_or v t list u w before true e more = (t, contains_head t list, grind (arith, nat_tests), grind (arith, nat_tests), rw e refl)
first_or v t list u w before false e more = let h = more refl in (h.0, contains_tail h.0 t list h.1, h.2, h.3, rw e h.4)

-- the test for the pair of a shortcut holds of this shortcut
matches : (t s : Shortcut) → t ≡ s → (t.from == s.from && t.to == s.to) ≡ true
matches t s e = rw e (rw (eqb-refl s.from, eqb-refl s.to) refl)

-- the pair of each shortcut of the list is overridden
override_found : (v : ℕ) (list : List Shortcut) (k : ℕ) (s : Shortcut) (before : Option Label) → k < length list → get_or list k s ≡ s →
    IsOverridden v list s.from s.to before
override_found v [] k s before lt e = absurd (omega arith)
override_found v (t ∷ list) zero s before lt e =
    first_or v t list s.from s.to before _ refl (λ f. let m = matches t s e in absurd (false≢true (sym f ∙ m)))
override_found v (t ∷ list) (suc k) s before lt e =
    first_or v t list s.from s.to before _ refl (λ f. override_found v list k s before (omega arith) e)

-- legs within the limits lead below n
leads_within : (n : ℕ) (L : Legs) → AreLegsWithin n L → LeadsWithin n L
leads_within n L within u x some = let l = some_of (L u x) some in (within u x l.0 l.1).ends.1

-- M are the legs after v is contracted with enough shortcuts in L, which are legs within the limits of n nodes
pub record IsOneContraction (n h : ℕ) (L : Legs) (v : ℕ) (M : Legs) : Type 0 where
  pub contracts : ContractsWithEnough n h L v M
  pub within : AreLegsWithin n L

module _ {n h : ℕ} {L M : Legs} {v : ℕ} (step : IsOneContraction n h L v M) where
  -- away from v, shortcuts replace older legs
  outside : (x y : ℕ) → x ≢ v → y ≢ v → M x y ≡ leg_after_shortcuts v step.contracts.0 x y (L x y)
  outside x y p q = step.contracts.2 x y ∙ rw (not_eqb x v p, not_eqb y v q) refl

  -- no leg touches v
  pub untouched : (x y : ℕ) (m : Label) → M x y ≡ Some m → (x ≢ v) × (y ≢ v)
  untouched x y m e = (
    (λ here. none-some m (sym (step.contracts.2 x y ∙ rw (here, eqb-refl v) refl) ∙ e)),
    (λ here. none-some m (sym (step.contracts.2 x y ∙ at (x == v) y here) ∙ e)),
  )
    where
      at : (b : Bool) (z : ℕ) → z ≡ v → cond (b || z == v) None (leg_after_shortcuts v step.contracts.0 x z (L x z)) ≡ None
      at true z is = refl
      at false z is = rw (is, eqb-refl v) refl

  -- a leg after the contraction was there before, or is the sum of two legs through v
  abbrev pub IsOldOrShortcut : ℕ → ℕ → Label → Type 0
  IsOldOrShortcut x y m = (L x y ≡ Some m)
      ⊎ ((a b : Label) × (L x v ≡ Some a) × (L v y ≡ Some b) × (m ≡ record { cost = cost_sum a.cost b.cost; middle = Some v })
      × IsLight n m.cost × (x ≢ y))

  -- a shortcut is the sum of two legs through v
  shortcut_legs : (x y : ℕ) (m : Label) (s : Shortcut) → s.from ≡ x → s.to ≡ y → Some (shortcut_label v s) ≡ Some m →
      IsPairThrough n L v s → IsOldOrShortcut x y m
  shortcut_legs x y m s ex ey em is =
      let legs = is.legs in
      let same : shortcut_label v s ≡ m = same_Some _ _ em in
      let cost : shortcut_label v s ≡ record { cost = cost_sum legs.0.cost legs.1.cost; middle = Some v } =
      ap (λ c. record { cost = c; middle = Some v }) legs.4 in
      inr (
        legs.0,
        legs.1,
        ap (λ q. L q v) (sym ex) ∙ legs.2,
        ap (λ q. L v q) (sym ey) ∙ legs.3,
        sym same ∙ cost,
        subst (λ (l : Label). IsLight n l.cost) same (is.weight, is.arcs),
        λ here. is.apart (ex ∙ here ∙ sym ey),
      )

  -- each leg after the contraction was there before, or is such a sum
  pub old_or_shortcut : (x y : ℕ) (m : Label) → M x y ≡ Some m → IsOldOrShortcut x y m
  old_or_shortcut x y m e =
      let away = untouched x y m e in
      let out = outside x y away.0 away.1 in
      elim (override_cases v step.contracts.0 x y (L x y)) [
        | inl stays ↦ inl (sym (out ∙ stays) ∙ e)
        | inr r ↦ shortcut_legs x y m r.0 r.2 r.3 (sym (out ∙ r.4) ∙ e) (step.contracts.1.pairs r.0 r.1)
      ]

  -- a leg that does not touch v stays, or is replaced by one that costs at most as much
  pub leg_kept : (x y : ℕ) (l : Label) → x ≢ v → y ≢ v → L x y ≡ Some l → HasLeg M x y l.cost
  leg_kept x y l p q e = elim (override_cases v step.contracts.0 x y (L x y)) [
    | inl stays ↦ (l, outside x y p q ∙ stays ∙ e, IsAtMost_refl l.cost)
    | inr r ↦ (
      shortcut_label v r.0,
      outside x y p q ∙ r.4,
      step.contracts.1.no_dearer r.0 l r.1 (ap (λ z. L z r.0.to) r.2 ∙ ap (L x) r.3 ∙ e),
    )
  ]

  -- for a chain that never touches v, there is one that costs at most as much
  chain_kept : (u w : ℕ) (xs : List ℕ) → u ≢ v → AllByRecursion (λ x. x ≢ v) xs → IsChain L u w xs → HasChain M u w (chain_cost L u xs)
  chain_kept u w [] p away chain = ([], chain, IsAtMost_refl _)
  chain_kept u w (x ∷ xs) p away chain =
      let l = some_of (L u x) chain.0 in
      subst (HasChain M u w) (sym (chain_cost-cons L u x xs l.0 l.1))
      (leg_then_chain M u x w l.0.cost (chain_cost L x xs) (leg_kept u x l.0 p away.0 l.1) (chain_kept x w xs away.0 away.1 chain.1))

  -- the shortcut of a pair costs as much as the two legs
  shortcut_cost : (s : Shortcut) (u y : ℕ) (a b : Label) → IsPairThrough n L v s → s.from ≡ u → s.to ≡ y → L u v ≡ Some a → L v y ≡ Some b →
      s.cost ≡ cost_sum a.cost b.cost
  shortcut_cost s u y a b is eu ey ea eb =
      let legs = is.legs in
      let sa = same_Some _ _ (sym legs.2 ∙ ap (λ q. L q v) eu ∙ ea) in
      let sb = same_Some _ _ (sym legs.3 ∙ ap (λ q. L v q) ey ∙ eb) in
      legs.4 ∙ ap (λ (z : Label). cost_sum z.cost legs.1.cost) sa ∙ ap (λ (z : Label). cost_sum a.cost z.cost) sb

  -- if the pair is overridden, its shortcut is a chain of one leg
  by_shortcut : (u y : ℕ) (a b : Label) → u ≢ v → y ≢ v → L u v ≡ Some a → L v y ≡ Some b → IsOverridden v step.contracts.0 u y (L u y) →
      HasChain M u y (cost_sum a.cost b.cost)
  by_shortcut u y a b p q ea eb f =
      chain_of_leg M u y _ (
        shortcut_label v f.0,
        outside u y p q ∙ f.4,
        subst (IsAtMost f.0.cost)
            (shortcut_cost f.0 u y a b (step.contracts.1.pairs f.0 f.1) f.2 f.3 ea eb) (IsAtMost_refl f.0.cost),
      )

  -- for two legs through v there is a shortcut or a witness, so there is a chain that costs at most as much
  through : (u y : ℕ) (a b : Label) → u ≢ v → y ≢ v → u ≢ y → L u v ≡ Some a → L v y ≡ Some b → IsLight n (cost_sum a.cost b.cost) →
      HasChain M u y (cost_sum a.cost b.cost)
  through u y a b p q ne ea eb light = elim (witness_or_none n L v u y (cost_sum a.cost b.cost) h ne p (leads_within n L step.within)) [
    | inl w ↦ chain_at_most M u y _ _ (chain_kept u y w.0 p w.1.away.1 w.1.chain) w.1.cheap
    | inr none ↦
        let s : Shortcut = record { from = u; to = y; cost = cost_sum a.cost b.cost } in
        let has = step.contracts.1.needed s
        (record { apart = ne; legs = (a, b, ea, eb, refl); weight = light.0; arcs = light.1; needed = none }) in
        by_shortcut u y a b p q ea eb (override_found v step.contracts.0 has.0 s (L u y) has.1 has.2)
  ]

  -- two legs through v and then a chain: if the two legs lead back, they are left out
  via : (u w y : ℕ) (a b : Label) (c : Cost) → u ≢ v → L u v ≡ Some a → L v y ≡ Some b → IsLight n (cost_sum a.cost (cost_sum b.cost c)) →
      y ≢ v → HasChain M y w c → HasChain M u w (cost_sum a.cost (cost_sum b.cost c))
  via u w y a b c p ea eb light q rest =
      let sum = cost_sum_assoc a.cost b.cost c in
      elim (cases_eq u y) [
        | inl back ↦ chain_at_most M u w c _ (subst (λ z. HasChain M z w c) (sym back) rest)
            (subst (IsAtMost c) (cost_sum_comm c (cost_sum a.cost b.cost) ∙ sum) (IsAtMost-cost_sum_self c (cost_sum a.cost b.cost)))
        | inr on ↦ subst (HasChain M u w) sum
            (chain_then_chain M u y w _ c (through u y a b p q on ea eb (light_left n _ c (subst (IsLight n) (sym sum) light))) rest)
      ]

  -- for each light chain between other nodes there is one after the contraction that costs at most as much
  pub chain_stays : (u w : ℕ) (xs : List ℕ) → u ≢ v → w ≢ v → IsChain L u w xs → IsLight n (chain_cost L u xs) →
      HasChain M u w (chain_cost L u xs)
  chain_stays u w [] p q chain light = ([], chain, IsAtMost_refl _)
  chain_stays u w (x ∷ []) p q chain light = chain_kept u w (x ∷ []) p (subst (λ z. z ≢ v) (sym chain.1) q, tt) chain
  chain_stays u w (x ∷ y ∷ ys) p q chain light =
      let a = some_of (L u x) chain.0 in
      let b = some_of (L x y) chain.1.0 in
      let cost : chain_cost L u (x ∷ y ∷ ys) ≡ cost_sum a.0.cost (chain_cost L x (y ∷ ys)) = chain_cost-cons L u x (y ∷ ys) a.0 a.1 in
      let rest : chain_cost L x (y ∷ ys) ≡ cost_sum b.0.cost (chain_cost L y ys) = chain_cost-cons L x y ys b.0 b.1 in
      let light_rest : IsLight n (chain_cost L x (y ∷ ys)) = light_right n a.0.cost _ (subst (IsLight n) cost light) in
      elim (cases_eq x v) [
        | inl here ↦
            let two : chain_cost L u (x ∷ y ∷ ys) ≡ cost_sum a.0.cost (cost_sum b.0.cost (chain_cost L y ys)) =
            cost ∙ ap (cost_sum a.0.cost) rest in
            let ea : L u v ≡ Some a.0 = subst (λ z. L u z ≡ Some a.0) here a.1 in
            let eb : L v y ≡ Some b.0 = subst (λ z. L z y ≡ Some b.0) here b.1 in
            let off : y ≢ v = λ same. no_loop n L step.within v y b.0 eb (sym same) in
            subst (HasChain M u w) (sym two)
            (via u w y a.0 b.0 (chain_cost L y ys) p ea eb (subst (IsLight n) two light) off
            (chain_stays y w ys off q chain.1.1 (light_right n b.0.cost _ (subst (IsLight n) rest light_rest))))
        | inr away ↦
            subst (HasChain M u w) (sym cost)
            (leg_then_chain M u x w a.0.cost _ (leg_kept u x a.0 p away a.1) (chain_stays x w (y ∷ ys) away q chain.1 light_rest))
      ]
