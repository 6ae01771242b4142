-- A pass without a queue: a leg of a node whose cost is final is taken.
use Rattle.std.proofs.Common.{◌≡◌, ℕ, ◌+◌, ◌<◌, ◌≤◌, List, [], ◌∷◌, ◌++◌, length, Contains, Option, Some, None, sym, ◌∙◌, ap}
use Rattle.std.proofs.Common.{subst, arith, get_or-set_same, get_or-set_other, set, length-set, inl, inr}
use Rattle.std.specs.Prelude.{◌≢◌, slice_index}
use Rattle.std.proofs.lemmas.Bool.{cases_eq}
use Rattle.std.proofs.lemmas.List.Elements.{Contains-push_cases}
use Rattle.std.proofs.lemmas.Option.{same_Some}
use Rattle.ch_graph.specs.declared.limits.TheConstants.{MOST_WEIGHT}
use Rattle.ch_graph.specs.declared.cost.Cost.{Cost}
use Rattle.ch_graph.specs.Cost.{IsAtMost, cost_sum, no_cost, cost_at}
use Rattle.ch_graph.proofs.CostOrder.{IsAtMost_refl, IsAtMost_trans, IsBelow-IsAtMost, IsBelow_not}
use Rattle.ch_hierarchy.specs.declared.leg.Leg.{Leg}
use Rattle.ch_hierarchy.specs.Rows.{row}
use Rattle.ch_query.specs.Climbs.{Takes, IsLedBy, IsPass, IsPartPass}
use Rattle.ch_query.specs.Parents.{IsNoEarlier}
use Rattle.ch_query.specs.Search.{IsRelaxedFrom, IsUpwardCost, WouldLower}
use Rattle.ch_query.proofs.one_side.PathLaws.{not_below_nothing, cost_push, path_push}

module _ (rows : List (List Leg)) (s : ℕ) (Taken Final : ℕ → Type 0) (sub : (x : ℕ) → Taken x → Final x) (best : List (Option Cost))
    (parents : List ℕ) (v : ℕ) (c : Cost) (final : Final v) (legs : List Leg)
    (p : IsPartPass rows s Taken Final best parents v c legs) (l : Leg) (has : Contains (row rows v) l) (unsettled : Final l.node → ⊥)
    (within : l.node < length best) where
  -- the parents after v was written
  abbrev written : List ℕ
  written = set parents l.node v

  written_here : slice_index written l.node ≡ v
  written_here = get_or-set_same parents l.node v 0 (let n = p.pass.size in omega arith)

  written_away : (y : ℕ) → (y ≡ l.node → ⊥) → slice_index written y ≡ slice_index parents y
  written_away y ne = get_or-set_other parents l.node y v 0 ne

  -- a node whose cost is final is not the leg's node
  apart : (y : ℕ) → Final y → y ≡ l.node → ⊥
  apart y f is = unsettled (subst Final is f)

  -- the leg shows an equal cost, and the lesser parent is v
  module _ (same : cost_at best l.node ≡ Some (cost_sum c l.cost)) (earlier : v < slice_index parents l.node) where
    falls : (y : ℕ) → slice_index written y ≤ slice_index parents y
    falls y = elim (cases_eq y l.node) [
      | inl is ↦ let at = ap (slice_index written) is ∙ written_here in let old = ap (slice_index parents) is in omega arith
      | inr ne ↦ let at = written_away y ne in omega arith
    ]

    equal_pass : IsPass rows s Taken Final best written
    equal_pass = record {
      size = length-set parents l.node v ∙ p.pass.size;
      start = p.pass.start;
      sound = p.pass.sound;
      taken = λ u e t k m of. let old = p.pass.taken u e t k m of in
          (old.0, λ low at. let n = old.1 low at in let f = falls m.node in omega arith);
      led = λ y e ne k. elim (cases_eq y l.node) [
        | inl is ↦ subst (IsLedBy rows Final best y e) (sym (ap (slice_index written) is ∙ written_here))
            (record {
              cost = c;
              final = final;
              known = p.known;
              leg = l;
              has = has;
              node = sym is;
              sum = same_Some _ _ (sym same ∙ ap (cost_at best) (sym is) ∙ k);
            })
        | inr ne' ↦ subst (IsLedBy rows Final best y e) (sym (written_away y ne')) (p.pass.led y e ne k)
      ];
    }

  -- the leg shows a lower cost
  module _ (light : c.weight + l.cost.weight ≤ MOST_WEIGHT) (h : WouldLower best l.node (cost_sum c l.cost)) where
    -- the costs after the leg was taken
    abbrev lower : List (Option Cost)
    lower = set best l.node (Some (cost_sum c l.cost))

    here : cost_at lower l.node ≡ Some (cost_sum c l.cost)
    here = get_or-set_same best l.node (Some (cost_sum c l.cost)) None within

    away : (y : ℕ) → (y ≡ l.node → ⊥) → cost_at lower y ≡ cost_at best y
    away y ne = get_or-set_other best l.node y (Some (cost_sum c l.cost)) None ne

    -- a leg that was relaxed is relaxed now
    relaxed_stays : (a : Cost) (k : Leg) → IsRelaxedFrom MOST_WEIGHT best a k → IsRelaxedFrom MOST_WEIGHT lower a k
    relaxed_stays a k r w =
        let old = r w in
        elim (cases_eq k.node l.node) [
          | inl is ↦ (
            cost_sum c l.cost,
            ap (cost_at lower) is ∙ here,
            IsAtMost_trans (cost_sum c l.cost) old.0 _
                (IsBelow-IsAtMost _ _ (h.lower old.0 (sym (ap (cost_at best) is) ∙ old.1))) old.2,
          )
          | inr ne ↦ (old.0, away k.node ne ∙ old.1, old.2)
        ]

    -- a leg to the same node that was taken before gives a greater cost
    dearer : (a : Cost) (k : Leg) → k.node ≡ l.node → IsRelaxedFrom MOST_WEIGHT best a k →
        cost_at lower k.node ≡ Some (cost_sum a k.cost) → ⊥
    dearer a k is r e =
        let same : cost_sum c l.cost ≡ cost_sum a k.cost = same_Some _ _ (sym here ∙ ap (cost_at lower) (sym is) ∙ e) in
        let low : a.weight + k.cost.weight ≤ MOST_WEIGHT = subst (λ (q : Cost). q.weight ≤ MOST_WEIGHT) same light in
        let old = r low in
        let lt = h.lower old.0 (ap (cost_at best) (sym is) ∙ old.1) in
        IsBelow_not (cost_sum c l.cost) old.0 lt (subst (IsAtMost old.0) (sym same) old.2)

    -- a node that came no earlier at a leg comes no earlier now
    earlier_stays : (u : ℕ) (a : Cost) (k : Leg) → IsRelaxedFrom MOST_WEIGHT best a k → IsNoEarlier MOST_WEIGHT best parents u a k →
        IsNoEarlier MOST_WEIGHT lower written u a k
    earlier_stays u a k r n low e = elim (cases_eq k.node l.node) [
      | inl is ↦ absurd (dearer a k is r e)
      | inr ne ↦ subst (λ q. q ≤ u) (sym (written_away k.node ne)) (n low (sym (away k.node ne) ∙ e))
    ]

    -- a path reaches the leg's node at the sum
    reached : IsUpwardCost rows s l.node (cost_sum c l.cost)
    reached =
        let r = p.pass.sound v c p.known in
        record {
          path = (
            r.path.0 ++ l ∷ [],
            path_push rows s v r.path.0 l r.path.1 has,
            cost_push r.path.0 l ∙ ap (λ q. cost_sum q l.cost) r.path.2,
          );
          weight = light;
        }

    sound : (y : ℕ) (a : Cost) → cost_at lower y ≡ Some a → IsUpwardCost rows s y a
    sound y a e = elim (cases_eq y l.node) [
      | inl is ↦
          let same : cost_sum c l.cost ≡ a = same_Some _ _ (sym here ∙ ap (cost_at lower) (sym is) ∙ e) in
          subst (λ q. IsUpwardCost rows s q a) (sym is) (subst (IsUpwardCost rows s l.node) same reached)
      | inr ne ↦ p.pass.sound y a (sym (away y ne) ∙ e)
    ]

    start : cost_at lower s ≡ Some no_cost
    start = elim (cases_eq s l.node) [
      | inl is ↦ absurd (not_below_nothing _ (h.lower no_cost (sym (ap (cost_at best) is) ∙ p.pass.start)))
      | inr ne ↦ away s ne ∙ p.pass.start
    ]

    led : (y : ℕ) (e : Cost) → y ≢ s → cost_at lower y ≡ Some e → IsLedBy rows Final lower y e (slice_index written y)
    led y e ne k = elim (cases_eq y l.node) [
      | inl is ↦ subst (IsLedBy rows Final lower y e) (sym (ap (slice_index written) is ∙ written_here))
          (record {
            cost = c;
            final = final;
            known = away v (apart v final) ∙ p.known;
            leg = l;
            has = has;
            node = sym is;
            sum = same_Some _ _ (sym here ∙ ap (cost_at lower) (sym is) ∙ k);
          })
      | inr ne' ↦
          let q = p.pass.led y e ne (sym (away y ne') ∙ k) in
          subst (IsLedBy rows Final lower y e) (sym (written_away y ne'))
          (record {
            cost = q.cost;
            final = q.final;
            known = away _ (apart _ q.final) ∙ q.known;
            leg = q.leg;
            has = q.has;
            node = q.node;
            sum = q.sum;
          })
    ]

    lower_pass : IsPass rows s Taken Final lower written
    lower_pass = record {
      size = length-set parents l.node v ∙ p.pass.size ∙ sym (length-set best l.node _);
      start = start;
      sound = sound;
      taken = λ u e t k m of.
          let old = p.pass.taken u e t (sym (away u (apart u (sub u t))) ∙ k) m of in
          (relaxed_stays e m old.0, earlier_stays u e m old.0 old.1);
      led = led;
    }

    lower_itself : IsRelaxedFrom MOST_WEIGHT lower c l × IsNoEarlier MOST_WEIGHT lower written v c l
    lower_itself = ((λ _. (cost_sum c l.cost, here, IsAtMost_refl (cost_sum c l.cost))), (λ _ _. let at = written_here in omega arith))

  -- one more leg is taken
  pub takes_more : (best' : List (Option Cost)) (parents' : List ℕ) → Takes MOST_WEIGHT best parents v c l best' parents' →
      IsPartPass rows s Taken Final best' parents' v c (legs ++ l ∷ [])
  takes_more best' parents' (inl (e, is, inl (early, g))) =
      subst (λ q. IsPartPass rows s Taken Final q parents' v c (legs ++ l ∷ [])) (sym e)
      (subst (λ q. IsPartPass rows s Taken Final best q v c (legs ++ l ∷ [])) (sym g)
      (record {
        pass = p.pass;
        known = p.known;
        relaxed = λ k of. elim (Contains-push_cases legs l k of) [
          | inl old ↦ p.relaxed k old
          | inr new ↦ subst (λ m. IsRelaxedFrom MOST_WEIGHT best c m × IsNoEarlier MOST_WEIGHT best parents v c m) new (is, early)
        ];
      }))
  takes_more best' parents' (inl (e, is, inr (equal, lt, g))) =
      subst (λ q. IsPartPass rows s Taken Final q parents' v c (legs ++ l ∷ [])) (sym e)
      (subst (λ q. IsPartPass rows s Taken Final best q v c (legs ++ l ∷ [])) (sym g)
      (record {
        pass = equal_pass equal lt;
        known = p.known;
        relaxed = λ k of. elim (Contains-push_cases legs l k of) [
          | inl old ↦ (
            (p.relaxed k old).0,
            λ low at. let n = (p.relaxed k old).1 low at in let f = falls equal lt k.node in omega arith,
          )
          | inr new ↦ subst (λ m. IsRelaxedFrom MOST_WEIGHT best c m × IsNoEarlier MOST_WEIGHT best (set parents l.node v) v c m) new
              (is, λ _ _. let at = written_here in omega arith)
        ];
      }))
  takes_more best' parents' (inr (light, low, e, g)) =
      subst (λ q. IsPartPass rows s Taken Final q parents' v c (legs ++ l ∷ [])) (sym e)
      (subst (λ q. IsPartPass rows s Taken Final (set best l.node (Some (cost_sum c l.cost))) q v c (legs ++ l ∷ [])) (sym g)
      (record {
        pass = lower_pass light low;
        known = away light low v (apart v final) ∙ p.known;
        relaxed = λ k of. elim (Contains-push_cases legs l k of) [
          | inl old ↦ (
            relaxed_stays light low c k (p.relaxed k old).0,
            earlier_stays light low v c k (p.relaxed k old).0 (p.relaxed k old).1,
          )
          | inr new ↦ subst (λ m. IsRelaxedFrom MOST_WEIGHT (set best l.node (Some (cost_sum c l.cost))) c m
              × IsNoEarlier MOST_WEIGHT (set best l.node (Some (cost_sum c l.cost))) (set parents l.node v) v c m) new
              (lower_itself light low)
        ];
      }))
