-- The legs before any contraction: each is the lightest arc of its pair of nodes.
use Rattle.std.proofs.Common.{◌≡◌, ℕ, suc, zero, ◌*◌, ◌<◌, ◌≤◌, min, Bool, true, false, cond, List, [], ◌∷◌, length, get_or, Option}
use Rattle.std.proofs.Common.{Some, None, Contains, refl, sym, ◌∙◌, ap, subst, arith, inl, inr}
use Rattle.std.specs.Prelude.{◌⊎◌, ◌≢◌, ◌==◌, ◌&&◌}
use Rattle.std.proofs.Math.Nat.{mul-le-mul_right}
use Rattle.std.proofs.lemmas.Bool.{cases_lt, eqb-false}
use Rattle.std.proofs.lemmas.Bool.Decides.{nat_tests}
use Rattle.std.proofs.lemmas.List.Elements.{All-contains}
use Rattle.std.proofs.lemmas.Option.{same_Some, none-some}
use Rattle.ch_graph.specs.declared.arc.InArc.{InArc}
use Rattle.ch_graph.specs.Graph.{Network, IsArcWithin, IsWithinLimits}
use Rattle.ch_contract.specs.Legs.{Label, IsLegWithin, opening, least_weight, lesser_weight, arc_label, arc_label_of}
use Rattle.ch_graph.proofs.Numbers.{not_eqb, eqb-refl}
use Rattle.ch_graph.proofs.Lists.{contains_tail}
use Rattle.ch_contract.proofs.theory.Chains.{HasLeg}

-- the arc from u to w of weight x
abbrev pub arc : ℕ → ℕ → ℕ → InArc
arc u w x = record { from = u; to = w; weight = x }

-- if the first arc of the list leads from u to w, the list has this arc
first_arc : (u w x : ℕ) (a : InArc) (arcs : List InArc) → (a.from ≡ u) × (a.to ≡ w) → a.weight ≡ x → Contains (a ∷ arcs) (arc u w x)
first_arc u w x a arcs ends weight = (zero, omega arith, λ i. record { from = ends.0 i; to = ends.1 i; weight = weight i })

-- the lesser of two weights is one of them
lesser_cases : (a y : ℕ) → (min a y ≡ a) ⊎ (min a y ≡ y)
lesser_cases a y = elim (cases_lt a y) [ inl lt ↦ inl (omega arith) | inr ge ↦ inr (omega arith) ]

-- the least weight is that of an arc
least_weight_arc : (u w x : ℕ) (arcs : List InArc) → least_weight u w arcs ≡ Some x → Contains arcs (arc u w x)
least_weight_arc u w x [] e = absurd (none-some _ e)
least_weight_arc u w x (a ∷ arcs) e = at (a.from == u && a.to == w) (least_weight u w arcs) refl e (least_weight_arc u w x arcs)
  where
    at : (b : Bool) (rest : Option ℕ) → (a.from == u && a.to == w) ≡ b → cond b (Some (lesser_weight a.weight rest)) rest ≡ Some x →
        (rest ≡ Some x → Contains arcs (arc u w x)) → Contains (a ∷ arcs) (arc u w x)
    at false rest test e' more = contains_tail (arc u w x) a arcs (more e')
    at true None test e' more = first_arc u w x a arcs (grind (arith, nat_tests), grind (arith, nat_tests)) (same_Some _ _ e')
    at true (Some y) test e' more = elim (lesser_cases a.weight y) [
      | inl own ↦ first_arc u w x a arcs (grind (arith, nat_tests), grind (arith, nat_tests)) (sym own ∙ same_Some _ _ e')
      | inr its ↦ contains_tail (arc u w x) a arcs (more (ap (λ q. Some q) (sym its ∙ same_Some _ _ e')))
    ]

-- there is a least weight, and it is at most y
abbrev WeighsAtMost : Option ℕ → ℕ → Type 0
WeighsAtMost o y = (x : ℕ) × (o ≡ Some x) × (x ≤ y)

-- one more arc in front does not raise the least weight
least_weight_more : (u w y : ℕ) (b : InArc) (arcs : List InArc) → WeighsAtMost (least_weight u w arcs) y →
    WeighsAtMost (least_weight u w (b ∷ arcs)) y
least_weight_more u w y b arcs h = at (b.from == u && b.to == w)
  where
    at : (t : Bool) → WeighsAtMost (cond t (Some (lesser_weight b.weight (least_weight u w arcs))) (least_weight u w arcs)) y
    at false = h
    at true = (min b.weight h.0, ap (λ o. Some (lesser_weight b.weight o)) h.1, omega (arith, h.2))

-- the lesser of a weight and another is at most the weight
lesser_own : (x : ℕ) (o : Option ℕ) → WeighsAtMost (Some (lesser_weight x o)) x
lesser_own x None = (x, refl, omega arith)
lesser_own x (Some y) = (min x y, refl, omega arith)

-- each arc weighs at least the least weight of its pair
least_weight_least : (a : InArc) (arcs : List InArc) (k : ℕ) → k < length arcs → get_or arcs k a ≡ a →
    WeighsAtMost (least_weight a.from a.to arcs) a.weight
least_weight_least a [] k lt e = absurd (omega arith)
least_weight_least a (b ∷ arcs) zero lt e = subst (λ (q : InArc). WeighsAtMost (least_weight q.from q.to (b ∷ arcs)) q.weight) e own
  where
    own : WeighsAtMost (least_weight b.from b.to (b ∷ arcs)) b.weight
    own = rw (eqb-refl b.from, eqb-refl b.to) (lesser_own b.weight (least_weight b.from b.to arcs))
least_weight_least a (b ∷ arcs) (suc k) lt e = least_weight_more a.from a.to a.weight b arcs (least_weight_least a arcs k (omega arith) e)

-- an opening leg is an arc of the graph
pub record IsArcLeg (g : Network) (u w : ℕ) (l : Label) : Type 0 where
  pub weight : ℕ
  pub label : l ≡ arc_label weight
  pub arc_is : Contains g.arcs (arc u w weight)
  pub apart : u ≢ w

-- each opening leg is an arc
pub opening_leg : (g : Network) (u w : ℕ) (l : Label) → opening g u w ≡ Some l → IsArcLeg g u w l
opening_leg g u w l e = at (u == w) (least_weight u w g.arcs) refl refl e
  where
    at : (b : Bool) (o : Option ℕ) → (u == w) ≡ b → least_weight u w g.arcs ≡ o → cond b None (arc_label_of o) ≡ Some l → IsArcLeg g u w l
    at true o test has e' = absurd (none-some _ e')
    at false None test has e' = absurd (none-some _ e')
    at false (Some x) test has e' = record {
      weight = x;
      label = sym (same_Some _ _ e');
      arc_is =
          least_weight_arc u w x g.arcs has;
      apart = eqb-false u w test;
    }

-- each arc between different nodes has a leg that costs no more
pub opening_covers : (g : Network) (a : InArc) → Contains g.arcs a → a.from ≢ a.to →
    HasLeg (opening g) a.from a.to (arc_label a.weight).cost
opening_covers g a has ne =
    let x = least_weight_least a g.arcs has.0 has.1 has.2 in
    (arc_label x.0, rw (not_eqb a.from a.to ne) (ap arc_label_of x.1), (x.2, λ tie. omega arith))

-- a product with a factor that is not 0 is at least the other factor
weight_below : (n x : ℕ) → 0 < n → x ≤ n * x
weight_below n x lt = omega (arith, mul-le-mul_right {m = 1} {n = n} x (omega arith))

-- opening legs are within the limits
pub opening_within : (g : Network) → IsWithinLimits g → (u w : ℕ) (l : Label) → opening g u w ≡ Some l → IsLegWithin g.nodes u w l
opening_within g limits u w l e =
    let leg = opening_leg g u w l e in
    let own : IsArcWithin g.nodes (arc u w leg.weight) = All-contains (IsArcWithin g.nodes) g.arcs _ limits.each leg.arc_is in
    let ends = own.ends in
    let apart = leg.apart in
    let weight = own.weight in
    subst (IsLegWithin g.nodes u w) (sym leg.label) (record {
      ends = (ends.0, ends.1, apart);
      weight = omega (arith, weight_below g.nodes leg.weight (omega arith));
      arcs = omega arith;
      middle = λ v is. absurd (none-some _ is);
    })
