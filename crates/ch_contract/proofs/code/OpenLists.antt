-- The opening legs, which are put into two lists of lists arc after arc.
use Rattle.std.proofs.Common.{◌≡◌, ℕ, ◌+◌, ◌<◌, ◌≤◌, Bool, true, false, cond, List, [], ◌∷◌, ◌++◌, length, get_or, take, replicate}
use Rattle.std.proofs.Common.{Option, Some, None, refl, sym, ◌∙◌, ap, subst, arith, inl, inr}
use Rattle.std.specs.Prelude.{◌==◌, ◌&&◌, if◌then◌else◌, ◌≢◌, option_map, filter, not}
use Rattle.std.proofs.lemmas.List.{get_or-replicate, get_or_past, length-replicate, take_more, append-nil}
use Rattle.std.proofs.lemmas.List.Elements.{filter-append}
use Rattle.std.proofs.lemmas.Bool.Decides.{nat_tests}
use Rattle.ch_graph.specs.declared.limits.TheConstants.{MOST_NODES}
use Rattle.ch_graph.specs.declared.arc.InArc.{InArc}
use Rattle.ch_hierarchy.specs.declared.leg.Leg.{Leg}
use Rattle.ch_contract.specs.Legs.{Label, Legs, SameLegs, AreLegsWithin, ArcsOpen, opening, arc_label, arc_label_of, least_weight}
use Rattle.ch_contract.specs.Legs.{lesser_weight}
use Rattle.ch_hierarchy.specs.Rows.{row, IsRow}
use Rattle.ch_contract.specs.LegRows.{row_leg}
use Rattle.ch_contract.specs.LegLists.{AreRows, IsSet, IsWithinLimits, legs_from, legs_into, lighter_arc}
use Rattle.std.proofs.lemmas.Bool.{cases_lt}
use Rattle.ch_hierarchy.proofs.theory.Ordered.{same_ends}
use Rattle.ch_graph.specs.Graph.{Network, IsWithinLimits as IsWithinGraphLimits}
use Rattle.ch_contract.proofs.theory.Opening.{joins, opens, same_within}
use Rattle.ch_contract.proofs.theory.OpeningLegs.{opening_within}
use Rattle.ch_contract.proofs.code.ListEdits.{turn}

-- the least weight after one more arc
pub least_weight_push : (u w : ℕ) (arcs : List InArc) (a : InArc) →
    least_weight u w (arcs ++ a ∷ []) ≡ (if a.from == u && a.to == w then Some (lesser_weight a.weight (least_weight u w arcs))
    else least_weight u w arcs)
least_weight_push u w [] a = refl
least_weight_push u w (x ∷ arcs) a = at (x.from == u && x.to == w) (a.from == u && a.to == w) (least_weight_push u w arcs a)
  where
    swap : (x y : ℕ) (o : Option ℕ) → lesser_weight x (Some (lesser_weight y o)) ≡ lesser_weight y (Some (lesser_weight x o))
    swap x y None = omega arith
    swap x y (Some z) = omega arith

    at : (p q : Bool) → least_weight u w (arcs ++ a ∷ []) ≡ cond q (Some (lesser_weight a.weight (least_weight u w arcs)))
        (least_weight u w arcs) →
        cond p (Some (lesser_weight x.weight (least_weight u w (arcs ++ a ∷ [])))) (least_weight u w (arcs ++ a ∷ []))
        ≡ cond q (Some (lesser_weight a.weight
        (cond p (Some (lesser_weight x.weight (least_weight u w arcs))) (least_weight u w arcs))))
        (cond p (Some (lesser_weight x.weight (least_weight u w arcs))) (least_weight u w arcs))
    at true true e = ap (λ o. Some (lesser_weight x.weight o)) e ∙ ap Some (swap x.weight a.weight (least_weight u w arcs))
    at true false e = ap (λ o. Some (lesser_weight x.weight o)) e
    at false q e = e

-- the legs of the lightest arcs after one more arc
more_open : (arcs : List InArc) (a : InArc) (L M : Legs) → ArcsOpen arcs L →
    ((u w : ℕ) → M u w ≡ (if a.from == u && a.to == w then Some (lighter_arc a.weight (L a.from a.to)) else L u w)) →
    ArcsOpen (arcs ++ a ∷ []) M
more_open arcs a L M opened says u w = says u w ∙ at (a.from == u && a.to == w) refl ∙ sym (ap arc_label_of (least_weight_push u w arcs a))
  where
    weight_of : (o : Option ℕ) → option_map (λ (l : Label). l.cost.weight) (arc_label_of o) ≡ o
    weight_of None = refl
    weight_of (Some x) = refl

    known : option_map (λ (l : Label). l.cost.weight) (L a.from a.to) ≡ least_weight a.from a.to arcs
    known = ap (option_map (λ (l : Label). l.cost.weight)) (opened a.from a.to) ∙ weight_of (least_weight a.from a.to arcs)

    at : (t : Bool) → (a.from == u && a.to == w) ≡ t →
        cond t (Some (lighter_arc a.weight (L a.from a.to))) (L u w)
        ≡ arc_label_of (cond t (Some (lesser_weight a.weight (least_weight u w arcs))) (least_weight u w arcs))
    at true e =
        let i = same_ends u w a.from a.to e in
        ap (λ z. Some (arc_label (lesser_weight a.weight z)))
        (known ∙ ap (λ z. least_weight z a.to arcs) i.0 ∙ ap (λ z. least_weight u z arcs) i.1)
    at false e = opened u w

-- the lists after these arcs
pub record AreOpenLists (n : ℕ) (arcs : List InArc) (outs ins : List (List Leg)) : Type 0 where
  pub sizes : (length outs ≡ n) × (length ins ≡ n)
  pub rows : AreRows outs × AreRows ins
  pub out_legs : ArcsOpen arcs (legs_from outs)
  pub in_legs : ArcsOpen arcs (legs_into ins)

-- each row of a list of empty lists is empty
no_row : (n x : ℕ) → row (replicate n []) x ≡ []
no_row n x = elim (cases_lt x n) [
  | inl lt ↦ get_or-replicate n x [] [] lt
  | inr ge ↦ get_or_past (replicate n []) x [] (omega (arith, length-replicate {A = List Leg} n []))
]

-- at first there is no leg
pub open_none : (n : ℕ) (outs ins : List (List Leg)) → outs ≡ replicate n [] → ins ≡ replicate n [] → AreOpenLists n [] outs ins
open_none n outs ins e f = subst (λ (z : List (List Leg)). AreOpenLists n [] z ins) (sym e)
    (subst (λ (z : List (List Leg)). AreOpenLists n [] (replicate n []) z) (sym f) (record {
      sizes = (length-replicate n [], length-replicate n []);
      rows = (ordered, ordered);
      out_legs = λ u w. ap (λ z. row_leg z w) (no_row n u);
      in_legs = λ u w. ap (λ z. row_leg z u) (no_row n w);
    }))
  where
    ordered : AreRows (replicate n [])
    ordered x = subst IsRow (sym (no_row n x)) (λ i j d less lt. absurd (omega arith))

-- the lists after one more arc is put in on both sides
pub open_more : (n : ℕ) (arcs : List InArc) (a : InArc) (outs ins new_outs new_ins : List (List Leg)) → AreOpenLists n arcs outs ins →
    IsSet a.from a.to (Some (lighter_arc a.weight (row_leg (row outs a.from) a.to))) outs new_outs →
    IsSet a.to a.from (Some (lighter_arc a.weight (row_leg (row ins a.to) a.from))) ins new_ins →
    AreOpenLists n (arcs ++ a ∷ []) new_outs new_ins
open_more n arcs a outs ins new_outs new_ins o s t = record {
  sizes = (s.size ∙ o.sizes.0, t.size ∙ o.sizes.1);
  rows = (s.rows, t.rows);
  out_legs = more_open arcs a (legs_from outs) (legs_from new_outs) o.out_legs s.legs;
  in_legs = more_open arcs a (legs_into ins) (legs_into new_ins) o.in_legs (λ u w. t.legs w u
      ∙ turn (a.to == w) (a.from == u) (Some (lighter_arc a.weight (legs_into ins a.from a.to))) (legs_into ins u w));
}

-- the default arc of a read past the end of a list of arcs
abbrev pub no_arc : InArc
no_arc = record { from = 0; to = 0; weight = 0 }

-- the lists after the next arc, if it joins two nodes
pub open_next : (n : ℕ) (arcs : List InArc) (i : ℕ) (d : InArc) (outs ins new_outs new_ins : List (List Leg)) → i < length arcs →
    (get_or arcs i d).from ≢ (get_or arcs i d).to →
    AreOpenLists n (filter joins (take i arcs)) outs ins →
    IsSet (get_or arcs i d).from (get_or arcs i d).to
    (Some (lighter_arc (get_or arcs i d).weight (row_leg (row outs (get_or arcs i d).from) (get_or arcs i d).to))) outs new_outs →
    IsSet (get_or arcs i d).to (get_or arcs i d).from
    (Some (lighter_arc (get_or arcs i d).weight (row_leg (row ins (get_or arcs i d).to) (get_or arcs i d).from))) ins new_ins →
    AreOpenLists n (filter joins (take (i + 1) arcs)) new_outs new_ins
open_next n arcs i d outs ins new_outs new_ins lt apart o s t =
    let a = get_or arcs i d in
    let other : (a.from == a.to) ≡ false = grind (arith, nat_tests) in
    subst (λ z. AreOpenLists n (filter joins z) new_outs new_ins) (sym (take_more arcs i d lt))
    (subst (λ z. AreOpenLists n z new_outs new_ins)
    (sym (filter-append joins (take i arcs) (a ∷ []) ∙ ap (λ b. filter joins (take i arcs) ++ cond (not b) (a ∷ []) []) other))
    (open_more n (filter joins (take i arcs)) a outs ins new_outs new_ins o s t))

-- the lists after the next arc, if it is a loop, which is left out
pub open_skips : (n : ℕ) (arcs : List InArc) (i : ℕ) (d : InArc) (outs ins : List (List Leg)) → i < length arcs →
    (get_or arcs i d).from ≡ (get_or arcs i d).to →
    AreOpenLists n (filter joins (take i arcs)) outs ins → AreOpenLists n (filter joins (take (i + 1) arcs)) outs ins
open_skips n arcs i d outs ins lt same o =
    let a = get_or arcs i d in
    let loop : (a.from == a.to) ≡ true = grind (arith, nat_tests) in
    subst (λ z. AreOpenLists n (filter joins z) outs ins) (sym (take_more arcs i d lt))
    (subst (λ z. AreOpenLists n z outs ins)
    (sym (filter-append joins (take i arcs) (a ∷ []) ∙ ap (λ b. filter joins (take i arcs) ++ cond (not b) (a ∷ []) []) loop
    ∙ append-nil (filter joins (take i arcs)))) o)

-- after all arcs are put in, both sides have the opening legs, within the limits
pub open_all : (g : Network) (n : ℕ) (arcs : List InArc) (i : ℕ) (outs ins : List (List Leg)) → IsWithinGraphLimits g →
    n ≡ g.nodes → arcs ≡ g.arcs → length arcs ≤ i →
    AreOpenLists n (filter joins (take i arcs)) outs ins → IsWithinLimits n outs ins × SameLegs (legs_from outs) (opening g)
open_all g n arcs i outs ins limits nodes same past o =
    let out_is = opens g (legs_from outs) arcs i same past o.out_legs in
    let in_is = opens g (legs_into ins) arcs i same past o.in_legs in (
      record {
        nodes = subst (λ m. m ≤ MOST_NODES) (sym nodes) limits.size.0;
        sizes = o.sizes;
        rows = o.rows;
        agree = λ u w. out_is u w ∙ sym (in_is u w);
        legs = subst (λ m. AreLegsWithin m (legs_from outs)) (sym nodes)
            (same_within g.nodes (legs_from outs) (opening g) out_is (opening_within g limits));
      },
      out_is,
    )
