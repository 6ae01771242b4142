-- Legs in arrays, lowered.
use Rattle.std.proofs.Common.{◌≡◌, ℕ, ◌+◌, ◌<◌, ◌≤◌, List, length, get_or, set, Contains, refl, sym, ◌∙◌, ap, subst, arith, inl, inr}
use Rattle.std.proofs.Common.{length-set, get_or-set_same, get_or-set_other}
use Rattle.std.specs.Prelude.{◌≢◌, All}
use Rattle.std.proofs.lemmas.Bool.{cases_eq, cases_lt}
use Rattle.std.proofs.lemmas.List.{get_or_default}
use Rattle.std.proofs.lemmas.List.Elements.{Contains-get_or, All-set}
use Rattle.ch_hierarchy.specs.declared.leg.Leg.{Leg}
use Rattle.ch_hierarchy.specs.Rows.{IsRow}
use Rattle.ch_custom.specs.Customizing.{leg_over}
use Rattle.ch_custom.specs.Metric.{held_leg, IsHeld, AreLoweredOver, AreLoweredTo}

-- no leg of the row is lowered yet
pub lowered_none : (n v : ℕ) (one : Leg) (others before : List Leg) → All IsHeld before → AreLoweredTo n v one others before 0 before
lowered_none n v one others before held = record {
  size = refl;
  nodes = λ k d lt. refl;
  lowered = λ k d l first lt c e. absurd (omega arith);
  kept = λ k d lt none. refl;
  later = λ k d le lt. refl;
  held = held;
}

-- the legs of the row that are not lowered yet have no leg to be lowered with
pub lowered_rest : (n v : ℕ) (one : Leg) (others before : List Leg) (place : ℕ) (after : List Leg) →
    AreLoweredTo n v one others before place after →
    ((l : Leg) (k : ℕ) (d : Leg) → Contains others l → place ≤ k → k < length before → l.node < (get_or before k d).node) →
    AreLoweredOver n v one others before after
lowered_rest n v one others before place after a less = record {
  size = a.size;
  nodes = a.nodes;
  lowered = λ k d l lt c e. elim (cases_lt k place) [
    | inl first ↦ a.lowered k d l first lt c e
    | inr past ↦ absurd (let more = less l k d c past lt in omega arith)
  ];
  kept = a.kept;
}

-- the legs of the row up to a later place have no leg to be lowered with
pub lowered_to : (n v : ℕ) (one : Leg) (others before : List Leg) (place : ℕ) (after : List Leg) →
    AreLoweredTo n v one others before place after → (end : ℕ) → place ≤ end →
    ((l : Leg) (k : ℕ) (d : Leg) → Contains others l → place ≤ k → k < end → k < length before → l.node ≡ (get_or before k d).node → ⊥) →
    AreLoweredTo n v one others before end after
lowered_to n v one others before place after a end le none = record {
  size = a.size;
  nodes = a.nodes;
  lowered = λ k d l lt inside c e. elim (cases_lt k place) [
    | inl first ↦ a.lowered k d l first inside c e
    | inr past ↦ absurd (none l k d c past lt inside e)
  ];
  kept = a.kept;
  later = λ k d past inside. a.later k d (omega arith) inside;
  held = a.held;
}

-- a leg of a row is the one at the place with its node
at_node : (others : List Leg) (next : ℕ) (l d : Leg) → IsRow others → next < length others → Contains others l →
    l.node ≡ (get_or others next d).node → l ≡ get_or others next d
at_node others next l d row lt c e = elim (cases_eq c.0 next) [
  | inl same ↦ sym c.2 ∙ get_or_default others c.0 l d c.1 ∙ ap (λ k. get_or others k d) same
  | inr ne ↦
      let here : (get_or others c.0 d).node ≡ l.node = ap (λ (z : Leg). z.node) (get_or_default others c.0 d l c.1 ∙ c.2) in
      elim (cases_lt c.0 next) [
        | inl first ↦ let less = row c.0 next d first lt in absurd (omega arith)
        | inr later ↦ let less = row next c.0 d (omega arith) c.1 in absurd (omega arith)
      ]
]

module _ (n v : ℕ) (one : Leg) (others before : List Leg) (place : ℕ) (after : List Leg)
    (a : AreLoweredTo n v one others before place after) (inside : place < length before) where
  -- the leg at this place is lowered with the one of the same node
  pub lowered_here : (next : ℕ) (r d : Leg) → IsRow others → next < length others →
      (get_or others next d).node ≡ (get_or before place d).node → r.node ≡ (get_or before place d).node →
      held_leg r ≡ leg_over n v (held_leg one) (held_leg (get_or others next d)) (held_leg (get_or before place d)) → IsHeld r →
      AreLoweredTo n v one others before (place + 1) (set after place r)
  lowered_here next r d row lt node mine low is =
      let size = a.size in
      let there : place < length after = omega arith in
      let here : (e : Leg) → get_or (set after place r) place e ≡ r = λ e. get_or-set_same after place r e there in
      let other : (k : ℕ) (e : Leg) → k ≢ place → get_or (set after place r) k e ≡ get_or after k e =
      λ k e ne. get_or-set_other after place k r e ne in
      let old : (e : Leg) → get_or before place e ≡ get_or before place d = λ e. get_or_default before place e d inside in
      record {
        size = length-set after place r ∙ a.size;
        nodes = λ k e below. elim (cases_eq k place) [
          | inl same ↦ subst (λ z. (get_or (set after place r) z e).node ≡ (get_or before z e).node) (sym same)
              (ap (λ (z : Leg). z.node) (here e) ∙ mine ∙ ap (λ (z : Leg). z.node) (sym (old e)))
          | inr ne ↦ ap (λ (z : Leg). z.node) (other k e ne) ∙ a.nodes k e below
        ];
        lowered = λ k e l first below c eq. elim (cases_eq k place) [
          | inl same ↦
              let its : l.node ≡ (get_or others next d).node = eq ∙ ap (λ z. (get_or before z e).node) same
              ∙ ap (λ (z : Leg). z.node) (old e) ∙ sym node in
              let found : l ≡ get_or others next d = at_node others next l d row lt c its in
              subst (λ z. held_leg (get_or (set after place r) z e) ≡ leg_over n v (held_leg one) (held_leg l)
              (held_leg (get_or before z e))) (sym same)
              (ap held_leg (here e) ∙ low
              ∙ ap (λ (z : Leg). leg_over n v (held_leg one) (held_leg z) (held_leg (get_or before place d))) (sym found)
              ∙ ap (λ (z : Leg). leg_over n v (held_leg one) (held_leg l) (held_leg z)) (sym (old e)))
          | inr ne ↦ ap held_leg (other k e ne) ∙ a.lowered k e l (omega arith) below c eq
        ];
        kept = λ k e below none. elim (cases_eq k place) [
          | inl same ↦ absurd (none (get_or others next d) (Contains-get_or others next d lt) (node
              ∙ ap (λ (z : Leg). z.node) (sym (old e)) ∙ ap (λ z. (get_or before z e).node) (sym same)))
          | inr ne ↦ other k e ne ∙ a.kept k e below none
        ];
        later = λ k e le below. other k e (λ same. omega arith) ∙ a.later k e (omega arith) below;
        held = All-set IsHeld after place r is a.held;
      }

  -- the same with what the row has now
  pub lowered_now : (next : ℕ) (r d e : Leg) (row : List Leg) → IsRow others → next < length others →
      (get_or others next d).node ≡ (get_or after place e).node → r.node ≡ (get_or after place e).node →
      held_leg r ≡ leg_over n v (held_leg one) (held_leg (get_or others next d)) (held_leg (get_or after place e)) → IsHeld r →
      row ≡ set after place r → AreLoweredTo n v one others before (place + 1) row
  lowered_now next r d e row is lt node mine low held eq =
      let same : get_or after place e ≡ get_or before place e = a.later place e (omega arith) inside in
      let swap : get_or others next d ≡ get_or others next e = get_or_default others next d e lt in
      subst (AreLoweredTo n v one others before (place + 1)) (sym eq)
      (lowered_here next r e is lt
      (ap (λ (z : Leg). z.node) (sym swap) ∙ node ∙ ap (λ (z : Leg). z.node) same)
      (mine ∙ ap (λ (z : Leg). z.node) same)
      (low ∙ ap (λ (z : Leg). leg_over n v (held_leg one) (held_leg z) (held_leg (get_or after place e))) swap
      ∙ ap (λ (z : Leg). leg_over n v (held_leg one) (held_leg (get_or others next e)) (held_leg z)) same)
      held)
