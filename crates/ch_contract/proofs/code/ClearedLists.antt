-- The lists after a node is taken out, and the lists after shortcuts are put in.
use Rattle.std.proofs.Common.{◌≡◌, ℕ, ◌<◌, Bool, true, false, List, [], length, set, Option, None, All, Contains, refl, sym, ◌∙◌}
use Rattle.std.proofs.Common.{ap, subst, arith, inl, inr}
use Rattle.std.specs.Prelude.{◌≢◌, ◌==◌, ◌||◌, if◌then◌else◌}
use Rattle.std.proofs.lemmas.Bool.{cases_eq, eqb-true, eqb-false}
use Rattle.std.proofs.lemmas.Bool.Decides.{nat_tests}
use Rattle.std.proofs.lemmas.List.{length-set, get_or-set_same, get_or-set_other}
use Rattle.std.proofs.lemmas.List.Elements.{All-from_get_or, All-contains, Contains-get_or}
use Rattle.std.proofs.lemmas.Option.{same_Some}
use Rattle.ch_graph.proofs.Lists.{contains_none}
use Rattle.ch_hierarchy.specs.declared.leg.Leg.{Leg}
use Rattle.ch_contract.specs.declared.shortcut.Shortcut.{Shortcut}
use Rattle.ch_contract.specs.Legs.{Label, SameLegs, IsLegWithin}
use Rattle.ch_contract.specs.Contraction.{leg_after_shortcuts, legs_after_contraction, shortcut_label}
use Rattle.ch_hierarchy.specs.Rows.{row, IsRow}
use Rattle.ch_contract.specs.LegRows.{row_leg, label_of}
use Rattle.ch_contract.specs.LegLists.{AreRows, HaveAll, AreOverridden, IsWithinLimits, legs_from, legs_into}
use Rattle.ch_contract.proofs.theory.Contracting.{contracted_within, override_cases}
use Rattle.ch_contract.proofs.theory.Opening.{same_within}
use Rattle.ch_contract.proofs.theory.RowLegs.{row_has, row_member, leg_at}
use Rattle.ch_hierarchy.proofs.theory.NoLeg.{no_leg}

-- the legs at v are taken out of all lists
pub record AreWithout (v : ℕ) (old new : List (List Leg)) : Type 0 where
  pub size : length new ≡ length old
  pub rows : AreRows new
  pub legs : (x y : ℕ) → row_leg (row new x) y ≡ (if v == y then None else row_leg (row old x) y)

-- no leg touches v: the legs at v are taken out of all lists, and the list of v is empty
pub record AreCleared (v : ℕ) (old new : List (List Leg)) : Type 0 where
  pub size : length new ≡ length old
  pub rows : AreRows new
  pub legs : (x y : ℕ) → row_leg (row new x) y ≡ (if x == v || y == v then None else row_leg (row old x) y)

-- after the row of v is set aside it is empty, and the other rows stay
module _ (v : ℕ) (old mid : List (List Leg)) (inside : v < length old) (is : mid ≡ set old v []) where
  -- the row of v is empty
  pub aside_here : (x : ℕ) → x ≡ v → row mid x ≡ []
  aside_here x e = ap (row mid) e ∙ ap (λ z. row z v) is ∙ get_or-set_same old v [] [] inside

  -- the other rows stay
  pub aside_there : (x : ℕ) → x ≢ v → row mid x ≡ row old x
  aside_there x ne = ap (λ z. row z x) is ∙ get_or-set_other old v x [] [] ne

  -- all rows are in order
  pub aside_rows : AreRows old → AreRows mid
  aside_rows rows x = elim (cases_eq x v) [
    | inl e ↦ subst IsRow (sym (aside_here x e)) (λ i j d less lt. absurd (omega arith))
    | inr ne ↦ subst IsRow (sym (aside_there x ne)) (rows x)
  ]

  -- the number of rows stays
  pub aside_size : length mid ≡ length old
  aside_size = ap length is ∙ length-set old v []

  -- each node that has a leg at v had one before
  pub aside_all : (others : List Leg) → HaveAll old v others → HaveAll mid v others
  aside_all others all x m e = elim (cases_eq x v) [
    | inl same ↦ absurd (let none = sym e ∙ ap (λ z. row_leg z v) (aside_here x same) in cc)
    | inr ne ↦ all x m (sym (ap (λ z. row_leg z v) (aside_there x ne)) ∙ e)
  ]

  -- after the legs at v are taken out of all lists, no leg touches v
  pub cleared : (new : List (List Leg)) → AreWithout v mid new → AreCleared v old new
  cleared new w = record {
    size = w.size ∙ aside_size;
    rows = w.rows;
    legs = λ x y. legs_at x y (x == v) (y == v) refl refl;
  }
    where
      legs_at : (x y : ℕ) (p q : Bool) → (x == v) ≡ p → (y == v) ≡ q →
          row_leg (row new x) y ≡ (if p || q then None else row_leg (row old x) y)
      legs_at x y p true e f = let same : (v == y) ≡ true = grind (arith, nat_tests) in w.legs x y ∙ rw same (at p)
        where
          at : (b : Bool) → ◌≡◌ {A = Option Label} None (if b || true then None else row_leg (row old x) y)
          at true = refl
          at false = refl
      legs_at x y true false e f = let differs : (v == y) ≡ false = grind (arith, nat_tests) in
          w.legs x y ∙ rw differs (ap (λ z. row_leg z y) (aside_here x (eqb-true x v e)))
      legs_at x y false false e f = let differs : (v == y) ≡ false = grind (arith, nat_tests) in
          w.legs x y ∙ rw differs (ap (λ z. row_leg z y) (aside_there x (eqb-false x v e)))

module _ (n : ℕ) (outs ins : List (List Leg)) (within : IsWithinLimits n outs ins) (v : ℕ) where
  -- the nodes with a leg to v are the nodes of the row of v on the other side
  pub outs_at : HaveAll outs v (row ins v)
  outs_at x m e = (leg_at x m, row_member (row ins v) x m (sym (within.agree x v) ∙ e), refl)

  pub ins_at : HaveAll ins v (row outs v)
  ins_at x m e = (leg_at x m, row_member (row outs v) x m (within.agree v x ∙ e), refl)

  -- the nodes of the legs from v have lists on the other side
  pub outs_within : All (λ l. l.node < length ins) (row outs v)
  outs_within = All-from_get_or (λ (l : Leg). l.node < length ins) (row outs v) no_leg
      (λ i lt. node _ (Contains-get_or (row outs v) i no_leg lt))
    where
      node : (l : Leg) → Contains (row outs v) l → l.node < length ins
      node l c = let lt = (within.legs v l.node (label_of l) (row_has (row outs v) l (within.rows.0 v) c)).ends.1 in
          omega (arith, within.sizes.1)

  pub ins_within : All (λ l. l.node < length outs) (row ins v)
  ins_within = All-from_get_or (λ (l : Leg). l.node < length outs) (row ins v) no_leg
      (λ i lt. node _ (Contains-get_or (row ins v) i no_leg lt))
    where
      node : (l : Leg) → Contains (row ins v) l → l.node < length outs
      node l c = let lt = (within.legs l.node v (label_of l)
          (within.agree l.node v ∙ row_has (row ins v) l (within.rows.1 v) c)).ends.0 in omega (arith, within.sizes.0)

  -- both sides when no leg touches v
  module _ (new_outs new_ins : List (List Leg)) (from : AreCleared v outs new_outs) (into : AreCleared v ins new_ins) where
    -- the lists of the legs to each node have the same legs as the other side
    ins_cleared : SameLegs (legs_into new_ins) (legs_after_contraction (legs_from outs) v [])
    ins_cleared u w = into.legs w u ∙ at (w == v) (u == v)
      where
        at : (p q : Bool) → (if p || q then None else legs_into ins u w) ≡ (if q || p then None else legs_from outs u w)
        at true true = refl
        at true false = refl
        at false true = refl
        at false false = sym (within.agree u w)

    pub within_cleared : IsWithinLimits n new_outs new_ins
    within_cleared = record {
      nodes = within.nodes;
      sizes = (from.size ∙ within.sizes.0, into.size ∙ within.sizes.1);
      rows = (from.rows, into.rows);
      agree = λ u w. from.legs u w ∙ sym (ins_cleared u w);
      legs = same_within n (legs_from new_outs) (legs_after_contraction (legs_from outs) v []) from.legs
          (contracted_within n (legs_from outs) v [] within.legs (λ s c. absurd (contains_none s c)));
    }

-- both sides after a node is taken out, call after call
pub clearing_leaves : (n : ℕ) (outs ins : List (List Leg)) → IsWithinLimits n outs ins → (v : ℕ) → v < n →
    (mid_outs mid_ins new_outs new_ins : List (List Leg)) →
    mid_outs ≡ set outs v [] → mid_ins ≡ set ins v [] → AreWithout v mid_outs new_outs → AreWithout v mid_ins new_ins →
    IsWithinLimits n new_outs new_ins × SameLegs (legs_from new_outs) (legs_after_contraction (legs_from outs) v [])
clearing_leaves n outs ins within v inside mid_outs mid_ins new_outs new_ins e f a b =
    let from = cleared v outs mid_outs (omega (arith, within.sizes.0)) e new_outs a in
    let into = cleared v ins mid_ins (omega (arith, within.sizes.1)) f new_ins b in
    (within_cleared n outs ins within v new_outs new_ins from into, λ u w. from.legs u w)

-- both sides after shortcuts are put in
pub putting_leaves : (n : ℕ) (outs ins : List (List Leg)) → IsWithinLimits n outs ins → (v : ℕ) (list : List Shortcut) →
    All (λ s. IsLegWithin n s.from s.to (shortcut_label v s)) list → (new_outs new_ins : List (List Leg)) →
    AreOverridden legs_from v list outs new_outs → AreOverridden legs_into v list ins new_ins → IsWithinLimits n new_outs new_ins
putting_leaves n outs ins within v list are new_outs new_ins put put_turned = record {
  nodes = within.nodes;
  sizes = (put.size ∙ within.sizes.0, put_turned.size ∙ within.sizes.1);
  rows = (put.rows, put_turned.rows);
  agree = λ u w. put.legs u w ∙ ap (leg_after_shortcuts v list u w) (within.agree u w) ∙ sym (put_turned.legs u w);
  legs = λ u w l e. elim (override_cases v list u w (legs_from outs u w)) [
    | inl stays ↦ within.legs u w l (sym stays ∙ sym (put.legs u w) ∙ e)
    | inr s ↦
        let is = All-contains (λ (t : Shortcut). IsLegWithin n t.from t.to (shortcut_label v t)) list s.0 are s.1 in
        let label = same_Some _ _ (sym s.4 ∙ sym (put.legs u w) ∙ e) in
        subst (IsLegWithin n u w) label
        (subst (λ z. IsLegWithin n z w (shortcut_label v s.0)) s.2
        (subst (λ z. IsLegWithin n s.0.from z (shortcut_label v s.0)) s.3 is))
  ];
}
