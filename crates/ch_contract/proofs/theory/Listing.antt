-- Lists of the numbers, or of the legs, that have a property that can be decided.
use Rattle.std.proofs.Common.{◌≡◌, ℕ, zero, suc, ◌<◌, List, [], ◌∷◌, ◌++◌, length, get_or, Option, Some, None, Contains, refl, sym}
use Rattle.std.proofs.Common.{◌∙◌, ap, subst, arith, inl, inr}
use Rattle.std.specs.Prelude.{◌⊎◌, AllPairs}
use Rattle.std.proofs.lemmas.Bool.{cases_eq}
use Rattle.std.proofs.lemmas.Option.{same_Some, none-some}
use Rattle.std.proofs.lemmas.List.{get_or_append_left, get_or_push, length_push}
use Rattle.std.proofs.lemmas.List.Elements.{Contains-append_left, Contains-push, Contains-push_cases}
use Rattle.ch_graph.proofs.Lists.{contains_none, pairs_append}
use Rattle.ch_hierarchy.specs.declared.leg.Leg.{Leg}
use Rattle.ch_hierarchy.specs.Rows.{IsRow}
use Rattle.ch_contract.specs.Legs.{Label}
use Rattle.ch_contract.specs.LegRows.{label_of, row_leg}
use Rattle.ch_contract.proofs.theory.RowLegs.{none_unless, leg_at, row_has, row_member}

-- a list in order stays in order when a value is appended that comes after all others
pub one_more : {X : Type 0} (R : X → X → Type 0) (xs : List X) (y : X) → AllPairs R xs → ((x : X) → Contains xs x → R x y) →
    AllPairs R (xs ++ y ∷ [])
one_more R xs y pairs after =
    pairs_append R xs (y ∷ []) pairs (λ i j d lt inside. absurd (omega arith)) (λ x z c one.
    elim (Contains-push_cases [] y z one) [ inl none ↦ absurd (contains_none z none) | inr e ↦ subst (R x) e (after x c) ])

-- if each number below m has a value, there is a list of the values
pub table : {A : Type 0} (R : ℕ → A → Type 0) (d : A) (m : ℕ) → ((x : ℕ) → x < m → (a : A) × R x a) →
    (list : List A) × (length list ≡ m) × ((x : ℕ) → x < m → R x (get_or list x d))
table R d zero each = ([], refl, λ x lt. absurd (omega arith))
table R d (suc m) each =
    let rest = table R d m (λ x lt. each x (omega arith)) in
    let last = each m (omega arith) in
    let size = rest.1 in
    let more = length_push rest.0 last.0 in (
      rest.0 ++ last.0 ∷ [],
      omega arith,
      λ x lt. elim (cases_eq x m) [
        | inl e ↦ subst (R x) (sym (get_or_push rest.0 last.0 d x (size ∙ sym e))) (subst (λ z. R z last.0) (sym e) last.1)
        | inr ne ↦ subst (R x) (sym (get_or_append_left rest.0 (last.0 ∷ []) d x (omega arith))) (rest.2 x (omega arith))
      ],
    )

-- there is a list of the numbers below m with P, in order
pub chosen : (P : ℕ → Type 0) → ((x : ℕ) → P x ⊎ (P x → ⊥)) → (m : ℕ) →
    (list : List ℕ) × AllPairs ◌<◌ list × ((x : ℕ) → Contains list x → (x < m) × P x) × ((x : ℕ) → x < m → P x → Contains list x)
chosen P decide zero = ([], (λ i j d lt inside. absurd (omega arith)), (λ x c. absurd (contains_none x c)), λ x lt is. absurd (omega arith))
chosen P decide (suc m) = at (decide m) (chosen P decide m)
  where
    at : P m ⊎ (P m → ⊥) → (list : List ℕ) × AllPairs ◌<◌ list × ((x : ℕ) → Contains list x → (x < m) × P x)
        × ((x : ℕ) → x < m → P x → Contains list x) →
        (list : List ℕ) × AllPairs ◌<◌ list × ((x : ℕ) → Contains list x → (x < suc m) × P x)
        × ((x : ℕ) → x < suc m → P x → Contains list x)
    at (inl is) r = (
      r.0 ++ m ∷ [],
      one_more ◌<◌ r.0 m r.1 (λ x c. (r.2 x c).0),
      λ x c. elim (Contains-push_cases r.0 m x c) [
        | inl old ↦ let s = r.2 x old in (omega (arith, s.0), s.1)
        | inr e ↦ (omega arith, subst P e is)
      ],
      λ x lt p. elim (cases_eq x m) [
        | inl e ↦ subst (Contains (r.0 ++ m ∷ [])) (sym e) (Contains-push r.0 m)
        | inr ne ↦ Contains-append_left r.0 (m ∷ []) x (r.3 x (omega arith) p)
      ],
    )
    at (inr away) r = (
      r.0,
      r.1,
      λ x c. let s = r.2 x c in (omega (arith, s.0), s.1),
      λ x lt p. elim (cases_eq x m) [
        | inl e ↦ absurd (away (subst P e p))
        | inr ne ↦ r.3 x (omega arith) p
      ],
    )

-- there is a row of the legs of a node at nodes below m
row_below : (f : ℕ → Option Label) (m : ℕ) →
    (legs : List Leg) × IsRow legs × ((l : Leg) → Contains legs l → (l.node < m) × (f l.node ≡ Some (label_of l)))
    × ((x : ℕ) (l : Label) → x < m → f x ≡ Some l → Contains legs (leg_at x l))
row_below f zero = ([], (λ i j d lt inside. absurd (omega arith)), (λ l c. absurd (contains_none l c)), λ x l lt e. absurd (omega arith))
row_below f (suc m) = at (f m) refl (row_below f m)
  where
    at : (o : Option Label) → f m ≡ o →
        (legs : List Leg) × IsRow legs × ((l : Leg) → Contains legs l → (l.node < m) × (f l.node ≡ Some (label_of l)))
        × ((x : ℕ) (l : Label) → x < m → f x ≡ Some l → Contains legs (leg_at x l)) →
        (legs : List Leg) × IsRow legs × ((l : Leg) → Contains legs l → (l.node < suc m) × (f l.node ≡ Some (label_of l)))
        × ((x : ℕ) (l : Label) → x < suc m → f x ≡ Some l → Contains legs (leg_at x l))
    at None e r = (
      r.0,
      r.1,
      λ l c. let s = r.2 l c in (omega (arith, s.0), s.1),
      λ x l lt is. elim (cases_eq x m) [
        | inl same ↦ absurd (none-some l (sym e ∙ ap f (sym same) ∙ is))
        | inr ne ↦ r.3 x l (omega arith) is
      ],
    )
    at (Some k) e r = (
      r.0 ++ leg_at m k ∷ [],
      one_more (λ (a b : Leg). a.node < b.node) r.0 (leg_at m k) r.1 (λ l c. (r.2 l c).0),
      λ l c. elim (Contains-push_cases r.0 (leg_at m k) l c) [
        | inl old ↦ let s = r.2 l old in (omega (arith, s.0), s.1)
        | inr same ↦ subst (λ (z : Leg). (z.node < suc m) × (f z.node ≡ Some (label_of z))) same (omega arith, e)
      ],
      λ x l lt is. elim (cases_eq x m) [
        | inl same ↦
            let label : k ≡ l = same_Some k l (sym e ∙ ap f (sym same) ∙ is) in
            subst (λ z. Contains (r.0 ++ leg_at m k ∷ []) (leg_at z l)) (sym same)
            (subst (λ (z : Label). Contains (r.0 ++ leg_at m k ∷ []) (leg_at m z)) label (Contains-push r.0 (leg_at m k)))
        | inr ne ↦ Contains-append_left r.0 (leg_at m k ∷ []) (leg_at x l) (r.3 x l (omega arith) is)
      ],
    )

-- there is a row of the legs of a node
pub row_of : (n : ℕ) (f : ℕ → Option Label) → ((x : ℕ) (l : Label) → f x ≡ Some l → x < n) →
    (legs : List Leg) × IsRow legs × ((x : ℕ) → row_leg legs x ≡ f x)
row_of n f within = let r = row_below f n in (r.0, r.1, λ x. at x (f x) refl)
  where
    at : (x : ℕ) (o : Option Label) → f x ≡ o → row_leg (row_below f n).0 x ≡ o
    at x None e = none_unless (row_leg (row_below f n).0 x)
        (λ l is. none-some (label_of (leg_at x l)) (sym e ∙ ((row_below f n).2 (leg_at x l) (row_member (row_below f n).0 x l is)).1))
    at x (Some l) e = row_has (row_below f n).0 (leg_at x l) (row_below f n).1 ((row_below f n).3 x l (within x l e) e)
