-- Sparse sets: no two names are equal, so there are no more than numbers, and a further name keeps the slots of the others.
use Rattle.std.proofs.Common.{◌≡◌, ℕ, suc, ◌+◌, ◌<◌, ◌≤◌, List, [], ◌∷◌, ◌++◌, length, map, take, append_assoc, get_or, All, Contains}
use Rattle.std.proofs.Common.{inl, inr, refl, sym, ◌∙◌, ap, subst, arith}
use Rattle.std.specs.Prelude.{◌==◌}
use Rattle.std.specs.List.{filter}
use Rattle.std.proofs.lemmas.Bool.{cases_lt, eqb-true}
use Rattle.std.proofs.lemmas.Bool.Decides.{nat_tests}
use Rattle.std.proofs.lemmas.List.{get_or_append_left, get_or_past, get_or_push}
use Rattle.std.proofs.lemmas.List.{length_push, map-append}
use Rattle.ch_graph.specs.Rows.{AreRowsOf}
use Rattle.ch_graph.proofs.Lists.{contains_filter, contains_filter_of, contains_map, contains_map_of, contains_none}
use Rattle.ch_rows.proofs.Pigeons.{in_holes}
use Rattle.ch_engine.specs.Slots.{AreHinted, IsNamedMore, IsSlotOf, named}

-- no number has two slots
abbrev pub AreApart : List ℕ → Type 0
AreApart names = (i j : ℕ) → i < length names → j < length names → get_or names i 0 ≡ get_or names j 0 → i ≡ j

module _ (hints names : List ℕ) (h : AreHinted hints names) where
  -- each name has one slot
  pub one_slot : AreApart names
  one_slot i j low low' same = sym (h.hinted i low) ∙ ap (λ n. get_or hints n 0) same ∙ h.hinted j low'

  -- there are at most as many names as numbers
  pub names_few : length names ≤ length hints
  names_few = in_holes (length names) (length hints) (λ i. get_or names i 0) h.low one_slot

module _ (number : ℕ) (old new : List ℕ) where
  -- the slots of the others are as before
  pub names_grow : IsNamedMore number old new → (s : ℕ) → s < length old → (s < length new) × (get_or new s 0 ≡ get_or old s 0)
  names_grow (inl same) s low =
      (subst (λ (l : List ℕ). s < length l) (sym same) low, ap (λ (l : List ℕ). get_or l s 0) same)
  names_grow (inr one) s low = (
    subst (λ (l : List ℕ). s < length l) (sym one) (let more = length_push old number in omega (arith, more, low)),
    ap (λ (l : List ℕ). get_or l s 0) one ∙ get_or_append_left old (number ∷ []) 0 s low,
  )

-- one more image after those of the first
pub appended_more : {X Y : Type 0} (f : X → Y) (before : List Y) (xs : List X) (i : ℕ) (x : X) → take (i + 1) xs ≡ take i xs ++ x ∷ [] →
    (before ++ map f (take i xs)) ++ f x ∷ [] ≡ before ++ map f (take (i + 1) xs)
appended_more f before xs i x is =
    append_assoc before (map f (take i xs)) (f x ∷ [])
    ∙ ap (λ l. before ++ l) (sym (ap (map f) is ∙ map-append f (take i xs) (x ∷ [])))

module _ {T : Type 0} where
  -- equal names make equal pairs
  named_same : (old new : List ℕ) (pairs : List (ℕ × T)) → All (λ (p : ℕ × T). get_or new p.0 0 ≡ get_or old p.0 0) pairs →
      named new pairs ≡ named old pairs
  named_same old new [] all = refl
  named_same old new (p ∷ pairs) all =
      let rest = named_same old new pairs (λ k d low. all (suc k) d (omega (arith, low))) in
      let here : get_or new p.0 0 ≡ get_or old p.0 0 = all 0 p (omega arith) in
      λ i. (here i, p.1) ∷ rest i

  module _ (number : ℕ) (old new : List ℕ) (more : IsNamedMore number old new) (pairs : List (ℕ × T))
      (low : All (λ (p : ℕ × T). p.0 < length old) pairs) (s : ℕ) (slot : IsSlotOf new number s) (x : T) where
    -- a pair more, with the name of its slot
    pub named_more : named new (pairs ++ (s, x) ∷ []) ≡ named old pairs ++ (number, x) ∷ []
    named_more =
        map-append (λ (p : ℕ × T). (get_or new p.0 0, p.1)) pairs ((s, x) ∷ [])
        ∙ ap (λ (l : List (ℕ × T)). l ++ (get_or new s 0, x) ∷ [])
        (named_same old new pairs (λ k d inside. (names_grow number old new more (get_or pairs k d).0 (low k d inside)).1))
        ∙ ap (λ (n : ℕ). named old pairs ++ (n, x) ∷ []) slot.1

    -- each has a slot
    pub slots_more : All (λ (p : ℕ × T). p.0 < length new) (pairs ++ (s, x) ∷ [])
    slots_more k d inside = elim (cases_lt k (length pairs)) [
      | inl before ↦ subst (λ (p : ℕ × T). p.0 < length new) (sym (get_or_append_left pairs ((s, x) ∷ []) d k before))
          (names_grow number old new more (get_or pairs k d).0 (low k d before)).0
      | inr past ↦
          let size = length_push pairs (s, x) in
          let at : length pairs ≡ k = omega (arith, size, inside, past) in
          subst (λ (p : ℕ × T). p.0 < length new) (sym (get_or_push pairs (s, x) d k at)) slot.0
    ]

  -- a pair with a name is one of the slot of this name
  pub named_of : (names : List ℕ) (pairs : List (ℕ × T)) → All (λ (p : ℕ × T). p.0 < length names) pairs → (v : ℕ) (x : T) →
      Contains (named names pairs) (v, x) → (s : ℕ) × IsSlotOf names v s × Contains pairs (s, x)
  named_of names pairs low v x has =
      let r = contains_map_of (λ (p : ℕ × T). (get_or names p.0 0, p.1)) pairs (v, x) has in
      let name : get_or names r.0.0 0 ≡ v = ap (λ (e : ℕ × T). e.0) r.2 in
      let value : r.0.1 ≡ x = ap (λ (e : ℕ × T). e.1) r.2 in
      let at : (r.0.0 < length names) = subst (λ (p : ℕ × T). p.0 < length names) (r.1.2) (low r.1.0 r.0 r.1.1) in
      (r.0.0, (at, name), subst (λ (y : T). Contains pairs (r.0.0, y)) value r.1)

  -- a pair of a slot is one with its name
  pub named_at : (names : List ℕ) (pairs : List (ℕ × T)) (s : ℕ) (x : T) → Contains pairs (s, x) →
      Contains (named names pairs) (get_or names s 0, x)
  named_at names pairs s x has = contains_map (λ (p : ℕ × T). (get_or names p.0 0, p.1)) pairs (s, x) has

  module _ (names : List ℕ) (pairs : List (ℕ × T)) where
    -- what is in the row of a slot is in a pair with its name
    pub at_slot : (rows : List (List T)) → AreRowsOf (length names) pairs rows → (i : ℕ) (x : T) → Contains (get_or rows i []) x →
        Contains (named names pairs) (get_or names i 0, x)
    at_slot rows made i x has = elim (cases_lt i (length names)) [
      | inl inside ↦ (
          let there = subst (λ (l : List T). Contains l x) (made.each i inside) has in
          let r = contains_map_of (λ (e : ℕ × T). e.1) (filter (λ e. e.0 == i) pairs) x there in
          let f = contains_filter_of (λ e. e.0 == i) pairs r.0 r.1 in
          let is : r.0 ≡ (i, x) = λ q. (eqb-true _ _ f.1 q, r.2 q) in
          named_at names pairs i x (subst (Contains pairs) is f.0))
      | inr past ↦ absurd (
          let none = get_or_past rows i [] (let count = made.count in omega (arith, past, count)) in
          contains_none x (subst (λ (l : List T). Contains l x) none has))
    ]

    -- what is in a pair with a name is in the row of its slot
    pub slot_at : All (λ (p : ℕ × T). p.0 < length names) pairs → (rows : List (List T)) → AreRowsOf (length names) pairs rows →
        (v : ℕ) (x : T) → Contains (named names pairs) (v, x) → (i : ℕ) × IsSlotOf names v i × Contains (get_or rows i []) x
    slot_at low rows made v x has =
        let at = named_of names pairs low v x has in (
          at.0,
          at.1,
          subst (λ (l : List T). Contains l x) (sym (made.each at.0 at.1.0))
              (contains_map (λ (e : ℕ × T). e.1) (filter (λ e. e.0 == at.0) pairs) (at.0, x)
              (contains_filter (λ e. e.0 == at.0) pairs (at.0, x) at.2 (let e : at.0 ≡ at.0 = refl in grind (arith, nat_tests)))),
        )
