-- Lists whose rooms do not overlap have at most as many values as the array.
use Rattle.std.proofs.Common.{◌≡◌, ◌≢◌, ℕ, zero, suc, pred, ◌+◌, ◌-◌, ◌<◌, ◌≤◌, ⊎_elim, List, [], ◌∷◌, length, Some, refl, ap}
use Rattle.std.proofs.Common.{arith, sym, subst}
use Rattle.std.specs.Prelude.{sum_by}
use Rattle.std.specs.List.{slice_get}
use Rattle.std.proofs.lemmas.Bool.{cases_lt}
use Rattle.std.proofs.lemmas.List.Sums.{sum_by-cons}
use Rattle.ch_lists.specs.declared.place.Place.{Place}
use Rattle.ch_lists.specs.Places.{values_at, lists_at, AreApart, ArePlaces}
use Rattle.ch_lists.proofs.Found.{length-values_at}

-- how many of the first n values of the array belong to the list at a place
abbrev part : ℕ → Place → ℕ
part n p = (n - p.start) - ((n - p.start) - p.len)

-- the value at n belongs to the list at a place
abbrev Has : ℕ → Place → Type 0
Has n p = (p.start ≤ n) × (n < p.start + p.len)

-- the value at n belongs to the list or not, and the list has one more value up to there or no more
part_more : {P : Type 0} (n : ℕ) (p : Place) → (Has n p → part (n + 1) p ≤ part n p + 1 → P) →
    ((Has n p → ⊥) → part (n + 1) p ≤ part n p → P) → P
part_more n p if_has if_not = ⊎_elim
    (λ (before : n < p.start). if_not (λ h. let a = h.0 in absurd (omega arith)) (omega arith))
    (λ (from : p.start ≤ n). ⊎_elim
    (λ (inside : n < p.start + p.len). if_has (from, inside) (omega arith))
    (λ (behind : p.start + p.len ≤ n). if_not (λ h. let a = h.1 in absurd (omega arith)) (omega arith))
    (cases_lt n (p.start + p.len)))
    (cases_lt n p.start)

-- if the value at n belongs to no list, the lists have no more values up to there
none_more : (n : ℕ) (ps : List Place) → ((i : ℕ) (p : Place) → slice_get ps i ≡ Some p → Has n p → ⊥) →
    sum_by (part (n + 1)) ps ≤ sum_by (part n) ps
none_more n [] none = omega arith
none_more n (p ∷ ps) none =
    let rest = none_more n ps (λ i q is. none (suc i) q is) in
    part_more n p
    (λ has _. absurd (none 0 p refl has))
    (λ _ same. omega (arith, sum_by-cons (part n) p ps, sum_by-cons (part (n + 1)) p ps))

-- the value at n belongs to at most one list
one_more : (n : ℕ) (ps : List Place) → ((i : ℕ) (p : Place) → slice_get ps i ≡ Some p → p.len ≤ p.room)
    → ((i j : ℕ) (p q : Place) → slice_get ps i ≡ Some p → slice_get ps j ≡ Some q → i ≢ j → AreApart p q) →
    sum_by (part (n + 1)) ps ≤ sum_by (part n) ps + 1
one_more n [] fits apart = omega arith
one_more n (p ∷ ps) fits apart = part_more n p
    (λ has more.
    let from = has.0 in
    let to = has.1 in
    let room = fits 0 p refl in
    let rest = none_more n ps (λ i q is h.
    let a = h.0 in
    let b = h.1 in
    let wide = fits (suc i) q is in
    let differ : 0 ≢ suc i = (λ e. absurd (omega arith)) in
    ⊎_elim (λ w. absurd (omega arith)) (λ w. absurd (omega arith)) (apart 0 (suc i) p q refl is differ)) in
    omega (arith, sum_by-cons (part n) p ps, sum_by-cons (part (n + 1)) p ps))
    (λ _ same.
    let rest = one_more n ps (λ i q is. fits (suc i) q is)
    (λ i j q r at_i at_j differ. apart (suc i) (suc j) q r at_i at_j (λ e. differ (ap pred e))) in
    omega (arith, sum_by-cons (part n) p ps, sum_by-cons (part (n + 1)) p ps))

-- none of the first 0 values belongs to a list
none_yet : (ps : List Place) → sum_by (part 0) ps ≤ 0
none_yet [] = omega arith
none_yet (p ∷ ps) = let rest = none_yet ps in omega (arith, sum_by-cons (part 0) p ps)

module _ (places : List Place) (size : ℕ) (are : ArePlaces places size) where
  -- at most n of the first n values belong to lists
  at_most : (n : ℕ) → sum_by (part n) places ≤ n
  at_most zero = none_yet places
  at_most (suc n) =
      let before = at_most n in
      let more = one_more n places are.fits are.apart in
      let same : suc n ≡ n + 1 = omega arith in
      subst (λ m. sum_by (part m) places ≤ m) (sym same) (omega arith)

-- the lengths of the lists add up to their parts of the whole array
whole : {X : Type 0} (values : List X) (ps : List Place) → ((i : ℕ) (p : Place) → slice_get ps i ≡ Some p → p.start + p.len ≤ length values)
    → sum_by length (lists_at values ps) ≡ sum_by (part (length values)) ps
whole values [] within = refl
whole values (p ∷ ps) within =
    let rest = whole values ps (λ i q is. within (suc i) q is) in
    let here = within 0 p refl in
    omega (
      arith,
      sum_by-cons length (values_at values p) (lists_at values ps),
      sum_by-cons (part (length values)) p ps,
      length-values_at values p here,
    )

-- the lengths of the lists add up to at most the length of the array
pub values_fit : {X : Type 0} (values : List X) (places : List Place) (lists : List (List X)) → ArePlaces places (length values) →
    lists_at values places ≡ lists → sum_by length lists ≤ length values
values_fit values places lists are same =
    subst (λ ls. sum_by length ls ≤ length values) same
    (let all = whole values places (λ i p is. let a = are.fits i p is in let b = are.within i p is in omega arith) in
    let most = at_most places (length values) are (length values) in
    omega arith)
