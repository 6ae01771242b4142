-- Lists of shortcuts that are counted up to a bound.
use Rattle.std.proofs.Common.{◌≡◌, ℕ, ◌<◌, ◌≤◌, List, [], ◌∷◌, length, Contains, sym, ◌∙◌, subst, arith, inl, inr}
use Rattle.std.specs.Prelude.{AllPairs}
use Rattle.std.proofs.lemmas.Bool.{cases_lt}
use Rattle.ch_graph.proofs.Lists.{contains_none, contains_cons, contains_head, contains_tail, pairs_head, pairs_tail}
use Rattle.ch_contract.specs.declared.shortcut.Shortcut.{Shortcut}
use Rattle.ch_contract.specs.declared.measure.Measure.{Measure}
use Rattle.ch_contract.specs.Legs.{Legs, AreLegsWithin}
use Rattle.ch_contract.specs.Contraction.{IsPairBefore, AreShortcuts, count_touching}
use Rattle.ch_contract.specs.Measures.{IsMeasure, IsMeasureUpTo}
use Rattle.ch_contract.specs.ShortcutLists.{AreShortcutsAmong, AreShortcutsBefore, AreUpTo}
use Rattle.ch_contract.specs.Legs.{LeadsWithin}
use Rattle.ch_contract.proofs.theory.WitnessSearch.{some_of}
use Rattle.ch_contract.proofs.theory.ShortcutsListed.{shortcuts_among}

-- legs within the limits lead to nodes
pub leads : (n : ℕ) (L : Legs) → AreLegsWithin n L → LeadsWithin n L
leads n L limits u x some = let l = some_of (L u x) some in (limits u x l.0 l.1).ends.1

-- no pair comes before one that comes before it
never_back : (s t : Shortcut) → IsPairBefore s t → IsPairBefore t s → ⊥
never_back s t before back =
    let one = before.1 (omega (arith, back.0)) in
    let two = back.1 (omega (arith, before.0)) in
    omega (arith, one, two)

-- no pair comes before itself
never_own : (s t : Shortcut) → s ≡ t → IsPairBefore s t → ⊥
never_own s t e before = never_back s t before (subst (λ x. IsPairBefore t x) (sym e) (subst (λ x. IsPairBefore x t) e before))

-- of two lists in order, one whose members are all in the other is no longer
pub fewer : (some all : List Shortcut) → AllPairs IsPairBefore some → AllPairs IsPairBefore all →
    ((s : Shortcut) → Contains some s → Contains all s) → length some ≤ length all
fewer [] all p q within = omega arith
fewer (s ∷ some) [] p q within = absurd (contains_none s (within s (contains_head s some)))
fewer (s ∷ some) (t ∷ all) p q within = elim (contains_cons t s all (within s (contains_head s some))) [
  | inl e ↦
      let rest : length some ≤ length all = fewer some all (pairs_tail IsPairBefore s some p) (pairs_tail IsPairBefore t all q)
      (λ x c. elim (contains_cons t x all (within x (contains_tail x s some c))) [
        | inl f ↦ absurd (never_own s x (sym e ∙ f) (pairs_head IsPairBefore s x some p c))
        | inr there ↦ there
      ]) in
      omega arith
  | inr there ↦
      let first = pairs_head IsPairBefore t s all q there in
      let rest : length (s ∷ some) ≤ length all = fewer (s ∷ some) all p (pairs_tail IsPairBefore t all q)
      (λ x c. elim (contains_cons t x all (within x c)) [
        | inl f ↦ elim (contains_cons s x some c) [
          | inl g ↦ absurd (never_own t s (f ∙ sym g) first)
          | inr later ↦ absurd (never_back t s first (subst (IsPairBefore s) (sym f) (pairs_head IsPairBefore s x some p later)))
        ]
        | inr in_all ↦ in_all
      ]) in
      omega arith
]

-- a whole list is whole up to each bound
pub whole_up_to : (most : ℕ) (P : List Shortcut → Type 0) (list : List Shortcut) → P list → AreUpTo most P list
whole_up_to most P list is = (λ few. is, list, is, omega arith)

-- a list that is whole in one sense is so in another that follows
pub up_to_along : (most : ℕ) (P Q : List Shortcut → Type 0) (list : List Shortcut) → ((l : List Shortcut) → P l → Q l) →
    AreUpTo most P list →
    AreUpTo most Q list
up_to_along most P Q list follows are = (λ few. follows list (are.0 few), are.1, follows are.1 are.2, are.3)

-- a list that is broken off once it has more members than the bound
pub broken_off : (most n h : ℕ) (L W : Legs) (v a : ℕ) (list : List Shortcut) → AreLegsWithin n L → AreLegsWithin n W →
    AreShortcutsBefore n h L W v a 0 list → most < length list → AreUpTo most (AreShortcutsAmong n h L W v) list
broken_off most n h L W v a list limits within are many =
    let all = shortcuts_among n h L W v limits (leads n W within) in
    (λ few. absurd (omega (arith, few)), all.0, all.1, fewer list all.0 are.ordered all.1.ordered (λ s c. all.1.whole s (are.sound s c).0))

-- the length of such a list is the number of shortcuts up to the bound
pub counted_up_to : (most n h : ℕ) (L : Legs) (v : ℕ) (list : List Shortcut) (shortcuts legs : ℕ) →
    AreUpTo most (AreShortcuts n h L v) list →
    shortcuts ≡ length list → legs ≡ count_touching n L v → (all : List Shortcut) × AreShortcuts n h L v all × (shortcuts ≤ length all)
    × (shortcuts ≤ most → shortcuts ≡ length all) × (legs ≡ count_touching n L v)
counted_up_to most n h L v list shortcuts touching are count legs = elim (cases_lt most (length list)) [
  | inl many ↦ (are.1, are.2, omega (arith, count, are.3), (λ few. absurd (omega (arith, few, count, many))), legs)
  | inr few ↦ (list, are.0 few, omega (arith, count), (λ le. count), legs)
]

-- a measure counts all shortcuts up to each bound
pub measure_up_to : (most n h : ℕ) (L : Legs) (v : ℕ) (m : Measure) → IsMeasure n h L v m → IsMeasureUpTo most n h L v m
measure_up_to most n h L v m is = (is.0, is.1, omega (arith, is.2), (λ few. is.2), is.3)

-- up to the greatest bound all shortcuts are counted
pub whole_measure : (most n h : ℕ) (L : Legs) (v : ℕ) (m : Measure) → m.shortcuts ≤ most → IsMeasureUpTo most n h L v m →
    IsMeasure n h L v m
whole_measure most n h L v m few is = (is.0, is.1, is.3 few, is.4)
