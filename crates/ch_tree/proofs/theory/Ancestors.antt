-- The list of the ancestors of a node: one more place, and the whole list.
use Rattle.std.proofs.Common.{◌≡◌, ℕ, ◌+◌, ◌-◌, ◌<◌, List, [], ◌∷◌, ◌++◌, length, length-append, refl, sym, subst}
use Rattle.std.proofs.Common.{arith, inl, inr}
use Rattle.std.specs.Prelude.{◌⊎◌, slice_index}
use Rattle.std.proofs.lemmas.Bool.{cases_lt}
use Rattle.std.proofs.lemmas.List.{get_or_append_left, get_or_push}
use Rattle.ch_hierarchy.specs.declared.side.Side.{Side}
use Rattle.ch_hierarchy.specs.Hierarchy.{LevelsAndLegs, nodes_of, IsLevelled}
use Rattle.ch_hierarchy.specs.Ranked.{rank_of}
use Rattle.ch_hierarchy.proofs.code.Ranked.{rank_below}
use Rattle.ch_query.specs.Climbs.{AreAncestors}
use Rattle.ch_tree.specs.Ancestors.{AreRanksTo, AreRanksAbove}
use Rattle.ch_tree.specs.Tree.{AreFalling, IsAbove, IsTree, place_of}
use Rattle.ch_tree.proofs.theory.Climbs.{above_between, above_itself, above_low, above_next, above_one, above_then}

-- at first there is no rank
pub ranks_begin : (parents : List ℕ) → AreFalling parents → (start : ℕ) → AreRanksTo parents start start []
ranks_begin parents falls start = record {
  here = above_itself parents start;
  head = inl (refl, refl);
  falls = λ i j less lt. absurd (omega arith);
  sound = λ i lt. absurd (omega arith);
  whole = λ r up below. absurd (let low = above_low parents falls start (r + 1) up in omega arith);
}

module _ (parents : List ℕ) (falls : AreFalling parents) (start place : ℕ) (ranks : List ℕ) (are : AreRanksTo parents start place ranks)
    (some : 0 < place) where
  -- the list with one more rank
  abbrev more : List ℕ
  more = ranks ++ (place - 1) ∷ []

  size : length more ≡ length ranks + 1
  size = let n = length-append ranks ((place - 1) ∷ []) in omega arith

  old_at : (i : ℕ) → i < length ranks → slice_index more i ≡ slice_index ranks i
  old_at i lt = get_or_append_left ranks ((place - 1) ∷ []) 0 i lt

  last_at : (i : ℕ) → i ≡ length ranks → slice_index more i ≡ place - 1
  last_at i is = get_or_push ranks (place - 1) 0 i (sym is)

  -- a place of the longer list is an old one or the last one
  cases : (i : ℕ) → i < length more → (i < length ranks) ⊎ (i ≡ length ranks)
  cases i lt = elim (cases_lt i (length ranks)) [ inl before ↦ inl before | inr ge ↦ inr (let n = size in omega arith) ]

  next_low : slice_index parents place < place
  next_low = let f = falls place in omega arith

  head : (0 < length more) × (slice_index more 0 + 1 ≡ start)
  head = elim are.head [
    | inl none ↦ (let n = size in omega arith, let at = last_at 0 (sym none.0) in let is = none.1 in omega arith)
    | inr first ↦ (let n = size in omega arith, let at = old_at 0 first.0 in let is = first.1 in omega arith)
  ]

  falling : (i j : ℕ) → i < j → j < length more → slice_index more j < slice_index more i
  falling i j less lt =
      let n = size in
      let first = old_at i (omega arith) in
      elim (cases j lt) [
        | inl before ↦ (let second = old_at j before in let fall = are.falls i j less before in omega arith)
        | inr last ↦ (let second = last_at j last in let above = (are.sound i (omega arith)).1 in omega arith)
      ]

  sound : (i : ℕ) → i < length more → IsAbove parents start (slice_index more i + 1) × (slice_index parents place < slice_index more i + 1)
  sound i lt = elim (cases i lt) [
    | inl before ↦
        let at = old_at i before in
        let old = are.sound i before in
        let low = next_low in
        let above = old.1 in
        (subst (λ q. IsAbove parents start (q + 1)) (sym at) old.0, omega arith)
    | inr last ↦
        let at = last_at i last in
        let low = next_low in
        let is : place ≡ slice_index more i + 1 = omega arith in
        (subst (IsAbove parents start) is are.here, omega arith)
  ]

  whole : (r : ℕ) → IsAbove parents start (r + 1) → slice_index parents place < r + 1 →
      (i : ℕ) × (i < length more) × (slice_index more i ≡ r)
  whole r up past = elim (cases_lt place (r + 1)) [
    | inl before ↦
        let old = are.whole r up before in
        let n = size in
        let lt = old.1 in
        let at = old_at old.0 old.1 in
        let is = old.2 in
        (old.0, omega arith, omega arith)
    | inr ge ↦
        elim (above_next parents place (r + 1) (above_between parents falls start place (r + 1) are.here up ge)) [
          | inl here ↦ (let n = size in let at = last_at (length ranks) refl in (length ranks, omega arith, omega arith))
          | inr later ↦ (let low = above_low parents falls (slice_index parents place) (r + 1) later in absurd (omega arith))
        ]
  ]

  -- one more place is passed
  pub ranks_step : (longer : List ℕ) → longer ≡ ranks ++ (place - 1) ∷ [] → AreRanksTo parents start (slice_index parents place) longer
  ranks_step longer is = subst (AreRanksTo parents start (slice_index parents place)) (sym is) (record {
    here = above_then parents start place (slice_index parents place) are.here (above_one parents place);
    head = inr head;
    falls = falling;
    sound = sound;
    whole = whole;
  })

-- the ranks of all ancestors of a node in the tree of a hierarchy
pub tree_ancestors : (H : LevelsAndLegs) → IsLevelled H → (side : Side) (parents : List ℕ) → IsTree H parents → (s : ℕ) → s < nodes_of H →
    (ranks : List ℕ) → AreRanksAbove parents (place_of H s) ranks → AreAncestors H side s ranks
tree_ancestors H k side parents t s s_low ranks are = record {
  first = elim are.head [
    | inl none ↦ (let is = none.1 in absurd (omega arith))
    | inr some ↦ (some.0, (let is = some.1 in omega arith))
  ];
  within = λ i lt.
      let low = above_low parents t.falls (place_of H s) (slice_index ranks i + 1) (are.sound i lt).0 in
      let small = rank_below H k s s_low in
      omega arith;
  falls = are.falls;
  legs = λ v l v_low among has.
      let up = (are.sound among.0 among.2).0 in
      let at = subst (λ q. IsAbove parents (place_of H s) (q + 1)) among.3 up in
      let leg = t.legs side v l v_low has in
      let above = above_then parents (place_of H s) (place_of H v) (place_of H l.node) at leg in
      let found = are.whole (rank_of H l.node) above (omega arith) in
      (found.0, found.1, found.1, found.2);
}
