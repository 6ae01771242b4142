-- The parents of the places of a topology.
use Rattle.std.proofs.Common.{◌≡◌, ℕ, ◌+◌, ◌-◌, ◌<◌, ◌≤◌, ◌⊎◌, List, [], ◌∷◌, ◌++◌, length, Contains, sym, ◌∙◌, ap, subst, arith, inl, inr}
use Rattle.std.specs.Prelude.{slice_index, slice_index_or}
use Rattle.std.proofs.lemmas.Bool.{cases_lt}
use Rattle.std.proofs.lemmas.List.{length_push, get_or_push, get_or_append_left}
use Rattle.ch_hierarchy.specs.Saved.{AreLevelsOf}
use Rattle.ch_custom.specs.Customizing.{IsPair, AreClosed}
use Rattle.ch_custom.specs.Topologies.{IsSound}
use Rattle.ch_custom.proofs.theory.Unions.{has_number, place_of}
use Rattle.ch_tree.specs.Parents.{IsHighest, IsParentPlace, AreParentsTo}

module _ (order levels : List ℕ) (rows : List (List ℕ)) (sound : IsSound (record { order = order; pairs = rows }))
    (by : AreLevelsOf order levels)
    (closed : AreClosed (length rows) order rows) where
  abbrev n : ℕ
  n = length rows

  -- the row of the node at place i
  abbrev row_of : ℕ → List ℕ
  row_of i = slice_index_or rows (slice_index order i) []

  -- a node of it has a later place, which its level tells
  later : (i y : ℕ) → i < n → Contains (row_of i) y → (j : ℕ) × (i < j) × (j < n) × (slice_index order j ≡ y)
      × (slice_index levels y ≡ j + 1)
  later i y lt has =
      let h = sound.higher i y lt has in
      let count = sound.nodes.count in
      let below = h.2 in
      (h.0, h.1, h.2, h.3, ap (slice_index levels) (sym h.3) ∙ by.each h.0 (omega arith))

  -- the levels of the nodes of a row are those of nodes
  pub within : (v : ℕ) → v < n → (y : ℕ) → Contains (slice_index_or rows v []) y → (i : ℕ) → i < n → slice_index order i ≡ v →
      (y < length levels) × (slice_index levels y ≤ length levels)
  within v lt y has i low is =
      let h = later i y low (subst (λ z. Contains (slice_index_or rows z []) y) (sym is) has) in
      let count = sound.nodes.count in
      let size = by.count in
      let small = sound.nodes.within h.0 (let below = h.2 in omega arith) in
      let at : slice_index order h.0 ≡ y = h.3 in
      let below = h.2 in
      let level = h.4 in
      (omega arith, omega arith)

  -- the greatest place of the row is that of the parent
  pub parent_place : (i q : ℕ) → i < n → IsHighest levels (row_of i) (length (row_of i)) q → IsParentPlace n order rows i q
  parent_place i q lt is = at is.one
    where
      size : length levels ≡ n
      size = by.count ∙ sound.nodes.count

      -- the place of a node of the row is at most q
      low : (j : ℕ) → j < n → IsPair order rows i j → n - j ≤ q
      low j below pair =
          let p = place_of (row_of i) (slice_index order j) pair in
          let most = is.most p.0 p.1 p.1 in
          let count = sound.nodes.count in
          let level : slice_index levels (slice_index (row_of i) p.0) ≡ j + 1 = ap (slice_index levels) p.2 ∙ by.each j (omega arith) in
          let long = by.count in
          omega arith

      at : (q ≡ 0) ⊎ ((k : ℕ) × (k < length (row_of i)) × (length levels + 1 - slice_index levels (slice_index (row_of i) k) ≡ q)) →
          IsParentPlace n order rows i q
      at (inl zero) = inl ((λ j below pair. let small = low j below pair in absurd (omega arith)), zero)
      at (inr k) =
          let y = slice_index (row_of i) k.0 in
          let has = has_number (row_of i) k.0 k.1 in
          let h = later i y lt has in
          let level = h.4 in
          let long = by.count in
          let count = sound.nodes.count in
          let value = k.2 in
          let below = h.2 in
          let own : IsPair order rows i h.0 = subst (Contains (row_of i)) (sym h.3) has in
          inr (
            h.0,
            record {
              later = (h.1, h.2);
              rest = λ x small pair.
                  let less = low x small pair in
                  elim (cases_lt h.0 x) [
                    | inl more ↦ inr (more, closed i h.0 x h.1 more small own pair)
                    | inr le ↦ inl (omega arith)
                  ];
            },
            omega arith,
          )

  -- one more place
  pub parents_more : (count : ℕ) (parents : List ℕ) (q : ℕ) → count < length order → AreParentsTo n order rows count parents →
      IsHighest levels (slice_index_or rows (slice_index order (length order - 1 - count)) [])
      (length (slice_index_or rows (slice_index order (length order - 1 - count)) [])) q →
      AreParentsTo n order rows (count + 1) (parents ++ q ∷ [])
  parents_more count parents q small are is =
      let long = sound.nodes.count in
      let size = are.size in
      let i = length order - 1 - count in
      record {
        size = length_push parents q ∙ (omega arith);
        root = get_or_append_left parents (q ∷ []) 0 0 (omega arith) ∙ are.root;
        each = λ j lt le. elim (cases_lt count (n - j)) [
          | inl last ↦
              let here : j ≡ i = omega arith in
              let value : slice_index (parents ++ q ∷ []) (n - j) ≡ q = get_or_push parents q 0 (n - j) (omega arith) in
              subst (IsParentPlace n order rows j) (sym value)
              (subst (λ z. IsParentPlace n order rows z q) (sym here) (parent_place i q (omega arith) is))
          | inr before ↦
              let value : slice_index (parents ++ q ∷ []) (n - j) ≡ slice_index parents (n - j) =
              get_or_append_left parents (q ∷ []) 0 (n - j) (omega arith) in
              subst (IsParentPlace n order rows j) (sym value) (are.each j lt before)
        ];
      }
