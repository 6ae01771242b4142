-- What is gathered from the rows of a table.
use Rattle.std.proofs.Common.{◌≡◌, ℕ, ◌+◌, ◌*◌, ◌<◌, ◌≤◌, min, List, [], ◌∷◌, ◌++◌, length, map, take, take_all, drop, get_or}
use Rattle.std.proofs.Common.{Option, Vec, sym, ◌∙◌, ap, subst, arith}
use Rattle.std.specs.declared.alloc.Global.{Global}
use Rattle.std.specs.List.{AllZip, flat_map, slice_range}
use Rattle.std.proofs.lemmas.List.{append-nil, length-take, take_more, drop_all, map-append}
use Rattle.std.proofs.lemmas.Slice.Zip.{AllZip-long, all_zipped_more}
use Rattle.ch_hierarchy.specs.Hierarchy.{LevelsAndLegs}
use Rattle.ch_work.specs.Pieces.{pieces_of, MeanEach, AreValues}
use Rattle.ch_work.proofs.PieceLists.{covers, piece_split, zipped_append}
use Rattle.ch_rows.specs.Table.{IsRowBy, IsGathered, AreGathered}

module _ {A X : Type 0} (R : List A → X → Type 0) (items : List A) (p : ℕ) where
  -- the values of the pieces from piece k on are those of parts, which together are the items from there on
  parts_from : (k : ℕ) (values : List X) → length items ≤ (k + length values) * p →
      MeanEach (λ from to x. R (slice_range items from to) x) (length items) p k values →
      (parts : List (List A)) × (flat_map (λ part. part) parts ≡ drop (k * p) items) × AllZip R parts values
  parts_from k [] le h = ([], sym (drop_all (k * p) items (omega (arith, le))), tt)
  parts_from k (x ∷ values) le h =
      let next : (k + 1) * p ≡ k * p + p = omega arith in
      let rest = parts_from (k + 1) values (omega (arith, le)) h.1 in
      let piece = slice_range items (k * p) (min (k * p + p) (length items)) in
      (piece ∷ rest.0, ap (λ l. piece ++ l) (rest.1 ∙ ap (λ i. drop i items) next) ∙ piece_split items (k * p) p, (h.0, rest.2))

-- the values of all pieces are those of parts of all items
pub parts_of : {A X : Type 0} (R : List A → X → Type 0) (items : List A) (n p : ℕ) (values : List X) → n ≡ length items → 0 < p →
    AreValues (λ from to x. R (slice_range items from to) x) n p 0 (pieces_of n p) values →
    (parts : List (List A)) × (flat_map (λ part. part) parts ≡ items) × AllZip R parts values
parts_of {X = X} R items n p values count positive h =
    let start : 0 * p ≡ 0 = omega arith in
    let all : length items ≤ (0 + length values) * p = rw (h.0, sym count) (covers n p positive) in
    let Each : ℕ → Type 0 = λ i. MeanEach (λ from to (x : X). R (slice_range items from to) x) i p 0 values in
    let found = parts_from R items p 0 values all (subst Each count h.1) in
    (found.0, found.1 ∙ ap (λ i. drop i items) start, found.2)

module _ {X : Type 0} (M : List ℕ → List (List (Option ℕ)) → X → Type 0) (sources : List ℕ) (rows : List (List (Option ℕ)))
    (same : length rows ≡ length sources) where
  -- the row at one more place is gathered
  pub row_added : (i : ℕ) (before after : X) → i < length sources → M (take i sources) (take i rows) before →
      ((some : List ℕ) (list : List (List (Option ℕ))) → length list ≡ length some → M some list before →
      M (some ++ get_or sources i 0 ∷ []) (list ++ get_or rows i [] ∷ []) after) → M (take (i + 1) sources) (take (i + 1) rows) after
  row_added i before after within so_far add =
      let inside : i < length rows = omega arith in
      let few : length (take i rows) ≡ length (take i sources) = omega (arith, length-take i rows, length-take i sources) in
      let both : M (take i sources ++ get_or sources i 0 ∷ []) (take i rows ++ get_or rows i [] ∷ []) after =
      add (take i sources) (take i rows) few so_far in
      subst (λ list. M list (take (i + 1) rows) after) (sym (take_more sources i 0 within))
      (subst (λ list. M (take i sources ++ get_or sources i 0 ∷ []) list after) (sym (take_more rows i [] inside)) both)

  -- all rows are gathered
  pub all_added : (i : ℕ) (x : X) → length sources ≤ i → M (take i sources) (take i rows) x → M sources rows x
  all_added i x past so_far =
      subst (λ list. M list rows x) (take_all i sources past)
      (subst (λ list. M (take i sources) list x) (take_all i rows (omega arith)) so_far)

module _ {X : Type 0} (M : List ℕ → List (List (Option ℕ)) → X → Type 0) (H : LevelsAndLegs) (limit : Option ℕ) (targets : List ℕ) where
  -- one more row is gathered
  pub one_more : (sources : List ℕ) (i : ℕ) (before after : X) (cells : List (Option ℕ)) → i < length sources →
      IsGathered M H limit targets (take i sources) before → IsRowBy H limit targets (get_or sources i 0) cells →
      ((some : List ℕ) (rows : List (List (Option ℕ))) → length rows ≡ length some → M some rows before →
      M (some ++ get_or sources i 0 ∷ []) (rows ++ cells ∷ []) after) → IsGathered M H limit targets (take (i + 1) sources) after
  one_more sources i before after cells within so_far row add =
      let R = IsRowBy H limit targets in
      let some = take i sources in
      let added = add some so_far.0 (AllZip-long R some so_far.0 so_far.1) so_far.2 in
      subst (λ list. IsGathered M H limit targets list after) (sym (take_more sources i 0 within))
      (so_far.0 ++ cells ∷ [], all_zipped_more R some so_far.0 (get_or sources i 0) cells so_far.1 row, added)

  -- what is gathered from all rows at once is gathered in one part
  pub one_part : (sources : List ℕ) (rows : List (List (Option ℕ))) (x : X) → AllZip (IsRowBy H limit targets) sources rows →
      M sources rows x → AreGathered M H limit targets sources (x ∷ [])
  one_part sources rows x are is = (sources ∷ [], append-nil sources, ((rows, are, is), tt))

  -- what holds of no sources, and of each part together with the parts behind it, holds of all sources
  pub all_parts : (Q : List ℕ → List X → Type 0) → Q [] [] → ((part sources : List ℕ) (x : X) (values : List X) →
      IsGathered M H limit targets part x → Q sources values → Q (part ++ sources) (x ∷ values)) → (sources : List ℕ) (values : List X) →
      AreGathered M H limit targets sources values → Q sources values
  all_parts Q none more sources values h = subst (λ list. Q list values) h.1 (from h.0 values h.2)
    where
      from : (parts : List (List ℕ)) (values : List X) → AllZip (IsGathered M H limit targets) parts values →
          Q (flat_map (λ part. part) parts) values
      from [] [] each = none
      from (part ∷ parts) (x ∷ values) each = more part (flat_map (λ part. part) parts) x values each.0 (from parts values each.1)
      from _ _ each = absurd each

module _ (H : LevelsAndLegs) (limit : Option ℕ) (targets : List ℕ) where
  abbrev items : Vec (Option ℕ) Global → List (Option ℕ)
  items row = row.items

  abbrev AreKept : List ℕ → List (List (Option ℕ)) → Vec (Vec (Option ℕ) Global) Global → Type 0
  AreKept sources rows kept = map items kept.items ≡ rows

  -- the rows that were kept in parts are, one after another, the rows of the sources
  pub kept_rows : (sources : List ℕ) (values : List (Vec (Vec (Option ℕ) Global) Global)) →
      AreGathered AreKept H limit targets sources values →
      AllZip (IsRowBy H limit targets) sources (map items (flat_map (λ (kept : Vec (Vec (Option ℕ) Global) Global). kept.items) values))
  kept_rows =
      let R = IsRowBy H limit targets in
      let all : List (Vec (Vec (Option ℕ) Global) Global) → List (Vec (Option ℕ) Global) = flat_map (λ kept. kept.items) in
      all_parts AreKept H limit targets (λ sources values. AllZip R sources (map items (all values))) tt
      (λ part sources kept values h so_far. subst (AllZip R (part ++ sources)) (sym (map-append items kept.items (all values)))
      (zipped_append R part (map items kept.items) sources (map items (all values)) (subst (AllZip R part) (sym h.2) h.1) so_far))
