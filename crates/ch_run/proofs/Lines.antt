-- Lines of items, one after another.
use Rattle.std.proofs.Common.{◌≡◌, ℕ, ◌+◌, ◌<◌, List, [], ◌∷◌, ◌++◌, length, take, get_or, Vec, refl, sym, ap, ap₂, ◌∙◌, subst}
use Rattle.std.specs.declared.alloc.Global.{Global}
use Rattle.std.specs.List.{AllZip, flat_map, slice_range, zip}
use Rattle.std.proofs.lemmas.Grind.{flat_map-append}
use Rattle.std.proofs.lemmas.List.{append-nil, take_more}
use Rattle.ch_rows.proofs.Gathering.{parts_of}
use Rattle.ch_text.specs.RowTexts.{HasRows}
use Rattle.ch_work.proofs.PieceLists.{zipped_append}
use Rattle.ch_work.specs.Pieces.{pieces_of, AreValues}
use Rattle.ch_run.specs.Lines.{AreLinesOf, HasLines}

module _ {A : Type 0} (Lines : A → List ℕ → Type 0) where
  -- the lines of some items, and then those of others
  lines_joined : (a b : List A) (s t : List ℕ) → HasLines Lines a s → HasLines Lines b t → HasLines Lines (a ++ b) (s ++ t)
  lines_joined a b s t h k = (
    h.0 ++ k.0,
    zipped_append Lines a h.0 b k.0 h.1 k.1,
    ap₂ ◌++◌ h.2 k.2 ∙ sym (flat_map-append (λ (lines : List ℕ). lines) h.0 k.0),
  )

  -- the lines of one more item
  pub lines_more : (items : List A) (i : ℕ) (item : A) (text more : List ℕ) → i < length items → item ≡ get_or items i item →
      HasLines Lines (take i items) text → Lines item more → HasLines Lines (take (i + 1) items) (text ++ more)
  lines_more items i item text more within is so_far here =
      subst (λ xs. HasLines Lines xs (text ++ more))
      (ap (λ x. take i items ++ x ∷ []) is ∙ sym (take_more items i item within))
      (lines_joined (take i items) (item ∷ []) text more so_far (more ∷ [], (here, tt), sym (append-nil more)))

  -- the texts of parts, one after another, have the lines of the items of all parts
  lines_of_parts : (parts : List (List A)) (texts : List (Vec ℕ Global)) →
      AllZip (λ part (text : Vec ℕ Global). HasLines Lines part text.items) parts texts →
      HasLines Lines (flat_map (λ part. part) parts) (flat_map (λ (text : Vec ℕ Global). text.items) texts)
  lines_of_parts [] [] h = ([], tt, refl)
  lines_of_parts (part ∷ parts) (text ∷ texts) h =
      lines_joined part (flat_map (λ (more : List A). more) parts) text.items _ h.0 (lines_of_parts parts texts h.1)
  lines_of_parts _ _ h = absurd h

  -- the texts of all pieces, one after another, have the lines of all items
  pub lines_of_pieces : (items : List A) (n p : ℕ) (texts : List (Vec ℕ Global)) → n ≡ length items → 0 < p →
      AreValues (λ from to (text : Vec ℕ Global). HasLines Lines (slice_range items from to) text.items) n p 0 (pieces_of n p) texts →
      HasLines Lines items (flat_map (λ (text : Vec ℕ Global). text.items) texts)
  lines_of_pieces items n p texts count positive h =
      let parts = parts_of (λ part (text : Vec ℕ Global). HasLines Lines part text.items) items n p texts count positive h in
      subst (λ xs. HasLines Lines xs (flat_map (λ (text : Vec ℕ Global). text.items) texts)) parts.1 (lines_of_parts parts.0 texts parts.2)

-- lines of rows are a text of rows
pub lines_rows : {A B : Type 0} (P : A → B → Type 0) (line : A × B → List ℕ) (items : List A) (text : List ℕ) →
    HasLines (AreLinesOf P line) items text → HasRows P line items text
lines_rows {A = A} {B = B} P line items text h = let rows = from items h.0 h.1 in (rows.0, rows.1, h.2 ∙ rows.2)
  where
    from : (items : List A) (each : List (List ℕ)) → AllZip (AreLinesOf P line) items each →
        (rows : List B) × AllZip P items rows × (flat_map (λ lines. lines) each ≡ flat_map line (zip items rows))
    from [] [] h = ([], tt, refl)
    from (item ∷ items) (lines ∷ each) h =
        let rest = from items each h.1 in (h.0.0 ∷ rest.0, (h.0.1, rest.1), ap₂ ◌++◌ h.0.2 rest.2)
    from _ _ h = absurd h

-- lines of values are the text of these values
pub lines_values : {A B : Type 0} (P : A → B → Type 0) (line : B → List ℕ) (items : List A) (text : List ℕ) →
    HasLines (AreLinesOf P (λ pair. line pair.1)) items text → (values : List B) × AllZip P items values × (text ≡ flat_map line values)
lines_values {A = A} {B = B} P line items text h = let values = from items h.0 h.1 in (values.0, values.1, h.2 ∙ values.2)
  where
    from : (items : List A) (each : List (List ℕ)) → AllZip (AreLinesOf P (λ pair. line pair.1)) items each →
        (values : List B) × AllZip P items values × (flat_map (λ lines. lines) each ≡ flat_map line values)
    from [] [] h = ([], tt, refl)
    from (item ∷ items) (lines ∷ each) h =
        let rest = from items each h.1 in (h.0.0 ∷ rest.0, (h.0.1, rest.1), ap₂ ◌++◌ h.0.2 rest.2)
    from _ _ h = absurd h
