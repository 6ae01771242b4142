-- Texts with a line for each source, in order, and the nodes in order.
use Rattle.std.proofs.Common.{◌≡◌, ℕ, ◌+◌, List, [], ◌∷◌, ◌++◌, length, refl, sym, ◌∙◌, ap, ap₂, append_assoc, arith}
use Rattle.std.specs.List.{flat_map, zip}
use Rattle.std.proofs.lemmas.List.{append-nil, map-id}
use Rattle.std.proofs.lemmas.List.FromFn.{map-range_with_len_more}
use Rattle.ch_graph.proofs.Lists.{zipped_also, zipped_one}
use Rattle.ch_text.specs.NearText.{nodes_in_order}
use Rattle.ch_text.specs.RowTexts.{HasRows}

-- the lines of rows, with more rows behind them
pub lines_append : {A B : Type 0} (line : A × B → List ℕ) (xs : List A) (ys : List B) (us : List A) (vs : List B) → length ys ≡ length xs →
    flat_map line (zip (xs ++ us) (ys ++ vs)) ≡ flat_map line (zip xs ys) ++ flat_map line (zip us vs)
lines_append line [] [] us vs same = refl
lines_append line (x ∷ xs) (y ∷ ys) us vs same =
    ap (λ l. line (x, y) ++ l) (lines_append line xs ys us vs (omega arith))
    ∙ sym (append_assoc (line (x, y)) (flat_map line (zip xs ys)) (flat_map line (zip us vs)))
lines_append line _ _ us vs same = absurd (omega arith)

-- the text of rows, with one more row behind them
pub row_written : {A B : Type 0} (line : A × B → List ℕ) (sources : List A) (rows : List B) (source : A) (row : B)
    (before after : List ℕ) → length rows ≡ length sources → before ≡ flat_map line (zip sources rows) →
    after ≡ before ++ line (source, row) → after ≡ flat_map line (zip (sources ++ source ∷ []) (rows ++ row ∷ []))
row_written line sources rows source row before after same so_far more =
    more ∙ ap₂ ◌++◌ so_far (sym (append-nil (line (source, row)))) ∙ sym (lines_append line sources rows (source ∷ []) (row ∷ []) same)

module _ {A B : Type 0} (P : A → B → Type 0) (line : A × B → List ℕ) where
  -- a text of rows with P is one of rows with Q, if P implies Q
  pub rows_weaker : (Q : A → B → Type 0) → ((x : A) (y : B) → P x y → Q x y) → (sources : List A) (text : List ℕ) →
      HasRows P line sources text → HasRows Q line sources text
  rows_weaker Q so sources text h = (h.0, zipped_also P Q sources h.0 (λ x y _ p. so x y p) h.1, h.2)

  -- if each source has only one row, there is only one text
  pub one_rows : ((x : A) (y z : B) → P x y → P x z → y ≡ z) → (sources : List A) (text other : List ℕ) → HasRows P line sources text →
      HasRows P line sources other → text ≡ other
  one_rows one sources text other h k =
      h.2 ∙ ap (λ rows. flat_map line (zip sources rows)) (zipped_one P one sources h.0 k.0 h.1 k.1) ∙ sym k.2

-- the nodes in order, with one node more, have this node at their end
pub next_node : (n : ℕ) → nodes_in_order (n + 1) ≡ nodes_in_order n ++ n ∷ []
next_node n = sym (map-id (nodes_in_order (n + 1))) ∙ map-range_with_len_more (λ v. v) 0 n n (omega arith)
    ∙ ap (λ l. l ++ n ∷ []) (map-id (nodes_in_order n))
