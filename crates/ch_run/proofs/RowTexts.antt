-- The texts of the rows of parts of the sources, joined.
use Rattle.std.proofs.Common.{◌≡◌, ℕ, List, [], ◌++◌, Option, Vec, refl, sym, ◌∙◌, ap₂}
use Rattle.std.specs.List.{flat_map, zip}
use Rattle.std.specs.declared.alloc.Global.{Global}
use Rattle.std.proofs.lemmas.Slice.Zip.{AllZip-long}
use Rattle.ch_hierarchy.specs.Hierarchy.{LevelsAndLegs}
use Rattle.ch_work.proofs.PieceLists.{zipped_append}
use Rattle.ch_rows.specs.Table.{IsRowBy, AreGathered}
use Rattle.ch_rows.proofs.Gathering.{all_parts}
use Rattle.ch_text.specs.RowTexts.{HasRows}
use Rattle.ch_text.specs.TableText.{row_text}
use Rattle.ch_text.proofs.RowTexts.{lines_append}
use Rattle.ch_run.specs.TableText.{IsTableTextBy}

-- the text of some sources, and then the text of others
pub rows_joined : {A B : Type 0} (P : A → B → Type 0) (line : A × B → List ℕ) (a b : List A) (s t : List ℕ) → HasRows P line a s →
    HasRows P line b t → HasRows P line (a ++ b) (s ++ t)
rows_joined P line a b s t h k = (
  h.0 ++ k.0,
  zipped_append P a h.0 b k.0 h.1 k.1,
  ap₂ ◌++◌ h.2 k.2 ∙ sym (lines_append line a h.0 b k.0 (AllZip-long P a h.0 h.1)),
)

-- the texts of the parts of a table are, one after another, the text of the table
pub gathered_texts : (H : LevelsAndLegs) (limit : Option ℕ) (targets sources : List ℕ) (texts : List (Vec ℕ Global)) →
    AreGathered (λ sources rows (text : Vec ℕ Global). text.items ≡ flat_map row_text (zip sources rows)) H limit targets sources texts →
    IsTableTextBy H limit sources targets (flat_map (λ (text : Vec ℕ Global). text.items) texts)
gathered_texts H limit targets =
    all_parts (λ sources rows (text : Vec ℕ Global). text.items ≡ flat_map row_text (zip sources rows)) H limit targets
    (λ sources texts. IsTableTextBy H limit sources targets (flat_map (λ (text : Vec ℕ Global). text.items) texts)) ([], tt, refl)
    (λ part sources text texts here more. rows_joined (IsRowBy H limit targets) row_text part sources text.items
    (flat_map (λ (text : Vec ℕ Global). text.items) texts) here more)
