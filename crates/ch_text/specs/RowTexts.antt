-- Texts with a line for each source.
use Rattle.std.specs.Prelude.{◌≡◌, ℕ, List, flat_map}
use Rattle.std.specs.List.{AllZip, zip}

-- the text has a line for each source, in order. P says which row a source has, and `line` is the text of a source and its row
abbrev pub HasRows : {A B : Type 0} → (A → B → Type 0) → (A × B → List ℕ) → List A → List ℕ → Type 0
HasRows {B = B} P line sources text = (rows : List B) × AllZip P sources rows × (text ≡ flat_map line (zip sources rows))
