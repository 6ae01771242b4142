-- The results of a reader.
use Rattle.std.specs.Prelude.{◌≡◌, ℕ, ◌⊎◌, List, Result, Ok, Err, Vec}
use Rattle.ch_read.specs.declared.fault.ReadFault.{ReadFault}
use Rattle.ch_read.specs.declared.fault.ReadError.{ReadError}
use Rattle.ch_read.specs.declared.fault.ReadError.TheVariants.{NoMemory}
use Rattle.ch_read.specs.declared.form.Form.{Form}
use Rattle.ch_read.specs.Checks.{IsFault}

-- if the result is this answer, P holds; if P holds, the result is this answer or memory ran out
abbrev pub AnswersWhere : {A : Type 0} → Result A ReadError → Result A ReadError → Type 0 → Type 0
AnswersWhere result answer P = (result ≡ answer → P) × (P → (result ≡ answer) ⊎ (result ≡ Err NoMemory))

-- a result with a vector, as one with the items of the vector
abbrev pub seen_by_items : {A Z : Type 0} → Result (Vec A Z) ReadError → Result (List A) ReadError
seen_by_items (Ok v) = Ok v.items
seen_by_items (Err e) = Err e

-- the bytes name one value, or they have one fault, and not both
pub record HasOneAnswer {A : Type 0} (Names : A → Type 0) (form : Form) (bytes : List ℕ) : Type 0 where
  pub some : ((x : A) × Names x) ⊎ ((f : ReadFault) × IsFault form bytes f.line f.kind)
  pub one_value : (x y : A) → Names x → Names y → x ≡ y
  pub one_fault : (f g : ReadFault) → IsFault form bytes f.line f.kind → IsFault form bytes g.line g.kind → f ≡ g
  pub not_both : (x : A) (f : ReadFault) → Names x → IsFault form bytes f.line f.kind → ⊥
