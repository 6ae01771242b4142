-- A file that is read in sections: its head up to the problem line, and then parts of the bytes after it.
use Rattle.std.specs.Prelude.{◌≡◌, ℕ, ◌-◌, ◌+◌, ◌<◌, ◌≤◌, true, List, [], ◌++◌, length, take, slice_index_or, Option, Some, None}
use Rattle.std.specs.Prelude.{is_some, Vec, All}
use Rattle.std.specs.List.{flat_map}
use Rattle.ch_read.specs.declared.fault.FaultKind.{FaultKind}
use Rattle.ch_read.specs.declared.fault.ReadError.{ReadError}
use Rattle.ch_read.specs.declared.fault.ReadError.TheVariants.{Fault, NoMemory}
use Rattle.ch_read.specs.declared.form.Form.{Form}
use Rattle.ch_read.specs.declared.form.Part.TheVariants.{First, Second}
use Rattle.ch_read.specs.declared.form.Counts.{Counts}
use Rattle.ch_read.specs.declared.form.Heading.{Heading}
use Rattle.ch_read.specs.declared.form.Item.{Item}
use Rattle.ch_read.specs.Words.{lines, words}
use Rattle.ch_read.specs.Forms.{heading_in, items_in, counts_in}
use Rattle.ch_read.specs.Checks.{is_size, first_failing, line_checks, line_fault}
use Rattle.ch_read.specs.Reading.{IsItemWithin, IsWithin, values_in}

-- the heading after some lines, with this heading or none before them
abbrev pub seen_after : Form → Option Heading → List (List ℕ) → Option Heading
seen_after form None all = heading_in form all
seen_after form (Some h) all = Some h

-- the fault of the line at place i, with this heading or none before all lines
abbrev pub fault_after : Form → Option Heading → List (List ℕ) → ℕ → Option FaultKind
fault_after form begun all i =
    first_failing (line_checks form (seen_after form begun (take i all)) (counts_in form (take i all)) (words (slice_index_or all i [])))

-- the first line with a fault after this heading has this number, counted from 1, and this kind
pub record IsFaultAfter (form : Form) (begun : Option Heading) (bytes : List ℕ) (line : ℕ) (kind : FaultKind) : Type 0 where
  pub counted : (0 < line) × (line ≤ length (lines bytes))
  pub kind_is : fault_after form begun (lines bytes) (line - 1) ≡ Some kind
  pub first : (i : ℕ) → i + 1 < line → fault_after form begun (lines bytes) i ≡ None

-- the error is the first fault of the lines after this heading, or a lack of memory
abbrev pub IsErrorAfter : Form → Option Heading → List ℕ → ReadError → Type 0
IsErrorAfter form begun bytes (Fault f) = IsFaultAfter form begun bytes f.line f.kind
IsErrorAfter form begun bytes NoMemory = Unit {0}

-- no line has a fault after this heading, and this is the content of the lines
pub record AreLines {A B : Type 0} (a : Item → A) (b : Item → B) (form : Form) (begun : Option Heading) (all : List (List ℕ))
    (count : ℕ) (seen : Option Heading) (first : List A) (second : List B) : Type 0 where
  pub counted : count ≡ length all
  pub clear : (i : ℕ) → i < length all → fault_after form begun all i ≡ None
  pub seen_is : seen ≡ seen_after form begun all
  pub first_is : first ≡ values_in a form First all
  pub second_is : second ≡ values_in b form Second all
  pub within : IsWithin form seen (items_in form First all) (items_in form Second all)

-- the line passes its checks after this heading, for some numbers of items before it
abbrev pub PassesAfter : Form → Heading → List ℕ → Type 0
PassesAfter form h line = (counts : Counts) × (first_failing (line_checks form (Some h) counts (words line)) ≡ None)

-- the lines of a section pass their checks after this heading, and these are their items
pub record IsSection {A B : Type 0} (a : Item → A) (b : Item → B) (form : Form) (h : Heading) (all : List (List ℕ)) (first : List A)
    (second : List B) : Type 0 where
  pub passes : All (PassesAfter form h) all
  pub first_is : first ≡ values_in a form First all
  pub second_is : second ≡ values_in b form Second all
  pub first_within : All (IsItemWithin form First h.nodes) (items_in form First all)
  pub second_within : All (IsItemWithin form Second h.nodes) (items_in form Second all)

-- the last of these lines is the first problem line and declares this heading; no line has a fault or is an item
pub record IsHead (form : Form) (front : List (List ℕ)) (h : Heading) : Type 0 where
  pub clear : (i : ℕ) → i < length front → line_fault form (take i front) (slice_index_or front i []) ≡ None
  pub heading_is : heading_in form front ≡ Some h
  pub no_first : items_in form First front ≡ []
  pub no_second : items_in form Second front ≡ []
  pub size : is_size form h ≡ true

-- the bytes are a head that declares this heading, and then the rest
pub record BeginsWith (form : Form) (bytes : List ℕ) (h : Heading) (rest : List ℕ) : Type 0 where
  pub front : List (List ℕ)
  pub split : lines bytes ≡ front ++ lines rest
  pub head : IsHead form front h

-- the items of a section that was read, or none if the section failed
abbrev pub first_of : {A B Y Z : Type 0} → Option (Vec A Y × Vec B Z) → List A
first_of None = []
first_of (Some items) = items.0.items

abbrev pub second_of : {A B Y Z : Type 0} → Option (Vec A Y × Vec B Z) → List B
second_of None = []
second_of (Some items) = items.1.items

-- each section was read, and the lists have the items of all sections in order
pub record AreListsOf {A B Y Z : Type 0} (sections : List (Option (Vec A Y × Vec B Z))) (firsts : List (Vec A Y))
    (seconds : List (Vec B Z)) : Type 0 where
  pub there : All (λ section. is_some section ≡ true) sections
  pub first_is : flat_map (λ (list : Vec A Y). list.items) firsts ≡ flat_map first_of sections
  pub second_is : flat_map (λ (list : Vec B Z). list.items) seconds ≡ flat_map second_of sections
