-- The clauses on one line.
use Rattle.std.specs.Prelude.{◌≡◌, ℕ, ◌-◌, ◌^◌, ◌<◌, ◌≤◌, true, List, [], length, map, min, replicate, ◌++◌, slice_index, Option}
use Rattle.std.specs.Prelude.{Some, None, All, ⊤, ◌∷◌, option_map}
use Rattle.ch_read.specs.declared.fault.FaultKind.{FaultKind}
use Rattle.ch_read.specs.declared.form.Form.{Form}
use Rattle.ch_read.specs.declared.form.Part.{Part}
use Rattle.ch_read.specs.declared.form.Part.TheVariants.{First, Second}
use Rattle.ch_read.specs.declared.form.Counts.{Counts}
use Rattle.ch_read.specs.declared.form.Heading.{Heading}
use Rattle.ch_read.specs.declared.form.Item.{Item}
use Rattle.ch_read.specs.declared.check.Line.{Line}
use Rattle.ch_read.specs.declared.check.Line.TheVariants.{Skipped, Problem, First as OfFirst, Second as OfSecond}
use Rattle.ch_read.specs.Forms.{numbers_after, item_size, heading, item, heading_in, items_in, count_of}
use Rattle.ch_read.specs.Checks.{Check, is_size, are_nodes, is_weight, first_failing, line_checks, end_checks, IsAccepted, IsFault}
use Rattle.ch_read.specs.Names.{node_or_none}
use Rattle.ch_read.specs.Words.{lines, number}
use Rattle.ch_read.specs.declared.fault.ReadError.{ReadError}
use Rattle.ch_read.specs.declared.fault.ReadError.TheVariants.{Fault, NoMemory}

-- the greatest number of 64 bits
abbrev pub greatest : ℕ
greatest = 2 ^ 64 - 1

-- a number as a word of 64 bits: all values past it are past the limits, and become the greatest
abbrev pub capped_number : ℕ → ℕ
capped_number n = min n greatest

-- the first check that fails has this kind of fault
abbrev pub Fails : List Check → FaultKind → Type 0
Fails checks kind = first_failing checks ≡ Some kind

-- there are numbers, and the five values are these numbers, capped, and then zeros
abbrev pub AreCapped : Option (List ℕ) → List ℕ → Type 0
AreCapped numbers values = (ns : List ℕ) × (numbers ≡ Some ns) × (values ≡ map capped_number ns ++ replicate (5 - length ns) 0)

-- the first word writes this number, which is capped, and these words follow it
abbrev pub HasFirstNumber : List (List ℕ) → ℕ → List (List ℕ) → Type 0
HasFirstNumber ws value rest = (word : List ℕ) × (ws ≡ word ∷ rest) × (Some value ≡ option_map capped_number (number word))

-- there is no word, or the first word writes no number
abbrev pub HasNoFirstNumber : List (List ℕ) → Type 0
HasNoFirstNumber [] = ⊤
HasNoFirstNumber (word ∷ rest) = number word ≡ None

-- the words do not begin with these
abbrev pub IsOther : List (List ℕ) → List (List ℕ) → Type 0
IsOther front ws = (more : List (List ℕ)) (count : ℕ) → numbers_after (front ++ more) count ws ≡ None

-- the words are these and then the rest
abbrev pub IsAfter : List (List ℕ) → List (List ℕ) → List (List ℕ) → Type 0
IsAfter front ws rest = (more : List (List ℕ)) (count : ℕ) → numbers_after (front ++ more) count ws ≡ numbers_after more count rest

-- the numbers of an item line, with nodes numbered from 0
abbrev pub item_from : List ℕ → Item
item_from ns =
    record {
      first = slice_index ns 0 - 1;
      second = slice_index ns 1 - 1;
      weight = slice_index ns 2;
      arcs = slice_index ns 3;
      middle = node_or_none (slice_index ns 4);
    }

-- the line is the first problem line, passes its checks, and declares this heading
pub record IsProblem (form : Form) (seen : Option Heading) (ws : List (List ℕ)) (h : Heading) : Type 0 where
  pub first : seen ≡ None
  pub declares : heading form ws ≡ Some h
  pub size : is_size form h ≡ true

-- an item has as many numbers as its form, and they pass the checks on nodes and weight
pub record IsItemWithin (form : Form) (part : Part) (nodes : ℕ) (ns : List ℕ) : Type 0 where
  pub long : length ns ≡ item_size form part
  pub nodes_are : are_nodes form part nodes ns ≡ true
  pub weight_is : is_weight form part nodes ns ≡ true

-- the line is an item of this part, passes its checks, and has these numbers
pub record IsItem (form : Form) (part : Part) (seen : Option Heading) (count : ℕ) (numbers : Option (List ℕ)) (i : Item) : Type 0 where
  pub declared : Heading
  pub seen_is : seen ≡ Some declared
  pub ns : List ℕ
  pub has : numbers ≡ Some ns
  pub value : i ≡ item_from ns
  pub room : count < count_of declared.items part
  pub within : IsItemWithin form part declared.nodes ns

-- a line of these words is no item
abbrev pub IsNoItem : Form → List (List ℕ) → Type 0
IsNoItem form ws = (item form First ws ≡ None) × (item form Second ws ≡ None)

-- the line passes its checks, and has this content
abbrev pub IsLine : Form → Option Heading → Counts → List (List ℕ) → Line → Type 0
IsLine form seen counts ws Skipped =
    (first_failing (line_checks form seen counts ws) ≡ None) × (heading form ws ≡ None) × IsNoItem form ws
IsLine form seen counts ws (Problem h) =
    (first_failing (line_checks form seen counts ws) ≡ None) × IsProblem form seen ws h × IsNoItem form ws
IsLine form seen counts ws (OfFirst i) =
    (first_failing (line_checks form seen counts ws) ≡ None) × (heading form ws ≡ None)
    × IsItem form First seen counts.first (item form First ws) i × (item form Second ws ≡ None)
IsLine form seen counts ws (OfSecond i) =
    (first_failing (line_checks form seen counts ws) ≡ None) × (heading form ws ≡ None)
    × IsItem form Second seen counts.second (item form Second ws) i × (item form First ws ≡ None)

-- the end passes its checks, and this is the heading
abbrev pub IsEnd : Option Heading → Counts → Heading → Type 0
IsEnd seen counts h = (first_failing (end_checks seen counts) ≡ None) × (seen ≡ Some h)

-- the items of a part are within the limits
pub record AreItemsWithin (form : Form) (part : Part) (h : Heading) (items : List (List ℕ)) : Type 0 where
  pub few : length items ≤ count_of h.items part
  pub each : All (IsItemWithin form part h.nodes) items

-- the items that were read are within the limits
abbrev pub IsWithin : Form → Option Heading → List (List ℕ) → List (List ℕ) → Type 0
IsWithin form None first second = (first ≡ []) × (second ≡ [])
IsWithin form (Some h) first second =
    (is_size form h ≡ true) × AreItemsWithin form First h first × AreItemsWithin form Second h second

-- the bytes are accepted, declare this heading, and are within the limits
pub record IsFile (form : Form) (bytes : List ℕ) (h : Heading) : Type 0 where
  pub accepted : IsAccepted form bytes
  pub heading_is : heading_in form (lines bytes) ≡ Some h
  pub within : IsWithin form (Some h) (items_in form First (lines bytes)) (items_in form Second (lines bytes))

-- the values of the items of a part of some lines; `of` gives the value of an item
abbrev pub values_in : {T : Type 0} → (Item → T) → Form → Part → List (List ℕ) → List T
values_in of form part all = map (λ ns. of (item_from ns)) (items_in form part all)

-- the error is the first fault of the bytes, or a lack of memory
abbrev pub IsErrorOf : Form → List ℕ → ReadError → Type 0
IsErrorOf form bytes (Fault f) = IsFault form bytes f.line f.kind
IsErrorOf form bytes NoMemory = ⊤
