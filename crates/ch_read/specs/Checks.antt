-- The checks of each line in their order, and the first check that fails.
use Rattle.std.specs.Prelude.{◌≡◌, ℕ, ◌+◌, ◌*◌, ◌-◌, ◌<◌, ◌≤◌, ◌==◌, ◌&&◌, nat_lt, nat_le, Bool, true, false, if◌then◌else◌, List}
use Rattle.std.specs.Prelude.{[], ◌∷◌, length, take, slice_index, slice_index_or, Option, Some, None, is_some, is_none, codes}
use Rattle.std.specs.List.{list_all}
use Rattle.std.specs.Option.{option_map_or}
use Rattle.std.specs.Str.{bytes_eq}
use Rattle.ch_graph.specs.declared.limits.TheConstants.{MOST_NODES, MOST_ARCS, MOST_WEIGHT, MOST_QUERIES, MOST_LISTED, MOST_LEGS}
use Rattle.ch_read.specs.declared.fault.FaultKind.{FaultKind}
use Rattle.ch_read.specs.declared.fault.FaultKind.TheVariants.{UnknownLine, BadProblem, SecondProblem, NoProblem, BadLine}
use Rattle.ch_read.specs.declared.fault.FaultKind.TheVariants.{NodeRange, Sum, Size, TooMany, TooFew}
use Rattle.ch_read.specs.declared.form.Form.{Form}
use Rattle.ch_read.specs.declared.form.Form.TheVariants.{Graph, Queries, Nodes, Saved}
use Rattle.ch_read.specs.declared.form.Part.{Part}
use Rattle.ch_read.specs.declared.form.Part.TheVariants.{First, Second}
use Rattle.ch_read.specs.declared.form.Counts.{Counts}
use Rattle.ch_read.specs.declared.form.Heading.{Heading}
use Rattle.ch_read.specs.Words.{words, lines}
use Rattle.ch_read.specs.Forms.{item_word, node_count, heading, item, heading_in, count_of, counts_in}

-- the sizes that are accepted; a saved hierarchy has as many nodes as its graph
abbrev pub is_size : Form → Heading → Bool
is_size Graph h = nat_le h.nodes MOST_NODES && nat_le h.items.first MOST_ARCS
is_size (Queries n) h = nat_le h.items.first MOST_QUERIES
is_size (Nodes n) h = nat_le h.items.first MOST_LISTED
is_size (Saved n) h = h.nodes == n && nat_le h.items.second MOST_LEGS

-- nodes are numbered from 1 in a file
abbrev pub is_node : ℕ → ℕ → Bool
is_node nodes v = nat_le 1 v && nat_le v nodes

-- the middle of a leg is a node, or 0 if there is none; other items have no middle
abbrev pub is_middle : Form → Part → ℕ → List ℕ → Bool
is_middle Graph part nodes ns = true
is_middle (Queries n) part nodes ns = true
is_middle (Nodes n) part nodes ns = true
is_middle (Saved n) First nodes ns = true
is_middle (Saved n) Second nodes ns = nat_le (slice_index ns 4) nodes

abbrev pub are_nodes : Form → Part → ℕ → List ℕ → Bool
are_nodes form part nodes ns =
    list_all (is_node nodes) (take (node_count form part) ns) && is_middle form part nodes ns

-- the number of nodes times an arc's weight is at most MOST_WEIGHT; a leg weighs at most that, and stands for
-- at most MOST_NODES arcs; other items have no weight
abbrev pub is_weight : Form → Part → ℕ → List ℕ → Bool
is_weight Graph part nodes ns = nat_le (nodes * slice_index ns 2) MOST_WEIGHT
is_weight (Queries n) part nodes ns = true
is_weight (Nodes n) part nodes ns = true
is_weight (Saved n) First nodes ns = true
is_weight (Saved n) Second nodes ns = nat_le (slice_index ns 2) MOST_WEIGHT && nat_le (slice_index ns 3) MOST_NODES

-- a comment, whose first word begins with `c`, or a line without words
abbrev pub is_skipped : List (List ℕ) → Bool
is_skipped [] = true
is_skipped (w ∷ ws) = slice_index w 0 == 99

abbrev pub begins_with : List (List ℕ) → List ℕ → Bool
begins_with [] word = false
begins_with (w ∷ ws) word = bytes_eq w word

-- a check, and the kind of fault if it fails
abbrev pub Check : Type 0
Check = Bool × FaultKind

abbrev pub first_failing : List Check → Option FaultKind
first_failing [] = None
first_failing (c ∷ checks) = if c.0 then first_failing checks else Some c.1

-- whether there is a value that passes the test
abbrev pub passes : {A : Type 0} → (A → Bool) → Option A → Bool
passes test o = option_map_or test o false

-- the checks of a problem line, after this heading or none
abbrev pub problem_checks : Form → Option Heading → List (List ℕ) → List Check
problem_checks form seen ws =
    (is_none seen, SecondProblem)
    ∷ (is_some (heading form ws), BadProblem)
    ∷ (passes (is_size form) (heading form ws), Size)
    ∷ []

-- the checks of an item line of this part, after this heading or none and after `count` items of the part.
-- `numbers` are the numbers of the line, if it has the words of its form
abbrev pub item_checks : Form → Part → Option Heading → ℕ → Option (List ℕ) → List Check
item_checks form part seen count numbers =
    (is_some seen, NoProblem)
    ∷ (is_some numbers, BadLine)
    ∷ (passes (λ h. nat_lt count (count_of h.items part)) seen, TooMany)
    ∷ (passes (λ h. passes (are_nodes form part h.nodes) numbers) seen, NodeRange)
    ∷ (passes (λ h. passes (is_weight form part h.nodes) numbers) seen, Sum)
    ∷ []

-- whether a line of these words is an item of this part
abbrev pub begins_item : Form → Part → List (List ℕ) → Bool
begins_item form part ws = passes (begins_with ws) (item_word form part)

-- the checks of a line of these words, after this heading or none and these numbers of items
abbrev pub line_checks : Form → Option Heading → Counts → List (List ℕ) → List Check
line_checks form seen counts ws =
    if is_skipped ws then []
    else if begins_with ws (codes "p") then problem_checks form seen ws
    else if begins_item form First ws then item_checks form First seen counts.first (item form First ws)
    else if begins_item form Second ws then item_checks form Second seen counts.second (item form Second ws)
    else (false, UnknownLine) ∷ []

-- the checks after the last line
abbrev pub end_checks : Option Heading → Counts → List Check
end_checks seen counts =
    (is_some seen, NoProblem)
    ∷ (passes (λ h. nat_le h.items.first counts.first && nat_le h.items.second counts.second) seen, TooFew)
    ∷ []

-- the fault of this line, after these lines before it
abbrev pub line_fault : Form → List (List ℕ) → List ℕ → Option FaultKind
line_fault form before line =
    first_failing (line_checks form (heading_in form before) (counts_in form before) (words line))

-- the fault after all lines
abbrev pub end_fault : Form → List (List ℕ) → Option FaultKind
end_fault form all = first_failing (end_checks (heading_in form all) (counts_in form all))

-- the fault of the line at place i, or the fault after the last line
abbrev pub fault_at : Form → List (List ℕ) → ℕ → Option FaultKind
fault_at form all i =
    if nat_lt i (length all) then line_fault form (take i all) (slice_index_or all i []) else end_fault form all

-- neither a line nor the end has a fault
abbrev pub IsAccepted : Form → List ℕ → Type 0
IsAccepted form bytes = (i : ℕ) → i ≤ length (lines bytes) → fault_at form (lines bytes) i ≡ None

-- the first line with a fault has this number and this kind; lines count from 1, and the end is one more line
pub record IsFault (form : Form) (bytes : List ℕ) (line : ℕ) (kind : FaultKind) : Type 0 where
  pub counted : (0 < line) × (line ≤ length (lines bytes) + 1)
  pub kind_is : fault_at form (lines bytes) (line - 1) ≡ Some kind
  pub first : (i : ℕ) → i + 1 < line → fault_at form (lines bytes) i ≡ None
