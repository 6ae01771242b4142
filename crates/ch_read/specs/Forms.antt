-- The four kinds of file: a problem line, and the item lines that it declares. Items have two parts.
-- Only saved hierarchies have the second part.
use Rattle.std.specs.Prelude.{ℕ, ◌==◌, if◌then◌else◌, List, [], ◌∷◌, length, slice_index, slice_get, Option, Some, None, option_map, codes}
use Rattle.std.specs.List.{filter_map}
use Rattle.std.specs.Option.{option_and_then}
use Rattle.std.specs.Str.{bytes_eq}
use Rattle.ch_read.specs.declared.form.Form.{Form}
use Rattle.ch_read.specs.declared.form.Form.TheVariants.{Graph, Queries, Nodes, Saved}
use Rattle.ch_read.specs.declared.form.Part.{Part}
use Rattle.ch_read.specs.declared.form.Part.TheVariants.{First, Second}
use Rattle.ch_read.specs.declared.form.Counts.{Counts}
use Rattle.ch_read.specs.declared.form.Heading.{Heading}
use Rattle.ch_read.specs.Words.{words, number}

-- the words of a problem line after its `p` and before its numbers
abbrev pub problem_words : Form → List (List ℕ)
problem_words Graph = codes "sp" ∷ []
problem_words (Queries n) = codes "aux" ∷ codes "sp" ∷ codes "p2p" ∷ []
problem_words (Nodes n) = codes "aux" ∷ codes "sp" ∷ codes "ss" ∷ []
problem_words (Saved n) = codes "ch" ∷ []

-- the number of numbers in a problem line
abbrev pub problem_size : Form → ℕ
problem_size Graph = 2
problem_size (Queries n) = 1
problem_size (Nodes n) = 1
problem_size (Saved n) = 2

-- the first word of the item lines of each part, if the form has that part
abbrev pub item_word : Form → Part → Option (List ℕ)
item_word Graph First = Some (codes "a")
item_word (Queries n) First = Some (codes "q")
item_word (Nodes n) First = Some (codes "s")
item_word (Saved n) First = Some (codes "o")
item_word (Saved n) Second = Some (codes "l")
item_word Graph Second = None
item_word (Queries n) Second = None
item_word (Nodes n) Second = None

-- the number of numbers in an item line
abbrev pub item_size : Form → Part → ℕ
item_size Graph part = 3
item_size (Queries n) part = 2
item_size (Nodes n) part = 1
item_size (Saved n) First = 1
item_size (Saved n) Second = 5

-- the number of nodes that an item must have; they come first among its numbers
abbrev pub node_count : Form → Part → ℕ
node_count Graph part = 2
node_count (Queries n) part = 2
node_count (Nodes n) part = 1
node_count (Saved n) First = 1
node_count (Saved n) Second = 2

-- the numbers that the words write, if each word is a number
abbrev pub numbers : List (List ℕ) → Option (List ℕ)
numbers [] = Some []
numbers (w ∷ ws) = option_and_then (λ n. option_map (λ ns. n ∷ ns) (numbers ws)) (number w)

-- the numbers of a line of exactly these words and then `count` numbers
abbrev pub numbers_after : List (List ℕ) → ℕ → List (List ℕ) → Option (List ℕ)
numbers_after [] count ws = if length ws == count then numbers ws else None
numbers_after (h ∷ hs) count [] = None
numbers_after (h ∷ hs) count (w ∷ ws) = if bytes_eq w h then numbers_after hs count ws else None

-- the heading that the numbers of a problem line declare. Query files and lists have the number of nodes
-- of their graph, and the order of a saved hierarchy has all its nodes
abbrev pub heading_from : Form → List ℕ → Heading
heading_from Graph ns = record { nodes = slice_index ns 0; items = record { first = slice_index ns 1; second = 0 } }
heading_from (Queries n) ns = record { nodes = n; items = record { first = slice_index ns 0; second = 0 } }
heading_from (Nodes n) ns = record { nodes = n; items = record { first = slice_index ns 0; second = 0 } }
heading_from (Saved n) ns = record { nodes = slice_index ns 0; items = record { first = slice_index ns 0; second = slice_index ns 1 } }

-- the heading that a line of these words declares, if it is a problem line
abbrev pub heading : Form → List (List ℕ) → Option Heading
heading form ws =
    option_map (heading_from form) (numbers_after (codes "p" ∷ problem_words form) (problem_size form) ws)

-- the numbers of a line of these words, if it is an item line of this part
abbrev pub item : Form → Part → List (List ℕ) → Option (List ℕ)
item form part ws =
    option_and_then (λ word. numbers_after (word ∷ []) (item_size form part) ws) (item_word form part)

-- the heading that the first problem line declares; a problem line without the words of its form declares
-- nothing, and has the first fault itself
abbrev pub heading_in : Form → List (List ℕ) → Option Heading
heading_in form all = slice_get (filter_map (λ line. heading form (words line)) all) 0

-- the numbers of each item line of this part, in order
abbrev pub items_in : Form → Part → List (List ℕ) → List (List ℕ)
items_in form part all = filter_map (λ line. item form part (words line)) all

-- the count of one part
abbrev pub count_of : Counts → Part → ℕ
count_of counts First = counts.first
count_of counts Second = counts.second

-- the number of item lines of each part
abbrev pub counts_in : Form → List (List ℕ) → Counts
counts_in form all = record { first = length (items_in form First all); second = length (items_in form Second all) }
