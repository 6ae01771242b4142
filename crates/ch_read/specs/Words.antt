-- The lines of a file, the words of a line, and the numbers that words write.
use Rattle.std.specs.Prelude.{ℕ, ◌==◌, ◌&&◌, ◌||◌, not, Bool, if◌then◌else◌, List, [], ◌∷◌, length, filter, Option, Some, None}
use Rattle.std.specs.List.{slice_split}
use Rattle.std.specs.Str.{all_ascii_digits}
use Rattle.std.specs.Str.Parse.{digits_value}

-- the parts without an empty last one, because no line follows a last line feed
abbrev pub without_empty_last : List (List ℕ) → List (List ℕ)
without_empty_last [] = []
without_empty_last (part ∷ []) = if length part == 0 then [] else part ∷ []
without_empty_last (part ∷ next ∷ parts) = part ∷ without_empty_last (next ∷ parts)

-- the lines are the parts between line feeds
abbrev pub lines : List ℕ → List (List ℕ)
lines bytes = without_empty_last (slice_split (λ b. b == 10) bytes)

-- space, tab, carriage return, line feed
abbrev pub is_blank : ℕ → Bool
is_blank b = b == 32 || b == 9 || b == 13 || b == 10

abbrev pub is_word : List ℕ → Bool
is_word part = not (length part == 0)

-- the words are the parts between blanks, without empty ones
abbrev pub words : List ℕ → List (List ℕ)
words line = filter is_word (slice_split is_blank line)

-- the value of a word of digits
abbrev pub number : List ℕ → Option ℕ
number word = if is_word word && all_ascii_digits word then Some (digits_value 10 word) else None
