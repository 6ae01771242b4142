-- Reading back lines of words, which are written with a space between each two; and reading back numbers.
use Rattle.std.proofs.Common.{◌≡◌, ℕ, suc, ◌<◌, ◌^◌, ◌||◌, Bool, true, false, eqb, List, [], ◌∷◌, ◌++◌, length, map, get_or}
use Rattle.std.proofs.Common.{Contains, Some, refl, sym, ◌∙◌, ap, arith, append_assoc}
use Rattle.std.specs.Prelude.{All, ⊤, filter, decimal}
use Rattle.std.specs.List.{flat_map, slice_split, onto_first}
use Rattle.std.specs.Str.{all_ascii_digits}
use Rattle.std.proofs.lemmas.Bool.{or_parts}
use Rattle.std.proofs.lemmas.Bool.Decides.{nat_tests}
use Rattle.std.proofs.lemmas.Fmt.{decimal_is_IsNumeral, decimal_nonempty, digits_decimal}
use Rattle.std.proofs.lemmas.List.Elements.{All-append, All-cons}
use Rattle.std.proofs.lemmas.List.Splits.{slice_split_none, slice_split-cons_yes, slice_split-cons_no, length-slice_split}
use Rattle.std.proofs.lemmas.Str.Parse.{numerals_by_value, tells_all_ascii_digits}
use Rattle.ch_graph.proofs.Lists.{contains_head, contains_tail}
use Rattle.ch_read.specs.Words.{lines, words, number, is_word, is_blank, without_empty_last}
use Rattle.ch_read.proofs.Numbers.{is_number}
use Rattle.ch_read.proofs.Splits.{line_before, one_word}

-- a word of at least one byte, without a blank
pub record IsPlain (word : List ℕ) : Type 0 where
  pub some : 0 < length word
  pub none : All (λ b. is_blank b ≡ false) word

abbrev pub ArePlain : List (List ℕ) → Type 0
ArePlain [] = ⊤
ArePlain (w ∷ ws) = IsPlain w × ArePlain ws

-- splitting cuts off the part before the first element with p
split_front : (p : ℕ → Bool) (xs rest : List ℕ) (c : ℕ) → All (λ b. p b ≡ false) xs → p c ≡ true →
    slice_split p (xs ++ c ∷ rest) ≡ xs ∷ slice_split p rest
split_front p [] rest c none here = slice_split-cons_yes p c rest here
split_front p (x ∷ xs) rest c none here =
    slice_split-cons_no p x (xs ++ c ∷ rest) (none 0 0 (omega arith))
    ∙ ap (onto_first x) (split_front p xs rest c (λ k d lt. none (suc k) d (omega arith)) here)

-- a word, and then each further word after a space
abbrev pub spaced : List ℕ → List (List ℕ) → List ℕ
spaced w [] = w
spaced w (v ∷ ws) = w ++ 32 ∷ spaced v ws

-- these words and then a line feed
abbrev pub fed : List ℕ → List (List ℕ) → List ℕ
fed w [] = w ++ 10 ∷ []
fed w (v ∷ ws) = w ++ 32 ∷ fed v ws

fed_is : (w : List ℕ) (ws : List (List ℕ)) → fed w ws ≡ spaced w ws ++ 10 ∷ []
fed_is w [] = refl
fed_is w (v ∷ ws) = ap (λ t. w ++ 32 ∷ t) (fed_is v ws) ∙ sym (append_assoc w (32 ∷ spaced v ws) (10 ∷ []))

-- the words of these bytes are the words that were written
pub words_spaced : (w : List ℕ) (ws : List (List ℕ)) → IsPlain w → ArePlain ws → words (spaced w ws) ≡ w ∷ ws
words_spaced w [] plain more = ap (filter is_word) (slice_split_none is_blank w plain.none) ∙ one_word w [] plain.some
words_spaced w (v ∷ ws) plain more =
    ap (filter is_word) (split_front is_blank w (spaced v ws) 32 plain.none refl)
    ∙ one_word w (slice_split is_blank (spaced v ws)) plain.some
    ∙ ap (λ (t : List (List ℕ)). w ∷ t) (words_spaced v ws more.0 more.1)

abbrev is_feed : ℕ → Bool
is_feed b = eqb b 10

-- a byte that is no blank is no line feed
no_feed : (b : ℕ) → is_blank b ≡ false → is_feed b ≡ false
no_feed b e = (or_parts (eqb b 32 || eqb b 9 || eqb b 13) (eqb b 10) e).1

-- the words of a line have no line feed
no_feeds : (w : List ℕ) (ws : List (List ℕ)) → IsPlain w → ArePlain ws → All (λ b. is_feed b ≡ false) (spaced w ws)
no_feeds w [] plain more = λ k d lt. no_feed (get_or w k d) (plain.none k d lt)
no_feeds w (v ∷ ws) plain more =
    All-append (λ b. is_feed b ≡ false) w (32 ∷ spaced v ws) (λ k d lt. no_feed (get_or w k d) (plain.none k d lt))
    (All-cons (λ b. is_feed b ≡ false) 32 (spaced v ws) refl (no_feeds v ws more.0 more.1))

-- a line is a word and the words after it
abbrev pub Line : Type 0
Line = List ℕ × List (List ℕ)

abbrev pub IsPlainLine : Line → Type 0
IsPlainLine l = IsPlain l.0 × ArePlain l.1

abbrev pub line_of : Line → List ℕ
line_of l = spaced l.0 l.1

abbrev pub text_of : List Line → List ℕ
text_of ls = flat_map (λ l. fed l.0 l.1) ls

-- words and a line feed are the first line
pub words_first : (w : List ℕ) (ws : List (List ℕ)) (rest : List ℕ) → IsPlain w → ArePlain ws →
    lines (spaced w ws ++ 10 ∷ rest) ≡ spaced w ws ∷ lines rest
words_first w ws rest plain more =
    let some : 0 < length (slice_split is_feed rest) = omega (arith, length-slice_split is_feed rest) in
    ap without_empty_last (split_front is_feed (spaced w ws) rest 10 (no_feeds w ws plain more) refl)
    ∙ line_before (spaced w ws) (slice_split is_feed rest) some

-- the first line is the one that was written
first_line : (l : Line) (rest : List ℕ) → IsPlainLine l → lines (fed l.0 l.1 ++ rest) ≡ line_of l ∷ lines rest
first_line l rest plain =
    let whole : fed l.0 l.1 ++ rest ≡ line_of l ++ 10 ∷ rest =
    ap (λ t. t ++ rest) (fed_is l.0 l.1) ∙ append_assoc (line_of l) (10 ∷ []) rest in
    ap lines whole ∙ words_first l.0 l.1 rest plain.0 plain.1

-- all lines are those that were written
pub lines_text : (ls : List Line) → ((l : Line) → Contains ls l → IsPlainLine l) → lines (text_of ls) ≡ map line_of ls
lines_text [] plain = refl
lines_text (l ∷ ls) plain =
    first_line l (text_of ls) (plain l (contains_head l ls))
    ∙ ap (λ (t : List (List ℕ)). line_of l ∷ t) (lines_text ls (λ k c. plain k (contains_tail k l ls c)))

-- digits are no blanks
pub digits_plain : (ds : List ℕ) → all_ascii_digits ds ≡ true → All (λ b. is_blank b ≡ false) ds
digits_plain [] e = λ k d lt. absurd (omega arith)
digits_plain (c ∷ ds) e =
    let parts = tells_all_ascii_digits.parts c ds e in
    let low = parts.0.0 in
    let high = parts.0.1 in
    let here : is_blank c ≡ false = grind (arith, nat_tests, low, high) in
    All-cons (λ b. is_blank b ≡ false) c ds here (digits_plain ds parts.1)

-- the digits of a number of 64 bits
module _ (n : ℕ) (fits : n < 2 ^ 64) where
  decimal_digits : all_ascii_digits (decimal n) ≡ true
  decimal_digits = digits_decimal (numerals_by_value (λ ds. all_ascii_digits ds ≡ true) tells_all_ascii_digits) n fits

  pub decimal_plain : IsPlain (decimal n)
  decimal_plain = record { some = decimal_nonempty n fits; none = digits_plain (decimal n) decimal_digits }

  pub number_decimal : number (decimal n) ≡ Some n
  number_decimal = is_number (decimal n) (decimal_nonempty n fits) decimal_digits ∙ ap Some (decimal_is_IsNumeral n fits).1
