-- The first line of a file and the first word of a line.
use Rattle.std.proofs.Common.{subst, add-zero, ◌⊎◌, inl, inr, ◌-◌, eqb, ◌≡◌, ℕ, suc, ◌+◌, ◌<◌, ◌≤◌, Bool, true, false, cond, not}
use Rattle.std.proofs.Common.{ltb, List, [], ◌∷◌, length, take, drop, get_or, ◌++◌, Some, None, refl, sym, ◌∙◌, ap, arith}
use Rattle.std.proofs.Common.{length-take, length-drop}
use Rattle.std.specs.Prelude.{filter}
use Rattle.std.specs.List.{slice_split, position, position_or_len}
use Rattle.std.proofs.Math.Nat.{eq-zero-or-pos}
use Rattle.std.proofs.lemmas.Bool.Decides.{nat_tests}
use Rattle.std.proofs.lemmas.Option.{cond_some, none-some}
use Rattle.std.proofs.lemmas.List.{length-append, take-append-drop, take_rest, get_or-drop, drop_all, drop_more}
use Rattle.std.proofs.lemmas.List.Splits.{slice_split_first, slice_split_none, length-slice_split}
use Rattle.std.proofs.lemmas.List.Folds.{prefix_len-append}
use Rattle.std.proofs.lemmas.List.Sums.{passes_at_first, fails_before_first, prefix_len-le-length}
use Rattle.ch_read.specs.Words.{lines, words, is_word, is_blank, without_empty_last}

-- a list that is cut at the first element with p
module _ (p : ℕ → Bool) where
  pub split_at : (xs : List ℕ) (i : ℕ) → position p xs ≡ Some i →
      (i < length xs) × (p (get_or xs i 0) ≡ true) × (slice_split p xs ≡ take i xs ∷ slice_split p (drop (i + 1) xs))
  split_at xs i e =
      let found = cond_some _ _ _ e in
      let at : position_or_len p xs ≡ i = found.1 in
      let within : position_or_len p xs < length xs = grind (arith, nat_tests) in
      let cut : (position_or_len p xs < length xs) × (p (get_or xs (position_or_len p xs) 0) ≡ true)
      × (slice_split p xs ≡ take (position_or_len p xs) xs ∷ slice_split p (drop (position_or_len p xs + 1) xs))
      = (within, passes_at_first p xs 0 within, slice_split_first p xs 0 within) in
      subst (λ n. (n < length xs) × (p (get_or xs n 0) ≡ true) × (slice_split p xs ≡ take n xs ∷ slice_split p (drop (n + 1) xs))) at cut

  pub none_passes : (xs : List ℕ) → position p xs ≡ None → length xs ≤ position_or_len p xs
  none_passes xs e = at (ltb (position_or_len p xs) (length xs)) refl e
    where
      at : (t : Bool) → ltb (position_or_len p xs) (length xs) ≡ t → cond t (Some (position_or_len p xs)) None ≡ None →
          length xs ≤ position_or_len p xs
      at true f e' = absurd (none-some _ (sym e'))
      at false f e' = grind (arith, nat_tests)

  pub split_none : (xs : List ℕ) → position p xs ≡ None → slice_split p xs ≡ xs ∷ []
  split_none xs e = let past = none_passes xs e in slice_split_none p xs (λ k d lt. fails_before_first p xs k d (omega arith))

-- the place of the first element with p, after a front without one
module _ (p : ℕ → Bool) (front back : List ℕ) (none : position p front ≡ None) where
  past_front : position_or_len p (front ++ back) ≡ length front + position_or_len p back
  past_front =
      let past = none_passes p front none in
      let within = prefix_len-le-length (λ b. not (p b)) front in
      let whole : eqb (position_or_len p front) (length front) ≡ true = grind (arith, nat_tests) in
      prefix_len-append (λ b. not (p b)) front back ∙ rw whole refl

  found_past : (i : ℕ) → position p back ≡ Some i → position p (front ++ back) ≡ Some (length front + i)
  found_past i e =
      let found = cond_some _ _ _ e in
      let at : position_or_len p back ≡ i = found.1 in
      let within : position_or_len p back < length back = grind (arith, nat_tests) in
      let past = past_front in
      let long : length (front ++ back) ≡ length front + length back = length-append front back in
      let inside : ltb (position_or_len p (front ++ back)) (length (front ++ back)) ≡ true = grind (arith, nat_tests) in
      rw inside (ap Some (past ∙ ap (λ n. length front + n) at))

  none_past : position p back ≡ None → position p (front ++ back) ≡ None
  none_past e =
      let behind = none_passes p back e in
      let past = past_front in
      let long : length (front ++ back) ≡ length front + length back = length-append front back in
      let outside : ltb (position_or_len p (front ++ back)) (length (front ++ back)) ≡ false = grind (arith, nat_tests) in
      rw outside refl

-- a list whose first elements were searched, and none of them has p
module _ (p : ℕ → Bool) (xs : List ℕ) (searched : ℕ) (inside : searched ≤ length xs) (none : position p (take searched xs) ≡ None) where
  pub found_after : (i : ℕ) → position p (drop searched xs) ≡ Some i → position p xs ≡ Some (searched + i)
  found_after i e =
      let front : length (take searched xs) ≡ searched = omega (arith, length-take searched xs) in
      ap (position p) (sym (take-append-drop searched xs)) ∙ found_past p (take searched xs) (drop searched xs) none i e
      ∙ ap (λ n. Some (n + i)) front

  pub none_after : position p (drop searched xs) ≡ None → position p xs ≡ None
  none_after e = ap (position p) (sym (take-append-drop searched xs)) ∙ none_past p (take searched xs) (drop searched xs) none e

-- lines

pub line_before : (front : List ℕ) (parts : List (List ℕ)) → 0 < length parts →
    without_empty_last (front ∷ parts) ≡ front ∷ without_empty_last parts
line_before front [] some = absurd (omega arith)
line_before front (part ∷ parts) some = refl

-- the first line ends at the first line feed
pub line_to_feed : (xs : List ℕ) (i : ℕ) → position (λ b. eqb b 10) xs ≡ Some i →
    lines xs ≡ take i xs ∷ lines (take (length xs - (i + 1)) (drop (i + 1) xs))
line_to_feed xs i e =
    let rest = drop (i + 1) xs in
    let some : 0 < length (slice_split (λ b. eqb b 10) rest) = omega (arith, length-slice_split (λ b. eqb b 10) rest) in
    ap without_empty_last (split_at (λ b. eqb b 10) xs i e).2 ∙ line_before (take i xs) (slice_split (λ b. eqb b 10) rest) some
    ∙ ap (λ (more : List ℕ). take i xs ∷ lines more) (sym (take_rest xs (i + 1)))

-- bytes without a line feed are one line
pub line_to_end : (xs : List ℕ) → position (λ b. eqb b 10) xs ≡ None → 0 < length xs → lines xs ≡ xs ∷ []
line_to_end xs e some = ap without_empty_last (split_none (λ b. eqb b 10) xs e) ∙ alone xs some
  where
    alone : (xs : List ℕ) → 0 < length xs → without_empty_last (xs ∷ []) ≡ xs ∷ []
    alone [] some = absurd (omega arith)
    alone (x ∷ xs) some = let long : eqb (suc (length xs)) 0 ≡ false = grind (arith, nat_tests) in rw long refl

-- words

abbrev word_begins : List ℕ → ℕ
word_begins xs = position_or_len (λ b. not (is_blank b)) xs

-- blanks before the first word change nothing
words_after_blanks : (xs : List ℕ) → words xs ≡ words (drop (word_begins xs) xs)
words_after_blanks [] = refl
words_after_blanks (x ∷ xs) = at (is_blank x) refl (words_after_blanks xs)
  where
    at : (t : Bool) → is_blank x ≡ t → words xs ≡ words (drop (word_begins xs) xs) →
        words (x ∷ xs) ≡ words (drop (cond (not (not t)) (1 + word_begins xs) 0) (x ∷ xs))
    at true e more = let step : 1 + word_begins xs ≡ suc (word_begins xs) = omega arith in rw (e, step) more
    at false e more = refl

false-true : false ≡ true → ⊥
false-true e = cc

not-false : (b : Bool) → not b ≡ true → b ≡ false
not-false true e = cc
not-false false e = refl

-- the text begins with a word
pub record BeginsWithWord (text : List ℕ) : Type 0 where
  pub some : 0 < length text
  pub first : is_blank (get_or text 0 0) ≡ false

pub word_found : (text : List ℕ) (start : ℕ) → position (λ b. not (is_blank b)) text ≡ Some start →
    (words text ≡ words (take (length text - start) (drop start text))) × BeginsWithWord (take (length text - start) (drop start text))
word_found text start e =
    let found = split_at (λ b. not (is_blank b)) text start e in
    let within : start < length text = found.0 in
    let at : word_begins text ≡ start = (cond_some _ _ _ e).1 in
    let first : get_or (drop start text) 0 0 ≡ get_or text start 0 =
    get_or-drop start text 0 0 ∙ ap (λ n. get_or text n 0) (add-zero start) in
    rw (take_rest text start) (
      words_after_blanks text ∙ ap (λ n. words (drop n text)) at,
      record {
        some = omega (arith, length-drop start text);
        first = ap is_blank first ∙ not-false (is_blank (get_or text start 0)) found.1;
      },
    )

pub no_word : (text : List ℕ) → position (λ b. not (is_blank b)) text ≡ None → words text ≡ []
no_word text e = words_after_blanks text ∙ ap words (drop_all (word_begins text) text (none_passes (λ b. not (is_blank b)) text e))

pub one_word : (word : List ℕ) (parts : List (List ℕ)) → 0 < length word → filter is_word (word ∷ parts) ≡ word ∷ filter is_word parts
one_word [] parts some = absurd (omega arith)
one_word (x ∷ xs) parts some = let long : eqb (suc (length xs)) 0 ≡ false = grind (arith, nat_tests) in rw long refl

-- a blank before the words changes nothing
blank_first : (b : ℕ) (xs : List ℕ) → is_blank b ≡ true → words (b ∷ xs) ≡ words xs
blank_first b xs e = rw e refl

pub word_to_blank : (text : List ℕ) (end : ℕ) → BeginsWithWord text → position is_blank text ≡ Some end →
    (words text ≡ take end text ∷ words (take (length text - end) (drop end text))) × (0 < length (take end text))
word_to_blank text end begins e =
    let found = split_at is_blank text end e in
    let within : end < length text = found.0 in
    let some : 0 < end = after end (eq-zero-or-pos end) found.1 in
    let long : 0 < length (take end text) = omega (arith, length-take end text) in
    let rest : words (drop end text) ≡ words (drop (end + 1) text) =
    ap words (drop_more text end 0 within) ∙ blank_first (get_or text end 0) (drop (end + 1) text) found.1 in (
      ap (filter is_word) found.2 ∙ one_word (take end text) (slice_split is_blank (drop (end + 1) text)) long
          ∙ ap (λ ws. take end text ∷ ws) (sym rest ∙ ap words (sym (take_rest text end))),
      long,
    )
  where
    after : (end : ℕ) → (end ≡ 0) ⊎ (0 < end) → is_blank (get_or text end 0) ≡ true → 0 < end
    after end (inl e) blank =
        let blank : is_blank (get_or text 0 0) ≡ true = ap (λ n. is_blank (get_or text n 0)) (sym e) ∙ blank in
        let first = begins.first in
        absurd (false-true (sym first ∙ blank))
    after end (inr some) blank = some

pub word_to_end : (text : List ℕ) → BeginsWithWord text → position is_blank text ≡ None → words text ≡ text ∷ []
word_to_end text begins e = ap (filter is_word) (split_none is_blank text e) ∙ one_word text [] begins.some
