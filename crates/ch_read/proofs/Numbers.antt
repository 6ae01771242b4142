-- Words of digits, and the numbers of a line.
use Rattle.std.proofs.Common.{set, ◌≡◌, ℕ, zero, suc, ◌+◌, ◌-◌, ◌*◌, ◌<◌, ◌≤◌, ◌&&◌, Bool, true, false, cond, eqb, min, List, []}
use Rattle.std.proofs.Common.{◌∷◌, ◌++◌, length, map, take, get_or, Option, Some, None, refl, sym, ◌∙◌, ap, arith, add-one}
use Rattle.std.proofs.Common.{append_assoc, drop, ltb, length-take, ◌^◌, subst}
use Rattle.std.specs.List.{position, position_or_len}
use Rattle.std.specs.Prelude.{replicate, option_map}
use Rattle.std.specs.Option.{option_and_then}
use Rattle.std.specs.Char.{is_ascii_digit, digit_value}
use Rattle.std.specs.Str.{all_ascii_digits}
use Rattle.std.specs.Str.Parse.{digits_value}
use Rattle.std.specs.Int.{IsInRange}
use Rattle.std.proofs.lemmas.List.{take_all, set_at, length_push, length-map, map-append, append-nil}
use Rattle.std.proofs.lemmas.Option.{none-some, same_Some}
use Rattle.std.proofs.lemmas.Str.{digit_value_digit}
use Rattle.std.proofs.lemmas.Bool.Decides.{nat_tests}
use Rattle.std.proofs.lemmas.Int.Digits.{digits_value_more}
use Rattle.ch_read.specs.Words.{number, is_word, is_blank, words}
use Rattle.ch_read.specs.Forms.{numbers, numbers_after}
use Rattle.ch_read.specs.Reading.{greatest, capped_number, AreCapped, HasFirstNumber, HasNoFirstNumber}
use Rattle.ch_read.proofs.Splits.{BeginsWithWord, word_to_blank, word_to_end}

-- words of digits

pub both : (a b : Bool) → (a && b) ≡ true → (a ≡ true) × (b ≡ true)
both true b e = (refl, e)
both false b e = cc

digits_suc : (xs : List ℕ) (i : ℕ) → i < length xs → all_ascii_digits (take i xs) ≡ true → is_ascii_digit (get_or xs i 0) ≡ true →
    all_ascii_digits (take (suc i) xs) ≡ true
digits_suc [] i within before here = absurd (omega arith)
digits_suc (x ∷ xs) zero within before here = rw here refl
digits_suc (x ∷ xs) (suc i) within before here =
    let b = both (is_ascii_digit x) (all_ascii_digits (take i xs)) before in
    rw (b.0) (digits_suc xs i (omega arith) b.1 here)

pub not_digits : (xs : List ℕ) (i : ℕ) → i < length xs → is_ascii_digit (get_or xs i 0) ≡ false → all_ascii_digits xs ≡ false
not_digits [] i within here = absurd (omega arith)
not_digits (x ∷ xs) zero within here = rw here refl
not_digits (x ∷ xs) (suc i) within here = rw (not_digits xs i (omega arith) here) (after (is_ascii_digit x))
  where
    after : (b : Bool) → (b && false) ≡ false
    after true = refl
    after false = refl

pub no_number : (word : List ℕ) → all_ascii_digits word ≡ false → number word ≡ None
no_number word e = rw e (at (is_word word))
  where
    at : (b : Bool) → cond (b && false) (Some (digits_value 10 word)) None ≡ None
    at true = refl
    at false = refl

pub is_number : (word : List ℕ) → 0 < length word → all_ascii_digits word ≡ true → number word ≡ Some (digits_value 10 word)
is_number word some e = let long : is_word word ≡ true = grind (arith, nat_tests) in rw (long, e) refl

-- the capped number after one more digit
capped_more : (m n d : ℕ) → min (min (min n m * 10) m + d) m ≡ min (n * 10 + d) m
capped_more m n d = omega arith

-- the invariant of the loop over the digits of a word
pub record HasDigits (word : List ℕ) (i value : ℕ) : Type 0 where
  pub value_is : value ≡ capped_number (digits_value 10 (take i word))
  pub digits : all_ascii_digits (take i word) ≡ true

pub more_digits : (word : List ℕ) (i value next digit : ℕ) → i < length word → HasDigits word i value → IsInRange 48 57 (get_or word i 0) →
    is_ascii_digit (get_or word i 0) ≡ true → digit ≡ get_or word i 0 - 48 →
    next ≡ min (min (value * 10) greatest + digit) greatest → HasDigits word (i + 1) next
more_digits word i value next digit within so_far range here digit_is next_is =
    let digit_value_is : digit ≡ digit_value (get_or word i 0) = omega (arith, digit_value_digit (get_or word i 0) range) in
    record {
      value_is = next_is ∙ ap (λ v. min (min (v * 10) greatest + digit) greatest) so_far.value_is
          ∙ capped_more greatest (digits_value 10 (take i word)) digit
          ∙ ap (λ d. capped_number (digits_value 10 (take i word) * 10 + d)) digit_value_is
          ∙ ap capped_number (sym (digits_value_more 10 word i within));
      digits = rw (add-one i) (digits_suc word i within so_far.digits here);
    }

pub all_digits : (word : List ℕ) (i value : ℕ) → 0 < length word → length word ≤ i → HasDigits word i value →
    Some value ≡ option_map capped_number (number word)
all_digits word i value some past read =
    let all : take i word ≡ word = take_all i word past in
    let digits : all_ascii_digits word ≡ true = ap all_ascii_digits (sym all) ∙ read.digits in
    ap Some (read.value_is ∙ ap (λ w. capped_number (digits_value 10 w)) all)
    ∙ ap (option_map capped_number) (sym (is_number word some digits))

-- the numbers of words

pub numbers_push : (taken : List (List ℕ)) (w : List ℕ) (ns : List ℕ) (n : ℕ) → numbers taken ≡ Some ns → number w ≡ Some n →
    numbers (taken ++ w ∷ []) ≡ Some (ns ++ n ∷ [])
numbers_push [] w ns n e f = let none : ns ≡ [] = sym (same_Some [] ns e) in rw (f, none) refl
numbers_push (t ∷ taken) w ns n e f = at (number t) refl (numbers taken) refl e (λ ms k. numbers_push taken w ms n k f)
  where
    at : (o : Option ℕ) → number t ≡ o → (os : Option (List ℕ)) → numbers taken ≡ os →
        option_and_then (λ m. option_map (λ ms. m ∷ ms) os) o ≡ Some ns →
        ((ms : List ℕ) → numbers taken ≡ Some ms → numbers (taken ++ w ∷ []) ≡ Some (ms ++ n ∷ [])) →
        numbers (t ∷ taken ++ w ∷ []) ≡ Some (ns ++ n ∷ [])
    at None h os k e more = absurd (none-some ns e)
    at (Some m) h None k e more = absurd (none-some ns e)
    at (Some m) h (Some ms) k e more =
        let is : ns ≡ m ∷ ms = sym (same_Some (m ∷ ms) ns e) in
        let rest : numbers (taken ++ w ∷ []) ≡ Some (ms ++ n ∷ []) = more ms k in
        rw (h, rest, is) refl

pub numbers_stop : (taken left : List (List ℕ)) (w : List ℕ) → number w ≡ None → numbers (taken ++ w ∷ left) ≡ None
numbers_stop [] left w e = rw e refl
numbers_stop (t ∷ taken) left w e = rw (numbers_stop taken left w e) (at (number t))
  where
    at : (o : Option ℕ) → option_and_then (λ m. option_map (λ ms. m ∷ ms) (let none : Option (List ℕ) = None in none)) o ≡ None
    at None = refl
    at (Some m) = refl

pub length-numbers : (ws : List (List ℕ)) (ns : List ℕ) → numbers ws ≡ Some ns → length ns ≡ length ws
length-numbers [] ns e = ap length (sym (same_Some [] ns e))
length-numbers (w ∷ ws) ns e = at (number w) (numbers ws) refl e (length-numbers ws)
  where
    at : (o : Option ℕ) (os : Option (List ℕ)) → numbers ws ≡ os → option_and_then (λ m. option_map (λ ms. m ∷ ms) os) o ≡ Some ns →
        ((ms : List ℕ) → numbers ws ≡ Some ms → length ms ≡ length ws) → length ns ≡ suc (length ws)
    at None os k e more = absurd (none-some ns e)
    at (Some m) None k e more = absurd (none-some ns e)
    at (Some m) (Some ms) k e more = ap length (sym (same_Some (m ∷ ms) ns e)) ∙ ap suc (more ms k)

-- the invariant of the loop over the words of a line: i words were taken, and the others are left
pub record HasTaken (ws left : List (List ℕ)) (i : ℕ) (values : List ℕ) : Type 0 where
  pub taken : List (List ℕ)
  pub ns : List ℕ
  pub split : ws ≡ taken ++ left
  pub long : length taken ≡ i
  pub read : numbers taken ≡ Some ns
  pub values_are : values ≡ map capped_number ns ++ replicate (5 - i) 0

pub none_taken : (ws : List (List ℕ)) → HasTaken ws ws 0 (0 ∷ 0 ∷ 0 ∷ 0 ∷ 0 ∷ [])
none_taken ws = record { taken = []; ns = []; split = refl; long = refl; read = refl; values_are = refl }

read_value : (w : List ℕ) (value : ℕ) → Some value ≡ option_map capped_number (number w) →
    (n : ℕ) × (number w ≡ Some n) × (value ≡ capped_number n)
read_value w value e = at (number w) refl e
  where
    at : (o : Option ℕ) → number w ≡ o → Some value ≡ option_map capped_number o → (n : ℕ) × (number w ≡ Some n) × (value ≡ capped_number n)
    at None h e = absurd (none-some value (sym e))
    at (Some n) h e = (n, h, same_Some value (capped_number n) e)

pub no_value : (w : List ℕ) → None ≡ option_map capped_number (number w) → number w ≡ None
no_value w e = at (number w) e
  where
    at : (o : Option ℕ) → None ≡ option_map capped_number o → o ≡ None
    at None e = refl
    at (Some n) e = absurd (none-some (capped_number n) e)

zeros_less : (i : ℕ) → i < 5 → replicate {A = ℕ} (5 - i) 0 ≡ 0 ∷ replicate (5 - (i + 1)) 0
zeros_less i lt = let less : 5 - i ≡ suc (5 - (i + 1)) = omega arith in ap (λ k. replicate {A = ℕ} k 0) less

pub take_one : (ws left more : List (List ℕ)) (w : List ℕ) (i value : ℕ) (values : List ℕ) → i < 5 → HasTaken ws left i values →
    left ≡ w ∷ more →
    Some value ≡ option_map capped_number (number w) → HasTaken ws more (i + 1) (set values i value)
take_one ws left more w i value values lt h next e =
    let n = read_value w value e in
    let as_long : length h.ns ≡ length h.taken = length-numbers h.taken h.ns h.read in
    let long : length (map capped_number h.ns) ≡ i = length-map h.ns capped_number ∙ as_long ∙ h.long in
    record {
      taken = h.taken ++ w ∷ [];
      ns = h.ns ++ n.0 ∷ [];
      split = h.split ∙ ap (λ r. h.taken ++ r) next ∙ sym (append_assoc h.taken (w ∷ []) more);
      long = length_push h.taken w ∙ ap (λ k. k + 1) h.long;
      read = numbers_push h.taken w h.ns n.0 h.read n.1;
      values_are = ap (λ v. set v i value) (h.values_are ∙ ap (λ r. map capped_number h.ns ++ r) (zeros_less i lt))
          ∙ set_at (map capped_number h.ns) 0 (replicate (5 - (i + 1)) 0) value i long
          ∙ ap (λ v. map capped_number h.ns ++ v ∷ replicate (5 - (i + 1)) 0) n.2
          ∙ sym (append_assoc (map capped_number h.ns) (capped_number n.0 ∷ []) (replicate (5 - (i + 1)) 0))
          ∙ ap (λ r. r ++ replicate (5 - (i + 1)) 0) (sym (map-append capped_number h.ns (n.0 ∷ [])));
    }

-- the ends of the loop

pub no_number_next : (ws left more : List (List ℕ)) (w : List ℕ) (i count : ℕ) (values : List ℕ) → HasTaken ws left i values →
    left ≡ w ∷ more →
    None ≡ option_map capped_number (number w) → numbers_after [] count ws ≡ None
no_number_next ws left more w i count values h next e =
    let none : numbers ws ≡ None = ap numbers (h.split ∙ ap (λ r. h.taken ++ r) next) ∙ numbers_stop h.taken more w (no_value w e) in
    rw none (at (eqb (length ws) count))
  where
    at : (b : Bool) → cond b (let none : Option (List ℕ) = None in none) None ≡ None
    at true = refl
    at false = refl

pub all_taken : (ws left : List (List ℕ)) (count : ℕ) (values : List ℕ) → HasTaken ws left count values → left ≡ [] →
    AreCapped (numbers_after [] count ws) values
all_taken ws left count values h e =
    let whole : ws ≡ h.taken = h.split ∙ ap (λ r. h.taken ++ r) e ∙ append-nil h.taken in
    let long : length ws ≡ count = ap length whole ∙ h.long in
    let counted : eqb (length ws) count ≡ true = grind (arith, nat_tests) in
    let as_long : length h.ns ≡ count = length-numbers h.taken h.ns h.read ∙ h.long in
    let read : numbers ws ≡ Some h.ns = ap numbers whole ∙ h.read in
    (h.ns, rw counted read, h.values_are ∙ ap (λ k. map capped_number h.ns ++ replicate (5 - k) 0) (sym as_long))

-- the first number of a text

-- a digit is no blank
digit_no_blank : (b : ℕ) → is_ascii_digit b ≡ true → is_blank b ≡ false
digit_no_blank b e = grind (arith, nat_tests)

-- after digits alone, the first blank is at the place where they end
blank_after : (text : List ℕ) (i : ℕ) → i < length text → all_ascii_digits (take i text) ≡ true → is_blank (get_or text i 0) ≡ true →
    position_or_len is_blank text ≡ i
blank_after [] i within digits blank = absurd (omega arith)
blank_after (x ∷ xs) zero within digits blank = rw blank refl
blank_after (x ∷ xs) (suc i) within digits blank =
    let b = both (is_ascii_digit x) (all_ascii_digits (take i xs)) digits in
    rw (digit_no_blank x b.0) (omega (arith, blank_after xs i (omega arith) b.1 blank))

-- digits alone have no blank
no_blank : (text : List ℕ) → all_ascii_digits text ≡ true → position_or_len is_blank text ≡ length text
no_blank [] digits = refl
no_blank (x ∷ xs) digits =
    let b = both (is_ascii_digit x) (all_ascii_digits xs) digits in
    rw (digit_no_blank x b.0) (omega (arith, no_blank xs b.1))

-- digits up to a blank are the first number
pub number_to_blank : (text : List ℕ) (i value : ℕ) → BeginsWithWord text → i < length text → HasDigits text i value →
    is_blank (get_or text i 0) ≡ true → HasFirstNumber (words text) value (words (take (length text - i) (drop i text)))
number_to_blank text i value begins within read blank =
    let at = blank_after text i within read.digits blank in
    let inside : ltb (position_or_len is_blank text) (length text) ≡ true = grind (arith, nat_tests) in
    let found : position is_blank text ≡ Some i = rw inside (ap Some at) in
    let cut = word_to_blank text i begins found in
    let short : length (take i text) ≤ i = omega (arith, length-take i text) in
    let whole : take i (take i text) ≡ take i text = take_all i (take i text) short in (
      take i text,
      cut.0,
      all_digits (take i text) i value cut.1 short (record {
        value_is = read.value_is ∙ ap (λ w. capped_number (digits_value 10 w)) (sym whole);
        digits = ap all_ascii_digits whole ∙ read.digits;
      }),
    )

-- digits up to the end are the first number
pub number_to_end : (text : List ℕ) (i value : ℕ) → BeginsWithWord text → length text ≤ i → HasDigits text i value →
    HasFirstNumber (words text) value []
number_to_end text i value begins past read =
    let whole : take i text ≡ text = take_all i text past in
    let digits : all_ascii_digits text ≡ true = ap all_ascii_digits (sym whole) ∙ read.digits in
    let at = no_blank text digits in
    let outside : ltb (position_or_len is_blank text) (length text) ≡ false = grind (arith, nat_tests) in
    let none : position is_blank text ≡ None = rw outside refl in
    (text, word_to_end text begins none, all_digits text i value begins.some past read)

-- one more digit without a cap
pub more_short : (word : List ℕ) (i value digit : ℕ) → i < length word → HasDigits word i value → value ≤ 2 ^ 60 →
    IsInRange 48 57 (get_or word i 0) → is_ascii_digit (get_or word i 0) ≡ true → digit ≡ get_or word i 0 - 48 →
    HasDigits word (i + 1) (value * 10 + digit)
more_short word i value digit within read short range here is =
    let small : digit ≤ 9 = omega (arith, range.1) in
    more_digits word i value (value * 10 + digit) digit within read range here is (omega arith)

-- if no word is left, or the next one is no number, there are not as many numbers
pub no_first_number : (ws left : List (List ℕ)) (i count : ℕ) (values : List ℕ) → HasTaken ws left i values → i < count →
    HasNoFirstNumber left → numbers_after [] count ws ≡ None
no_first_number ws [] i count values h fewer none =
    let whole : ws ≡ h.taken = h.split ∙ append-nil h.taken in
    let long = ap length whole ∙ h.long in
    let other : eqb (length ws) count ≡ false = grind (arith, nat_tests) in
    rw other refl
no_first_number ws (w ∷ more) i count values h fewer none =
    no_number_next ws (w ∷ more) more w i count values h refl (rw none refl)

-- if the first word is no number, there is no first number
pub no_first : (ws rest : List (List ℕ)) (word : List ℕ) → ws ≡ word ∷ rest → None ≡ option_map capped_number (number word) →
    HasNoFirstNumber ws
no_first ws rest word is none = subst HasNoFirstNumber (sym is) (no_value word none)
