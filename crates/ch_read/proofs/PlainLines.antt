-- A line of a letter, numbers with a space before each, and a line feed is the first line, and its words are these.
use Rattle.std.proofs.Common.{set, ◌≡◌, ℕ, zero, suc, ◌+◌, ◌-◌, ◌*◌, ◌^◌, ◌<◌, ◌≤◌, true, false, ltb, List, [], ◌∷◌, ◌++◌, length, take}
use Rattle.std.proofs.Common.{drop, get_or, Option, Some, None, refl, sym, ◌∙◌, ap, arith, append_assoc, length-take, subst, add-one}
use Rattle.std.specs.Prelude.{option_map}
use Rattle.std.specs.Char.{is_ascii_digit}
use Rattle.std.specs.Int.{IsInRange}
use Rattle.std.specs.Str.{all_ascii_digits}
use Rattle.std.specs.Str.Parse.{digits_value}
use Rattle.std.proofs.lemmas.Bool.Decides.{nat_tests}
use Rattle.std.proofs.lemmas.List.{append-nil, take-append-drop, drop_more, length-append}
use Rattle.std.proofs.lemmas.Option.{none-some, same_Some}
use Rattle.ch_read.specs.declared.form.Form.{Form}
use Rattle.ch_read.specs.declared.form.Form.TheVariants.{Graph, Queries, Nodes, Saved}
use Rattle.ch_read.specs.declared.form.Part.{Part}
use Rattle.ch_read.specs.declared.form.Part.TheVariants.{First, Second}
use Rattle.ch_read.specs.declared.form.Counts.{Counts}
use Rattle.ch_read.specs.declared.form.Heading.{Heading}
use Rattle.ch_read.specs.declared.form.Item.{Item}
use Rattle.ch_read.specs.declared.fault.FaultKind.{FaultKind}
use Rattle.ch_read.specs.declared.check.Line.{Line}
use Rattle.ch_read.specs.declared.check.Line.TheVariants.{First as OfFirst, Second as OfSecond}
use Rattle.ch_read.specs.Words.{is_blank, lines}
use Rattle.ch_read.specs.Forms.{numbers_after, item_word, item_size, count_of}
use Rattle.ch_read.specs.Checks.{first_failing, item_checks, line_checks}
use Rattle.ch_read.specs.Reading.{capped_number, AreCapped, Fails, IsItem, IsLine}
use Rattle.ch_read.specs.FirstLine.{HasSpacedNumber, BeginsWithItem, item_line, IsFirstLine, FailsFirst}
use Rattle.ch_read.proofs.Numbers.{HasDigits, HasTaken, is_number, none_taken, take_one, all_taken, more_short}
use Rattle.ch_read.proofs.Reading.{one}
use Rattle.ch_read.proofs.WrittenLines.{IsPlain, ArePlain, spaced, words_spaced, words_first, digits_plain}

-- one word more

spaced_more : (w : List ℕ) (ws : List (List ℕ)) (v : List ℕ) → spaced w (ws ++ v ∷ []) ≡ spaced w ws ++ 32 ∷ v
spaced_more w [] v = refl
spaced_more w (u ∷ us) v = ap (λ t. w ++ 32 ∷ t) (spaced_more u us v) ∙ sym (append_assoc w (32 ∷ spaced u us) (32 ∷ v))

plain_more : (ws : List (List ℕ)) (v : List ℕ) → ArePlain ws → IsPlain v → ArePlain (ws ++ v ∷ [])
plain_more [] v plain here = (here, tt)
plain_more (u ∷ us) v plain here = (plain.0, plain_more us v plain.1 here)

-- the invariant of the loop over the numbers: the bytes are a word, i numbers with a space before each, and the rest
pub record HasSpaced (word bytes rest : List ℕ) (i : ℕ) (values : List ℕ) : Type 0 where
  pub taken : List (List ℕ)
  pub split : bytes ≡ spaced word taken ++ rest
  pub plain : ArePlain taken
  pub read : HasTaken taken [] i values

-- the first byte alone
first_byte : (bytes : List ℕ) → 0 < length bytes → take 1 bytes ≡ get_or bytes 0 0 ∷ []
first_byte [] some = absurd (omega arith)
first_byte (b ∷ bs) some = refl

-- the first byte is the word of the part that has this letter
pub word_of : (form : Form) (part : Part) (bytes : List ℕ) → 0 < length bytes → item_word form part ≡ Some (get_or bytes 0 0 ∷ []) →
    item_word form part ≡ Some (take 1 bytes)
word_of form part bytes some is = is ∙ ap Some (sym (first_byte bytes some))

-- before the first number
pub none_spaced : (bytes : List ℕ) → HasSpaced (take 1 bytes) bytes (drop 1 bytes) 0 (0 ∷ 0 ∷ 0 ∷ 0 ∷ 0 ∷ [])
none_spaced bytes = record { taken = []; split = sym (take-append-drop 1 bytes); plain = tt; read = none_taken [] }

-- one number more
pub one_spaced : (word bytes rest after : List ℕ) (i value : ℕ) (values : List ℕ) → i < 5 → HasSpaced word bytes rest i values →
    HasSpacedNumber rest value after → HasSpaced word bytes after (i + 1) (set values i value)
one_spaced word bytes rest after i value values lt h next =
    let whole : h.taken ≡ h.read.taken = h.read.split ∙ append-nil h.read.taken in
    let before : HasTaken (h.taken ++ next.word ∷ []) (next.word ∷ []) i values =
    record {
      taken = h.read.taken;
      ns = h.read.ns;
      split = ap (λ t. t ++ next.word ∷ []) whole;
      long = h.read.long;
      read = h.read.read;
      values_are = h.read.values_are;
    } in
    let number_is = ap Some next.value_is ∙ ap (option_map capped_number) (sym (is_number next.word next.some next.digits)) in
    record {
      taken = h.taken ++ next.word ∷ [];
      split = h.split ∙ ap (λ r. spaced word h.taken ++ r) next.split ∙ sym (append_assoc (spaced word h.taken) (32 ∷ next.word) after)
          ∙ ap (λ t. t ++ after) (sym (spaced_more word h.taken next.word));
      plain = plain_more h.taken next.word h.plain (record { some = next.some; none = digits_plain next.word next.digits });
      read = take_one (h.taken ++ next.word ∷ []) (next.word ∷ []) [] next.word i value values lt before refl number_is;
    }

-- a byte that is no blank is a word
letter_plain : (bytes : List ℕ) → 0 < length bytes → is_blank (get_or bytes 0 0) ≡ false → IsPlain (take 1 bytes)
letter_plain [] some e = absurd (omega arith)
letter_plain (b ∷ bs) some e = record { some = omega arith; none = one (λ b. is_blank b ≡ false) b e }

-- a line feed after the numbers ends the line
pub spaced_line : (bytes rest after : List ℕ) (count : ℕ) (values : List ℕ) → 0 < length bytes → is_blank (get_or bytes 0 0) ≡ false →
    HasSpaced (take 1 bytes) bytes rest count values → 0 < length rest → get_or rest 0 0 ≡ 10 → after ≡ drop 1 rest →
    BeginsWithItem (take 1 bytes) count bytes values after
spaced_line bytes rest after count values some letter h left feed is =
    let plain = letter_plain bytes some letter in
    let ended : rest ≡ 10 ∷ after = drop_more rest 0 0 left ∙ ap (λ b. b ∷ drop 1 rest) feed ∙ ap (λ ds. 10 ∷ ds) (sym is) in
    let whole : bytes ≡ spaced (take 1 bytes) h.taken ++ 10 ∷ after =
    h.split ∙ ap (λ r. spaced (take 1 bytes) h.taken ++ r) ended in
    let long : length bytes ≡ length (spaced (take 1 bytes) h.taken) + length (10 ∷ after) =
    ap length whole ∙ length-append (spaced (take 1 bytes) h.taken) (10 ∷ after) in
    record {
      text = spaced (take 1 bytes) h.taken;
      more = h.taken;
      split = ap lines whole ∙ words_first (take 1 bytes) h.taken after plain h.plain;
      less = omega arith;
      words_are = words_spaced (take 1 bytes) h.taken plain h.plain;
      values_are = all_taken h.taken [] count values h.read refl;
    }

-- digits after a space are a number
pub after_space : (bytes text after : List ℕ) (count value : ℕ) → 0 < length bytes → get_or bytes 0 0 ≡ 32 → text ≡ drop 1 bytes →
    after ≡ drop count text → 0 < count → count ≤ length text → all_ascii_digits (take count text) ≡ true →
    value ≡ capped_number (digits_value 10 (take count text)) → HasSpacedNumber bytes value after
after_space bytes text after count value some space text_is after_is more within digits value_is = record {
  word = take count text;
  split = drop_more bytes 0 0 some ∙ ap (λ b. b ∷ drop 1 bytes) space
      ∙ ap (λ ds. 32 ∷ ds) (sym text_is ∙ sym (take-append-drop count text) ∙ ap (λ ds. take count text ++ ds) (sym after_is));
  some = omega (arith, length-take count text);
  digits = digits;
  value_is = value_is;
}

-- the invariant of the loop over the digits: the value is below the power of ten of their number, so that it does not wrap
pub record HasFew (text : List ℕ) (i value : ℕ) : Type 0 where
  pub digits : HasDigits text i value
  pub small : value < 10 ^ i

pub no_digit : (text : List ℕ) → HasFew text 0 0
no_digit text = record { digits = record { value_is = refl; digits = refl }; small = omega arith }

-- a power of ten is at most each later one
ten_le : (i k : ℕ) → i ≤ k → 10 ^ i ≤ 10 ^ k
ten_le zero zero le = omega arith
ten_le zero (suc k) le = omega (arith, ten_le zero k (omega arith))
ten_le (suc i) zero le = absurd (omega arith)
ten_le (suc i) (suc k) le = omega (arith, ten_le i k (omega arith))

-- the value of up to seven digits is small
pub few_small : (text : List ℕ) (i value : ℕ) → i < 8 → HasFew text i value → value < 2 ^ 60
few_small text i value lt few = omega (arith, few.small, ten_le i 7 (omega arith))

-- one more digit
pub one_digit : (text : List ℕ) (i value digit : ℕ) → i < 8 → 8 ≤ length text → HasFew text i value →
    IsInRange 48 57 (get_or text i 0) → is_ascii_digit (get_or text i 0) ≡ true → digit ≡ get_or text i 0 - 48 →
    HasFew text (i + 1) (value * 10 + digit)
one_digit text i value digit lt long few range here is =
    let short = few_small text i value lt few in
    let small = few.small in
    let power : 10 ^ (i + 1) ≡ 10 ^ suc i = ap (λ k. 10 ^ k) (add-one i) in
    record {
      digits = more_short text i value digit (omega arith) few.digits (omega arith) range here is;
      small = omega (arith, range.1);
    }

-- lines of items

-- the word of a part begins its items
pub item_begins : (form : Form) (part : Part) (seen : Option Heading) (counts : Counts) (word : List ℕ) (more : List (List ℕ)) →
    item_word form part ≡ Some word → line_checks form seen counts (word ∷ more)
    ≡ item_checks form part seen (count_of counts part) (numbers_after [] (item_size form part) more)
item_begins Graph First seen counts word more e = rw (sym (same_Some _ word e)) refl
item_begins Graph Second seen counts word more e = absurd (none-some word e)
item_begins (Queries n) First seen counts word more e = rw (sym (same_Some _ word e)) refl
item_begins (Queries n) Second seen counts word more e = absurd (none-some word e)
item_begins (Nodes n) First seen counts word more e = rw (sym (same_Some _ word e)) refl
item_begins (Nodes n) Second seen counts word more e = absurd (none-some word e)
item_begins (Saved n) First seen counts word more e = rw (sym (same_Some _ word e)) refl
item_begins (Saved n) Second seen counts word more e = rw (sym (same_Some _ word e)) refl

-- an item passes its checks
item_passes : (form : Form) (part : Part) (seen : Option Heading) (count : ℕ) (numbers : Option (List ℕ)) (i : Item) →
    IsItem form part seen count numbers i → first_failing (item_checks form part seen count numbers) ≡ None
item_passes form part seen count numbers i is =
    let room = is.room in
    let has_room : ltb count (count_of is.declared.items part) ≡ true = grind (arith, nat_tests) in
    rw (is.seen_is, is.has, has_room, is.within.nodes_are, is.within.weight_is) refl

-- if a line of these words passes its checks, this is its content
abbrev PassesAs : Form → Option Heading → Counts → List (List ℕ) → List ℕ → Line → Type 0
PassesAs form seen counts more word line =
    first_failing (line_checks form seen counts (word ∷ more)) ≡ None → IsLine form seen counts (word ∷ more) line

-- a line of an item passes its checks, and has the item as its content
pub item_is_line : (form : Form) (part : Part) (seen : Option Heading) (counts : Counts) (word : List ℕ) (more : List (List ℕ)) (i : Item) →
    item_word form part ≡ Some word →
    IsItem form part seen (count_of counts part) (numbers_after [] (item_size form part) more) i →
    IsLine form seen counts (word ∷ more) (item_line part i)
item_is_line form part seen counts word more i e is =
    let passes = ap first_failing (item_begins form part seen counts word more e)
    ∙ item_passes form part seen (count_of counts part) _ i is in
    at form part e is passes
  where
    at : (form : Form) (part : Part) → item_word form part ≡ Some word →
        IsItem form part seen (count_of counts part) (numbers_after [] (item_size form part) more) i →
        first_failing (line_checks form seen counts (word ∷ more)) ≡ None → IsLine form seen counts (word ∷ more) (item_line part i)
    at Graph First e is = subst (λ w. PassesAs Graph seen counts more w (OfFirst i)) (same_Some _ word e) (λ p. (p, refl, is, refl))
    at Graph Second e is = absurd (none-some word e)
    at (Queries n) First e is =
        subst (λ w. PassesAs (Queries n) seen counts more w (OfFirst i)) (same_Some _ word e) (λ p. (p, refl, is, refl))
    at (Queries n) Second e is = absurd (none-some word e)
    at (Nodes n) First e is = subst (λ w. PassesAs (Nodes n) seen counts more w (OfFirst i)) (same_Some _ word e) (λ p. (p, refl, is, refl))
    at (Nodes n) Second e is = absurd (none-some word e)
    at (Saved n) First e is = subst (λ w. PassesAs (Saved n) seen counts more w (OfFirst i)) (same_Some _ word e) (λ p. (p, refl, is, refl))
    at (Saved n) Second e is =
        subst (λ w. PassesAs (Saved n) seen counts more w (OfSecond i)) (same_Some _ word e) (λ p. (p, refl, is, refl))

-- the first line is an item, after this heading and with this number of items of its part before it
module _ (form : Form) (part : Part) (seen : Option Heading) (h : Heading) (counts : Counts) (n : ℕ) (word bytes values rest : List ℕ)
    (is : item_word form part ≡ Some word) (begins : BeginsWithItem word (item_size form part) bytes values rest) (declared : seen ≡ Some h)
    (counted : n ≡ count_of counts part) where
  abbrev numbers_of_line : Option (List ℕ)
  numbers_of_line = numbers_after [] (item_size form part) begins.more

  pub first_line_is : (i : Item) (line : Line) →
      ((ws : List (List ℕ)) → AreCapped (numbers_after [] (item_size form part) ws) values →
      IsItem form part (Some h) n (numbers_after [] (item_size form part) ws) i) →
      line ≡ item_line part i → IsFirstLine form seen counts bytes line rest
  first_line_is i line judged line_is =
      let item : IsItem form part (Some h) (count_of counts part) numbers_of_line i =
      subst (λ m. IsItem form part (Some h) m numbers_of_line i) counted (judged begins.more begins.values_are) in
      record {
        text = begins.text;
        split = begins.split;
        less = begins.less;
        is = rw (line_is, begins.words_are, declared) (item_is_line form part (Some h) counts word begins.more i is item);
      }

  pub first_line_fails : (kind : FaultKind) →
      ((ws : List (List ℕ)) → AreCapped (numbers_after [] (item_size form part) ws) values →
      Fails (item_checks form part (Some h) n (numbers_after [] (item_size form part) ws)) kind) →
      FailsFirst form seen counts bytes kind
  first_line_fails kind judged =
      let fails : Fails (item_checks form part (Some h) (count_of counts part) numbers_of_line) kind =
      subst (λ m. Fails (item_checks form part (Some h) m numbers_of_line) kind) counted (judged begins.more begins.values_are) in
      record {
        text = begins.text;
        rest = rest;
        split = begins.split;
        less = begins.less;
        fails = rw (begins.words_are, declared) (ap first_failing (item_begins form part (Some h) counts word begins.more is) ∙ fails);
      }
