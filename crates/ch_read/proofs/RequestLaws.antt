-- The requests of a stream that comes in parts.
use Rattle.std.proofs.Common.{◌≡◌, ℕ, ◌<◌, Bool, true, false, eqb, if◌then◌else◌, List, [], ◌∷◌, ◌++◌, length, Option, Some, None}
use Rattle.std.proofs.Common.{refl, sym, ◌∙◌, ap, subst, zero, suc, arith, length-append}
use Rattle.std.specs.Prelude.{All, is_none}
use Rattle.std.specs.List.{slice_split, onto_first}
use Rattle.std.proofs.lemmas.List.{append_assoc}
use Rattle.std.proofs.lemmas.List.Splits.{length-slice_split}
use Rattle.ch_read.specs.declared.request.Asked.{Asked}
use Rattle.ch_read.specs.declared.request_fault.RequestFault.{RequestFault}
use Rattle.ch_read.specs.Words.{lines, words, without_empty_last}
use Rattle.ch_read.specs.Requests.{Begun, Told, after_these, line_after, made, nothing, stopping, text_fault, told}
use Rattle.ch_read.specs.RequestLaws.{Went, went_on, went, and_then, without_last, last_of, ended_lines, unended, AreToldByParts}
use Rattle.ch_read.proofs.Splits.{line_before}

-- some lines and then more lines

pub after_both : (xs ys : List Asked) (t : Told) → after_these (xs ++ ys) t ≡ after_these xs (after_these ys t)
after_both xs ys t = λ i. record { given = append_assoc xs ys t.given i; fault = t.fault }

more_given : (n : ℕ) (xs : List Asked) (w : Went) (more : List (List ℕ)) →
    after_these xs (and_then n w more) ≡ and_then n (went_on xs w) more
more_given n xs w more = at (is_none w.told.fault) refl
  where
    at : (t : Bool) → is_none w.told.fault ≡ t → after_these xs (and_then n w more) ≡ and_then n (went_on xs w) more
    at true e = rw e (sym (after_both xs w.told.given (told n w.line w.begun more)))
    at false e = rw e refl

pub told_append : (n line : ℕ) (begun : Begun) (xs ys : List (List ℕ)) → told n line begun (xs ++ ys) ≡ and_then n (went n line begun xs) ys
told_append n line begun [] ys = refl
told_append n line begun (text ∷ xs) ys = at (text_fault n (line_after line) begun text) refl
    (told_append n (line_after line) (made n (line_after line) begun (words text)).begun xs ys)
  where
    rest : Told
    rest = told n (line_after line) (made n (line_after line) begun (words text)).begun (xs ++ ys)

    left : Went
    left = went n (line_after line) (made n (line_after line) begun (words text)).begun xs

    given : List Asked
    given = (made n (line_after line) begun (words text)).given

    whole : Option RequestFault → Told
    whole o = if is_none o then after_these given rest else stopping o

    parts : Option RequestFault → Told
    parts o = and_then n (if is_none o then went_on given left else record { told = stopping o; line = line; begun = begun }) ys

    at : (o : Option RequestFault) → text_fault n (line_after line) begun text ≡ o → rest ≡ and_then n left ys →
        told n line begun (text ∷ (xs ++ ys)) ≡ and_then n (went n line begun (text ∷ xs)) ys
    at None e others = ap whole e ∙ ap (after_these given) others ∙ more_given n given left ys ∙ sym (ap parts e)
    at (Some fault) e others = ap whole e ∙ sym (ap parts e)

-- some bytes and then more bytes

abbrev parts_of : List ℕ → List (List ℕ)
parts_of bytes = slice_split (λ b. eqb b 10) bytes

-- the parts of bytes: parts that end with a line feed, and a last part without one, for every continuation
pub record AreParts (bytes : List ℕ) (ended : List (List ℕ)) (last : List ℕ) : Type 0 where
  pub parts : parts_of bytes ≡ ended ++ last ∷ []
  pub clear : All (λ b. eqb b 10 ≡ false) last
  pub more : (more : List ℕ) → parts_of (bytes ++ more) ≡ ended ++ parts_of (last ++ more)

none_clear : All (λ b. eqb b 10 ≡ false) []
none_clear k d lt = absurd (omega arith)

one_clear : (b : ℕ) (last : List ℕ) → eqb b 10 ≡ false → All (λ c. eqb c 10 ≡ false) last → All (λ c. eqb c 10 ≡ false) (b ∷ last)
one_clear b last e clear zero d lt = e
one_clear b last e clear (suc k) d lt = clear k d (omega arith)

-- the parts after a line feed or another byte is put in front
feed_first : (b : ℕ) (bytes : List ℕ) (ended : List (List ℕ)) (last : List ℕ) → eqb b 10 ≡ true → AreParts bytes ended last →
    AreParts (b ∷ bytes) ([] ∷ ended) last
feed_first b bytes ended last e are = record {
  parts = rw e (ap (λ (all : List (List ℕ)). [] ∷ all) are.parts);
  clear = are.clear;
  more = λ more. rw e (ap (λ (all : List (List ℕ)). [] ∷ all) (are.more more));
}

byte_first : (b : ℕ) (bytes : List ℕ) (ended : List (List ℕ)) (last : List ℕ) → eqb b 10 ≡ false → AreParts bytes ended last →
    (front : List (List ℕ)) × (end : List ℕ) × AreParts (b ∷ bytes) front end
byte_first b bytes [] last e are = (
  [],
  b ∷ last,
  record {
    parts = rw e (ap (onto_first b) are.parts);
    clear = one_clear b last e are.clear;
    more = λ more. rw e (ap (onto_first b) (are.more more));
  },
)
byte_first b bytes (part ∷ ended) last e are = (
  (b ∷ part) ∷ ended,
  last,
  record {
    parts = rw e (ap (onto_first b) are.parts);
    clear = are.clear;
    more = λ more. rw e (ap (onto_first b) (are.more more));
  },
)

pub parts_are : (bytes : List ℕ) → (ended : List (List ℕ)) × (last : List ℕ) × AreParts bytes ended last
parts_are [] = ([], [], record { parts = refl; clear = none_clear; more = λ more. refl })
parts_are (b ∷ bytes) = at (eqb b 10) refl (parts_are bytes)
  where
    at : (t : Bool) → eqb b 10 ≡ t → (ended : List (List ℕ)) × (last : List ℕ) × AreParts bytes ended last →
        (ended : List (List ℕ)) × (last : List ℕ) × AreParts (b ∷ bytes) ended last
    at true e are = ([] ∷ are.0, are.1, feed_first b bytes are.0 are.1 e are.2)
    at false e are = byte_first b bytes are.0 are.1 e are.2

last_dropped : (ended : List (List ℕ)) (last : List ℕ) → without_last (ended ++ last ∷ []) ≡ ended
last_dropped [] last = refl
last_dropped (part ∷ []) last = refl
last_dropped (part ∷ next ∷ ended) last = ap (λ (all : List (List ℕ)). part ∷ all) (last_dropped (next ∷ ended) last)

last_is : (ended : List (List ℕ)) (last : List ℕ) → last_of (ended ++ last ∷ []) ≡ last
last_is [] last = refl
last_is (part ∷ []) last = refl
last_is (part ∷ next ∷ ended) last = last_is (next ∷ ended) last

all_before : (ended parts : List (List ℕ)) → 0 < length parts → without_empty_last (ended ++ parts) ≡ ended ++ without_empty_last parts
all_before [] parts some = refl
all_before (part ∷ ended) parts some =
    line_before part (ended ++ parts) (omega (arith, length-append ended parts))
    ∙ ap (λ (all : List (List ℕ)). part ∷ all) (all_before ended parts some)

-- for each cut of the bytes, the lines are those that end in the first part, and then those of the rest of it
-- with the second part
pub lines_cut : (bytes more : List ℕ) → lines (bytes ++ more) ≡ ended_lines bytes ++ lines (unended bytes ++ more)
lines_cut bytes more =
    let are = parts_are bytes in
    let parts = are.2 in
    let ended : ended_lines bytes ≡ are.0 = ap without_last parts.parts ∙ last_dropped are.0 are.1 in
    let last : unended bytes ≡ are.1 = ap last_of parts.parts ∙ last_is are.0 are.1 in
    let some : 0 < length (parts_of (are.1 ++ more)) = omega (arith, length-slice_split (λ b. eqb b 10) (are.1 ++ more)) in
    rw (ended, last) (ap without_empty_last (parts.more more) ∙ all_before are.0 (parts_of (are.1 ++ more)) some)

-- the bytes after the last line feed have no line feed
pub unended_clear : (bytes : List ℕ) → All (λ b. eqb b 10 ≡ false) (unended bytes)
unended_clear bytes =
    let are = parts_are bytes in
    subst (λ (last : List ℕ). All (λ b. eqb b 10 ≡ false) last) (sym (ap last_of are.2.parts ∙ last_is are.0 are.1)) are.2.clear

pub told_by_parts : AreToldByParts
told_by_parts n first second =
    ap (told n 0 nothing) (lines_cut first second) ∙ told_append n 0 nothing (ended_lines first) (lines (unended first ++ second))
