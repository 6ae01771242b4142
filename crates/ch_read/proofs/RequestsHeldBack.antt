-- A reader without a whole line left has given all requests of the whole lines.
use Rattle.std.proofs.Common.{◌≡◌, ℕ, suc, ◌+◌, Bool, true, false, cond, eqb, ◌&&◌, if◌then◌else◌, List, [], ◌∷◌, ◌++◌, length}
use Rattle.std.proofs.Common.{Option, Some, None, refl, sym, ◌∙◌, ap, arith}
use Rattle.std.specs.Prelude.{All, codes, is_none, filter, position}
use Rattle.std.specs.List.{slice_split, onto_first}
use Rattle.std.specs.Option.{option_map, option_and_then}
use Rattle.std.specs.Char.{is_ascii_digit}
use Rattle.std.specs.Str.{bytes_eq, all_ascii_digits}
use Rattle.std.proofs.lemmas.Bool.Decides.{nat_tests}
use Rattle.std.proofs.lemmas.List.{append-nil, append_assoc}
use Rattle.std.proofs.lemmas.List.Elements.{All-append, filter-append}
use Rattle.std.proofs.lemmas.List.Splits.{slice_split_at}
use Rattle.std.proofs.lemmas.List.Sums.{fails_before_first}
use Rattle.ch_read.specs.declared.request.Asked.{Asked}
use Rattle.ch_read.specs.declared.request_fault.RequestFault.{RequestFault}
use Rattle.ch_read.specs.declared.form.Form.TheVariants.{Graph, Queries, Nodes}
use Rattle.ch_read.specs.declared.form.Part.TheVariants.{First}
use Rattle.ch_read.specs.Words.{lines, words, number, is_word, is_blank, without_empty_last}
use Rattle.ch_read.specs.Forms.{numbers, numbers_after, item}
use Rattle.ch_read.specs.Checks.{is_skipped, begins_with}
use Rattle.ch_read.specs.Requests.{Begun, Made, Told, after_these, line_after, made, near_numbers, none_made, numbers_and_limit}
use Rattle.ch_read.specs.Requests.{places_numbers, route_numbers, stopping, table_numbers, text_fault, told, weights_numbers}
use Rattle.ch_read.specs.RequestLaws.{Went, bytes_of, given_by, went_by, and_then, unended, AreNotHeldBack}
use Rattle.ch_read.proofs.Splits.{none_passes}
use Rattle.ch_read.proofs.RequestLaws.{told_by_parts, unended_clear}
use Rattle.ch_read.proofs.Reading.{one}
use Rattle.ch_read.proofs.RequestTurns.{given_in_turn, may_come}

-- the last word of a line that ends with the letter x is no number
onto_x : (b : ℕ) (front : List (List ℕ)) (word : List ℕ) →
    (before : List (List ℕ)) × (last : List ℕ) × (onto_first b (front ++ (word ++ 120 ∷ []) ∷ []) ≡ before ++ (last ++ 120 ∷ []) ∷ [])
onto_x b [] word = ([], b ∷ word, refl)
onto_x b (part ∷ front) word = ((b ∷ part) ∷ front, word, refl)

split_x : (bytes : List ℕ) →
    (front : List (List ℕ)) × (word : List ℕ) × (slice_split is_blank (bytes ++ 120 ∷ []) ≡ front ++ (word ++ 120 ∷ []) ∷ [])
split_x [] = ([], [], refl)
split_x (b ∷ bytes) = at (is_blank b) refl (split_x bytes)
  where
    at : (t : Bool) → is_blank b ≡ t → (front : List (List ℕ)) × (word : List ℕ)
        × (slice_split is_blank (bytes ++ 120 ∷ []) ≡ front ++ (word ++ 120 ∷ []) ∷ []) →
        (front : List (List ℕ)) × (word : List ℕ) × (slice_split is_blank (b ∷ (bytes ++ 120 ∷ [])) ≡ front ++ (word ++ 120 ∷ []) ∷ [])
    at true e split = ([] ∷ split.0, split.1, rw e (ap (λ (parts : List (List ℕ)). [] ∷ parts) split.2))
    at false e split =
        let onto = onto_x b split.0 split.1 in
        (onto.0, onto.1, rw e (ap (onto_first b) split.2 ∙ onto.2))

x_is_word : (word : List ℕ) → is_word (word ++ 120 ∷ []) ≡ true
x_is_word [] = refl
x_is_word (b ∷ word) = let long : eqb (suc (length (word ++ 120 ∷ []))) 0 ≡ false = grind (arith, nat_tests) in rw long refl

words_x : (bytes : List ℕ) → (front : List (List ℕ)) × (word : List ℕ) × (words (bytes ++ 120 ∷ []) ≡ front ++ (word ++ 120 ∷ []) ∷ [])
words_x bytes =
    let split = split_x bytes in (
      filter is_word split.0,
      split.1,
      ap (filter is_word) split.2 ∙ filter-append is_word split.0 ((split.1 ++ 120 ∷ []) ∷ [])
          ∙ ap (λ (t : Bool). filter is_word split.0 ++ cond t ((split.1 ++ 120 ∷ []) ∷ []) []) (x_is_word split.1),
    )

x_no_digits : (word : List ℕ) → all_ascii_digits (word ++ 120 ∷ []) ≡ false
x_no_digits [] = refl
x_no_digits (b ∷ word) = at (is_ascii_digit b) (x_no_digits word)
  where
    at : (t : Bool) → all_ascii_digits (word ++ 120 ∷ []) ≡ false → (t && all_ascii_digits (word ++ 120 ∷ [])) ≡ false
    at true e = e
    at false e = refl

x_no_number : (word : List ℕ) → number (word ++ 120 ∷ []) ≡ None
x_no_number word = rw (x_is_word word, x_no_digits word) refl

x_no_numbers : (front : List (List ℕ)) (word : List ℕ) → numbers (front ++ (word ++ 120 ∷ []) ∷ []) ≡ None
x_no_numbers [] word = rw (x_no_number word) refl
x_no_numbers (w ∷ front) word = at (number w) (x_no_numbers front word)
  where
    at : (o : Option ℕ) → numbers (front ++ (word ++ 120 ∷ []) ∷ []) ≡ None →
        option_and_then (λ n. option_map (λ ns. n ∷ ns) (numbers (front ++ (word ++ 120 ∷ []) ∷ []))) o ≡ None
    at None e = refl
    at (Some n) e = rw e refl

-- a line that ends with x does not have the numbers of an item
x_no_item : (letter : List ℕ) (count : ℕ) (front : List (List ℕ)) (word : List ℕ) →
    numbers_after (letter ∷ []) (suc count) (front ++ (word ++ 120 ∷ []) ∷ []) ≡ None
x_no_item letter count [] word = at (bytes_eq (word ++ 120 ∷ []) letter)
  where
    at : (t : Bool) → cond t (numbers_after [] (suc count) []) None ≡ None
    at true = let none : eqb 0 (suc count) ≡ false = grind (arith, nat_tests) in rw none refl
    at false = refl
x_no_item letter count (w ∷ front) word = at (bytes_eq w letter) (eqb (length (front ++ (word ++ 120 ∷ []) ∷ [])) (suc count))
  where
    at : (t u : Bool) → cond t (cond u (numbers (front ++ (word ++ 120 ∷ []) ∷ [])) None) None ≡ None
    at true true = x_no_numbers front word
    at true false = refl
    at false u = refl

-- a line that ends with x does not have the numbers of a request that may have a limit
x_no_limited : (letter : List ℕ) (count : ℕ) (front : List (List ℕ)) (word : List ℕ) →
    numbers_and_limit (letter ∷ []) (suc count) (front ++ (word ++ 120 ∷ []) ∷ []) ≡ None
x_no_limited letter count front word = let next : suc count + 1 ≡ suc (suc count) = omega arith in
    rw (x_no_item letter count front word, next) (x_no_item letter (suc count) front word)

-- a line without numbers completes no request
module _ (n line : ℕ) (begun : Begun) (ws : List (List ℕ)) where
  made_nothing : item (Queries n) First ws ≡ None → route_numbers ws ≡ None → near_numbers ws ≡ None → table_numbers ws ≡ None →
      places_numbers ws ≡ None → weights_numbers ws ≡ None → item Graph First ws ≡ None → item (Nodes n) First ws ≡ None →
      (made n line begun ws).given ≡ []
  made_nothing query route near table places weights weighed listed =
      rw (query, route, near, table, places, weights, weighed, listed) (at (is_skipped ws) (begins_with ws (codes "q"))
      (begins_with ws (codes "r")) (begins_with ws (codes "n")) (begins_with ws (codes "w")) (begins_with ws (codes "a"))
      (begins_with ws (codes "t")) (begins_with ws (codes "p")))
    where
      at : (t u v w x y z a : Bool) →
          (if t then none_made begun else if u then none_made begun else if v then none_made begun else if w then none_made begun
          else if x then none_made begun else if y then none_made begun else if z then none_made begun
          else if a then none_made begun else none_made begun).given ≡ []
      at true u v w x y z a = refl
      at false true v w x y z a = refl
      at false false true w x y z a = refl
      at false false false true x y z a = refl
      at false false false false true y z a = refl
      at false false false false false true z a = refl
      at false false false false false false true a = refl
      at false false false false false false false true = refl
      at false false false false false false false false = refl

x_made_nothing : (n line : ℕ) (begun : Begun) (bytes : List ℕ) → (made n line begun (words (bytes ++ 120 ∷ []))).given ≡ []
x_made_nothing n line begun bytes =
    let ws = words_x bytes in
    rw (ws.2) (made_nothing n line begun (ws.0 ++ (ws.1 ++ 120 ∷ []) ∷ []) (x_no_item (codes "q") 1 ws.0 ws.1)
    (x_no_item (codes "r") 1 ws.0 ws.1) (x_no_limited (codes "n") 0 ws.0 ws.1) (x_no_limited (codes "t") 1 ws.0 ws.1)
    (x_no_item (codes "p") 1 ws.0 ws.1) (x_no_item (codes "w") 0 ws.0 ws.1) (x_no_item (codes "a") 2 ws.0 ws.1)
    (x_no_item (codes "s") 0 ws.0 ws.1))

-- these bytes end the line with an x, and the line after it is unknown
abbrev x_lines : List ℕ
x_lines = 120 ∷ 10 ∷ 120 ∷ 10 ∷ []

-- the bytes have no line feed
abbrev IsOneLine : List ℕ → Type 0
IsOneLine bytes = All (λ b. eqb b 10 ≡ false) bytes

x_lines_are : (bytes : List ℕ) → IsOneLine bytes → lines (bytes ++ x_lines) ≡ (bytes ++ 120 ∷ []) ∷ (120 ∷ []) ∷ []
x_lines_are bytes clear =
    ap lines (sym (append_assoc bytes (120 ∷ []) (10 ∷ 120 ∷ 10 ∷ [])))
    ∙ ap without_empty_last (slice_split_at (λ b. eqb b 10) (bytes ++ 120 ∷ []) 10 (120 ∷ 10 ∷ [])
    (All-append (λ b. eqb b 10 ≡ false) bytes (120 ∷ []) clear (one (λ b. eqb b 10 ≡ false) 120 refl)) refl)

-- after such bytes no request follows
x_told_nothing : (n line : ℕ) (begun : Begun) (bytes : List ℕ) → IsOneLine bytes → (told n line begun (lines (bytes ++ x_lines))).given ≡ []
x_told_nothing n line begun bytes clear =
    ap (λ (all : List (List ℕ)). (told n line begun all).given) (x_lines_are bytes clear)
    ∙ at (text_fault n (line_after line) begun (bytes ++ 120 ∷ [])) refl
  where
    here : Made
    here = made n (line_after line) begun (words (bytes ++ 120 ∷ []))

    after : Option RequestFault → Told
    after o = if is_none o then after_these here.given (told n (line_after line) here.begun ((120 ∷ []) ∷ [])) else stopping o

    at : (o : Option RequestFault) → text_fault n (line_after line) begun (bytes ++ 120 ∷ []) ≡ o →
        (after (text_fault n (line_after line) begun (bytes ++ 120 ∷ []))).given ≡ []
    at None e = ap (λ o. (after o).given) e ∙ append-nil here.given ∙ x_made_nothing n (line_after line) begun bytes
    at (Some fault) e = ap (λ o. (after o).given) e

one_line : (bytes : List ℕ) → position (λ b. eqb b 10) bytes ≡ None → IsOneLine bytes
one_line bytes e = let past = none_passes (λ b. eqb b 10) bytes e in λ k d lt. fails_before_first (λ b. eqb b 10) bytes k d (omega arith)

pub not_held_back : AreNotHeldBack
not_held_back n turns s goes none =
    sym (append-nil (given_by turns)) ∙ ap (λ (all : List Asked). given_by turns ++ all)
    (sym (x_told_nothing s.nodes s.line s.begun s.pending (one_line s.pending none.0)))
    ∙ ap (λ (t : Told). t.given) (sym (given_in_turn n turns s goes x_lines (may_come x_lines))
    ∙ told_by_parts n (bytes_of turns) x_lines) ∙ ended (is_none (went_by n (bytes_of turns)).told.fault) refl
  where
    w : Went
    w = went_by n (bytes_of turns)

    ended : (t : Bool) → is_none w.told.fault ≡ t → (and_then n w (lines (unended (bytes_of turns) ++ x_lines))).given ≡ w.told.given
    ended true e =
        rw e (ap (λ (all : List Asked). w.told.given ++ all)
        (x_told_nothing n w.line w.begun (unended (bytes_of turns)) (unended_clear (bytes_of turns))) ∙ append-nil w.told.given)
    ended false e = rw e refl
