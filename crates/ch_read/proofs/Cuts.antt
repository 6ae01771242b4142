-- Sections of a file: cutting at a line feed cuts no line, and the items of all sections are those of the file.
use Rattle.std.proofs.Common.{suc, ◌≡◌, ℕ, ◌+◌, ◌-◌, ◌<◌, ◌≤◌, ◌⊎◌, inl, inr, Bool, true, false, cond, eqb, leb, ltb, List, [], ◌∷◌}
use Rattle.std.proofs.Common.{◌++◌, length, map, take, drop, get_or, Option, Some, None, refl, sym, ◌∙◌, ap, subst, arith}
use Rattle.std.proofs.Common.{length-drop, append_assoc, Bor, Result, Ok, Err}
use Rattle.std.specs.Prelude.{slice_get, All, codes, is_some, Vec, IfOk, MatchOption}
use Rattle.std.specs.List.{slice_split, onto_first, position, flat_map, AllZip, filter_map, cons_option}
use Rattle.std.proofs.Math.Nat.{eq-or-lt_of_le}
use Rattle.std.proofs.Math.Seq.{take-append-add}
use Rattle.std.proofs.lemmas.Bool.{cases_lt, eqb-true}
use Rattle.std.proofs.lemmas.Bool.Decides.{nat_tests}
use Rattle.std.proofs.lemmas.List.{append-nil, take-append-drop, take-append-le, get_or_append_left, get_or-append-add, get_or-drop}
use Rattle.std.proofs.lemmas.List.{length-append, drop_more, take_more, map-append, length-map}
use Rattle.std.proofs.lemmas.List.Elements.{filter_map-append, All-append}
use Rattle.std.proofs.lemmas.Grind.{flat_map-append}
use Rattle.std.proofs.lemmas.List.Splits.{length-slice_split}
use Rattle.std.proofs.lemmas.Option.{none-some}
use Rattle.ch_read.specs.declared.form.Form.{Form}
use Rattle.ch_read.specs.declared.form.Part.{Part}
use Rattle.ch_read.specs.declared.form.Part.TheVariants.{First, Second}
use Rattle.ch_read.specs.declared.form.Counts.{Counts}
use Rattle.ch_read.specs.declared.form.Heading.{Heading}
use Rattle.ch_read.specs.declared.form.Item.{Item}
use Rattle.ch_read.specs.declared.fault.FaultKind.TheVariants.{BadLine, TooMany, UnknownLine}
use Rattle.ch_read.specs.Words.{lines, words, without_empty_last}
use Rattle.ch_read.specs.Forms.{heading, item, heading_in, items_in, count_of, counts_in}
use Rattle.ch_read.specs.Checks.{Check, is_skipped, begins_with, begins_item, first_failing, problem_checks, item_checks}
use Rattle.ch_read.specs.Checks.{line_checks, line_fault, fault_at, end_fault}
use Rattle.ch_read.specs.Reading.{item_from, IsItemWithin, IsWithin, IsFile, values_in}
use Rattle.ch_read.specs.Sections.{PassesAfter, IsSection, IsHead, BeginsWith, AreListsOf, first_of, second_of}
use Rattle.ch_read.proofs.OneAnswer.{at_end}
use Rattle.ch_read.proofs.Reading.{one}
use Rattle.ch_read.proofs.Splits.{line_before, split_at}

-- after these numbers of items there may be one more of the part of this line
abbrev pub HasRoom : Form → Heading → Counts → List (List ℕ) → Type 0
HasRoom form h counts ws = (part : Part) (ns : List ℕ) → item form part ws ≡ Some ns → count_of counts part < count_of h.items part

-- an item that passes its checks after some items passes them after others, if there may be one more
later_item : (form : Form) (part : Part) (h : Heading) (c d : ℕ) (numbers : Option (List ℕ)) →
    first_failing (item_checks form part (Some h) c numbers) ≡ None →
    ((ns : List ℕ) → numbers ≡ Some ns → d < count_of h.items part) → first_failing (item_checks form part (Some h) d numbers) ≡ None
later_item form part h c d None passes room = absurd (none-some BadLine (sym passes))
later_item form part h c d (Some ns) passes room = at (ltb c (count_of h.items part)) refl
  where
    at : (b : Bool) → ltb c (count_of h.items part) ≡ b → first_failing (item_checks form part (Some h) d (Some ns)) ≡ None
    at true e =
        let lt : d < count_of h.items part = room ns refl in
        let here : ltb d (count_of h.items part) ≡ true = grind (arith, nat_tests) in
        rw here (rw e at passes)
    at false e = absurd (none-some TooMany (sym (rw e at passes)))

-- the four branches of the checks of a line, from the last on
module _ (form : Form) (h : Heading) (ws : List (List ℕ)) where
  abbrev of_second : Counts → Bool → List Check
  of_second k b = cond b (item_checks form Second (Some h) k.second (item form Second ws)) ((false, UnknownLine) ∷ [])

  abbrev of_first : Counts → Bool → List Check
  of_first k b = cond b (item_checks form First (Some h) k.first (item form First ws)) (of_second k (begins_item form Second ws))

  abbrev of_problem : Counts → Bool → List Check
  of_problem k b = cond b (problem_checks form (Some h) ws) (of_first k (begins_item form First ws))

  abbrev of_line : Counts → Bool → List Check
  of_line k b = cond b [] (of_problem k (begins_with ws (codes "p")))

  module _ (counts others : Counts) (room : HasRoom form h others ws) where
    second_later : (b : Bool) → first_failing (of_second counts b) ≡ None → first_failing (of_second others b) ≡ None
    second_later true e = later_item form Second h counts.second others.second (item form Second ws) e (room Second)
    second_later false e = e

    first_later : (b : Bool) → first_failing (of_first counts b) ≡ None → first_failing (of_first others b) ≡ None
    first_later true e = later_item form First h counts.first others.first (item form First ws) e (room First)
    first_later false e = second_later (begins_item form Second ws) e

    problem_later : (b : Bool) → first_failing (of_problem counts b) ≡ None → first_failing (of_problem others b) ≡ None
    problem_later true e = e
    problem_later false e = first_later (begins_item form First ws) e

    line_later : (b : Bool) → first_failing (of_line counts b) ≡ None → first_failing (of_line others b) ≡ None
    line_later true e = e
    line_later false e = problem_later (begins_with ws (codes "p")) e

-- a line that passes its checks after some items passes them after others, if there may be one more of its part
pub later_count : (form : Form) (h : Heading) (counts others : Counts) (ws : List (List ℕ)) →
    first_failing (line_checks form (Some h) counts ws) ≡ None → HasRoom form h others ws →
    first_failing (line_checks form (Some h) others ws) ≡ None
later_count form h counts others ws passes room = line_later form h ws counts others room (is_skipped ws) passes

-- lines that are cut at a line feed

onto_first-append : (x : ℕ) (parts more : List (List ℕ)) → 0 < length parts → onto_first x (parts ++ more) ≡ onto_first x parts ++ more
onto_first-append x [] more some = absurd (omega arith)
onto_first-append x (part ∷ parts) more some = refl

split-feed : (xs ys : List ℕ) →
    slice_split (λ b. eqb b 10) (xs ++ 10 ∷ ys) ≡ slice_split (λ b. eqb b 10) xs ++ slice_split (λ b. eqb b 10) ys
split-feed [] ys = refl
split-feed (x ∷ xs) ys = at (eqb x 10) (split-feed xs ys)
  where
    at : (b : Bool) → slice_split (λ b. eqb b 10) (xs ++ 10 ∷ ys) ≡ slice_split (λ b. eqb b 10) xs ++ slice_split (λ b. eqb b 10) ys →
        cond b ([] ∷ slice_split (λ b. eqb b 10) (xs ++ 10 ∷ ys)) (onto_first x (slice_split (λ b. eqb b 10) (xs ++ 10 ∷ ys)))
        ≡ cond b ([] ∷ slice_split (λ b. eqb b 10) xs) (onto_first x (slice_split (λ b. eqb b 10) xs)) ++ slice_split (λ b. eqb b 10) ys
    at true more = ap (λ ps. [] ∷ ps) more
    at false more =
        let some : 0 < length (slice_split (λ b. eqb b 10) xs) = omega (arith, length-slice_split (λ b. eqb b 10) xs) in
        ap (onto_first x) more ∙ onto_first-append x (slice_split (λ b. eqb b 10) xs) (slice_split (λ b. eqb b 10) ys) some

without_empty_last-append : (front back : List (List ℕ)) → 0 < length back →
    without_empty_last (front ++ back) ≡ front ++ without_empty_last back
without_empty_last-append [] back some = refl
without_empty_last-append (part ∷ parts) back some =
    let more : 0 < length (parts ++ back) = omega (arith, length-append parts back) in
    line_before part (parts ++ back) more ∙ ap (λ ps. part ∷ ps) (without_empty_last-append parts back some)

lines-append : (xs ys : List ℕ) → lines (xs ++ 10 ∷ ys) ≡ lines (xs ++ 10 ∷ []) ++ lines ys
lines-append xs ys =
    let some : 0 < length (slice_split (λ b. eqb b 10) ys) = omega (arith, length-slice_split (λ b. eqb b 10) ys) in
    let whole : lines (xs ++ 10 ∷ ys) ≡ slice_split (λ b. eqb b 10) xs ++ lines ys =
    ap without_empty_last (split-feed xs ys)
    ∙ without_empty_last-append (slice_split (λ b. eqb b 10) xs) (slice_split (λ b. eqb b 10) ys) some in
    let first : lines (xs ++ 10 ∷ []) ≡ slice_split (λ b. eqb b 10) xs =
    ap without_empty_last (split-feed xs []) ∙ without_empty_last-append (slice_split (λ b. eqb b 10) xs) ([] ∷ []) (omega arith)
    ∙ append-nil (slice_split (λ b. eqb b 10) xs) in
    whole ∙ ap (λ ls. ls ++ lines ys) (sym first)

-- the lines of bytes that are cut after a line feed
pub lines_cut : (bytes : List ℕ) (at : ℕ) → at < length bytes → get_or bytes at 0 ≡ 10 →
    lines bytes ≡ lines (take (at + 1) bytes) ++ lines (drop (at + 1) bytes)
lines_cut bytes at within feed =
    let front : take (at + 1) bytes ≡ take at bytes ++ 10 ∷ [] = take_more bytes at 0 within ∙ ap (λ b. take at bytes ++ b ∷ []) feed in
    let back : drop at bytes ≡ 10 ∷ drop (at + 1) bytes = drop_more bytes at 0 within ∙ ap (λ b. b ∷ drop (at + 1) bytes) feed in
    ap lines (sym (take-append-drop at bytes) ∙ ap (λ ds. take at bytes ++ ds) back) ∙ lines-append (take at bytes)
    (drop (at + 1) bytes) ∙ ap (λ ls. lines ls ++ lines (drop (at + 1) bytes)) (sym front)

-- sections one after the other

pub no_lines : {A B : Type 0} (a : Item → A) (b : Item → B) (form : Form) (h : Heading) → IsSection a b form h [] [] []
no_lines a b form h = record {
  passes = λ k d lt. absurd (omega arith);
  first_is = refl;
  second_is = refl;
  first_within = λ k d lt. absurd (omega arith);
  second_within = λ k d lt. absurd (omega arith);
}

items_in-append : (form : Form) (part : Part) (front back : List (List ℕ)) →
    items_in form part (front ++ back) ≡ items_in form part front ++ items_in form part back
items_in-append form part front back = filter_map-append (λ line. item form part (words line)) front back

values_in-append : {T : Type 0} (of : Item → T) (form : Form) (part : Part) (front back : List (List ℕ)) →
    values_in of form part (front ++ back) ≡ values_in of form part front ++ values_in of form part back
values_in-append of form part front back =
    ap (map (λ ns. of (item_from ns))) (items_in-append form part front back)
    ∙ map-append (λ ns. of (item_from ns)) (items_in form part front) (items_in form part back)

within-append : (form : Form) (part : Part) (h : Heading) (front back : List (List ℕ)) → All (IsItemWithin form part h.nodes)
    (items_in form part front) → All (IsItemWithin form part h.nodes) (items_in form part back) →
    All (IsItemWithin form part h.nodes) (items_in form part (front ++ back))
within-append form part h front back one other =
    subst (All (IsItemWithin form part h.nodes)) (sym (items_in-append form part front back))
    (All-append (IsItemWithin form part h.nodes) (items_in form part front) (items_in form part back) one other)

pub sections_after : {A B : Type 0} (a : Item → A) (b : Item → B) (form : Form) (h : Heading) (front back : List (List ℕ))
    (first first' : List A) (second second' : List B) →
    IsSection a b form h front first second → IsSection a b form h back first' second' →
    IsSection a b form h (front ++ back) (first ++ first') (second ++ second')
sections_after a b form h front back first first' second second' one other = record {
  passes = All-append (PassesAfter form h) front back one.passes other.passes;
  first_is = ap (λ xs. xs ++ first') one.first_is ∙ ap (λ xs. values_in a form First front ++ xs) other.first_is
      ∙ sym (values_in-append a form First front back);
  second_is = ap (λ xs. xs ++ second') one.second_is ∙ ap (λ xs. values_in b form Second front ++ xs) other.second_is
      ∙ sym (values_in-append b form Second front back);
  first_within = within-append form First h front back one.first_within other.first_within;
  second_within = within-append form Second h front back one.second_within other.second_within;
}

-- a file of a head and one section with as many items as declared

first_stays : (xs ys : List Heading) (h : Heading) → slice_get xs 0 ≡ Some h → slice_get (xs ++ ys) 0 ≡ Some h
first_stays [] ys h e = absurd (none-some h e)
first_stays (x ∷ xs) ys h e = e

heading_stays : (form : Form) (front back : List (List ℕ)) (h : Heading) → heading_in form front ≡ Some h →
    heading_in form (front ++ back) ≡ Some h
heading_stays form front back h e =
    ap (λ (hs : List Heading). slice_get hs 0) (filter_map-append (λ line. heading form (words line)) front back)
    ∙ first_stays (filter_map (λ line. heading form (words line)) front) (filter_map (λ line. heading form (words line)) back) h e

-- before an item line there are fewer items of its part than among all lines
room_at : (form : Form) (part : Part) (ls : List (List ℕ)) (j : ℕ) (ns : List ℕ) → j < length ls →
    item form part (words (get_or ls j [])) ≡ Some ns → length (items_in form part (take j ls)) < length (items_in form part ls)
room_at form part ls j ns lt is =
    let whole : ls ≡ take j ls ++ get_or ls j [] ∷ drop (j + 1) ls =
    sym (take-append-drop j ls) ∙ ap (λ ds. take j ls ++ ds) (drop_more ls j [] lt) in
    let cut : items_in form part ls ≡ items_in form part (take j ls) ++ ns ∷ items_in form part (drop (j + 1) ls) =
    ap (items_in form part) whole ∙ items_in-append form part (take j ls) (get_or ls j [] ∷ drop (j + 1) ls)
    ∙ ap (λ o. items_in form part (take j ls) ++ cons_option o (items_in form part (drop (j + 1) ls))) is in
    omega (arith, ap length cut, length-append (items_in form part (take j ls)) (ns ∷ items_in form part (drop (j + 1) ls)))

module _ {A B : Type 0} (a : Item → A) (b : Item → B) (form : Form) (front ls : List (List ℕ)) (h : Heading) (first : List A)
    (second : List B)
    (head : IsHead form front h) (section : IsSection a b form h ls first second) (firsts : length first ≡ h.items.first)
    (seconds : length second ≡ h.items.second) where
  abbrev file : List (List ℕ)
  file = front ++ ls

  behind_head : (part : Part) (more : List (List ℕ)) → items_in form part (front ++ more) ≡ items_in form part more
  behind_head First more = items_in-append form First front more ∙ ap (λ its. its ++ items_in form First more) head.no_first
  behind_head Second more = items_in-append form Second front more ∙ ap (λ its. its ++ items_in form Second more) head.no_second

  as_declared : (part : Part) → length (items_in form part ls) ≡ count_of h.items part
  as_declared First = sym (ap length section.first_is ∙ length-map (items_in form First ls) (λ ns. a (item_from ns))) ∙ firsts
  as_declared Second = sym (ap length section.second_is ∙ length-map (items_in form Second ls) (λ ns. b (item_from ns))) ∙ seconds

  count_is : (part : Part) (more : List (List ℕ)) → count_of (counts_in form (front ++ more)) part ≡ length (items_in form part more)
  count_is First more = ap length (behind_head First more)
  count_is Second more = ap length (behind_head Second more)

  -- line j of the section has no fault after the head and the lines before it
  section_clear : (j : ℕ) → j < length ls → line_fault form (front ++ take j ls) (get_or ls j []) ≡ None
  section_clear j lt =
      let passes = section.passes j [] lt in
      let room : HasRoom form h (counts_in form (front ++ take j ls)) (words (get_or ls j [])) = (λ part ns is.
      omega (arith, count_is part (take j ls), as_declared part, room_at form part ls j ns lt is)) in
      ap (λ s. first_failing (line_checks form s (counts_in form (front ++ take j ls)) (words (get_or ls j []))))
      (heading_stays form front (take j ls) h head.heading_is)
      ∙ later_count form h passes.0 (counts_in form (front ++ take j ls)) (words (get_or ls j [])) passes.1 room

  line_clear : (i : ℕ) → i < length file → line_fault form (take i file) (get_or file i []) ≡ None
  line_clear i lt = at (cases_lt i (length front))
    where
      at : (i < length front) ⊎ (length front ≤ i) → line_fault form (take i file) (get_or file i []) ≡ None
      at (inl before) =
          let cut : take i file ≡ take i front = take-append-le i front ls (omega arith) in
          rw (cut, get_or_append_left front ls [] i before) (head.clear i before)
      at (inr past) =
          let whole : length file ≡ length front + length ls = length-append front ls in
          let place : length front + (i - length front) ≡ i = omega arith in
          subst (λ k. line_fault form (take k file) (get_or file k []) ≡ None) place
          (rw (take-append-add front ls (i - length front), get_or-append-add front ls (i - length front) [])
          (section_clear (i - length front) (omega (arith, whole))))

  end_clear : end_fault form file ≡ None
  end_clear =
      let first_all : leb h.items.first (counts_in form file).first ≡ true =
      (let e = count_is First ls in let d = as_declared First in grind (arith, nat_tests)) in
      let second_all : leb h.items.second (counts_in form file).second ≡ true =
      (let e = count_is Second ls in let d = as_declared Second in grind (arith, nat_tests)) in
      rw (heading_stays form front ls h head.heading_is, first_all, second_all) refl

  clear : (i : ℕ) → i ≤ length file → fault_at form file i ≡ None
  clear i le = at (eq-or-lt_of_le le)
    where
      at : (i ≡ length file) ⊎ (i < length file) → fault_at form file i ≡ None
      at (inl e) = ap (fault_at form file) e ∙ at_end form file ∙ end_clear
      at (inr lt) = let within : ltb i (length file) ≡ true = grind (arith, nat_tests) in rw within (line_clear i lt)

  -- the file of the head and the section is accepted
  pub sections_accepted : (bytes : List ℕ) → lines bytes ≡ file → IsFile form bytes h
  sections_accepted bytes is = record {
    accepted = subst (λ ls. (i : ℕ) → i ≤ length ls → fault_at form ls i ≡ None) (sym is) clear;
    heading_is = ap (heading_in form) is ∙ heading_stays form front ls h head.heading_is;
    within = subst (λ ls. IsWithin form (Some h) (items_in form First ls) (items_in form Second ls)) (sym is) (
      head.size,
      record {
        few = omega (arith, ap length (behind_head First ls), as_declared First);
        each =
            subst (All (IsItemWithin form First h.nodes)) (sym (behind_head First ls)) section.first_within;
      },
      record {
        few = omega (arith, ap length (behind_head Second ls), as_declared Second);
        each =
            subst (All (IsItemWithin form Second h.nodes)) (sym (behind_head Second ls)) section.second_within;
      },
    );
  }

  pub sections_first : (bytes : List ℕ) → lines bytes ≡ file → first ≡ values_in a form First (lines bytes)
  sections_first bytes is =
      section.first_is ∙ ap (map (λ ns. a (item_from ns))) (sym (behind_head First ls)) ∙ ap (values_in a form First) (sym is)

  pub sections_second : (bytes : List ℕ) → lines bytes ≡ file → second ≡ values_in b form Second (lines bytes)
  sections_second bytes is =
      section.second_is ∙ ap (map (λ ns. b (item_from ns))) (sym (behind_head Second ls)) ∙ ap (values_in b form Second) (sym is)

-- the place of a line feed that was found from a place on
pub feed_from : (bytes : List ℕ) (from at : ℕ) → position (λ b. eqb b 10) (drop from bytes) ≡ Some at →
    (from + at < length bytes) × (get_or bytes (from + at) 0 ≡ 10)
feed_from bytes from at e =
    let found = split_at (λ b. eqb b 10) (drop from bytes) at e in
    let within : at < length (drop from bytes) = found.0 in
    (omega (arith, length-drop from bytes, within), sym (get_or-drop from bytes at 0) ∙ eqb-true (get_or (drop from bytes) at 0) 10 found.1)

-- the lines after one more section was cut
pub more_sections : (bytes : List ℕ) (sections : List (Bor (List ℕ))) (section : Bor (List ℕ)) (rest after : List ℕ) →
    lines bytes ≡ flat_map (λ (s : Bor (List ℕ)). lines s.now) sections ++ lines rest →
    lines rest ≡ lines section.now ++ lines after →
    lines bytes ≡ flat_map (λ (s : Bor (List ℕ)). lines s.now) (sections ++ section ∷ []) ++ lines after
more_sections bytes sections section rest after so_far split =
    so_far ∙ ap (λ ls. flat_map (λ (s : Bor (List ℕ)). lines s.now) sections ++ ls) split
    ∙ sym (append_assoc (flat_map (λ (s : Bor (List ℕ)). lines s.now) sections) (lines section.now) (lines after))
    ∙ ap (λ ls. ls ++ lines after)
    (ap (λ ls. flat_map (λ (s : Bor (List ℕ)). lines s.now) sections ++ ls) (sym (append-nil (lines section.now)))
    ∙ sym (flat_map-append (λ (s : Bor (List ℕ)). lines s.now) sections (section ∷ [])))

-- the lists after one more section
pub lists_more : {A B Y Z : Type 0} (sections : List (Option (Vec A Y × Vec B Z))) (firsts : List (Vec A Y))
    (seconds : List (Vec B Z)) (x : Option (Vec A Y × Vec B Z)) (items : Vec A Y × Vec B Z) →
    x ≡ Some items → AreListsOf sections firsts seconds → AreListsOf (sections ++ x ∷ []) (firsts ++ items.0 ∷ []) (seconds ++ items.1 ∷ [])
lists_more {A} {B} {Y} {Z} sections firsts seconds x items is lists =
    let first : first_of x ≡ items.0.items = ap first_of is in
    let second : second_of x ≡ items.1.items = ap second_of is in
    let here : is_some x ≡ true = ap is_some is in
    record {
      there = All-append (λ section. is_some section ≡ true) sections (x ∷ []) lists.there (one (λ section. is_some section ≡ true) x here);
      first_is = flat_map-append (λ (list : Vec A Y). list.items) firsts (items.0 ∷ [])
          ∙ ap (λ xs. xs ++ flat_map (λ (list : Vec A Y). list.items) (items.0 ∷ [])) lists.first_is
          ∙ ap (λ xs. flat_map first_of sections ++ (xs ++ [])) (sym first) ∙ sym (flat_map-append first_of sections (x ∷ []));
      second_is = flat_map-append (λ (list : Vec B Z). list.items) seconds (items.1 ∷ [])
          ∙ ap (λ xs. xs ++ flat_map (λ (list : Vec B Z). list.items) (items.1 ∷ [])) lists.second_is
          ∙ ap (λ xs. flat_map second_of sections ++ (xs ++ [])) (sym second) ∙ sym (flat_map-append second_of sections (x ∷ []));
    }

module _ {A B Y Z : Type 0} (a : Item → A) (b : Item → B) (form : Form) (h : Heading) where
  -- the clause on the reading of one section
  abbrev pub IsReadOf : Bor (List ℕ) → Option (Vec A Y × Vec B Z) → Type 0
  IsReadOf section read =
      MatchOption read (Unit {0}) (λ (items : Vec A Y × Vec B Z). IsSection a b form h (lines section.now) items.0.items items.1.items)

  gathered : (sections : List (Bor (List ℕ))) (read : List (Option (Vec A Y × Vec B Z))) → AllZip IsReadOf sections read →
      All (λ x. is_some x ≡ true) read →
      IsSection a b form h (flat_map (λ (s : Bor (List ℕ)). lines s.now) sections) (flat_map first_of read) (flat_map second_of read)
  gathered [] [] zip there = no_lines a b form h
  gathered [] (x ∷ xs) zip there = absurd zip
  gathered (s ∷ ss) [] zip there = absurd zip
  gathered (s ∷ ss) (None ∷ xs) zip there = let no : false ≡ true = there 0 None (omega arith) in cc
  gathered (s ∷ ss) (Some items ∷ xs) zip there =
      sections_after a b form h (lines s.now) (flat_map (λ (s : Bor (List ℕ)). lines s.now) ss) items.0.items (flat_map first_of xs)
      items.1.items (flat_map second_of xs) zip.0
      (gathered ss xs zip.1 (λ k d lt. there (suc k) d (omega arith)))

  pub all_sections : {W V E : Type 0} (sections : List (Bor (List ℕ))) (read : List (Option (Vec A Y × Vec B Z))) →
      AllZip IsReadOf sections read → (result : Result (Option (Vec (Vec A Y) W × Vec (Vec B Z) V)) E) →
      IfOk result (λ lists. MatchOption lists (Unit {0}) (λ x. AreListsOf read x.0.items x.1.items)) →
      IfOk result (λ lists. MatchOption lists (Unit {0})
      (λ x. IsSection a b form h (flat_map (λ (s : Bor (List ℕ)). lines s.now) sections)
      (flat_map (λ (list : Vec A Y). list.items) x.0.items) (flat_map (λ (list : Vec B Z). list.items) x.1.items)))
  all_sections sections read zip (Err e) is = is
  all_sections sections read zip (Ok None) is = is
  all_sections sections read zip (Ok (Some x)) is =
      subst (λ xs. IsSection a b form h (flat_map (λ (s : Bor (List ℕ)). lines s.now) sections) xs
      (flat_map (λ (list : Vec B Z). list.items) x.1.items)) (sym is.first_is)
      (subst (λ xs. IsSection a b form h (flat_map (λ (s : Bor (List ℕ)). lines s.now) sections) (flat_map first_of read) xs)
      (sym is.second_is) (gathered sections read zip is.there))

-- a file has this value if all its sections were read, and have as many items as declared
pub whole_by_sections : {A B : Type 0} (a : Item → A) (b : Item → B) (form : Form) (bytes rest : List ℕ) (ls : List (List ℕ))
    (h : Heading) (first : List A) (second : List B) → BeginsWith form bytes h rest → lines rest ≡ ls →
    IsSection a b form h ls first second → length first ≡ h.items.first → length second ≡ h.items.second → IsFile form bytes h
    × (first ≡ values_in a form First (lines bytes)) × (second ≡ values_in b form Second (lines bytes))
whole_by_sections a b form bytes rest ls h first second begins cut section firsts seconds =
    let split = begins.split ∙ ap (λ more. begins.front ++ more) cut in (
      sections_accepted a b form begins.front ls h first second begins.head section firsts seconds bytes split,
      sections_first a b form begins.front ls h first second begins.head section firsts seconds bytes split,
      sections_second a b form begins.front ls h first second begins.head section firsts seconds bytes split,
    )
