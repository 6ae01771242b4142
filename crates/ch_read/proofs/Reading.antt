-- The reader's loop over the lines of a file.
use Rattle.std.proofs.Common.{◌≡◌, ℕ, zero, suc, ◌+◌, ◌-◌, ◌<◌, ◌≤◌, true, eqb, ltb, List, [], ◌∷◌, ◌++◌, length, map, take, drop}
use Rattle.std.proofs.Common.{get_or, Option, Some, None, refl, sym, ◌∙◌, ap, subst, arith, length-drop, length-take, add-zero}
use Rattle.std.specs.Prelude.{slice_get, All}
use Rattle.std.specs.List.{filter_map, cons_option}
use Rattle.std.proofs.lemmas.Bool.{eqb-true}
use Rattle.std.proofs.lemmas.Bool.Decides.{nat_tests}
use Rattle.std.proofs.lemmas.List.{append-nil, drop_more, take_more, get_or-drop, length_push, length-map, map-append, take_all}
use Rattle.std.proofs.lemmas.List.{take-append-drop, take-append-le, get_or-take, get_or_default, nil_from_length}
use Rattle.std.proofs.lemmas.List.Elements.{filter_map-append, All-append}
use Rattle.std.proofs.lemmas.Option.{none-some}
use Rattle.ch_read.specs.declared.fault.FaultKind.{FaultKind}
use Rattle.ch_read.specs.declared.form.Form.{Form}
use Rattle.ch_read.specs.declared.form.Part.{Part}
use Rattle.ch_read.specs.declared.form.Part.TheVariants.{First, Second}
use Rattle.ch_read.specs.declared.form.Counts.{Counts}
use Rattle.ch_read.specs.declared.form.Heading.{Heading}
use Rattle.ch_read.specs.declared.form.Item.{Item}
use Rattle.ch_read.specs.declared.check.Line.{Line}
use Rattle.ch_read.specs.declared.check.Line.TheVariants.{Skipped, Problem, First as OfFirst, Second as OfSecond}
use Rattle.ch_read.specs.Words.{lines, words}
use Rattle.ch_read.specs.Forms.{heading, item, heading_in, items_in, count_of, counts_in}
use Rattle.ch_read.specs.Checks.{first_failing, line_checks, end_checks, fault_at, IsFault}
use Rattle.ch_read.specs.declared.fault.ReadError.{ReadError}
use Rattle.ch_read.specs.declared.fault.ReadError.TheVariants.{Fault, NoMemory}
use Rattle.ch_read.specs.Sections.{seen_after, fault_after, IsFaultAfter, IsErrorAfter, AreLines, IsSection, BeginsWith}
use Rattle.ch_read.specs.Reading.{item_from, AreItemsWithin, IsWithin, IsFile, values_in, IsProblem, IsNoItem, IsItem, IsItemWithin}
use Rattle.ch_read.specs.Reading.{IsEnd, IsErrorOf, IsLine}
use Rattle.ch_read.specs.FirstLine.{IsFirstLine}
use Rattle.ch_read.proofs.OneAnswer.{AreClear, clear_more, at_end}

-- one more line

module _ (all : List (List ℕ)) (i : ℕ) (text : List ℕ) (more : List (List ℕ)) (next : drop i all ≡ text ∷ more) where
  pub line_within : i < length all
  line_within =
      let left : length (drop i all) ≡ suc (length more) = ap length next in
      omega (arith, length-drop i all)

  line_is : get_or all i [] ≡ text
  line_is = ap (λ k. get_or all k []) (sym (add-zero i)) ∙ sym (get_or-drop i all 0 []) ∙ ap (λ (xs : List (List ℕ)). get_or xs 0 []) next

  pub take_line : take (i + 1) all ≡ take i all ++ text ∷ []
  take_line = take_more all i [] line_within ∙ ap (λ x. take i all ++ x ∷ []) line_is

  pub drop_line : drop (i + 1) all ≡ more
  drop_line = ap (λ (xs : List (List ℕ)). drop 1 xs) (sym (drop_more all i [] line_within) ∙ next)

  pub at_line : (form : Form) (begun : Option Heading) →
      fault_after form begun all i ≡ first_failing
      (line_checks form (seen_after form begun (take i all)) (counts_in form (take i all)) (words text))
  at_line form begun = ap
      (λ (line : List ℕ). first_failing
      (line_checks form (seen_after form begun (take i all)) (counts_in form (take i all)) (words line))) line_is

-- the items that a line adds

first_of_none : (xs ys : List Heading) → slice_get xs 0 ≡ None → slice_get (xs ++ ys) 0 ≡ slice_get ys 0
first_of_none [] ys e = refl
first_of_none (x ∷ xs) ys e = absurd (none-some x (sym e))

module _ (form : Form) (before : List (List ℕ)) (text : List ℕ) where
  heading_same : heading form (words text) ≡ None → heading_in form (before ++ text ∷ []) ≡ heading_in form before
  heading_same none =
      ap (λ (hs : List Heading). slice_get hs 0) (filter_map-append (λ line. heading form (words line)) before (text ∷ [])
      ∙ ap (λ h. filter_map (λ line. heading form (words line)) before ++ cons_option h []) none
      ∙ append-nil (filter_map (λ line. heading form (words line)) before))

  heading_found : (h : Heading) → heading_in form before ≡ None → heading form (words text) ≡ Some h →
      heading_in form (before ++ text ∷ []) ≡ Some h
  heading_found h none found =
      ap (λ (hs : List Heading). slice_get hs 0) (filter_map-append (λ line. heading form (words line)) before (text ∷ []))
      ∙ first_of_none (filter_map (λ line. heading form (words line)) before)
      (filter_map (λ line. heading form (words line)) (text ∷ [])) none
      ∙ ap (λ h. slice_get (cons_option h []) 0) found

  seen_same : (begun : Option Heading) → heading form (words text) ≡ None →
      seen_after form begun (before ++ text ∷ []) ≡ seen_after form begun before
  seen_same None none = heading_same none
  seen_same (Some h) none = refl

  seen_found : (begun : Option Heading) (h : Heading) → seen_after form begun before ≡ None → heading form (words text) ≡ Some h →
      seen_after form begun (before ++ text ∷ []) ≡ Some h
  seen_found None h none found = heading_found h none found
  seen_found (Some k) h none found = absurd (none-some k (sym none))

  items_same : (part : Part) → item form part (words text) ≡ None → items_in form part (before ++ text ∷ []) ≡ items_in form part before
  items_same part none =
      filter_map-append (λ line. item form part (words line)) before (text ∷ [])
      ∙ ap (λ h. items_in form part before ++ cons_option h []) none ∙ append-nil (items_in form part before)

  items_more : (part : Part) (ns : List ℕ) → item form part (words text) ≡ Some ns →
      items_in form part (before ++ text ∷ []) ≡ items_in form part before ++ ns ∷ []
  items_more part ns found =
      filter_map-append (λ line. item form part (words line)) before (text ∷ [])
      ∙ ap (λ h. items_in form part before ++ cons_option h []) found

  values_same : {T : Type 0} (of : Item → T) (part : Part) → item form part (words text) ≡ None →
      values_in of form part (before ++ text ∷ []) ≡ values_in of form part before
  values_same of part none = ap (λ its. map (λ ns. of (item_from ns)) its) (items_same part none)

  values_more : {T : Type 0} (of : Item → T) (part : Part) (ns : List ℕ) (i : Item) → item form part (words text) ≡ Some ns →
      i ≡ item_from ns →
      values_in of form part (before ++ text ∷ []) ≡ values_in of form part before ++ of i ∷ []
  values_more of part ns i found is =
      ap (λ its. map (λ ns. of (item_from ns)) its) (items_more part ns found)
      ∙ map-append (λ ns. of (item_from ns)) (items_in form part before) (ns ∷ [])
      ∙ ap (λ x. values_in of form part before ++ of x ∷ []) (sym is)

-- the items within the limits

pub none_within : (form : Form) (part : Part) (h : Heading) → AreItemsWithin form part h []
none_within form part h = record { few = omega arith; each = λ k d lt. absurd (omega arith) }

pub one : {X : Type 0} (P : X → Type 0) (x : X) → P x → All P (x ∷ [])
one P x px zero d lt = px
one P x px (suc k) d lt = absurd (omega arith)

more_within : (form : Form) (part : Part) (h : Heading) (its : List (List ℕ)) (ns : List ℕ) → AreItemsWithin form part h its →
    length its < count_of h.items part →
    IsItemWithin form part h.nodes ns → AreItemsWithin form part h (its ++ ns ∷ [])
more_within form part h its ns within room here = record {
  few = omega (arith, length_push its ns);
  each = All-append (IsItemWithin form part h.nodes) its (ns ∷ []) within.each (one (IsItemWithin form part h.nodes) ns here);
}

within_same : (form : Form) (seen : Option Heading) (first second first' second' : List (List ℕ)) → first' ≡ first → second' ≡ second →
    IsWithin form seen first second → IsWithin form seen first' second'
within_same form seen first second first' second' e f within =
    subst (λ its. IsWithin form seen its second') (sym e) (subst (λ its. IsWithin form seen first its) (sym f) within)

-- the invariant of the loop: some lines were read and have no fault, and this is their content
pub record HasRead {A B : Type 0} (a : Item → A) (b : Item → B) (form : Form) (begun : Option Heading) (bytes rest : List ℕ)
    (line : ℕ) (seen : Option Heading) (first : List A) (second : List B) : Type 0 where
  pub counted : line ≤ length (lines bytes)
  pub room : line + length rest ≤ length bytes
  pub left : drop line (lines bytes) ≡ lines rest
  pub seen_is : seen ≡ seen_after form begun (take line (lines bytes))
  pub first_is : first ≡ values_in a form First (take line (lines bytes))
  pub second_is : second ≡ values_in b form Second (take line (lines bytes))
  pub clear : AreClear (fault_after form begun (lines bytes)) line
  pub within : IsWithin form seen (items_in form First (take line (lines bytes))) (items_in form Second (take line (lines bytes)))

none_seen : (form : Form) (begun : Option Heading) → begun ≡ seen_after form begun []
none_seen form None = refl
none_seen form (Some h) = refl

pub nothing_read : {A B : Type 0} (a : Item → A) (b : Item → B) (form : Form) (begun : Option Heading) (bytes : List ℕ) →
    IsWithin form begun [] [] → HasRead a b form begun bytes bytes 0 begun [] []
nothing_read a b form begun bytes within = record {
  counted = omega arith;
  room = omega arith;
  left = refl;
  seen_is = none_seen form begun;
  first_is = refl;
  second_is = refl;
  clear = λ i lt. absurd (omega arith);
  within = within;
}

-- the counts are the numbers of values
pub record AreCounted {A B : Type 0} (counts : Counts) (first : List A) (second : List B) : Type 0 where
  pub first_is : counts.first ≡ length first
  pub second_is : counts.second ≡ length second

pub counted_by : {A B : Type 0} (counts : Counts) (m n : ℕ) (first : List A) (second : List B) →
    counts ≡ record { first = m; second = n } → m ≡ length first → n ≡ length second →
    AreCounted counts first second
counted_by counts m n first second is m_is n_is =
    record { first_is = ap (λ (c : Counts). c.first) is ∙ m_is; second_is = ap (λ (c : Counts). c.second) is ∙ n_is }

counts_are : {A B : Type 0} (a : Item → A) (b : Item → B) (form : Form) (all : List (List ℕ)) (counts : Counts) (first : List A)
    (second : List B) →
    AreCounted counts first second → first ≡ values_in a form First all → second ≡ values_in b form Second all → counts ≡ counts_in form all
counts_are a b form all counts first second counted first_is second_is =
    let ones : counts.first ≡ length (items_in form First all) =
    counted.first_is ∙ ap length first_is ∙ length-map (items_in form First all) (λ ns. a (item_from ns)) in
    let others : counts.second ≡ length (items_in form Second all) =
    counted.second_is ∙ ap length second_is ∙ length-map (items_in form Second all) (λ ns. b (item_from ns)) in
    λ i. record { first = ones i; second = others i }

-- the heading after a line with this content
abbrev pub seen_with : Line → Option Heading → Option Heading
seen_with (Problem h) seen = Some h
seen_with content seen = seen

-- the values of a part after a line with this content
abbrev pub values_with : {T : Type 0} → (Item → T) → Part → Line → List T → List T
values_with of First (OfFirst i) values = values ++ of i ∷ []
values_with of Second (OfSecond i) values = values ++ of i ∷ []
values_with of part content values = values

module _ {A B : Type 0} (a : Item → A) (b : Item → B) (form : Form) (begun : Option Heading) (bytes rest text after : List ℕ)
    (line : ℕ) (counts : Counts) (seen : Option Heading) (first : List A) (second : List B)
    (read : HasRead a b form begun bytes rest line seen first second) (split : lines rest ≡ text ∷ lines after)
    (less : length after < length rest)
    (counted : AreCounted counts first second) where
  abbrev all : List (List ℕ)
  all = lines bytes

  abbrev before : List (List ℕ)
  before = take line all

  next : drop line all ≡ text ∷ lines after
  next = read.left ∙ split

  within_all : line < length all
  within_all = line_within all line text (lines after) next

  counts_is : counts ≡ counts_in form before
  counts_is = counts_are a b form before counts first second counted read.first_is read.second_is

  checks_are : fault_after form begun all line ≡ first_failing (line_checks form seen counts (words text))
  checks_are = at_line all line text (lines after) next form begun
      ∙ sym (ap (λ s. first_failing (line_checks form s counts (words text))) read.seen_is
      ∙ ap (λ n. first_failing (line_checks form (seen_after form begun before) n (words text))) counts_is)

  pub fault_here : (kind : FaultKind) → first_failing (line_checks form seen counts (words text)) ≡ Some kind →
      IsFaultAfter form begun bytes (line + 1) kind
  fault_here kind e =
      let back : line + 1 - 1 ≡ line = omega arith in
      let within = within_all in
      record {
        counted = (omega arith, omega arith);
        kind_is = ap (fault_after form begun all) back ∙ checks_are ∙ e;
        first = λ i lt. read.clear i (omega arith);
      }

  -- the invariant after one more line, from its content
  more : (seen' : Option Heading) (first' : List A) (second' : List B) →
      first_failing (line_checks form seen counts (words text)) ≡ None → seen' ≡ seen_after form begun (before ++ text ∷ []) →
      first' ≡ values_in a form First (before ++ text ∷ []) → second' ≡ values_in b form Second (before ++ text ∷ []) →
      IsWithin form seen' (items_in form First (before ++ text ∷ [])) (items_in form Second (before ++ text ∷ [])) →
      HasRead a b form begun bytes after (line + 1) seen' first' second'
  more seen' first' second' passes seen_is first_is second_is within =
      let one_more : take (line + 1) all ≡ before ++ text ∷ [] = take_line all line text (lines after) next in
      let inside = within_all in
      let room = read.room in
      record {
        counted = omega arith;
        room = omega arith;
        left = drop_line all line text (lines after) next;
        seen_is = seen_is ∙ ap (seen_after form begun) (sym one_more);
        first_is = first_is ∙ ap (values_in a form First) (sym one_more);
        second_is = second_is ∙ ap (values_in b form Second) (sym one_more);
        clear = λ i lt. clear_more (fault_after form begun all) line read.clear (checks_are ∙ passes) i (omega arith);
        within = subst (λ (ls : List (List ℕ)). IsWithin form seen' (items_in form First ls) (items_in form Second ls))
            (sym one_more) within;
      }

  pub skipped : first_failing (line_checks form seen counts (words text)) ≡ None → heading form (words text) ≡ None →
      IsNoItem form (words text) →
      HasRead a b form begun bytes after (line + 1) seen first second
  skipped passes no_heading no_item = more seen first second passes
      (read.seen_is ∙ sym (seen_same form before text begun no_heading))
      (read.first_is ∙ sym (values_same form before text a First no_item.0))
      (read.second_is ∙ sym (values_same form before text b Second no_item.1))
      (within_same form seen _ _ _ _ (items_same form before text First no_item.0) (items_same form before text Second no_item.1)
      read.within)

  pub found : (h : Heading) → first_failing (line_checks form seen counts (words text)) ≡ None →
      IsProblem form seen (words text) h → IsNoItem form (words text) →
      HasRead a b form begun bytes after (line + 1) (Some h) first second
  found h passes problem no_item =
      let none : (items_in form First before ≡ []) × (items_in form Second before ≡ []) =
      subst (λ s. IsWithin form s (items_in form First before) (items_in form Second before)) problem.first read.within in
      more (Some h) first second passes
      (sym (seen_found form before text begun h (sym read.seen_is ∙ problem.first) problem.declares))
      (read.first_is ∙ sym (values_same form before text a First no_item.0))
      (read.second_is ∙ sym (values_same form before text b Second no_item.1))
      (within_same form (Some h) [] [] _ _ (items_same form before text First no_item.0 ∙ none.0)
      (items_same form before text Second no_item.1 ∙ none.1)
      (problem.size, none_within form First h, none_within form Second h))

  -- the items before an item are within the limits
  before_item : (h : Heading) → seen ≡ Some h → IsWithin form (Some h) (items_in form First before) (items_in form Second before)
  before_item h is = subst (λ s. IsWithin form s (items_in form First before) (items_in form Second before)) is read.within

  taken_first : (i : Item) → first_failing (line_checks form seen counts (words text)) ≡ None → heading form (words text) ≡ None →
      IsItem form First seen counts.first (item form First (words text)) i → item form Second (words text) ≡ None →
      HasRead a b form begun bytes after (line + 1) seen (first ++ a i ∷ []) second
  taken_first i passes no_heading has no_other =
      let within = before_item has.declared has.seen_is in
      let few : counts.first ≡ length (items_in form First before) = ap (λ (c : Counts). c.first) counts_is in
      let room = has.room in
      let one_more = more_within form First has.declared (items_in form First before) has.ns within.1 (omega arith) has.within in
      more seen (first ++ a i ∷ []) second passes
      (read.seen_is ∙ sym (seen_same form before text begun no_heading))
      (ap (λ v. v ++ a i ∷ []) read.first_is ∙ sym (values_more form before text a First has.ns i has.has has.value))
      (read.second_is ∙ sym (values_same form before text b Second no_other))
      (subst (λ s. IsWithin form s (items_in form First (before ++ text ∷ [])) (items_in form Second (before ++ text ∷ [])))
      (sym has.seen_is)
      (within_same form (Some has.declared) _ _ _ _ (items_more form before text First has.ns has.has)
      (items_same form before text Second no_other) (within.0, one_more, within.2)))

  taken_second : (i : Item) → first_failing (line_checks form seen counts (words text)) ≡ None → heading form (words text) ≡ None →
      IsItem form Second seen counts.second (item form Second (words text)) i → item form First (words text) ≡ None →
      HasRead a b form begun bytes after (line + 1) seen first (second ++ b i ∷ [])
  taken_second i passes no_heading has no_other =
      let within = before_item has.declared has.seen_is in
      let few : counts.second ≡ length (items_in form Second before) = ap (λ (c : Counts). c.second) counts_is in
      let room = has.room in
      let one_more = more_within form Second has.declared (items_in form Second before) has.ns within.2 (omega arith) has.within in
      more seen first (second ++ b i ∷ []) passes
      (read.seen_is ∙ sym (seen_same form before text begun no_heading))
      (read.first_is ∙ sym (values_same form before text a First no_other))
      (ap (λ v. v ++ b i ∷ []) read.second_is ∙ sym (values_more form before text b Second has.ns i has.has has.value))
      (subst (λ s. IsWithin form s (items_in form First (before ++ text ∷ [])) (items_in form Second (before ++ text ∷ [])))
      (sym has.seen_is)
      (within_same form (Some has.declared) _ _ _ _ (items_same form before text First no_other)
      (items_more form before text Second has.ns has.has) (within.0, within.1, one_more)))

  -- what is read after a line with this content
  with_content : (content : Line) → IsLine form seen counts (words text) content →
      HasRead a b form begun bytes after (line + 1) (seen_with content seen) (values_with a First content first)
      (values_with b Second content second)
  with_content Skipped is = skipped is.0 is.1 is.2
  with_content (Problem h) is = found h is.0 is.1 is.2
  with_content (OfFirst i) is = taken_first i is.0 is.1 is.2 is.3
  with_content (OfSecond i) is = taken_second i is.0 is.1 is.2 is.3

-- one more line was read, and has this content
pub line_read : {A B : Type 0} {a : Item → A} {b : Item → B} {form : Form} {begun : Option Heading} {bytes rest after : List ℕ} {line : ℕ}
    {counts : Counts} {seen : Option Heading} {first : List A} {second : List B} {judged content : Line} →
    HasRead a b form begun bytes rest line seen first second → AreCounted counts first second →
    IsFirstLine form seen counts rest judged after → judged ≡ content →
    HasRead a b form begun bytes after (line + 1) (seen_with content seen) (values_with a First content first)
    (values_with b Second content second)
line_read {a = a} {b = b} {form = form} {begun = begun} {bytes = bytes} {rest = rest} {after = after} {line = line} {counts = counts}
    {seen = seen} {first = first} {second = second} {content = content} read counted next is =
    with_content a b form begun bytes rest next.text after line counts seen first second read next.split next.less counted content
    (subst (IsLine form seen counts (words next.text)) is next.is)

-- the result after all lines were read
pub all_lines : {A B : Type 0} (a : Item → A) (b : Item → B) (form : Form) (begun : Option Heading) (bytes rest : List ℕ) (line : ℕ)
    (seen : Option Heading) (first : List A) (second : List B) →
    HasRead a b form begun bytes rest line seen first second → true ≡ eqb (length rest) 0 →
    AreLines a b form begun (lines bytes) line seen first second
all_lines a b form begun bytes rest line seen first second read none =
    let empty : rest ≡ [] = nil_from_length rest (eqb-true (length rest) 0 (sym none)) in
    let no_more : length (drop line (lines bytes)) ≡ 0 = ap length (read.left ∙ ap lines empty) in
    let within = read.counted in
    let end : line ≡ length (lines bytes) = omega (arith, length-drop line (lines bytes)) in
    let all_taken : take line (lines bytes) ≡ lines bytes = take_all line (lines bytes) (omega arith) in
    record {
      counted = end;
      clear = λ i lt. read.clear i (omega arith);
      seen_is = read.seen_is ∙ ap (seen_after form begun) all_taken;
      first_is = read.first_is ∙ ap (values_in a form First) all_taken;
      second_is = read.second_is ∙ ap (values_in b form Second) all_taken;
      within = subst (λ (ls : List (List ℕ)). IsWithin form seen (items_in form First ls) (items_in form Second ls)) all_taken read.within;
    }

-- the fault of a line is its fault with no heading before all lines
from_start : (form : Form) (all : List (List ℕ)) (i : ℕ) → i < length all → fault_at form all i ≡ fault_after form None all i
from_start form all i lt = let within : ltb i (length all) ≡ true = grind (arith, nat_tests) in rw within refl

-- the first fault of the lines, with no heading before them, is the first fault of the file
pub error_from_start : (form : Form) (bytes : List ℕ) (e : ReadError) → IsErrorAfter form None bytes e → IsErrorOf form bytes e
error_from_start form bytes NoMemory is = tt
error_from_start form bytes (Fault f) is =
    let counted = is.counted in
    record {
      counted = (counted.0, omega arith);
      kind_is = from_start form (lines bytes) (f.line - 1) (omega arith) ∙ is.kind_is;
      first = λ i lt. from_start form (lines bytes) i (omega arith) ∙ is.first i lt;
    }

-- after the last line
module _ {A B : Type 0} (a : Item → A) (b : Item → B) (form : Form) (bytes : List ℕ) (line : ℕ) (counts : Counts)
    (seen : Option Heading) (first : List A) (second : List B)
    (read : AreLines a b form None (lines bytes) line seen first second) (counted : AreCounted counts first second) where
  clear_at : (i : ℕ) → i < length (lines bytes) → fault_at form (lines bytes) i ≡ None
  clear_at i lt = from_start form (lines bytes) i lt ∙ read.clear i lt

  end_checks_are : fault_at form (lines bytes) line ≡ first_failing (end_checks seen counts)
  end_checks_are =
      let counts_is : counts ≡ counts_in form (lines bytes) =
      counts_are a b form (lines bytes) counts first second counted read.first_is read.second_is in
      ap (fault_at form (lines bytes)) read.counted ∙ at_end form (lines bytes)
      ∙ sym (ap (λ s. first_failing (end_checks s counts)) read.seen_is
      ∙ ap (λ n. first_failing (end_checks (heading_in form (lines bytes)) n)) counts_is)

  pub fault_at_end : (kind : FaultKind) → first_failing (end_checks seen counts) ≡ Some kind → IsFault form bytes (line + 1) kind
  fault_at_end kind e =
      let back : line + 1 - 1 ≡ line = omega arith in
      let end = read.counted in
      record {
        counted = (omega arith, omega arith);
        kind_is = ap (fault_at form (lines bytes)) back ∙ end_checks_are ∙ e;
        first = λ i lt. clear_at i (omega arith);
      }

  pub whole_file : (h : Heading) → IsEnd seen counts h → IsFile form bytes h
  whole_file h passes = record {
    accepted = λ i le. (let end = read.counted in clear_more (fault_at form (lines bytes)) line (λ k lt. clear_at k (omega arith))
        (end_checks_are ∙ passes.0) i (omega arith));
    heading_is = sym read.seen_is ∙ passes.1;
    within = subst (λ s. IsWithin form s (items_in form First (lines bytes)) (items_in form Second (lines bytes))) passes.1 read.within;
  }

-- the content of the lines of a section
pub section_read : {A B : Type 0} (a : Item → A) (b : Item → B) (form : Form) (h : Heading) (all : List (List ℕ)) (line : ℕ)
    (seen : Option Heading) (first : List A) (second : List B) →
    AreLines a b form (Some h) all line seen first second → IsSection a b form h all first second
section_read a b form h all line seen first second read =
    let within = subst (λ s. IsWithin form s (items_in form First all) (items_in form Second all)) read.seen_is read.within in
    record {
      passes = λ k d lt. (
        counts_in form (take k all),
        subst (λ line. first_failing (line_checks form (Some h) (counts_in form (take k all)) (words line)) ≡ None)
            (get_or_default all k [] d lt) (read.clear k lt),
      );
      first_is = read.first_is;
      second_is = read.second_is;
      first_within = within.1.each;
      second_within = within.2.each;
    }

-- the head of a file was read, up to the problem line
pub head_read : {A B : Type 0} (a : Item → A) (b : Item → B) (form : Form) (bytes rest : List ℕ) (line : ℕ) (h : Heading) →
    HasRead {A = A} {B = B} a b form None bytes rest line (Some h) [] [] → BeginsWith form bytes h rest
head_read a b form bytes rest line h read =
    let front = take line (lines bytes) in
    let counted = read.counted in
    let long : length front ≡ line = omega (arith, length-take line (lines bytes)) in
    record {
      front = front;
      split = sym (take-append-drop line (lines bytes)) ∙ ap (λ ls. front ++ ls) read.left;
      head = record {
        clear = λ i lt. rw (
          sym (take-append-le i front (drop line (lines bytes)) (omega arith))
              ∙ ap (take i) (take-append-drop line (lines bytes)),
          get_or-take line (lines bytes) i [] (omega arith),
        )
            (read.clear i (omega arith));
        heading_is = sym read.seen_is;
        no_first = nil_from_length (items_in form First front)
            (sym (ap length read.first_is ∙ length-map (items_in form First front) (λ ns. a (item_from ns))));
        no_second = nil_from_length (items_in form Second front)
            (sym (ap length read.second_is ∙ length-map (items_in form Second front) (λ ns. b (item_from ns))));
        size = read.within.0;
      };
    }

-- the lines so far were skipped
abbrev pub HasSkipped : Form → List ℕ → List ℕ → Type 0
HasSkipped form bytes rest = (line : ℕ) × HasRead {A = Unit {0}} {B = Unit {0}} (λ i. tt) (λ i. tt) form None bytes rest line None [] []

pub skip_line : (form : Form) (bytes rest text after : List ℕ) (counts : Counts) → HasSkipped form bytes rest →
    lines rest ≡ text ∷ lines after → length after < length rest → counts ≡ record { first = 0; second = 0 } →
    first_failing (line_checks form None counts (words text)) ≡ None → heading form (words text) ≡ None →
    IsNoItem form (words text) → HasSkipped form bytes after
skip_line form bytes rest text after counts read split less is passes no_heading no_item = (
  read.0 + 1,
  skipped {A = Unit {0}} {B = Unit {0}} (λ i. tt) (λ i. tt) form None bytes rest text after read.0 counts None [] [] read.1 split
      less (counted_by counts 0 0 [] [] is refl refl) passes no_heading no_item,
)

pub head_line : (form : Form) (bytes rest text after : List ℕ) (counts : Counts) (h : Heading) → HasSkipped form bytes rest →
    lines rest ≡ text ∷ lines after → length after < length rest → counts ≡ record { first = 0; second = 0 } →
    first_failing (line_checks form None counts (words text)) ≡ None → IsProblem form None (words text) h →
    IsNoItem form (words text) → BeginsWith form bytes h after
head_line form bytes rest text after counts h read split less is passes problem no_item =
    head_read {A = Unit {0}} {B = Unit {0}} (λ i. tt) (λ i. tt) form bytes after (read.0 + 1) h
    (found {A = Unit {0}} {B = Unit {0}} (λ i. tt) (λ i. tt) form None bytes rest text after read.0 counts None [] [] read.1 split
    less (counted_by counts 0 0 [] [] is refl refl) h passes problem no_item)
