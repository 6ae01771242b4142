-- The text of an order and legs within the limits names this order and these legs.
use Rattle.std.proofs.Common.{◌≡◌, ℕ, zero, suc, ◌+◌, ◌-◌, ◌<◌, ◌≤◌, ◌&&◌, true, false, eqb, leb, ltb, List, [], ◌∷◌, ◌++◌, length}
use Rattle.std.proofs.Common.{map, take, drop, get_or, Contains, Option, Some, None, refl, sym, ◌∙◌, ap, subst, arith, inl, inr}
use Rattle.std.specs.Prelude.{codes, decimal, slice_get, option_map}
use Rattle.std.specs.List.{filter_map, cons_option}
use Rattle.std.proofs.Math.Seq.{take-append-add}
use Rattle.std.proofs.lemmas.Bool.{cases_lt, lt-ltb, le-leb}
use Rattle.std.proofs.lemmas.Bool.Decides.{nat_tests}
use Rattle.std.proofs.lemmas.List.{length-map, length-append, take-map, take-append-le, take-append-drop, get_or-map}
use Rattle.std.proofs.lemmas.List.{get_or_append_left, get_or-append_right, append-nil, map-append, length-take-le}
use Rattle.std.proofs.lemmas.List.Elements.{filter_map-append, Contains-get_or, Contains-append_left, Contains-append_cases}
use Rattle.std.proofs.lemmas.Simd.{map-map}
use Rattle.ch_graph.specs.declared.limits.TheConstants.{MOST_NODES, MOST_WEIGHT, MOST_LEGS}
use Rattle.ch_graph.specs.declared.saved.SavedLeg.{SavedLeg}
use Rattle.ch_graph.specs.Saved.{OrderAndLegs}
use Rattle.ch_graph.proofs.Lists.{contains_none, contains_cons, contains_map_of}
use Rattle.ch_read.specs.declared.fault.FaultKind.TheVariants.{TooFew}
use Rattle.ch_read.specs.declared.form.Form.TheVariants.{Saved}
use Rattle.ch_read.specs.declared.form.Part.TheVariants.{First, Second}
use Rattle.ch_read.specs.declared.form.Heading.{Heading}
use Rattle.ch_read.specs.Words.{lines, words}
use Rattle.ch_read.specs.Forms.{heading, heading_from, item, heading_in, items_in, counts_in}
use Rattle.ch_read.specs.Checks.{first_failing, line_checks, line_fault, end_checks, end_fault, fault_at}
use Rattle.ch_read.specs.Names.{node_from, node_or_none, leg_from, NamesSaved}
use Rattle.ch_read.proofs.OneAnswer.{at_end}
use Rattle.ch_read.proofs.WrittenLines.{Line, IsPlainLine, line_of, text_of, lines_text, decimal_plain, number_decimal}
use Rattle.ch_read.proofs.WrittenSaved.{middle_number, leg_numbers, heading_line, order_line, leg_line, saved_lines, IsLegWithin}
use Rattle.ch_read.proofs.WrittenSaved.{AreWithin, plain_byte, plain_bytes, line_words, numbers_read, order_plain, leg_plain}
use Rattle.ch_read.proofs.WrittenSaved.{order_item, leg_item, found_in, none_in, problem_clear, item_clear}

-- an element among the first ones is in the list
contains_take : {X : Type 0} (k : ℕ) (xs : List X) (x : X) → Contains (take k xs) x → Contains xs x
contains_take k xs x h = subst (λ q. Contains q x) (take-append-drop k xs) (Contains-append_left (take k xs) (drop k xs) x h)

abbrev order_of : ℕ → List ℕ
order_of v = line_of (order_line v)

abbrev leg_of : SavedLeg → List ℕ
leg_of l = line_of (leg_line l)

module _ (n : ℕ) (s : OrderAndLegs) (is : AreWithin n s) where
  abbrev declared : Heading
  declared = record { nodes = length s.order; items = record { first = length s.order; second = length s.legs } }

  abbrev head : List ℕ
  head = line_of (heading_line (length s.order) (length s.legs))

  -- the first line, and then the lines of some nodes and legs
  abbrev body : List ℕ → List SavedLeg → List (List ℕ)
  body os ls = head ∷ (map order_of os ++ map leg_of ls)

  head_plain : IsPlainLine (heading_line (length s.order) (length s.legs))
  head_plain =
      let small = is.small in
      let count = is.count in
      let few = is.few in (
        plain_byte 112 refl,
        (
          plain_bytes 99 104 refl refl,
          (decimal_plain (length s.order) (omega arith), (decimal_plain (length s.legs) (omega arith), tt)),
        ),
      )

  head_words : words head ≡ codes "p" ∷ codes "ch" ∷ decimal (length s.order) ∷ decimal (length s.legs) ∷ []
  head_words = line_words (heading_line (length s.order) (length s.legs)) head_plain

  head_numbers : heading (Saved n) (codes "p" ∷ codes "ch" ∷ decimal (length s.order) ∷ decimal (length s.legs) ∷ []) ≡ Some declared
  head_numbers =
      let small = is.small in
      let count = is.count in
      let few = is.few in
      ap (option_map (heading_from (Saved n)))
      (numbers_read (decimal (length s.order) ∷ decimal (length s.legs) ∷ []) (length s.order ∷ length s.legs ∷ [])
      (number_decimal (length s.order) (omega arith), (number_decimal (length s.legs) (omega arith), tt)))

  -- the first line declares the heading of all lines
  heading_here : (xs : List (List ℕ)) → heading_in (Saved n) (head ∷ xs) ≡ Some declared
  heading_here xs = ap (λ o. slice_get (cons_option o (filter_map (λ line. heading (Saved n) (words line)) xs)) 0)
      (ap (heading (Saved n)) head_words ∙ head_numbers)

  module _ (os : List ℕ) (ls : List SavedLeg) (nodes : (v : ℕ) → Contains os v → v < n)
      (legs : (l : SavedLeg) → Contains ls l → IsLegWithin n l) where
    -- the lines of the order have the numbers of its nodes
    first_in : items_in (Saved n) First (body os ls) ≡ map (λ v. (v + 1) ∷ []) os
    first_in =
        let p : List ℕ → Option (List ℕ) = λ line. item (Saved n) First (words line) in
        let orders = found_in order_of p (λ v. (v + 1) ∷ []) os
        (λ v c. ap (item (Saved n) First) (line_words (order_line v) (order_plain n is.small v (nodes v c)))
        ∙ order_item n is.small v (nodes v c)) in
        let none = none_in leg_of p ls (λ l c. ap (item (Saved n) First) (line_words (leg_line l) (leg_plain n is.small l (legs l c)))) in
        ap (λ o. cons_option o (filter_map p (map order_of os ++ map leg_of ls))) (ap (item (Saved n) First) head_words)
        ∙ filter_map-append p (map order_of os) (map leg_of ls) ∙ (λ i. orders i ++ none i) ∙ append-nil (map (λ v. (v + 1) ∷ []) os)

    -- the lines of the legs have their numbers
    second_in : items_in (Saved n) Second (body os ls) ≡ map leg_numbers ls
    second_in =
        let p : List ℕ → Option (List ℕ) = λ line. item (Saved n) Second (words line) in
        let none = none_in order_of p os
        (λ v c. ap (item (Saved n) Second) (line_words (order_line v) (order_plain n is.small v (nodes v c)))) in
        let found = found_in leg_of p leg_numbers ls
        (λ l c. ap (item (Saved n) Second) (line_words (leg_line l) (leg_plain n is.small l (legs l c)))
        ∙ leg_item n is.small l (legs l c)) in
        ap (λ o. cons_option o (filter_map p (map order_of os ++ map leg_of ls))) (ap (item (Saved n) Second) head_words)
        ∙ filter_map-append p (map order_of os) (map leg_of ls) ∙ (λ i. none i ++ found i)

    -- the line of the next node has no fault
    order_clear : (v : ℕ) → v < n → length os < length s.order → line_fault (Saved n) (body os ls) (order_of v) ≡ None
    order_clear v lt few =
        let plain = order_plain n is.small v lt in
        let size : length (items_in (Saved n) First (body os ls)) ≡ length os =
        ap length first_in ∙ length-map os (λ (v : ℕ). (v + 1) ∷ []) in
        let count = is.count in
        let low : leb 1 (v + 1) ≡ true = le-leb 1 (v + 1) (omega arith) in
        let high : leb (v + 1) (length s.order) ≡ true = le-leb (v + 1) (length s.order) (omega arith) in
        (λ i. first_failing (line_checks (Saved n) (heading_here (map order_of os ++ map leg_of ls) i)
        (counts_in (Saved n) (body os ls)) (line_words (order_line v) plain i)))
        ∙ item_clear (Saved n) First declared (length (items_in (Saved n) First (body os ls)))
        (item (Saved n) First (codes "o" ∷ (order_line v).1)) ((v + 1) ∷ []) (order_item n is.small v lt) (omega arith)
        (λ i. ((low i && high i) && true) && true) refl

    -- the line of the next leg has no fault
    leg_clear : (l : SavedLeg) → IsLegWithin n l → length ls < length s.legs → line_fault (Saved n) (body os ls) (leg_of l) ≡ None
    leg_clear l within few =
        let plain = leg_plain n is.small l within in
        let size : length (items_in (Saved n) Second (body os ls)) ≡ length ls = ap length second_in ∙ length-map ls leg_numbers in
        let count = is.count in
        let from = within.from in
        let to = within.to in
        let a : leb 1 (l.from + 1) ≡ true = le-leb 1 (l.from + 1) (omega arith) in
        let b : leb (l.from + 1) (length s.order) ≡ true = le-leb (l.from + 1) (length s.order) (omega arith) in
        let c : leb 1 (l.to + 1) ≡ true = le-leb 1 (l.to + 1) (omega arith) in
        let d : leb (l.to + 1) (length s.order) ≡ true = le-leb (l.to + 1) (length s.order) (omega arith) in
        let e : leb (middle_number l.middle) (length s.order) ≡ true =
        le-leb (middle_number l.middle) (length s.order) (middle_below l.middle within.middle) in
        let w = le-leb l.cost.weight MOST_WEIGHT within.weight in
        let arcs = le-leb l.cost.arcs MOST_NODES within.arcs in
        (λ i. first_failing (line_checks (Saved n) (heading_here (map order_of os ++ map leg_of ls) i)
        (counts_in (Saved n) (body os ls)) (line_words (leg_line l) plain i)))
        ∙ item_clear (Saved n) Second declared (length (items_in (Saved n) Second (body os ls)))
        (item (Saved n) Second (codes "l" ∷ (leg_line l).1)) (leg_numbers l) (leg_item n is.small l within) (omega arith)
        (λ i. ((a i && b i) && ((c i && d i) && true)) && e i) (λ i. w i && arcs i)
      where
        middle_below : (m : Option ℕ) → ((v : ℕ) → m ≡ Some v → v < n) → middle_number m ≤ length s.order
        middle_below None below = omega arith
        middle_below (Some v) below = let lt = below v refl in let count = is.count in omega arith

  -- the first line has no fault
  head_clear : line_fault (Saved n) [] head ≡ None
  head_clear =
      let few : leb (length s.legs) MOST_LEGS ≡ true = le-leb (length s.legs) MOST_LEGS is.few in
      let count = is.count in
      let same : eqb (length s.order) n ≡ true = grind (arith, nat_tests, count) in
      (λ i. first_failing (line_checks (Saved n) None (counts_in (Saved n) []) (head_words i)))
      ∙ problem_clear (Saved n) (codes "p" ∷ codes "ch" ∷ decimal (length s.order) ∷ decimal (length s.legs) ∷ []) declared
      head_numbers (λ i. same i && few i)

  abbrev all_lines : List (List ℕ)
  all_lines = body s.order s.legs

  nodes_first : (k : ℕ) (v : ℕ) → Contains (take k s.order) v → v < n
  nodes_first k v h = is.nodes v (contains_take k s.order v h)

  legs_first : (k : ℕ) (l : SavedLeg) → Contains (take k s.legs) l → IsLegWithin n l
  legs_first k l h = is.legs l (contains_take k s.legs l h)

  no_legs : (l : SavedLeg) → Contains [] l → IsLegWithin n l
  no_legs l h = absurd (contains_none l h)

  -- a line after the first
  abbrev line_after : ℕ → Type 0
  line_after j = line_fault (Saved n) (take (suc j) all_lines) (get_or all_lines (suc j) []) ≡ None

  order_after : (j : ℕ) → j < length s.order → line_after j
  order_after j lt =
      let os = map order_of s.order in
      let size : length os ≡ length s.order = length-map s.order order_of in
      let before : take j (os ++ map leg_of s.legs) ≡ map order_of (take j s.order) ++ [] =
      take-append-le j os (map leg_of s.legs) (omega arith) ∙ take-map order_of j s.order
      ∙ sym (append-nil (map order_of (take j s.order))) in
      let here : get_or (os ++ map leg_of s.legs) j [] ≡ order_of (get_or s.order j 0) =
      get_or_append_left os (map leg_of s.legs) [] j (omega arith) ∙ get_or-map order_of s.order j 0 [] lt in
      let shorter : length (take j s.order) ≡ j = length-take-le j s.order (omega arith) in
      (λ i. line_fault (Saved n) (head ∷ before i) (here i))
      ∙ order_clear (take j s.order) [] (nodes_first j) no_legs (get_or s.order j 0)
      (is.nodes (get_or s.order j 0) (Contains-get_or s.order j 0 lt)) (omega arith)

  leg_after : (j : ℕ) → length s.order ≤ j → j < length s.order + length s.legs → line_after j
  leg_after j ge lt =
      let os = map order_of s.order in
      let k : ℕ = j - length s.order in
      let inside : k < length s.legs = omega arith in
      let size : length os ≡ length s.order = length-map s.order order_of in
      let place : j ≡ length os + k = omega arith in
      let no_leg : SavedLeg = record { from = 0; to = 0; cost = record { weight = 0; arcs = 0 }; middle = None } in
      let before : take j (os ++ map leg_of s.legs) ≡ os ++ map leg_of (take k s.legs) =
      ap (λ q. take q (os ++ map leg_of s.legs)) place ∙ take-append-add os (map leg_of s.legs) k
      ∙ ap (λ (q : List (List ℕ)). os ++ q) (take-map leg_of k s.legs) in
      let here : get_or (os ++ map leg_of s.legs) j [] ≡ leg_of (get_or s.legs k no_leg) =
      get_or-append_right os (map leg_of s.legs) (length s.order) j [] size ge ∙ get_or-map leg_of s.legs k no_leg [] inside in
      let shorter : length (take k s.legs) ≡ k = length-take-le k s.legs (omega arith) in
      (λ i. line_fault (Saved n) (head ∷ before i) (here i))
      ∙ leg_clear s.order (take k s.legs) is.nodes (legs_first k) (get_or s.legs k no_leg)
      (is.legs (get_or s.legs k no_leg) (Contains-get_or s.legs k no_leg inside)) (omega arith)

  -- the end has no fault
  end_clear : end_fault (Saved n) all_lines ≡ None
  end_clear =
      let first : leb (length s.order) (length (items_in (Saved n) First (body s.order s.legs))) ≡ true =
      le-leb _ _ (let e : length (items_in (Saved n) First (body s.order s.legs)) ≡ length s.order = ap length
      (first_in s.order s.legs is.nodes is.legs) ∙ length-map s.order (λ (v : ℕ). (v + 1) ∷ []) in omega arith) in
      let second : leb (length s.legs) (length (items_in (Saved n) Second (body s.order s.legs))) ≡ true =
      le-leb _ _ (let e : length (items_in (Saved n) Second (body s.order s.legs)) ≡ length s.legs =
      ap length (second_in s.order s.legs is.nodes is.legs) ∙ length-map s.legs leg_numbers in omega arith) in
      (λ i. first_failing (end_checks (heading_here (map order_of s.order ++ map leg_of s.legs) i)
      (counts_in (Saved n) (body s.order s.legs))))
      ∙ (λ i. first_failing ((first i && second i, TooFew) ∷ []))

  size_all : length all_lines ≡ suc (length s.order + length s.legs)
  size_all =
      ap suc (length-append (map order_of s.order) (map leg_of s.legs) ∙ (λ i. length-map s.order order_of i + length-map s.legs leg_of i))

  -- the fault of a line is the one after the lines before it
  at_place : (i : ℕ) → i < length all_lines →
      fault_at (Saved n) all_lines i ≡ line_fault (Saved n) (take i all_lines) (get_or all_lines i [])
  at_place i lt = let within : ltb i (length all_lines) ≡ true = lt-ltb i (length all_lines) lt in rw within refl

  -- no line has a fault
  all_clear : (i : ℕ) → i ≤ length all_lines → fault_at (Saved n) all_lines i ≡ None
  all_clear i le = elim (cases_lt i (length all_lines)) [
    | inl lt ↦ at_place i lt ∙ at i lt
    | inr ge ↦ (let same : i ≡ length all_lines = omega arith in
        ap (fault_at (Saved n) all_lines) same ∙ at_end (Saved n) all_lines ∙ end_clear)
  ]
    where
      at : (i : ℕ) → i < length all_lines → line_fault (Saved n) (take i all_lines) (get_or all_lines i []) ≡ None
      at zero lt = head_clear
      at (suc j) lt = elim (cases_lt j (length s.order)) [
        | inl less ↦ order_after j less
        | inr more ↦ leg_after j more (let size = size_all in omega arith)
      ]

  -- the text has these lines
  text_lines : lines (text_of (saved_lines s)) ≡ all_lines
  text_lines =
      let rest : map line_of (map order_line s.order ++ map leg_line s.legs) ≡ map order_of s.order ++ map leg_of s.legs =
      map-append line_of (map order_line s.order) (map leg_line s.legs)
      ∙ (λ i. map-map line_of order_line s.order i ++ map-map line_of leg_line s.legs i) in
      lines_text (saved_lines s) plain ∙ ap (λ (q : List (List ℕ)). head ∷ q) rest
    where
      plain : (l : Line) → Contains (saved_lines s) l → IsPlainLine l
      plain l h = elim (contains_cons (heading_line (length s.order) (length s.legs)) l (map order_line s.order ++ map leg_line s.legs) h) [
        | inl first ↦ subst IsPlainLine first head_plain
        | inr later ↦ elim (Contains-append_cases (map order_line s.order) (map leg_line s.legs) l later) [
          | inl order ↦ let r = contains_map_of order_line s.order l order in
              subst IsPlainLine r.2 (order_plain n is.small r.0 (is.nodes r.0 r.1))
          | inr leg ↦ let r = contains_map_of leg_line s.legs l leg in subst IsPlainLine r.2 (leg_plain n is.small r.0 (is.legs r.0 r.1))
        ]
      ]

  -- the text names the order and the legs
  pub reads_back : NamesSaved (text_of (saved_lines s)) n s
  reads_back = record {
    accepted = subst (λ all. (i : ℕ) → i ≤ length all → fault_at (Saved n) all i ≡ None) (sym text_lines) all_clear;
    order = sym (ap (map node_from) (ap (items_in (Saved n) First) text_lines ∙ first_in s.order s.legs is.nodes is.legs)
        ∙ read_again (λ v. (v + 1) ∷ []) node_from (λ v. omega arith) s.order);
    legs = sym (ap (map leg_from) (ap (items_in (Saved n) Second) text_lines ∙ second_in s.order s.legs is.nodes is.legs)
        ∙ read_again leg_numbers leg_from same_leg s.legs);
  }
    where
      read_again : {X : Type 0} (f : X → List ℕ) (g : List ℕ → X) → ((x : X) → g (f x) ≡ x) → (xs : List X) → map g (map f xs) ≡ xs
      read_again f g same [] = refl
      read_again f g same (x ∷ xs) = λ i. same x i ∷ read_again f g same xs i

      same_middle : (m : Option ℕ) → node_or_none (middle_number m) ≡ m
      same_middle None = refl
      same_middle (Some v) = let some : eqb (v + 1) 0 ≡ false = grind (arith, nat_tests) in
          let back : v + 1 - 1 ≡ v = omega arith in rw (some, back) refl

      same_leg : (l : SavedLeg) → leg_from (leg_numbers l) ≡ l
      same_leg l =
          let from : l.from + 1 - 1 ≡ l.from = omega arith in
          let to : l.to + 1 - 1 ≡ l.to = omega arith in
          λ i. record { from = from i; to = to i; cost = l.cost; middle = same_middle l.middle i }
