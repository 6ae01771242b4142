-- The lines of a saved hierarchy within the limits have no fault, and name it.
use Rattle.std.proofs.Common.{◌≡◌, ℕ, ◌+◌, ◌<◌, ◌≤◌, ◌^◌, true, false, List, [], ◌∷◌, ◌++◌, length, map, Contains, Option, Some}
use Rattle.std.proofs.Common.{None, refl, ◌∙◌, ap, arith}
use Rattle.std.specs.Prelude.{⊤, codes, decimal, is_some, option_map}
use Rattle.std.specs.List.{filter_map, cons_option}
use Rattle.std.specs.Option.{option_and_then}
use Rattle.std.proofs.lemmas.Bool.{lt-ltb}
use Rattle.std.proofs.lemmas.List.Elements.{All-cons}
use Rattle.ch_graph.specs.declared.limits.TheConstants.{MOST_NODES, MOST_WEIGHT, MOST_LEGS}
use Rattle.ch_graph.specs.declared.saved.SavedLeg.{SavedLeg}
use Rattle.ch_graph.specs.Saved.{OrderAndLegs}
use Rattle.ch_graph.proofs.Lists.{contains_head, contains_tail}
use Rattle.ch_read.specs.declared.fault.FaultKind.TheVariants.{SecondProblem, BadProblem, NodeRange, Sum, Size, TooMany}
use Rattle.ch_read.specs.declared.form.Form.{Form}
use Rattle.ch_read.specs.declared.form.Form.TheVariants.{Saved}
use Rattle.ch_read.specs.declared.form.Part.{Part}
use Rattle.ch_read.specs.declared.form.Part.TheVariants.{First, Second}
use Rattle.ch_read.specs.declared.form.Heading.{Heading}
use Rattle.ch_read.specs.Words.{words, number, is_blank}
use Rattle.ch_read.specs.Forms.{numbers, heading, item, count_of}
use Rattle.ch_read.specs.Checks.{is_size, are_nodes, is_weight, passes, first_failing, problem_checks, item_checks}
use Rattle.ch_read.proofs.WrittenLines.{IsPlain, Line, IsPlainLine, line_of, words_spaced, decimal_plain, number_decimal}

-- 0 for no middle
abbrev pub middle_word : Option ℕ → List ℕ
middle_word None = codes "0"
middle_word (Some v) = decimal (v + 1)

abbrev pub middle_number : Option ℕ → ℕ
middle_number None = 0
middle_number (Some v) = v + 1

abbrev pub leg_numbers : SavedLeg → List ℕ
leg_numbers l = (l.from + 1) ∷ (l.to + 1) ∷ l.cost.weight ∷ l.cost.arcs ∷ middle_number l.middle ∷ []

-- the three kinds of line, by their words
abbrev pub heading_line : ℕ → ℕ → Line
heading_line n m = (codes "p", codes "ch" ∷ decimal n ∷ decimal m ∷ [])

abbrev pub order_line : ℕ → Line
order_line v = (codes "o", decimal (v + 1) ∷ [])

abbrev pub leg_line : SavedLeg → Line
leg_line l =
    (codes "l", decimal (l.from + 1) ∷ decimal (l.to + 1) ∷ decimal l.cost.weight ∷ decimal l.cost.arcs ∷ middle_word l.middle ∷ [])

-- the lines: the numbers of nodes and legs, then the order, then the legs
abbrev pub saved_lines : OrderAndLegs → List Line
saved_lines s = heading_line (length s.order) (length s.legs) ∷ (map order_line s.order ++ map leg_line s.legs)

-- a leg that a line may hold
pub record IsLegWithin (n : ℕ) (l : SavedLeg) : Type 0 where
  pub from : l.from < n
  pub to : l.to < n
  pub weight : l.cost.weight ≤ MOST_WEIGHT
  pub arcs : l.cost.arcs ≤ MOST_NODES
  pub middle : (v : ℕ) → l.middle ≡ Some v → v < n

-- an order and legs that lines may hold
pub record AreWithin (n : ℕ) (s : OrderAndLegs) : Type 0 where
  pub small : n ≤ MOST_NODES
  pub count : length s.order ≡ n
  pub few : length s.legs ≤ MOST_LEGS
  pub nodes : (v : ℕ) → Contains s.order v → v < n
  pub legs : (l : SavedLeg) → Contains s.legs l → IsLegWithin n l

-- the words of the lines

pub plain_byte : (b : ℕ) → is_blank b ≡ false → IsPlain (b ∷ [])
plain_byte b e = record { some = omega arith; none = All-cons (λ x. is_blank x ≡ false) b [] e (λ k d lt. absurd (omega arith)) }

pub plain_bytes : (a b : ℕ) → is_blank a ≡ false → is_blank b ≡ false → IsPlain (a ∷ b ∷ [])
plain_bytes a b e f = record { some = omega arith; none = All-cons (λ x. is_blank x ≡ false) a (b ∷ []) e (plain_byte b f).none }

pub line_words : (l : Line) → IsPlainLine l → words (line_of l) ≡ l.0 ∷ l.1
line_words l plain = words_spaced l.0 l.1 plain.0 plain.1

-- the words write these numbers
abbrev pub Write : List (List ℕ) → List ℕ → Type 0
Write [] [] = ⊤
Write [] (n ∷ ns) = ⊥
Write (w ∷ ws) [] = ⊥
Write (w ∷ ws) (n ∷ ns) = (number w ≡ Some n) × Write ws ns

pub numbers_read : (ws : List (List ℕ)) (ns : List ℕ) → Write ws ns → numbers ws ≡ Some ns
numbers_read [] [] are = refl
numbers_read [] (n ∷ ns) are = absurd are
numbers_read (w ∷ ws) [] are = absurd are
numbers_read (w ∷ ws) (n ∷ ns) are = λ i. option_and_then (λ m. option_map (λ ms. m ∷ ms) (numbers_read ws ns are.1 i)) (are.0 i)

module _ (n : ℕ) (small : n ≤ MOST_NODES) where
  fits : (v : ℕ) → v < n → v + 1 < 2 ^ 64
  fits v lt = omega arith

  middle_plain : (m : Option ℕ) → ((v : ℕ) → m ≡ Some v → v < n) → IsPlain (middle_word m)
  middle_plain None below = plain_byte 48 refl
  middle_plain (Some v) below = decimal_plain (v + 1) (fits v (below v refl))

  middle_read : (m : Option ℕ) → ((v : ℕ) → m ≡ Some v → v < n) → number (middle_word m) ≡ Some (middle_number m)
  middle_read None below = refl
  middle_read (Some v) below = number_decimal (v + 1) (fits v (below v refl))

  pub order_plain : (v : ℕ) → v < n → IsPlainLine (order_line v)
  order_plain v lt = (plain_byte 111 refl, (decimal_plain (v + 1) (fits v lt), tt))

  pub leg_plain : (l : SavedLeg) → IsLegWithin n l → IsPlainLine (leg_line l)
  leg_plain l is =
      let weight = is.weight in
      let arcs = is.arcs in (
        plain_byte 108 refl,
        (
          decimal_plain (l.from + 1) (fits l.from is.from),
          (
            decimal_plain (l.to + 1) (fits l.to is.to),
            (decimal_plain l.cost.weight (omega arith), (decimal_plain l.cost.arcs (omega arith), (middle_plain l.middle is.middle, tt))),
          ),
        ),
      )

  -- the numbers of the lines of the order
  pub order_item : (v : ℕ) → v < n → item (Saved n) First (codes "o" ∷ (order_line v).1) ≡ Some ((v + 1) ∷ [])
  order_item v lt = numbers_read (order_line v).1 ((v + 1) ∷ []) (number_decimal (v + 1) (fits v lt), tt)

  pub leg_item : (l : SavedLeg) → IsLegWithin n l → item (Saved n) Second (codes "l" ∷ (leg_line l).1) ≡ Some (leg_numbers l)
  leg_item l is =
      let weight = is.weight in
      let arcs = is.arcs in
      numbers_read (leg_line l).1 (leg_numbers l) (
        number_decimal (l.from + 1) (fits l.from is.from),
        (
          number_decimal (l.to + 1) (fits l.to is.to),
          (number_decimal l.cost.weight (omega arith), (number_decimal l.cost.arcs (omega arith), (middle_read l.middle is.middle, tt))),
        ),
      )

-- the values of lines that each have one, and of lines that have none
module _ {X Y : Type 0} (f : X → List ℕ) (p : List ℕ → Option Y) where
  pub found_in : (q : X → Y) (xs : List X) → ((x : X) → Contains xs x → p (f x) ≡ Some (q x)) → filter_map p (map f xs) ≡ map q xs
  found_in q [] each = refl
  found_in q (x ∷ xs) each = λ i. cons_option (each x (contains_head x xs) i) (found_in q xs (λ y c. each y (contains_tail y x xs c)) i)

  pub none_in : (xs : List X) → ((x : X) → Contains xs x → p (f x) ≡ None) → filter_map p (map f xs) ≡ []
  none_in [] each = refl
  none_in (x ∷ xs) each = λ i. cons_option (each x (contains_head x xs) i) (none_in xs (λ y c. each y (contains_tail y x xs c)) i)

-- checks that all pass

pub problem_clear : (form : Form) (ws : List (List ℕ)) (h : Heading) → heading form ws ≡ Some h → is_size form h ≡ true →
    first_failing (problem_checks form None ws) ≡ None
problem_clear form ws h found size =
    ap (λ o. first_failing ((true, SecondProblem) ∷ (is_some o, BadProblem) ∷ (passes (is_size form) o, Size) ∷ [])) found
    ∙ ap (λ b. first_failing ((b, Size) ∷ [])) size

pub item_clear : (form : Form) (part : Part) (h : Heading) (count : ℕ) (o : Option (List ℕ)) (ns : List ℕ) → o ≡ Some ns →
    count < count_of h.items part →
    are_nodes form part h.nodes ns ≡ true → is_weight form part h.nodes ns ≡ true →
    first_failing (item_checks form part (Some h) count o) ≡ None
item_clear form part h count o ns read few nodes weight =
    ap (λ q. first_failing (item_checks form part (Some h) count q)) read
    ∙ ap (λ b. first_failing ((b, TooMany) ∷ (are_nodes form part h.nodes ns, NodeRange) ∷ (is_weight form part h.nodes ns, Sum)
    ∷ [])) (lt-ltb count (count_of h.items part) few)
    ∙ ap (λ b. first_failing ((b, NodeRange) ∷ (is_weight form part h.nodes ns, Sum) ∷ [])) nodes
    ∙ ap (λ b. first_failing ((b, Sum) ∷ [])) weight
