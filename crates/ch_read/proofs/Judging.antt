-- The checks of one line: the words before the numbers, and the limits on capped numbers.
use Rattle.std.proofs.Common.{Bor, ◌≡◌, ℕ, zero, suc, ◌-◌, ◌*◌, ◌<◌, ◌≤◌, ◌^◌, ◌⊎◌, inl, inr, ◌&&◌, Bool, true, false, cond, eqb}
use Rattle.std.proofs.Common.{leb, ltb, List, [], ◌∷◌, ◌++◌, length, map, take, get_or, Option, Some, None, refl, sym, ◌∙◌, ap}
use Rattle.std.proofs.Common.{arith, append_assoc, lit<, lit≤, zero-mul}
use Rattle.std.specs.Prelude.{MatchOption, replicate}
use Rattle.std.specs.List.{list_all}
use Rattle.std.specs.Str.{bytes_eq}
use Rattle.std.proofs.Math.Nat.{eq-zero-or-pos}
use Rattle.std.proofs.lemmas.Bool.{cases_lt, eqb-true, leb-true}
use Rattle.std.proofs.lemmas.Bool.Decides.{nat_tests}
use Rattle.std.proofs.lemmas.List.{append-nil, get_or_past}
use Rattle.std.proofs.lemmas.Option.{none-some}
use Rattle.ch_graph.specs.declared.limits.TheConstants.{MOST_NODES, MOST_WEIGHT}
use Rattle.ch_read.specs.declared.form.Form.{Form}
use Rattle.ch_read.specs.declared.form.Form.TheVariants.{Graph, Queries, Nodes, Saved}
use Rattle.ch_read.specs.declared.form.Part.{Part}
use Rattle.ch_read.specs.declared.form.Part.TheVariants.{First, Second}
use Rattle.ch_read.specs.declared.form.Heading.{Heading}
use Rattle.ch_read.specs.declared.fault.FaultKind.TheVariants.{NodeRange, Sum}
use Rattle.ch_read.specs.Words.{words}
use Rattle.ch_read.specs.Forms.{numbers, numbers_after, item_size, node_count, count_of}
use Rattle.ch_read.specs.Checks.{is_node, is_middle, are_nodes, is_weight, first_failing, item_checks}
use Rattle.ch_read.specs.Reading.{IsOther, IsAfter, AreCapped, greatest, capped_number, item_from, IsItemWithin, IsItem}
use Rattle.ch_read.proofs.Numbers.{both, length-numbers}

-- words before the numbers, in two parts

pub other_front : (front next ws : List (List ℕ)) → IsOther front ws → IsOther (front ++ next) ws
other_front front next ws other more count = rw append_assoc (other (next ++ more) count)

pub and_next : (front next ws rest : List (List ℕ)) (o : Option (Bor (List ℕ))) → IsAfter front ws rest →
    MatchOption o (IsOther next rest) (λ after. IsAfter next rest (words after.now)) →
    MatchOption o (IsOther (front ++ next) ws) (λ after. IsAfter (front ++ next) ws (words after.now))
and_next front next ws rest None begins other = λ more count. rw append_assoc (begins (next ++ more) count ∙ other more count)
and_next front next ws rest (Some after) begins again = λ more count. rw append_assoc (begins (next ++ more) count ∙ again more count)

-- the numbers after the words before them
pub numbers_next : (front ws rest : List (List ℕ)) (count : ℕ) → IsAfter front ws rest →
    numbers_after front count ws ≡ numbers_after [] count rest
numbers_next front ws rest count begins = ap (λ hs. numbers_after hs count ws) (sym (append-nil front)) ∙ begins [] count

pub no_numbers : (front ws : List (List ℕ)) (count : ℕ) → IsOther front ws → numbers_after front count ws ≡ None
no_numbers front ws count other = ap (λ hs. numbers_after hs count ws) (sym (append-nil front)) ∙ other [] count

pub length-numbers_after : (front ws : List (List ℕ)) (count : ℕ) (ns : List ℕ) → numbers_after front count ws ≡ Some ns → length ns ≡ count
length-numbers_after [] ws count ns e = at (eqb (length ws) count) refl e
  where
    at : (b : Bool) → eqb (length ws) count ≡ b → cond b (numbers ws) None ≡ Some ns → length ns ≡ count
    at true h e = length-numbers ws ns e ∙ eqb-true (length ws) count h
    at false h e = absurd (none-some ns e)
length-numbers_after (h ∷ hs) [] count ns e = absurd (none-some ns e)
length-numbers_after (h ∷ hs) (w ∷ ws) count ns e = at (bytes_eq w h) e (length-numbers_after hs ws count ns)
  where
    at : (b : Bool) → cond b (numbers_after hs count ws) None ≡ Some ns → (numbers_after hs count ws ≡ Some ns → length ns ≡ count) →
        length ns ≡ count
    at true e more = more e
    at false e more = absurd (none-some ns e)

-- a capped number passes a limit exactly if the number does

zero_at : (m k : ℕ) → get_or (replicate {A = ℕ} m 0) k 0 ≡ 0
zero_at zero k = refl
zero_at (suc m) zero = refl
zero_at (suc m) (suc k) = zero_at m k

pub capped_at : (ns : List ℕ) (m k : ℕ) → get_or (map capped_number ns ++ replicate m 0) k 0 ≡ capped_number (get_or ns k 0)
capped_at [] m k = zero_at m k
capped_at (n ∷ ns) m zero = refl
capped_at (n ∷ ns) m (suc k) = capped_at ns m k

capped_same : (n : ℕ) → n ≤ greatest → capped_number n ≡ n
capped_same n le = omega arith

capped_le : (n m : ℕ) → m < greatest → leb (capped_number n) m ≡ leb n m
capped_le n m lt = grind (arith, nat_tests)

one_le_capped : (n : ℕ) → leb 1 (capped_number n) ≡ leb 1 n
one_le_capped n = grind (arith, nat_tests)

is_node-capped : (nodes v : ℕ) → nodes < 2 ^ 32 → is_node nodes (capped_number v) ≡ is_node nodes v
is_node-capped nodes v small =
    let fits : nodes < greatest = omega arith in
    rw (one_le_capped v, capped_le v nodes fits) refl

nodes-capped : (nodes : ℕ) → nodes < 2 ^ 32 → (k : ℕ) (ns : List ℕ) (m : ℕ) → k ≤ length ns →
    list_all (is_node nodes) (take k (map capped_number ns ++ replicate m 0)) ≡ list_all (is_node nodes) (take k ns)
nodes-capped nodes small zero ns m le = refl
nodes-capped nodes small (suc k) [] m le = absurd (omega arith)
nodes-capped nodes small (suc k) (n ∷ ns) m le = rw (is_node-capped nodes n small, nodes-capped nodes small k ns m (omega arith)) refl

past_limit : (n m : ℕ) → m < n → leb n m ≡ false
past_limit n m lt = grind (arith, nat_tests)

-- a weight times a number of nodes above 0 is at least the weight
no_less : (nodes w : ℕ) → 0 < nodes → w ≤ nodes * w
no_less nodes w some = grind arith

weight-capped : (nodes w : ℕ) → leb (nodes * capped_number w) MOST_WEIGHT ≡ leb (nodes * w) MOST_WEIGHT
weight-capped nodes w = at (cases_lt greatest w) (eq-zero-or-pos nodes)
  where
    at : (greatest < w) ⊎ (w ≤ greatest) → (nodes ≡ 0) ⊎ (0 < nodes) →
        leb (nodes * capped_number w) MOST_WEIGHT ≡ leb (nodes * w) MOST_WEIGHT
    at (inr le) z = rw (capped_same w le) refl
    at (inl lt) (inl none) =
        let capped_none : nodes * capped_number w ≡ 0 = ap (λ n. n * capped_number w) none ∙ zero-mul (capped_number w) in
        let real_none : nodes * w ≡ 0 = ap (λ n. n * w) none ∙ zero-mul w in
        rw (capped_none, real_none) refl
    at (inl lt) (inr some) =
        let greatest : capped_number w ≡ greatest = omega arith in
        let capped_past : MOST_WEIGHT < nodes * capped_number w = omega (arith, no_less nodes (capped_number w) some) in
        let real_past : MOST_WEIGHT < nodes * w = omega (arith, no_less nodes w some) in
        past_limit (nodes * capped_number w) MOST_WEIGHT capped_past ∙ sym (past_limit (nodes * w) MOST_WEIGHT real_past)

all_at : (p : ℕ → Bool) (k : ℕ) (ns : List ℕ) (i : ℕ) → i < k → i < length ns → list_all p (take k ns) ≡ true → p (get_or ns i 0) ≡ true
all_at p zero ns i lt within h = absurd (omega arith)
all_at p (suc k) [] i lt within h = absurd (omega arith)
all_at p (suc k) (n ∷ ns) zero lt within h = (both (p n) (list_all p (take k ns)) h).0
all_at p (suc k) (n ∷ ns) (suc i) lt within h = all_at p k ns i (omega arith) (omega arith) (both (p n) (list_all p (take k ns)) h).1

-- an item has at least as many numbers as nodes
fewer : (form : Form) (part : Part) → node_count form part ≤ item_size form part
fewer Graph part = lit≤ tt
fewer (Queries n) part = lit≤ tt
fewer (Nodes n) part = lit≤ tt
fewer (Saved n) First = lit≤ tt
fewer (Saved n) Second = lit≤ tt

-- the bounds on the numbers of an item, from its checks
pub record HasBounds (nodes : ℕ) (ns : List ℕ) : Type 0 where
  pub first : get_or ns 0 0 ≤ nodes
  pub first_below : get_or ns 0 0 - 1 < nodes
  pub second : get_or ns 1 0 ≤ nodes
  pub second_below : get_or ns 1 0 - 1 < nodes
  pub weight : get_or ns 2 0 ≤ MOST_WEIGHT
  pub arcs : get_or ns 3 0 ≤ MOST_NODES
  pub middle : get_or ns 4 0 ≤ nodes

-- the nodes that must be there are in range
ends_are : (form : Form) (part : Part) (nodes : ℕ) (ns : List ℕ) → IsItemWithin form part nodes ns →
    list_all (is_node nodes) (take (node_count form part) ns) ≡ true
ends_are form part nodes ns within =
    (both (list_all (is_node nodes) (take (node_count form part) ns)) (is_middle form part nodes ns) within.nodes_are).0

node_at : (nodes k : ℕ) (ns : List ℕ) (i : ℕ) → i < k → i < length ns → list_all (is_node nodes) (take k ns) ≡ true →
    (1 ≤ get_or ns i 0) × (get_or ns i 0 ≤ nodes)
node_at nodes k ns i lt within h =
    let each = both (leb 1 (get_or ns i 0)) (leb (get_or ns i 0) nodes) (all_at (is_node nodes) k ns i lt within h) in
    (leb-true 1 (get_or ns i 0) each.0, leb-true (get_or ns i 0) nodes each.1)

-- the bounds if there is only one number
one_number : (nodes : ℕ) (ns : List ℕ) → length ns ≡ 1 → list_all (is_node nodes) (take 1 ns) ≡ true → HasBounds nodes ns
one_number nodes ns long ends =
    let a = node_at nodes 1 ns 0 (lit< tt) (omega arith) ends in
    let no_second : get_or ns 1 0 ≡ 0 = get_or_past ns 1 0 (omega arith) in
    let no_weight : get_or ns 2 0 ≡ 0 = get_or_past ns 2 0 (omega arith) in
    let no_arcs : get_or ns 3 0 ≡ 0 = get_or_past ns 3 0 (omega arith) in
    let no_middle : get_or ns 4 0 ≡ 0 = get_or_past ns 4 0 (omega arith) in
    record {
      first = a.1;
      first_below = omega arith;
      second = omega arith;
      second_below = omega arith;
      weight = omega arith;
      arcs =
          omega arith;
      middle = omega arith;
    }

pub bounds : (form : Form) (part : Part) (nodes : ℕ) (ns : List ℕ) → IsItemWithin form part nodes ns → HasBounds nodes ns
bounds Graph part nodes ns within =
    let long : length ns ≡ 3 = within.long in
    let a = node_at nodes 2 ns 0 (lit< tt) (omega arith) (ends_are Graph part nodes ns within) in
    let b = node_at nodes 2 ns 1 (lit< tt) (omega arith) (ends_are Graph part nodes ns within) in
    let w : nodes * get_or ns 2 0 ≤ MOST_WEIGHT = leb-true (nodes * get_or ns 2 0) MOST_WEIGHT within.weight_is in
    let no_arcs : get_or ns 3 0 ≡ 0 = get_or_past ns 3 0 (omega arith) in
    let no_middle : get_or ns 4 0 ≡ 0 = get_or_past ns 4 0 (omega arith) in
    record {
      first = a.1;
      first_below = omega arith;
      second = b.1;
      second_below = omega arith;
      weight = omega (arith, no_less nodes (get_or ns 2 0) (omega arith), w);
      arcs = omega arith;
      middle = omega arith;
    }
bounds (Queries n) part nodes ns within =
    let long : length ns ≡ 2 = within.long in
    let a = node_at nodes 2 ns 0 (lit< tt) (omega arith) (ends_are (Queries n) part nodes ns within) in
    let b = node_at nodes 2 ns 1 (lit< tt) (omega arith) (ends_are (Queries n) part nodes ns within) in
    let no_weight : get_or ns 2 0 ≡ 0 = get_or_past ns 2 0 (omega arith) in
    let no_arcs : get_or ns 3 0 ≡ 0 = get_or_past ns 3 0 (omega arith) in
    let no_middle : get_or ns 4 0 ≡ 0 = get_or_past ns 4 0 (omega arith) in
    record {
      first = a.1;
      first_below = omega arith;
      second = b.1;
      second_below = omega arith;
      weight = omega arith;
      arcs =
          omega arith;
      middle = omega arith;
    }
bounds (Nodes n) part nodes ns within = one_number nodes ns within.long (ends_are (Nodes n) part nodes ns within)
bounds (Saved n) First nodes ns within = one_number nodes ns within.long (ends_are (Saved n) First nodes ns within)
bounds (Saved n) Second nodes ns within =
    let long : length ns ≡ 5 = within.long in
    let a = node_at nodes 2 ns 0 (lit< tt) (omega arith) (ends_are (Saved n) Second nodes ns within) in
    let b = node_at nodes 2 ns 1 (lit< tt) (omega arith) (ends_are (Saved n) Second nodes ns within) in
    let cost = both (leb (get_or ns 2 0) MOST_WEIGHT) (leb (get_or ns 3 0) MOST_NODES) within.weight_is in
    let middle = both (list_all (is_node nodes) (take 2 ns)) (leb (get_or ns 4 0) nodes) within.nodes_are in
    record {
      first = a.1;
      first_below = omega arith;
      second = b.1;
      second_below = omega arith;
      weight = leb-true (get_or ns 2 0) MOST_WEIGHT cost.0;
      arcs = leb-true (get_or ns 3 0) MOST_NODES cost.1;
      middle = leb-true (get_or ns 4 0) nodes middle.1;
    }

-- numbers, capped, and zeros
module _ (ns : List ℕ) (m : ℕ) where
  abbrev values : List ℕ
  values = map capped_number ns ++ replicate m 0

  exact : (k : ℕ) → get_or ns k 0 ≤ greatest → get_or values k 0 ≡ get_or ns k 0
  exact k le = capped_at ns m k ∙ capped_same (get_or ns k 0) le

  is_middle-capped : (form : Form) (part : Part) (nodes : ℕ) → nodes < 2 ^ 32 →
      is_middle form part nodes values ≡ is_middle form part nodes ns
  is_middle-capped Graph part nodes small = refl
  is_middle-capped (Queries n) part nodes small = refl
  is_middle-capped (Nodes n) part nodes small = refl
  is_middle-capped (Saved n) First nodes small = refl
  is_middle-capped (Saved n) Second nodes small =
      let fits : nodes < greatest = omega arith in rw (capped_at ns m 4, capped_le (get_or ns 4 0) nodes fits) refl

  pub are_nodes-capped : (form : Form) (part : Part) (nodes : ℕ) → nodes < 2 ^ 32 → length ns ≡ item_size form part →
      are_nodes form part nodes values ≡ are_nodes form part nodes ns
  are_nodes-capped form part nodes small long =
      ap (λ (ends : Bool). ends && is_middle form part nodes values)
      (nodes-capped nodes small (node_count form part) ns m (omega (arith, long, fewer form part)))
      ∙ ap (λ (middle : Bool). list_all (is_node nodes) (take (node_count form part) ns) && middle) (is_middle-capped form part nodes small)

  pub is_weight-capped : (form : Form) (part : Part) (nodes : ℕ) → is_weight form part nodes values ≡ is_weight form part nodes ns
  is_weight-capped Graph part nodes = rw (capped_at ns m 2) (weight-capped nodes (get_or ns 2 0))
  is_weight-capped (Queries n) part nodes = refl
  is_weight-capped (Nodes n) part nodes = refl
  is_weight-capped (Saved n) First nodes = refl
  is_weight-capped (Saved n) Second nodes =
      rw (
        capped_at ns m 2,
        capped_at ns m 3,
        capped_le (get_or ns 2 0) MOST_WEIGHT (lit< tt),
        capped_le (get_or ns 3 0) MOST_NODES (lit< tt),
      ) refl

  pub item-capped : (form : Form) (part : Part) (nodes : ℕ) → nodes < 2 ^ 32 → IsItemWithin form part nodes ns →
      item_from values ≡ item_from ns
  item-capped form part nodes small within =
      let b = bounds form part nodes ns within in
      rw (exact 0 (omega arith), exact 1 (omega arith), exact 2 (omega arith), exact 3 (omega arith), exact 4 (omega arith)) refl

-- an item line with its numbers as they were read
pub record HasNumbers (form : Form) (part : Part) (seen : Option Heading) (h : Heading) (count : ℕ) (ws : List (List ℕ))
    (values : List ℕ) : Type 0 where
  pub declared : seen ≡ Some h
  pub small : h.nodes < 2 ^ 32
  pub read : AreCapped (numbers_after [] (item_size form part) ws) values
  pub room : count < count_of h.items part

pub read_item : (form : Form) (part : Part) (seen : Option Heading) (h : Heading) (count most size : ℕ) (ws : List (List ℕ))
    (values : List ℕ) → seen ≡ Some h → h.nodes < 2 ^ 32 →
    size ≡ item_size form part → AreCapped (numbers_after [] size ws) values → most ≡ count_of h.items part → count < most →
    HasNumbers form part seen h count ws values
read_item form part seen h count most size ws values declared small size_is read most_is room =
    record { declared = declared; small = small; read = rw size_is at read; room = omega (arith, most_is, room) }

module _ (form : Form) (part : Part) (seen : Option Heading) (h : Heading) (count : ℕ) (ws : List (List ℕ)) (values : List ℕ)
    (read : HasNumbers form part seen h count ws values) where
  abbrev numbers_read : Option (List ℕ)
  numbers_read = numbers_after [] (item_size form part) ws

  abbrev ns : List ℕ
  ns = read.read.0

  has : numbers_read ≡ Some ns
  has = read.read.1

  long : length ns ≡ item_size form part
  long = length-numbers_after [] ws (item_size form part) ns has

  has_room : ltb count (count_of h.items part) ≡ true
  has_room = let room = read.room in grind (arith, nat_tests)

  nodes_are : are_nodes form part h.nodes values ≡ are_nodes form part h.nodes ns
  nodes_are = ap (are_nodes form part h.nodes) read.read.2 ∙ are_nodes-capped ns (5 - length ns) form part h.nodes read.small long

  weight_is : is_weight form part h.nodes values ≡ is_weight form part h.nodes ns
  weight_is = ap (is_weight form part h.nodes) read.read.2 ∙ is_weight-capped ns (5 - length ns) form part h.nodes

  pub out_of_range : are_nodes form part h.nodes values ≡ false →
      first_failing (item_checks form part seen count numbers_read) ≡ Some NodeRange
  out_of_range out = let real : are_nodes form part h.nodes ns ≡ false = sym nodes_are ∙ out in rw (read.declared, has, has_room, real) refl

  pub too_heavy : are_nodes form part h.nodes values ≡ true → is_weight form part h.nodes values ≡ false →
      first_failing (item_checks form part seen count numbers_read) ≡ Some Sum
  too_heavy within heavy =
      let real : are_nodes form part h.nodes ns ≡ true = sym nodes_are ∙ within in
      let weight : is_weight form part h.nodes ns ≡ false = sym weight_is ∙ heavy in
      rw (read.declared, has, has_room, real, weight) refl

  pub item_within : are_nodes form part h.nodes values ≡ true → is_weight form part h.nodes values ≡ true →
      IsItemWithin form part h.nodes ns
  item_within within weight = record { long = long; nodes_are = sym nodes_are ∙ within; weight_is = sym weight_is ∙ weight }

  pub passes_as_item : are_nodes form part h.nodes values ≡ true → is_weight form part h.nodes values ≡ true →
      IsItem form part seen count numbers_read (item_from values)
  passes_as_item within weight = record {
    declared = h;
    seen_is = read.declared;
    ns = ns;
    has = has;
    value = ap item_from read.read.2 ∙ item-capped ns (5 - length ns) form part h.nodes read.small (item_within within weight);
    room = read.room;
    within = item_within within weight;
  }

  pub values_small : are_nodes form part h.nodes values ≡ true → is_weight form part h.nodes values ≡ true →
      (get_or values 0 0 < 2 ^ 32) × (get_or values 1 0 < 2 ^ 32) × (get_or values 4 0 < 2 ^ 32)
  values_small within weight =
      let b = bounds form part h.nodes ns (item_within within weight) in
      let small = read.small in
      let first : get_or values 0 0 ≡ capped_number (get_or ns 0 0) =
      ap (λ (v : List ℕ). get_or v 0 0) read.read.2 ∙ capped_at ns (5 - length ns) 0 in
      let second : get_or values 1 0 ≡ capped_number (get_or ns 1 0) =
      ap (λ (v : List ℕ). get_or v 1 0) read.read.2 ∙ capped_at ns (5 - length ns) 1 in
      let middle : get_or values 4 0 ≡ capped_number (get_or ns 4 0) =
      ap (λ (v : List ℕ). get_or v 4 0) read.read.2 ∙ capped_at ns (5 - length ns) 4 in
      (omega arith, omega arith, omega arith)
