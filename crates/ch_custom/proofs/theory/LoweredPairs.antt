-- Rows of pairs that are lowered over a node in both directions.
use Rattle.std.proofs.Common.{◌≡◌, ℕ, ◌+◌, ◌<◌, ◌≤◌, List, length, get_or, set, sym, ◌∙◌, ap, subst, arith, inl, inr}
use Rattle.std.proofs.Common.{length-set}
use Rattle.std.specs.Prelude.{All}
use Rattle.std.proofs.lemmas.Bool.{cases_eq, cases_lt}
use Rattle.std.proofs.lemmas.List.{get_or_default, map-set}
use Rattle.ch_hierarchy.specs.declared.leg.Leg.{Leg}
use Rattle.ch_hierarchy.specs.declared.side.Side.{Side}
use Rattle.ch_hierarchy.specs.Side.{other}
use Rattle.ch_hierarchy.specs.Rows.{row, IsRow}
use Rattle.ch_custom.specs.declared.leg_pair.LegPair.{LegPair}
use Rattle.ch_custom.specs.Customizing.{leg_over}
use Rattle.ch_custom.specs.Metric.{held_leg, IsHeld, AreLoweredOver, AreLoweredTo}
use Rattle.ch_custom.specs.Topologies.{AreRelaxedTo}
use Rattle.ch_custom.specs.LegPairs.{leg_of, row_of, rows_at, pairs_row, AreHeld}
use Rattle.ch_custom.proofs.theory.LegPairs.{leg_node, leg_here, row_size, node_here, row_at, rows_size}
use Rattle.ch_custom.proofs.theory.Metric.{lowered_now, lowered_rest, lowered_to}
use Rattle.ch_custom.proofs.theory.Relaxing.{node_of}
use Rattle.ch_custom.proofs.theory.RelaxedRows.{relaxed_more, still}

-- one pair of a row can be added up if all can
pub held_here : (xs : List LegPair) (k : ℕ) (d : LegPair) → ((side : Side) → All IsHeld (row_of side xs)) → k < length xs →
    AreHeld (get_or xs k d)
held_here xs k d held lt side =
    subst IsHeld (leg_here side xs k d (leg_of side d) lt) (held side k (leg_of side d) (subst (λ z. k < z) (sym (row_size side xs)) lt))

-- the nodes of a row rise
pub row_rises : (side : Side) (xs : List LegPair) → IsRow (row_of side xs) → (k j : ℕ) (d e : LegPair) → k < j → j < length xs →
    (get_or xs k d).node < (get_or xs j e).node
row_rises side xs is k j d e lt inside =
    let size = row_size side xs in
    let two = is k j (leg_of side e) lt (omega arith) in
    let first = node_here side xs k d (leg_of side e) (omega arith) in
    let last = node_here side xs j e (leg_of side e) inside in
    omega arith

-- one more of the others is less than the rest of a row
pub less_more : (others before : List LegPair) (place next end : ℕ) (f : LegPair) → next < length others → place ≤ end →
    ((k j : ℕ) (d e : LegPair) → k < next → place ≤ j → j < length before → (get_or others k d).node < (get_or before j e).node) →
    ((j : ℕ) (e : LegPair) → end ≤ j → j < length before → (get_or others next f).node < (get_or before j e).node) →
    (k j : ℕ) (d e : LegPair) → k < next + 1 → end ≤ j → j < length before → (get_or others k d).node < (get_or before j e).node
less_more others before place next end f inside le less last k j d e lt past below = elim (cases_eq k next) [
  | inl same ↦
      let its : (get_or others k d).node ≡ (get_or others next f).node = ap (λ z. (get_or others z d).node) same
      ∙ ap (λ (z : LegPair). z.node) (get_or_default others next d f inside) in
      let more = last j e past below in
      omega arith
  | inr apart ↦ less k j d e (omega arith) (omega arith) below
]

module _ (side : Side) (n v : ℕ) (one : LegPair) (others before : List LegPair) (place : ℕ) (after : List LegPair)
    (a : AreLoweredTo n v (leg_of (other side) one) (row_of side others) (row_of side before) place (row_of side after)) where
  -- both rows have as many pairs
  pub same_size : length after ≡ length before
  same_size = sym (row_size side after) ∙ a.size ∙ row_size side before

  -- what no other pair can lower
  pub pairs_rest : ((k : ℕ) (d e : LegPair) (j : ℕ) → k < length others → place ≤ j → j < length before →
      (get_or others k d).node < (get_or before j e).node) →
      AreLoweredOver n v (leg_of (other side) one) (row_of side others) (row_of side before) (row_of side after)
  pairs_rest less = lowered_rest n v _ _ _ place _ a (λ l k d c past lt.
      let q = c.0 in
      let inside : q < length others = subst (λ z. q < z) (row_size side others) c.1 in
      let there : k < length before = subst (λ z. k < z) (row_size side before) lt in
      let x : LegPair = get_or others q (blank l) in
      let its : (get_or others q (blank l)).node ≡ l.node = sym (node_here side others q (blank l) l inside) ∙ ap node_of c.2 in
      let mine : (get_or (row_of side before) k d).node ≡ (get_or before k (blank l)).node = node_here side before k (blank l) d there in
      let lower = less q (blank l) (blank l) k inside past there in
      omega arith)
    where
      blank : Leg → LegPair
      blank l = record { node = 0; up = record { weight = 0; arcs = 0; middle = 0 }; down = record { weight = 0; arcs = 0; middle = 0 } }

  -- the node of a place is as it was
  pub same_node : (k : ℕ) (e f : LegPair) → k < length before → (get_or after k e).node ≡ (get_or before k f).node
  same_node k e f inside =
      sym (node_here side after k e (leg_of side e) (subst (λ z. k < z) (sym same_size) inside))
      ∙ a.nodes k (leg_of side e) (subst (λ z. k < z) (sym (row_size side before)) inside)
      ∙ node_here side before k f (leg_of side e) inside

  -- the pairs up to a later place, which lie between two of the others, have no pair to be lowered with
  pub pairs_to : (next : ℕ) (f : LegPair) (end : ℕ) → IsRow (row_of side others) → next < length others → place ≤ end →
      ((k j : ℕ) (d e : LegPair) → k < next → place ≤ j → j < length before → (get_or others k d).node < (get_or before j e).node) →
      ((k : ℕ) (d : LegPair) → place ≤ k → k < end → (get_or after k d).node < (get_or others next f).node) →
      AreLoweredTo n v (leg_of (other side) one) (row_of side others) (row_of side before) end (row_of side after)
  pairs_to next f end is here le less low = lowered_to n v _ _ _ place _ a end le (λ l k d c past lt inside same.
      let q = c.0 in
      let within : q < length others = subst (λ z. q < z) (row_size side others) c.1 in
      let there : k < length before = subst (λ z. k < z) (row_size side before) inside in
      let its : (get_or others q (blank l)).node ≡ l.node = sym (node_here side others q (blank l) l within) ∙ ap node_of c.2 in
      let mine : (get_or (row_of side before) k d).node ≡ (get_or before k (blank l)).node = node_here side before k (blank l) d there in
      let now = same_node k (blank l) (blank l) there in
      let below = low k (blank l) past lt in
      elim (cases_lt q next) [
        | inl first ↦ let lower = less q k (blank l) (blank l) first past there in omega arith
        | inr later ↦ elim (cases_eq q next) [
          | inl at ↦
              let its_next : (get_or others next (blank l)).node ≡ l.node = subst (λ z. (get_or others z (blank l)).node ≡ l.node) at its in
              let swap : (get_or others next f).node ≡ (get_or others next (blank l)).node =
              ap node_in (get_or_default others next f (blank l) here) in
              omega arith
          | inr apart ↦ let up = row_rises side others is next q f (blank l) (omega arith) within in omega arith
        ]
      ])
    where
      node_in : LegPair → ℕ
      node_in p = p.node

      blank : Leg → LegPair
      blank l = record { node = 0; up = record { weight = 0; arcs = 0; middle = 0 }; down = record { weight = 0; arcs = 0; middle = 0 } }

  -- a node that the pair at this place has is less than those of the later pairs
  pub here_less : (y : ℕ) (g : LegPair) → IsRow (row_of side before) → place < length before → (get_or after place g).node ≡ y →
      (j : ℕ) (e : LegPair) → place + 1 ≤ j → j < length before → y < (get_or before j e).node
  here_less y g is inside node j e past below =
      let now = same_node place g g inside in
      let up = row_rises side before is place j g e (omega arith) below in
      omega arith

  -- a node that is less than that of the pair at this place is less than those of the later pairs
  pub next_less : (y : ℕ) (g : LegPair) → IsRow (row_of side before) → (place < length before → y < (get_or after place g).node) →
      (j : ℕ) (e : LegPair) → place ≤ j → j < length before → y < (get_or before j e).node
  next_less y g is more j e past below =
      let here = more (omega arith) in
      let now = same_node place g g (omega arith) in
      elim (cases_eq j place) [
        | inl same ↦
            let its : (get_or before j e).node ≡ (get_or before place g).node = ap (λ z. (get_or before z e).node) same
            ∙ ap (λ (z : LegPair). z.node) (get_or_default before place e g (omega arith)) in
            omega arith
        | inr apart ↦ let up = row_rises side before is place j g e (omega arith) below in omega arith
      ]

  module _ (inside : place < length before) where
    there : place < length after
    there = subst (λ z. place < z) (sym same_size) inside

    within : place < length (row_of side before)
    within = subst (λ z. place < z) (sym (row_size side before)) inside

    -- one more pair is lowered
    pub pairs_now : (next : ℕ) (r d e : LegPair) (new : List LegPair) → IsRow (row_of side others) → next < length others →
        (get_or others next d).node ≡ (get_or after place e).node → r.node ≡ (get_or after place e).node →
        held_leg (leg_of side r) ≡ leg_over n v (held_leg (leg_of (other side) one)) (held_leg (leg_of side (get_or others next d)))
        (held_leg (leg_of side (get_or after place e))) → IsHeld (leg_of side r) → new ≡ set after place r →
        AreLoweredTo n v (leg_of (other side) one) (row_of side others) (row_of side before) (place + 1) (row_of side new)
    pairs_now next r d e new is lt node mine low held eq =
        let one_here = leg_here side others next d (leg_of side d) lt in
        let two_here = leg_here side after place e (leg_of side e) there in
        lowered_now n v _ _ _ place _ a within next (leg_of side r) (leg_of side d) (leg_of side e) (row_of side new) is
        (subst (λ z. next < z) (sym (row_size side others)) lt)
        (node_here side others next d (leg_of side d) lt ∙ node ∙ sym (node_here side after place e (leg_of side e) there))
        (leg_node side r ∙ mine ∙ sym (node_here side after place e (leg_of side e) there))
        (low
        ∙ ap (λ (z : Leg). leg_over n v (held_leg (leg_of (other side) one)) (held_leg z) (held_leg (leg_of side (get_or after place e))))
        (sym one_here)
        ∙ ap (λ (z : Leg). leg_over n v (held_leg (leg_of (other side) one)) (held_leg (get_or (row_of side others) next (leg_of side d)))
        (held_leg z)) (sym two_here))
        held
        (ap (row_of side) eq ∙ map-set (leg_of side) after place r)

-- a node that is at least x, and not x, is greater
pub pairs_greater : (others : List LegPair) (next x : ℕ) (d e : LegPair) → next < length others → x ≤ (get_or others next d).node →
    ((get_or others next e).node ≡ x → ⊥) →
    x < (get_or others next d).node
pairs_greater others next x d e lt le ne =
    let same : (get_or others next d).node ≡ (get_or others next e).node =
    ap (λ (z : LegPair). z.node) (get_or_default others next d e lt) in
    elim (cases_eq (get_or others next e).node x) [
      | inl is ↦ absurd (ne is)
      | inr apart ↦ omega arith
    ]

module _ (side : Side) (n v : ℕ) (taken : List LegPair) (place : ℕ) (old now : List (List LegPair))
    (r : AreRelaxedTo n v (row_of (other side) taken) (row_of side taken) place (rows_at side old) (rows_at side now))
    (ordered : IsRow (row_of side taken)) (inside : place < length taken) (d : LegPair) where
  -- the node of this place
  abbrev here : ℕ
  here = (get_or taken place d).node

  has_place : place < length (row_of side taken)
  has_place = subst (λ z. place < z) (sym (row_size side taken)) inside

  its_node : (get_or (row_of side taken) place (leg_of side d)).node ≡ here
  its_node = node_here side taken place d (leg_of side d) inside

  -- there are as many rows
  pub many_rows : length now ≡ length old
  many_rows = sym (rows_size side now) ∙ r.size ∙ rows_size side old

  -- its row is as it was
  pub still_pairs : here < length old → row_of side (pairs_row now here) ≡ row_of side (pairs_row old here)
  still_pairs lt =
      sym (row_at side now here (subst (λ z. here < z) (sym many_rows) lt))
      ∙ subst (λ z. row (rows_at side now) z ≡ row (rows_at side old) z) its_node
      (still n v _ _ place _ _ r ordered has_place (leg_of side d))
      ∙ row_at side old here lt

  -- one more row is lowered
  pub more_pairs : (new : List (List LegPair)) → here < length old → new ≡ set now here (pairs_row new here) →
      AreLoweredOver n v (leg_of (other side) (get_or taken place d)) (row_of side taken) (row_of side (pairs_row now here))
      (row_of side (pairs_row new here)) → All IsHeld (row_of side (pairs_row new here)) →
      AreRelaxedTo n v (row_of (other side) taken) (row_of side taken) (place + 1) (rows_at side old) (rows_at side new)
  more_pairs new lt edited low held =
      let now_lt : here < length now = subst (λ z. here < z) (sym many_rows) lt in
      let all : rows_at side new ≡ set (rows_at side now) here (row_of side (pairs_row new here)) = ap (rows_at side) edited
      ∙ map-set (row_of side) now here (pairs_row new here) in
      let new_lt : here < length new = subst (λ z. here < z) (sym (size_of new now here (pairs_row new here) edited)) now_lt in
      let mine : row (rows_at side new) here ≡ row_of side (pairs_row new here) = row_at side new here new_lt in
      let was : row (rows_at side now) here ≡ row_of side (pairs_row now here) = row_at side now here now_lt in
      let first : get_or (row_of (other side) taken) place (leg_of (other side) d) ≡ leg_of (other side) (get_or taken place d) =
      leg_here (other side) taken place d (leg_of (other side) d) inside in
      relaxed_more n v _ _ place _ _ r ordered has_place (leg_of side d) (rows_at side new) (leg_of (other side) d)
      (subst (λ z. place < z) (sym (row_size (other side) taken)) inside)
      (subst (λ z. z < length (rows_at side now)) (sym its_node) (subst (λ z. here < z) (sym (rows_size side now)) now_lt))
      (subst (λ z. rows_at side new ≡ set (rows_at side now) z (row (rows_at side new) z)) (sym its_node) (all
      ∙ ap (set (rows_at side now) here) (sym mine)))
      (subst (λ z. AreLoweredOver n v (get_or (row_of (other side) taken) place (leg_of (other side) d)) (row_of side taken)
      (row (rows_at side now) z) (row (rows_at side new) z)) (sym its_node)
      (subst (λ z. AreLoweredOver n v z (row_of side taken) (row (rows_at side now) here) (row (rows_at side new) here)) (sym first)
      (subst (λ z. AreLoweredOver n v (leg_of (other side) (get_or taken place d)) (row_of side taken) z (row (rows_at side new) here))
      (sym was)
      (subst (AreLoweredOver n v (leg_of (other side) (get_or taken place d)) (row_of side taken) (row_of side (pairs_row now here)))
      (sym mine) low))))
      (subst (λ z. All IsHeld (row (rows_at side new) z)) (sym its_node) (subst (All IsHeld) (sym mine) held))
    where
      size_of : (new now : List (List LegPair)) (k : ℕ) (r : List LegPair) → new ≡ set now k r → length new ≡ length now
      size_of new now k r e = ap length e ∙ length-set now k r
