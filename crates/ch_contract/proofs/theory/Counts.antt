-- The number of legs in a row, and the greatest numbers of legs and of shortcuts of a node.
use Rattle.std.proofs.Common.{◌≡◌, ℕ, suc, zero, ◌+◌, ◌*◌, ◌<◌, ◌≤◌, Bool, true, false, List, [], ◌∷◌, length, get_or, Option, Some}
use Rattle.std.proofs.Common.{None, Contains, refl, sym, ◌∙◌, ap, subst, arith, inl, inr}
use Rattle.std.specs.Prelude.{◌≢◌, AllPairs, is_some, if◌then◌else◌}
use Rattle.std.proofs.lemmas.Bool.{cases_eq, cases_lt}
use Rattle.std.proofs.Math.Nat.{mul-le-mul_right}
use Rattle.ch_hierarchy.specs.declared.leg.Leg.{Leg}
use Rattle.ch_contract.specs.declared.shortcut.Shortcut.{Shortcut}
use Rattle.ch_contract.specs.Legs.{Label, Legs, AreLegsWithin}
use Rattle.ch_contract.specs.Contraction.{IsPairBefore, AreShortcuts, count_below, count_touching}
use Rattle.ch_hierarchy.specs.Rows.{IsRow}
use Rattle.ch_contract.specs.LegRows.{row_leg, AreLegsFrom, AreLegsTo}
use Rattle.ch_graph.proofs.Numbers.{not_eqb, eqb-refl}
use Rattle.ch_graph.proofs.Lists.{pairs_tail, pairs_head}
use Rattle.ch_contract.proofs.theory.RowLegs.{row_leg_cons, row_member, leg_at}
use Rattle.ch_contract.proofs.theory.RowLemmas.{leg_from_at, leg_to_at}

-- 1 if the test passes, and otherwise 0
abbrev one_if : Bool → ℕ
one_if b = if b then 1 else 0

-- two tests that agree below n pass the same number
pub count_same : (n : ℕ) (p q : ℕ → Bool) → ((x : ℕ) → x < n → p x ≡ q x) → count_below n p ≡ count_below n q
count_same zero p q same = refl
count_same (suc n) p q same =
    ap (λ b. one_if b + count_below n p) (same n (omega arith))
    ∙ ap (λ z. one_if (q n) + z) (count_same n p q (λ x lt. same x (omega arith)))

-- the count if one more number passes
pub count_one_more : (n a : ℕ) (p q : ℕ → Bool) → a < n → p a ≡ false → q a ≡ true → ((x : ℕ) → x ≢ a → p x ≡ q x) →
    count_below n q ≡ suc (count_below n p)
count_one_more zero a p q lt off on same = absurd (omega arith)
count_one_more (suc n) a p q lt off on same = elim (cases_eq a n) [
  | inl here ↦
      let rest = count_same n p q (λ x less. same x (λ e. omega arith)) in
      let last : one_if (p n) ≡ 0 = ap one_if (subst (λ z. p z ≡ false) here off) in
      let new : one_if (q n) ≡ 1 = ap one_if (subst (λ z. q z ≡ true) here on) in
      omega arith
  | inr away ↦
      let rest = count_one_more n a p q (omega (arith, away)) off on same in
      let last : one_if (p n) ≡ one_if (q n) = ap one_if (same n (λ e. away (sym e))) in
      omega arith
]

-- the count if no number passes
count_none : (n : ℕ) → count_below n (λ x. false) ≡ 0
count_none zero = refl
count_none (suc n) = omega (arith, count_none n)

-- the length of a row is the number of nodes below n at which it has a leg
pub row_count : (n : ℕ) (legs : List Leg) → IsRow legs → ((l : Leg) → Contains legs l → l.node < n) →
    length legs ≡ count_below n (λ x. is_some (row_leg legs x))
row_count n [] row within = sym (count_none n)
row_count n (l ∷ legs) row within =
    let rest = row_count n legs (pairs_tail before l legs row) (λ k c. within k (suc c.0, omega (arith, c.1), c.2)) in
    let one = count_one_more n l.node (λ x. is_some (row_leg legs x)) (λ x. is_some (row_leg (l ∷ legs) x))
    (within l (zero, omega arith, refl)) (first (row_leg legs l.node) refl) here apart in
    omega arith
  where
    before : Leg → Leg → Type 0
    before a b = a.node < b.node

    first : (o : Option Label) → row_leg legs l.node ≡ o → is_some (row_leg legs l.node) ≡ false
    first None e = ap is_some e
    first (Some m) e =
        let later = pairs_head before l (leg_at l.node m) legs row (row_member legs l.node m e) in
        absurd (omega (arith, later))

    here : is_some (row_leg (l ∷ legs) l.node) ≡ true
    here = ap is_some (row_leg_cons l legs l.node) ∙ rw (eqb-refl l.node) refl

    apart : (x : ℕ) → x ≢ l.node → is_some (row_leg legs x) ≡ is_some (row_leg (l ∷ legs) x)
    apart x ne = sym (ap is_some (row_leg_cons l legs x) ∙ rw (not_eqb l.node x (λ e. ne (sym e))) refl)

-- the lengths of the two rows of a node add up to the number of legs that touch it
pub rows_touching : (n v : ℕ) (L : Legs) (up down : List Leg) → AreLegsWithin n L → AreLegsFrom L v up → AreLegsTo L v down →
    length up + length down ≡ count_touching n L v
rows_touching n v L up down limits from to =
    let out = row_count n up from.0
    (λ l c. subst (λ (z : Leg). z.node < n) c.2 (limits v (get_or up c.0 l).node _ (leg_from_at L v up c.0 l from c.1)).ends.1) in
    let into = row_count n down to.0
    (λ l c. subst (λ (z : Leg). z.node < n) c.2 (limits (get_or down c.0 l).node v _ (leg_to_at L v down c.0 l to c.1)).ends.0) in
    let outs = count_same n (λ x. is_some (row_leg up x)) (λ x. is_some (L v x)) (λ x lt. ap is_some (from.1 x)) in
    let ins = count_same n (λ x. is_some (row_leg down x)) (λ x. is_some (L x v)) (λ x lt. ap is_some (to.1 x)) in
    omega arith

-- at most n numbers below n pass
pub count_most : (n : ℕ) (p : ℕ → Bool) → count_below n p ≤ n
count_most zero p = omega arith
count_most (suc n) p = omega (arith, count_most n p, one (p n))
  where
    one : (b : Bool) → (if b then 1 else 0) ≤ 1
    one true = omega arith
    one false = omega arith

-- at most 2 * n legs touch a node
pub touching_most : (n : ℕ) (L : Legs) (v : ℕ) → count_touching n L v ≤ 2 * n
touching_most n L v = omega (arith, count_most n (λ x. is_some (L v x)), count_most n (λ x. is_some (L x v)))

-- the place of a pair of numbers below n among all pairs
abbrev place : ℕ → Shortcut → ℕ
place n s = s.from * n + s.to

-- the place of a pair is below n * n
place_small : (n : ℕ) (s : Shortcut) → s.from < n → s.to < n → place n s < n * n
place_small n s from to =
    let most = mul-le-mul_right {m = s.from + 1} {n = n} n (omega arith) in
    omega (arith, most)

-- a later pair has a greater place
place_next : (n : ℕ) (s t : Shortcut) → s.to < n → IsPairBefore s t → place n s < place n t
place_next n s t to before = elim (cases_lt s.from t.from) [
  | inl lt ↦ let most = mul-le-mul_right {m = s.from + 1} {n = t.from} n (omega arith) in omega (arith, most)
  | inr le ↦
      let same : s.from ≡ t.from = omega (arith, before.0) in
      let later = before.1 le in
      let rows : s.from * n ≡ t.from * n = ap (λ z. z * n) same in
      omega (arith, later, rows)
]

-- there are at most n * n pairs in order
pairs_most : (n m : ℕ) (list : List Shortcut) → m ≤ n * n → AllPairs IsPairBefore list →
    ((s : Shortcut) → Contains list s → (m ≤ place n s) × (s.from < n) × (s.to < n)) → m + length list ≤ n * n
pairs_most n m [] le ordered each = omega arith
pairs_most n m (s ∷ list) le ordered each =
    let here = each s (zero, omega arith, refl) in
    let small = place_small n s here.1 here.2 in
    let rest = pairs_most n (suc m) list (omega (arith, here.0, small)) (pairs_tail IsPairBefore s list ordered)
    (λ t c. after t c (each t (suc c.0, omega (arith, c.1), c.2)) here) in
    omega (arith, rest)
  where
    after : (t : Shortcut) → Contains list t → (m ≤ place n t) × (t.from < n) × (t.to < n) → (m ≤ place n s) × (s.from < n) × (s.to < n) →
        (suc m ≤ place n t) × (t.from < n) × (t.to < n)
    after t c later here = let next = place_next n s t here.2 (pairs_head IsPairBefore s t list ordered c) in
        (omega (arith, here.0, next), later.1, later.2)

-- a node has at most n * n shortcuts
pub shortcuts_most : (n h : ℕ) (L : Legs) (v : ℕ) (list : List Shortcut) → AreLegsWithin n L → AreShortcuts n h L v list →
    length list ≤ n * n
shortcuts_most n h L v list limits are =
    let each : (s : Shortcut) → Contains list s → (0 ≤ place n s) × (s.from < n) × (s.to < n) = λ s c. let r =
    (are.sound s c).legs in (omega arith, (limits s.from v r.0 r.2).ends.0, (limits v s.to r.1 r.3).ends.1) in
    omega (arith, pairs_most n 0 list (omega arith) are.ordered each)
