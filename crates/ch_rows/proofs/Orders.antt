-- Pairs in order of weight and then of place.
use Rattle.std.proofs.Common.{◌≡◌, ℕ, zero, suc, ◌+◌, ◌-◌, ◌<◌, ◌≤◌, ◌⊎◌, true, false, is_lt, true≢false, nat_cmp, List, length, map}
use Rattle.std.proofs.Common.{get_or, Contains, refl, sym, ◌∙◌, ap, subst, arith, inl, inr}
use Rattle.std.specs.Prelude.{◌≢◌, AllPairs, eqb}
use Rattle.std.specs.List.{IsDistinct}
use Rattle.std.specs.List.Sorted.{IsPermutation}
use Rattle.std.specs.Ordering.{ordering_then}
use Rattle.std.proofs.lemmas.Bool.{cases_order, lt-ltb, le-ltb, eq-eqb, eqb-false}
use Rattle.std.proofs.lemmas.List.{get_or_default}
use Rattle.std.proofs.lemmas.Map.Keys.{IsDistinct-from_apart, apart_from_distinct, IsDistinct-IsPermutation}
use Rattle.ch_graph.proofs.Numbers.{not_eqb, eqb_flips}
use Rattle.ch_graph.proofs.Lists.{contains_map, pairs_map}
use Rattle.ch_rows.specs.Buckets.{turned}
use Rattle.ch_rows.specs.First.{IsNearer, IsInOrder}

pub nearer_then : (a b c : ℕ × ℕ) → IsNearer a b → IsNearer b c → IsNearer a c
nearer_then a b c (inl p) (inl q) = inl (omega arith)
nearer_then a b c (inl p) (inr q) = inl (omega arith)
nearer_then a b c (inr p) (inl q) = inl (omega arith)
nearer_then a b c (inr p) (inr q) = inr (omega arith, omega arith)

pub nearer_never : (a : ℕ × ℕ) → IsNearer a a → ⊥
nearer_never a (inl p) = omega arith
nearer_never a (inr p) = let q = p.1 in omega arith

pub nearer_weighs : (a b : ℕ × ℕ) → IsNearer a b → a.0 ≤ b.0
nearer_weighs a b (inl p) = omega arith
nearer_weighs a b (inr p) = omega arith

pub cases_nearer : (a b : ℕ × ℕ) → IsNearer a b ⊎ ((a ≡ b) ⊎ IsNearer b a)
cases_nearer a b = elim (cases_order a.0 b.0) [
  | inl same ↦ elim (cases_order a.1 b.1) [
    | inl place ↦ inr (inl (λ i. (same i, place i)))
    | inr apart ↦ elim apart [ inl lt ↦ inl (inr (same, lt)) | inr gt ↦ inr (inr (inr (sym same, gt))) ]
  ]
  | inr apart ↦ elim apart [ inl lt ↦ inl (inl lt) | inr gt ↦ inr (inr (inl gt)) ]
]

-- a pair that std's order does not put before another does not come before it
not_nearer : (a b : ℕ × ℕ) → is_lt (ordering_then (nat_cmp b.0 a.0) (nat_cmp b.1 a.1)) ≡ false → IsNearer b a → ⊥
not_nearer a b not_less (inl lt) =
    let e = lt-ltb b.0 a.0 lt in
    let is : is_lt (ordering_then (nat_cmp b.0 a.0) (nat_cmp b.1 a.1)) ≡ true = rw e refl in
    true≢false (sym is ∙ not_less)
not_nearer a b not_less (inr both) =
    let e = le-ltb b.0 a.0 (let same = both.0 in omega arith) in
    let e' = eq-eqb b.0 a.0 both.0 in
    let e'' = lt-ltb b.1 a.1 both.1 in
    let is : is_lt (ordering_then (nat_cmp b.0 a.0) (nat_cmp b.1 a.1)) ≡ true = rw (e, e', e'') refl in
    true≢false (sym is ∙ not_less)

-- if each pair comes before the next, each comes before all later ones
rises_far : (xs : List (ℕ × ℕ)) → ((k : ℕ) (d : ℕ × ℕ) → k + 1 < length xs → IsNearer (get_or xs k d) (get_or xs (k + 1) d)) →
    (n i : ℕ) (d : ℕ × ℕ) → i + 1 + n < length xs → IsNearer (get_or xs i d) (get_or xs (i + 1 + n) d)
rises_far xs step zero i d lt =
    let e : i + 1 ≡ i + 1 + zero = omega arith in
    subst (λ q. IsNearer (get_or xs i d) (get_or xs q d)) e (step i d (omega arith))
rises_far xs step (suc n) i d lt =
    let e : i + 1 + n + 1 ≡ i + 1 + suc n = omega arith in
    nearer_then (get_or xs i d) (get_or xs (i + 1 + n) d) (get_or xs (i + 1 + suc n) d) (rises_far xs step n i d (omega arith))
    (subst (λ q. IsNearer (get_or xs (i + 1 + n) d) (get_or xs q d)) e (step (i + 1 + n) d (omega arith)))

-- pairs of different places, put in order
module _ (xs ys : List (ℕ × ℕ)) (apart : AllPairs (λ a b. a.1 ≢ b.1) xs) (p : IsPermutation xs ys) where
  -- the pairs in order have different places
  pub apart_in_order : AllPairs (λ a b. a.1 ≢ b.1) ys
  apart_in_order i j d lt within =
      let same = λ (a b : ℕ × ℕ). eqb a.1 b.1 in
      let distinct : IsDistinct same xs = IsDistinct-from_apart same xs (λ k m e low high. not_eqb _ _ (apart k m e low high)) in
      let turned = IsDistinct-IsPermutation same (λ a b. eqb_flips a.1 b.1) xs ys p distinct in
      eqb-false _ _ (apart_from_distinct same ys i j d turned lt within)

  -- each pair in order comes before all later ones
  pub nearer_in_order : IsInOrder ys → AllPairs IsNearer ys
  nearer_in_order sorted i j d lt within =
      let step : (k : ℕ) (e : ℕ × ℕ) → k + 1 < length ys → IsNearer (get_or ys k e) (get_or ys (k + 1) e) = λ k e low.
      elim (cases_nearer (get_or ys k e) (get_or ys (k + 1) e)) [
        | inl nearer ↦ nearer
        | inr other ↦ elim other [
          | inl same ↦ absurd (apart_in_order k (k + 1) e (omega arith) low (ap (λ (q : ℕ × ℕ). q.1) same))
          | inr after ↦ absurd (not_nearer (get_or ys k e) (get_or ys (k + 1) e) (sorted k e (omega arith) low) after)
        ]
      ] in
      let e : i + 1 + (j - (i + 1)) ≡ j = omega arith in
      subst (λ q. IsNearer (get_or ys i d) (get_or ys q d)) e (rises_far ys step (j - (i + 1)) i d (omega arith))

-- a key occurs only once
pub key_once : (xs : List (ℕ × ℕ)) → AllPairs (λ a b. a.0 ≢ b.0) xs → (k x y : ℕ) → Contains xs (k, x) → Contains xs (k, y) → x ≡ y
key_once xs apart k x y h h' =
    let there = get_or_default xs h'.0 (k, x) (k, y) h'.1 ∙ h'.2 in
    elim (cases_order h.0 h'.0) [
      | inl same ↦ ap (λ (q : ℕ × ℕ). q.1) (sym h.2 ∙ ap (λ q. get_or xs q (k, x)) same ∙ there)
      | inr other ↦ elim other [
        | inl less ↦ absurd (apart h.0 h'.0 (k, x) less h'.1 (ap (λ (q : ℕ × ℕ). q.0) (h.2) ∙ sym (ap (λ (q : ℕ × ℕ). q.0) there)))
        | inr more ↦ absurd (apart h'.0 h.0 (k, x) more h.1 (ap (λ (q : ℕ × ℕ). q.0) there ∙ sym (ap (λ (q : ℕ × ℕ). q.0) (h.2))))
      ]
    ]

-- a place occurs only once
pub place_once : (xs : List (ℕ × ℕ)) → AllPairs (λ a b. a.1 ≢ b.1) xs → (x y j : ℕ) → Contains xs (x, j) → Contains xs (y, j) → x ≡ y
place_once xs apart x y j h h' = key_once (map turned xs) (pairs_map turned (λ a b. a.0 ≢ b.0) xs apart) j x y
    (contains_map turned xs (x, j) h) (contains_map turned xs (y, j) h')
