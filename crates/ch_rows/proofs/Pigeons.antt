-- There are at most as many pigeons as holes, if each pigeon has a hole and no two have the same.
use Rattle.std.proofs.Common.{◌≡◌, ℕ, ◌<◌, ◌≤◌, ◌⊎◌, List, length, map, get_or, Contains, sym, ◌∙◌, subst, arith, inl, inr}
use Rattle.std.specs.Prelude.{◌≢◌, AllPairs, eqb}
use Rattle.std.specs.List.{range_with_len}
use Rattle.std.proofs.lemmas.Bool.{cases_lt, eqb-true}
use Rattle.std.proofs.lemmas.List.FromFn.{length-map-range_with_len, get_or-map-range_with_len}
use Rattle.std.proofs.lemmas.Map.Keys.{IsDistinct-from_apart}
use Rattle.std.proofs.lemmas.Map.Steps.{length-le_from_distinct_below}
use Rattle.std.proofs.lemmas.Map.Views.{Contains-from_any}
use Rattle.ch_graph.proofs.Numbers.{not_eqb}

-- different numbers below m are at most m
pub few_below : (xs : List ℕ) (m : ℕ) → AllPairs ◌≢◌ xs → ((x : ℕ) → Contains xs x → x < m) → length xs ≤ m
few_below xs m distinct low =
    length-le_from_distinct_below xs m (IsDistinct-from_apart eqb xs (λ i j d less within. not_eqb _ _ (distinct i j d less within)))
    (λ x found. low x (Contains-from_any eqb-true x xs found))

-- so are the values of n numbers
pub in_holes : (n m : ℕ) (f : ℕ → ℕ) → ((i : ℕ) → i < n → f i < m) → ((i j : ℕ) → i < n → j < n → f i ≡ f j → i ≡ j) → n ≤ m
in_holes n m f into one =
    let xs = map f (range_with_len 0 n) in
    let size = length-map-range_with_len f 0 n in
    let at : (i d : ℕ) → i < n → get_or xs i d ≡ f i = λ i d lt. get_or-map-range_with_len f 0 n i i d lt (omega arith) in
    let few = few_below xs m
    (λ i j d less within same. let e = one i j (omega arith) (omega arith) (sym (at i d (omega arith)) ∙ same ∙ at j d (omega arith)) in
    omega arith)
    (λ x c. let lt : c.0 < n = (let inside = c.1 in omega arith) in subst (λ q. q < m) (sym (at c.0 x lt) ∙ c.2) (into c.0 lt)) in
    omega arith

-- n pigeons that have holes below m
module _ (n m : ℕ) (Has : ℕ → ℕ → Type 0) (some : (i : ℕ) → i < n → (p : ℕ) × (p < m) × Has i p)
    (one : (i j p : ℕ) → i < n → j < n → Has i p → Has j p → i ≡ j) where
  hole : (i : ℕ) → (i < n) ⊎ (n ≤ i) → ℕ
  hole i (inl lt) = (some i lt).0
  hole i (inr past) = 0

  its_hole : (i : ℕ) (c : (i < n) ⊎ (n ≤ i)) → i < n → (hole i c < m) × Has i (hole i c)
  unfolding hole
  its_hole i (inl low) lt = ((some i low).1, (some i low).2)
  its_hole i (inr past) lt = absurd (omega arith)

  pub no_more_than_holes : n ≤ m
  no_more_than_holes = in_holes n m (λ i. hole i (cases_lt i n))
      (λ i lt. (its_hole i (cases_lt i n) lt).0)
      (λ i j lt lt' e. one i j (hole j (cases_lt j n)) lt lt' (subst (Has i) e (its_hole i (cases_lt i n) lt).1)
      (its_hole j (cases_lt j n) lt').1)
