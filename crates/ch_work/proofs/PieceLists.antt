-- The lists of consecutive pieces, one after another, are a list for all items.
use Rattle.std.proofs.Common.{◌≡◌, ℕ, zero, suc, ◌+◌, ◌-◌, ◌*◌, ◌/◌, ◌%◌, ◌<◌, ◌≤◌, min, List, [], ◌∷◌, ◌++◌, length, drop, subst}
use Rattle.std.proofs.Common.{sym, arith, inl, inr}
use Rattle.std.specs.Prelude.{Vec}
use Rattle.std.specs.List.{AllZip, flat_map, slice_range}
use Rattle.std.specs.declared.alloc.Global.{Global}
use Rattle.std.proofs.lemmas.List.{take-append-drop, take_min, length-drop, drop-drop, drop_all}
use Rattle.std.proofs.lemmas.Bool.{cases_lt}
use Rattle.std.proofs.lemmas.Nat.{div-add-mod', mul-le}
use Rattle.std.proofs.Math.Nat.{mod-lt}
use Rattle.ch_work.specs.Pieces.{pieces_of, MeanEach, AreValues}

-- lists that are related place by place stay so when related lists follow
pub zipped_append : {A B : Type 0} (P : A → B → Type 0) (xs : List A) (ys : List B) (us : List A) (vs : List B) →
    AllZip P xs ys → AllZip P us vs → AllZip P (xs ++ us) (ys ++ vs)
zipped_append P [] [] us vs h k = k
zipped_append P [] (y ∷ ys) us vs h k = absurd h
zipped_append P (x ∷ xs) [] us vs h k = absurd h
zipped_append P (x ∷ xs) (y ∷ ys) us vs h k = (h.0, zipped_append P xs ys us vs h.1 k)

-- one more piece covers the items that are left over
covered : (q r p : ℕ) → r < p → q * p + r ≤ (q + min 1 r) * p
covered q zero p lt = omega arith
covered q (suc r) p lt =
    let one : min 1 (suc r) ≡ 1 = omega arith in
    rw one (omega (arith, lt))

-- the pieces cover all items
pub covers : (n p : ℕ) → 0 < p → n ≤ pieces_of n p * p
covers n p positive = omega (arith, div-add-mod' n p, covered (n / p) (n % p) p (mod-lt n positive))

-- the items from place a on are those of one piece and the rest
pub piece_split : {A : Type 0} (items : List A) (a p : ℕ) →
    slice_range items a (min (a + p) (length items)) ++ drop (a + p) items ≡ drop a items
piece_split items a p =
    let count : min (a + p) (length items) - a ≡ min p (length (drop a items)) = omega (arith, length-drop a items) in
    rw (count, take_min p (drop a items), sym (drop-drop p a items)) (take-append-drop p (drop a items))

module _ {A B : Type 0} (P : A → B → Type 0) (items : List A) (p : ℕ) where
  -- the list is related place by place to the items of the range
  abbrev Zipped : ℕ → ℕ → Vec B Global → Type 0
  Zipped from to list = AllZip P (slice_range items from to) list.items

  -- the items of all lists, one after another
  abbrev all_items : List (Vec B Global) → List B
  all_items lists = flat_map (λ (list : Vec B Global). list.items) lists

  -- the lists from piece k on are related to the items from there on
  zipped_from : (k : ℕ) (lists : List (Vec B Global)) → length items ≤ (k + length lists) * p →
      MeanEach Zipped (length items) p k lists → AllZip P (drop (k * p) items) (all_items lists)
  zipped_from k [] le h = rw (drop_all (k * p) items (omega (arith, le))) tt
  zipped_from k (list ∷ lists) le h =
      let next : (k + 1) * p ≡ k * p + p = omega arith in
      let after = zipped_from (k + 1) lists (omega (arith, le)) h.1 in
      let rest : AllZip P (drop (k * p + p) items) (all_items lists) = subst (λ i. AllZip P (drop i items) (all_items lists)) next after in
      subst (λ xs. AllZip P xs (all_items (list ∷ lists))) (piece_split items (k * p) p) (zipped_append P _ list.items _ _ h.0 rest)

-- if each list is related place by place to its piece, all lists together are related to all items
pub all_zipped : {A B : Type 0} (P : A → B → Type 0) (items : List A) (n p : ℕ) (lists : List (Vec B Global)) → n ≡ length items → 0 < p →
    AreValues (λ from to (list : Vec B Global). AllZip P (slice_range items from to) list.items) n p 0 (pieces_of n p) lists →
    AllZip P items (flat_map (λ (list : Vec B Global). list.items) lists)
all_zipped {B = B} P items n p lists count positive h =
    let start : 0 * p ≡ 0 = omega arith in
    let all : length items ≤ (0 + length lists) * p = rw (h.0, sym count) (covers n p positive) in
    let each : MeanEach (Zipped P items p) (length items) p 0 lists = subst (λ i. MeanEach (Zipped P items p) i p 0 lists) count h.1 in
    subst (λ i. AllZip P (drop i items) (flat_map (λ (list : Vec B Global). list.items) lists)) start
    (zipped_from P items p 0 lists all each)

-- each item is in a piece
pub piece_of : (n p v : ℕ) → 0 < p → v < n → (k : ℕ) × (k < pieces_of n p) × (k * p ≤ v) × (v < min (k * p + p) n)
piece_of n p v positive lt =
    let k = v / p in
    let at : k * p + v % p ≡ v = div-add-mod' v p in
    let rest : v % p < p = mod-lt v positive in
    let most : n ≤ pieces_of n p * p = covers n p positive in
    let below : k < pieces_of n p = elim (cases_lt k (pieces_of n p)) [
      | inl less ↦ less
      | inr more ↦ let high : pieces_of n p * p ≤ k * p = mul-le (pieces_of n p) p k p more (omega arith) in absurd (omega arith)
    ] in
    (k, below, omega arith, omega arith)
