-- The first of pairs in order: a list that is put in order and cut.
use Rattle.std.proofs.Common.{◌≡◌, ℕ, ◌<◌, ◌≤◌, ◌⊎◌, List, length, take, get_or, Contains, Option, Some, None, sym, ◌∙◌, ap, subst}
use Rattle.std.proofs.Common.{arith, inl, inr}
use Rattle.std.specs.Prelude.{◌≢◌, AllPairs}
use Rattle.std.proofs.lemmas.Bool.{cases_order, cases_lt}
use Rattle.std.proofs.lemmas.List.{length-take, get_or-take, get_or_default}
use Rattle.std.proofs.lemmas.List.Elements.{Contains-get_or}
use Rattle.ch_query.specs.Limits.{IsWithin}
use Rattle.ch_rows.specs.First.{IsNearer, AreFullOfNearer, AreFirst, cut_of}
use Rattle.ch_rows.proofs.Orders.{nearer_then, nearer_never, nearer_weighs, cases_nearer, place_once}
use Rattle.ch_rows.proofs.Pigeons.{no_more_than_holes}

-- as many other places as are asked for have pairs in the list that come before e
pub record IsBeaten (count : Option ℕ) (xs : List (ℕ × ℕ)) (e : ℕ × ℕ) : Type 0 where
  pub places : List ℕ
  pub enough : count ≡ Some (length places)
  pub distinct : AllPairs ◌≢◌ places
  pub nearer : (j : ℕ) → Contains places j → (x : ℕ) × Contains xs (x, j) × IsNearer (x, j) e

module _ (xs : List (ℕ × ℕ)) (order : AllPairs IsNearer xs) where
  -- the cut list is in order
  cut_order : (count : Option ℕ) → AllPairs IsNearer (cut_of count xs)
  cut_order None = order
  cut_order (Some k) = λ i j d lt within.
      let size = length-take k xs in
      subst (λ q. IsNearer q (get_or (take k xs) j d)) (sym (get_or-take k xs i d (omega arith)))
      (subst (λ q. IsNearer (get_or xs i d) q) (sym (get_or-take k xs j d (omega arith))) (order i j d lt (omega arith)))

  -- the cut list has at most as many pairs as are asked for
  cut_few : (count : Option ℕ) → IsWithin count (length (cut_of count xs))
  cut_few None = tt
  cut_few (Some k) = let size = length-take k xs in omega arith

  -- the pairs of the cut list are pairs of the list
  pub cut_within : (count : Option ℕ) (e : ℕ × ℕ) → Contains (cut_of count xs) e → Contains xs e
  cut_within None e h = h
  cut_within (Some k) e h =
      let size = length-take k xs in
      let lt = h.1 in
      (h.0, omega arith, sym (get_or-take k xs h.0 e (omega arith)) ∙ h.2)

  -- if each of the first k comes before e, there are k pairs before e
  full_of : (k : ℕ) (e : ℕ × ℕ) → k ≤ length xs → ((i : ℕ) (d : ℕ × ℕ) → i < k → IsNearer (get_or xs i d) e) →
      AreFullOfNearer (Some k) (take k xs) e
  full_of k e few all =
      let size = length-take k xs in
      let same : k ≡ length (take k xs) = omega arith in
      (ap Some same, λ i d lt. subst (λ q. IsNearer q e) (sym (get_or-take k xs i d (omega arith))) (all i d (omega arith)))

  -- a pair of the list is in the cut list, or that list is full and all of it comes before the pair
  pub cut_whole : (count : Option ℕ) (e : ℕ × ℕ) → Contains xs e → Contains (cut_of count xs) e ⊎ AreFullOfNearer count (cut_of count xs) e
  cut_whole None e h = inl h
  cut_whole (Some k) e h =
      let lt = h.1 in
      let size = length-take k xs in
      elim (cases_lt h.0 k) [
        | inl low ↦ inl (h.0, omega arith, get_or-take k xs h.0 e low ∙ h.2)
        | inr past ↦ inr (full_of k e (omega arith) (λ i d low.
            let there = get_or_default xs h.0 d e h.1 ∙ h.2 in
            subst (λ q. IsNearer (get_or xs i d) q) there (order i h.0 d (omega arith) h.1)))
      ]

  -- if k places have pairs that come before e, the first k pairs come before e
  module _ (e : ℕ × ℕ) (places : List ℕ) (distinct : AllPairs ◌≢◌ places)
      (nearer : (j : ℕ) → Contains places j → (x : ℕ) × Contains xs (x, j) × IsNearer (x, j) e) where
    abbrev none : ℕ × ℕ
    none = (0, 0)

    -- the pair of the place with number i is at p
    abbrev StandsAt : ℕ → ℕ → Type 0
    StandsAt i p = (p < length xs) × ((get_or xs p none).1 ≡ get_or places i 0) × IsNearer (get_or xs p none) e

    stands : (i : ℕ) → i < length places → (p : ℕ) × StandsAt i p
    stands i lt =
        let j = get_or places i 0 in
        let r = nearer j (Contains-get_or places i 0 lt) in
        let c = r.1 in
        let is = get_or_default xs c.0 none (r.0, j) c.1 ∙ c.2 in
        (c.0, (c.1, ap (λ (q : ℕ × ℕ). q.1) is, subst (λ q. IsNearer q e) (sym is) r.2))

    stands_once : (i j p : ℕ) → i < length places → j < length places → StandsAt i p → StandsAt j p → i ≡ j
    stands_once i j p lt lt' a b = elim (cases_order i j) [
      | inl same ↦ same
      | inr other ↦ elim other [
        | inl less ↦ absurd (distinct i j 0 less lt' (sym a.1 ∙ b.1))
        | inr more ↦ absurd (distinct j i 0 more lt (sym b.1 ∙ a.1))
      ]
    ]

    -- there are at least as many pairs as places
    beaten_by : length places ≤ length xs
    beaten_by = no_more_than_holes (length places) (length xs) StandsAt (λ i lt. let s = stands i lt in (s.0, s.1.0, s.1)) stands_once

    -- each of the first pairs comes before e
    beaten_at : (q : ℕ) → q < length places → IsNearer (get_or xs q none) e
    beaten_at q low = elim (cases_nearer (get_or xs q none) e) [
      | inl near ↦ near
      | inr far ↦ absurd (
          let few = no_more_than_holes (length places) q StandsAt
          (λ i lt. let s = stands i lt in (s.0, before s.0 s.1.0 s.1.2 far, s.1)) stands_once in
          omega arith)
    ]
      where
        before : (p : ℕ) → p < length xs → IsNearer (get_or xs p none) e → (get_or xs q none ≡ e) ⊎ IsNearer e (get_or xs q none) → p < q
        before p lt near far = elim (cases_lt p q) [
          | inl less ↦ less
          | inr past ↦ absurd (elim (cases_order q p) [
            | inl same ↦ past_it (get_or xs q none) far (subst (λ k. IsNearer (get_or xs k none) e) (sym same) near)
            | inr other ↦ past_it (get_or xs q none) far
                (nearer_then (get_or xs q none) (get_or xs p none) e (order q p none (omega arith) lt) near)
          ])
        ]
          where
            past_it : (f : ℕ × ℕ) → (f ≡ e) ⊎ IsNearer e f → IsNearer f e → ⊥
            past_it f (inl is) near = nearer_never e (subst (λ k. IsNearer k e) is near)
            past_it f (inr far) near = nearer_never e (nearer_then e f e far near)

    pub beaten_full : AreFullOfNearer (Some (length places)) (take (length places) xs) e
    beaten_full = full_of (length places) e beaten_by (λ i d lt.
        let many = beaten_by in
        subst (λ q. IsNearer q e) (get_or_default xs i none d (omega arith)) (beaten_at i lt))

  -- a pair that is beaten is not in the cut list
  pub cut_beaten : (count : Option ℕ) (e : ℕ × ℕ) → IsBeaten count xs e → AreFullOfNearer count (cut_of count xs) e
  cut_beaten count e b = subst (λ c. AreFullOfNearer c (cut_of c xs) e) (sym b.enough) (beaten_full e b.places b.distinct b.nearer)

  -- the cut list is the first of D, if each pair of either has one of its place and no greater weight in the other, or is beaten
  pub first_of : (count : Option ℕ) (D : ℕ × ℕ → Type 0) → AllPairs (λ a b. a.1 ≢ b.1) xs →
      ((x y j : ℕ) → D (x, j) → D (y, j) → x ≡ y) →
      ((e : ℕ × ℕ) → Contains xs e → (x : ℕ) × D (x, e.1) × (x ≤ e.0)) →
      ((e : ℕ × ℕ) → D e → ((x : ℕ) × (x ≤ e.0) × Contains xs (x, e.1)) ⊎ IsBeaten count xs e) →
      AreFirst count D (cut_of count xs)
  first_of count D apart one below kept = record {
    order = cut_order count;
    few = cut_few count;
    sound = λ e h.
        let there = cut_within count e h in
        let r = below e there in
        elim (cases_order r.0 e.0) [
          | inl same ↦ subst (λ q. D (q, e.1)) same r.1
          | inr other ↦ absurd (
              let less : r.0 < e.0 = elim other [ inl lt ↦ lt | inr gt ↦ (let le = r.2 in absurd (omega arith)) ] in
              elim (kept (r.0, e.1) r.1) [
                | inl found ↦ (let le = found.1 in let same = place_once xs apart found.0 e.0 e.1 found.2 there in omega arith)
                | inr beaten ↦ is_past e (r.0, e.1) less h (cut_beaten count (r.0, e.1) beaten)
              ])
        ];
    whole = λ e d. elim (kept e d) [
      | inl found ↦
          let r = below (found.0, e.1) found.2 in
          let le = found.1 in
          let le' = r.2 in
          let is = one r.0 e.0 e.1 r.1 d in
          let same : found.0 ≡ e.0 = omega arith in
          cut_whole count e (subst (λ q. Contains xs (q, e.1)) same found.2)
      | inr beaten ↦ inr (cut_beaten count e beaten)
    ];
  }
    where
      is_past : (e f : ℕ × ℕ) → f.0 < e.0 → Contains (cut_of count xs) e → AreFullOfNearer count (cut_of count xs) f → ⊥
      is_past e f less h full =
          let near = nearer_weighs (get_or (cut_of count xs) h.0 e) f (full.1 h.0 e h.1) in
          let is = ap (λ (q : ℕ × ℕ). q.0) (h.2) in
          omega arith
