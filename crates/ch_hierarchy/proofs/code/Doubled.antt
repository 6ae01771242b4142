-- The least place of an entry with the same two nodes as an earlier one.
use Rattle.std.proofs.Common.{◌≡◌, ℕ, ◌+◌, ◌<◌, ◌≤◌, ◌⊎◌, inl, inr, List, [], length, set, get_or, replicate, Option, refl, sym}
use Rattle.std.proofs.Common.{◌∙◌, ap, subst, arith}
use Rattle.std.specs.Prelude.{AllPairs, Contains, slice_index}
use Rattle.std.proofs.lemmas.Bool.{cases_eq, cases_lt}
use Rattle.std.proofs.lemmas.List.{get_or_default, length-set, length-replicate, get_or-set_same, get_or-set_other, get_or-replicate}
use Rattle.std.proofs.lemmas.List.Elements.{Contains-get_or}
use Rattle.ch_hierarchy.specs.declared.placing.Placed.{Placed}
use Rattle.ch_hierarchy.specs.Sorting.{AreInOrder, AreRising, AreSorted, IsPlacedBelow}
use Rattle.ch_hierarchy.specs.Doubles.{IsLessened, IsTwin}

-- if no number has D, the least stays
pub lessened_none : (D : ℕ → Type 0) (known : Option ℕ) → ((q : ℕ) → D q → ⊥) → IsLessened D known known
lessened_none D known none = record {
  is = λ p e. inl e;
  covers_known = λ q e. (q, e, omega arith);
  covers_new = λ q d. absurd (none q d);
}

-- two steps towards the least, one after the other
pub lessened_twice : (D E F : ℕ → Type 0) (a b c : Option ℕ) → IsLessened D a b → IsLessened E b c → ((q : ℕ) → F q → D q ⊎ E q) →
    ((q : ℕ) → D q → F q) → ((q : ℕ) → E q → F q) → IsLessened F a c
lessened_twice D E F a b c x y split left right = record {
  is = λ p e. elim (y.is p e) [ inl was ↦ elim (x.is p was) [ inl known ↦ inl known | inr d ↦ inr (left p d) ] | inr d ↦ inr (right p d) ];
  covers_known = λ q e. (let r = x.covers_known q e in let s = y.covers_known r.0 r.1 in let l = r.2 in let m = s.2 in
      (s.0, s.1, omega arith));
  covers_new = λ q f. elim (split q f) [
    | inl d ↦ (let r = x.covers_new q d in let s = y.covers_known r.0 r.1 in let l = r.2 in let m = s.2 in (s.0, s.1, omega arith))
    | inr d ↦ y.covers_new q d
  ];
}

-- two neighbours in the row have the same higher node, and the later one has place p
abbrev pub IsDouble : List Placed → ℕ → Type 0
IsDouble row p = (i : ℕ) × (d : Placed) × (i + 1 < length row) × ((get_or row i d).higher ≡ (get_or row (i + 1) d).higher)
    × ((get_or row (i + 1) d).place ≡ p)

-- a row by higher node, and at equal higher nodes by place
module _ (row : List Placed) (sorted : AreRising row) where
  -- higher nodes never fall
  no_fall : (i j : ℕ) (d : Placed) → i ≤ j → j < length row → (get_or row i d).higher ≤ (get_or row j d).higher
  no_fall i j d le lt = elim (cases_lt i j) [
    | inl less ↦ elim (sorted i j d less lt) [ inl rise ↦ omega arith | inr same ↦ (let e = same.0 in omega arith) ]
    | inr ge ↦ (let same : i ≡ j = omega arith in let e = ap (λ k. (get_or row k d).higher) same in omega arith)
  ]

  -- if no two neighbours have the same higher node, the higher nodes rise
  pub strict : ((p : ℕ) → IsDouble row p → ⊥) → AllPairs (λ a b. a.higher < b.higher) row
  strict none i j d less lt =
      let rest = no_fall (i + 1) j d (omega arith) lt in
      elim (sorted i (i + 1) d (omega arith) (omega arith)) [
        | inl rise ↦ omega arith
        | inr same ↦ absurd (none (get_or row (i + 1) d).place (i, d, omega arith, same.0, refl))
      ]

  -- for each double there is an earlier entry with the same higher node
  pub double_before : (p : ℕ) → IsDouble row p →
      (a b : Placed) × Contains row a × Contains row b × (a.higher ≡ b.higher) × (a.place < b.place) × (b.place ≡ p)
  double_before p h = (
    get_or row h.0 h.1,
    get_or row (h.0 + 1) h.1,
    Contains-get_or row h.0 h.1 (let lt = h.2 in omega arith),
    Contains-get_or row (h.0 + 1) h.1 h.2,
    h.3,
    elim (sorted h.0 (h.0 + 1) h.1 (omega arith) h.2) [ inl rise ↦ (let e = h.3 in absurd (omega arith)) | inr same ↦ same.1 ],
    h.4,
  )

-- the rows by lower node, made of entries in order
module _ (n : ℕ) (entries : List Placed) (rows : List (List Placed)) (sorted : AreSorted n entries rows) where
  -- a double in a row is a twin among the entries
  pub twin_of_double : (v p : ℕ) → v < n → IsDouble (get_or rows v []) p → IsTwin entries p
  twin_of_double v p lt h =
      let t = double_before (get_or rows v []) (sorted.order v lt) p h in
      let a = (sorted.each v t.0 lt).0 t.2 in
      let b = (sorted.each v t.1 lt).0 t.3 in
      (t.0, t.1, a.0, b.0, a.1 ∙ sym b.1, t.4, t.5, t.6)

-- among the first i entries, the one of place p has the same two nodes as an earlier one
abbrev pub IsTwinBelow : List Placed → ℕ → ℕ → Type 0
IsTwinBelow entries i p =
    (j k : ℕ) × (d : Placed) × (j < k) × (k < i) × (k < length entries) × ((get_or entries j d).lower ≡ (get_or entries k d).lower)
    × ((get_or entries j d).higher ≡ (get_or entries k d).higher) × ((get_or entries k d).place ≡ p)

-- one of the first i entries has these two nodes
abbrev pub IsMet : List Placed → ℕ → ℕ → ℕ → Type 0
IsMet entries i lower higher =
    (j : ℕ) × (d : Placed) × (j < i) × (j < length entries) × ((get_or entries j d).lower ≡ lower) × ((get_or entries j d).higher ≡ higher)

-- for each lower node, the higher node of its last entry among the first i, or n if there is none
pub record AreLast (n : ℕ) (entries : List Placed) (i : ℕ) (last : List ℕ) : Type 0 where
  pub size : length last ≡ n
  pub met : (v : ℕ) → v < n → slice_index last v < n → IsMet entries i v (slice_index last v)
  pub most : (v h : ℕ) → v < n → IsMet entries i v h → (slice_index last v < n) × (h ≤ slice_index last v)

-- the entries of each lower node are by higher node, and at equal higher nodes by place
module _ (n : ℕ) (entries : List Placed) (order : AreInOrder entries) (below : (e : Placed) → Contains entries e → IsPlacedBelow n e) where
  -- along the entries of one lower node, higher nodes never fall
  never_falls : (i j : ℕ) (d : Placed) → i ≤ j → j < length entries → (get_or entries i d).lower ≡ (get_or entries j d).lower →
      (get_or entries i d).higher ≤ (get_or entries j d).higher
  never_falls i j d le lt same = elim (cases_lt i j) [
    | inl less ↦ elim (order i j d less lt same) [ inl rise ↦ omega arith | inr even ↦ (let e = even.0 in omega arith) ]
    | inr ge ↦ (let one : i ≡ j = omega arith in let e = ap (λ k. (get_or entries k d).higher) one in omega arith)
  ]

  -- before the first entry, no lower node has been met
  pub none_met : (last : List ℕ) → last ≡ replicate n n → AreLast n entries 0 last
  none_met last is = record {
    size = ap length is ∙ length-replicate n n;
    met = λ v lt less. (let at = ap (λ l. slice_index l v) is ∙ get_or-replicate n v n 0 lt in absurd (omega arith));
    most = λ v h lt m. absurd (let less = m.2 in omega arith);
  }

  module _ (i : ℕ) (last : List ℕ) (e : Placed) (within : i < length entries) (are : AreLast n entries i last) where
    nodes : IsPlacedBelow n (get_or entries i e)
    nodes = below (get_or entries i e) (Contains-get_or entries i e within)

    -- if the last higher node is that of this entry, an earlier entry has the same two nodes
    pub met_before : slice_index last (get_or entries i e).lower ≡ (get_or entries i e).higher →
        IsMet entries i (get_or entries i e).lower (get_or entries i e).higher
    met_before same = (let b = nodes in subst (IsMet entries i (get_or entries i e).lower) same
        (are.met (get_or entries i e).lower b.0 (let h = b.1 in omega arith)))

    -- if the last higher node is another, no earlier entry has both nodes
    pub none_before : (slice_index last (get_or entries i e).lower ≡ (get_or entries i e).higher → ⊥) →
        IsMet entries i (get_or entries i e).lower (get_or entries i e).higher → ⊥
    none_before other m =
        let b = nodes in
        let top = are.most (get_or entries i e).lower (get_or entries i e).higher b.0 m in
        let k = are.met (get_or entries i e).lower b.0 top.0 in
        let fall = never_falls k.0 i k.1 (let lt = k.2 in omega arith) within
        (k.4 ∙ sym (ap (λ (q : Placed). q.lower) (get_or_default entries i k.1 e within))) in
        let here = ap (λ (q : Placed). q.higher) (get_or_default entries i k.1 e within) in
        let high = k.5 in
        let low = top.1 in
        other (omega arith)

    -- the last higher nodes after one more entry
    pub next_last : AreLast n entries (i + 1) (set last (get_or entries i e).lower (get_or entries i e).higher)
    next_last = record {
      size = length-set last (get_or entries i e).lower (get_or entries i e).higher ∙ are.size;
      met = λ v lt less. met v lt less (cases_eq v (get_or entries i e).lower);
      most = λ v h lt m. most v h lt m (cases_eq v (get_or entries i e).lower);
    }
      where
        same_at : (v : ℕ) → v ≡ (get_or entries i e).lower →
            slice_index (set last (get_or entries i e).lower (get_or entries i e).higher) v ≡ (get_or entries i e).higher
        same_at v is = ap (slice_index (set last (get_or entries i e).lower (get_or entries i e).higher)) is
            ∙ get_or-set_same last (get_or entries i e).lower (get_or entries i e).higher 0
            (let b = nodes in let low = b.0 in omega (arith, are.size, low))

        other_at : (v : ℕ) → (v ≡ (get_or entries i e).lower → ⊥) →
            slice_index (set last (get_or entries i e).lower (get_or entries i e).higher) v ≡ slice_index last v
        other_at v ne = get_or-set_other last (get_or entries i e).lower v (get_or entries i e).higher 0 ne

        met : (v : ℕ) → v < n → slice_index (set last (get_or entries i e).lower (get_or entries i e).higher) v < n →
            (v ≡ (get_or entries i e).lower) ⊎ (v ≡ (get_or entries i e).lower → ⊥) →
            IsMet entries (i + 1) v (slice_index (set last (get_or entries i e).lower (get_or entries i e).higher) v)
        met v lt less (inl is) = (i, e, omega arith, within, sym is, sym (same_at v is))
        met v lt less (inr ne) = (let at = other_at v ne in let k = are.met v lt (omega arith) in
            (k.0, k.1, (let low = k.2 in omega arith), k.3, k.4, k.5 ∙ sym at))

        most : (v h : ℕ) → v < n → IsMet entries (i + 1) v h → (v ≡ (get_or entries i e).lower) ⊎ (v ≡ (get_or entries i e).lower → ⊥) →
            (slice_index (set last (get_or entries i e).lower (get_or entries i e).higher) v < n)
            × (h ≤ slice_index (set last (get_or entries i e).lower (get_or entries i e).higher) v)
        most v h lt m (inl is) =
            let at = same_at v is in
            let b = nodes in
            let high = b.1 in
            let fall = never_falls m.0 i m.1 (let low = m.2 in omega arith) within
            (m.4 ∙ is ∙ sym (ap (λ (q : Placed). q.lower) (get_or_default entries i m.1 e within))) in
            let here = ap (λ (q : Placed). q.higher) (get_or_default entries i m.1 e within) in
            let it = m.5 in
            (omega arith, omega arith)
        most v h lt m (inr ne) = (let at = other_at v ne in let t = are.most v h lt (before m ne) in let a = t.0 in let b = t.1 in
            (omega arith, omega arith))
          where
            before : IsMet entries (i + 1) v h → (v ≡ (get_or entries i e).lower → ⊥) → IsMet entries i v h
            before q ne = elim (cases_lt q.0 i) [
              | inl less ↦ (q.0, q.1, less, q.3, q.4, q.5)
              | inr ge ↦ absurd (let low = q.2 in let same : q.0 ≡ i = omega arith in
                  ne (sym q.4 ∙ ap (λ k. (get_or entries k q.1).lower) same
                  ∙ ap (λ (z : Placed). z.lower) (get_or_default entries i q.1 e within)))
            ]

    -- the least place after an entry that has a twin
    pub twin_met : (a b c : Option ℕ) → IsMet entries i (get_or entries i e).lower (get_or entries i e).higher →
        IsLessened (IsTwinBelow entries i) a b → IsLessened (λ q. q ≡ (get_or entries i e).place) b c →
        IsLessened (IsTwinBelow entries (i + 1)) a c
    twin_met a b c m p q = lessened_twice (IsTwinBelow entries i) (λ r. r ≡ (get_or entries i e).place)
        (IsTwinBelow entries (i + 1)) a b c p q
        (λ r t. elim (cases_lt t.1 i) [
          | inl less ↦ inl (t.0, t.1, t.2, t.3, less, t.5, t.6, t.7, t.8)
          | inr ge ↦ (let low = t.4 in let same : t.1 ≡ i = omega arith in
              inr (sym t.8 ∙ ap (λ (z : Placed). z.place) (ap (λ k. get_or entries k t.2) same ∙ get_or_default entries i t.2 e within)))
        ])
        (λ r t. (t.0, t.1, t.2, t.3, (let low = t.4 in omega arith), t.5, t.6, t.7, t.8))
        (λ r is. (
          m.0,
          i,
          e,
          m.2,
          omega arith,
          within,
          ap (λ (z : Placed). z.lower) (get_or_default entries m.0 e m.1 m.3) ∙ m.4,
          ap (λ (z : Placed). z.higher) (get_or_default entries m.0 e m.1 m.3) ∙ m.5,
          sym is,
        ))

    -- the least place after an entry that has no twin
    pub none_more : (a b : Option ℕ) → (IsMet entries i (get_or entries i e).lower (get_or entries i e).higher → ⊥) →
        IsLessened (IsTwinBelow entries i) a b → IsLessened (IsTwinBelow entries (i + 1)) a b
    none_more a b none p = record {
      is = λ r k. elim (p.is r k)
          [ inl was ↦ inl was | inr t ↦ inr (t.0, t.1, t.2, t.3, (let low = t.4 in omega arith), t.5, t.6, t.7, t.8) ];
      covers_known = p.covers_known;
      covers_new = λ r t. elim (cases_lt t.1 i) [
        | inl less ↦ p.covers_new r (t.0, t.1, t.2, t.3, less, t.5, t.6, t.7, t.8)
        | inr ge ↦ (
            let low = t.4 in
            let same : t.1 ≡ i = omega arith in
            let here = ap (λ k. get_or entries k t.2) same ∙ get_or_default entries i t.2 e within in
            let first = t.3 in
            absurd (none (
              t.0,
              t.2,
              omega arith,
              omega arith,
              t.6 ∙ ap (λ (z : Placed). z.lower) here,
              t.7
                  ∙ ap (λ (z : Placed). z.higher) here,
            )))
      ];
    }

  -- the least place after all entries
  pub twins_all : (i : ℕ) (a b : Option ℕ) → length entries ≤ i → IsLessened (IsTwinBelow entries i) a b → IsLessened (IsTwin entries) a b
  twins_all i a b le p = record {
    is = λ r k. elim (p.is r k) [ inl was ↦ inl was | inr t ↦ inr (twin r t) ];
    covers_known = p.covers_known;
    covers_new = λ r t. p.covers_new r (placed r t);
  }
    where
      twin : (r : ℕ) → IsTwinBelow entries i r → IsTwin entries r
      twin r t = (
        get_or entries t.0 t.2,
        get_or entries t.1 t.2,
        Contains-get_or entries t.0 t.2 (let a = t.3 in let b = t.5 in omega arith),
        Contains-get_or entries t.1 t.2 t.5,
        t.6,
        t.7,
        elim (order t.0 t.1 t.2 t.3 t.5 t.6) [ inl rise ↦ (let same = t.7 in absurd (omega arith)) | inr same ↦ same.1 ],
        t.8,
      )

      placed : (r : ℕ) → IsTwin entries r → IsTwinBelow entries i r
      placed r t =
          let a = t.2 in
          let b = t.3 in
          let first : get_or entries a.0 t.0 ≡ t.0 = a.2 in
          let second : get_or entries b.0 t.0 ≡ t.1 = get_or_default entries b.0 t.0 t.1 b.1 ∙ b.2 in
          let low = b.1 in (
            a.0,
            b.0,
            t.0,
            earlier a.0 b.0 a.1 b.1 first second,
            omega arith,
            b.1,
            ap (λ (z : Placed). z.lower) first ∙ t.4 ∙ sym (ap (λ (z : Placed). z.lower) second),
            ap (λ (z : Placed). z.higher) first ∙ t.5 ∙ sym (ap (λ (z : Placed). z.higher) second),
            ap (λ (z : Placed). z.place) second ∙ t.7,
          )
        where
          earlier : (j k : ℕ) → j < length entries → k < length entries → get_or entries j t.0 ≡ t.0 → get_or entries k t.0 ≡ t.1 → j < k
          earlier j k low high first second = elim (cases_lt j k) [
            | inl less ↦ less
            | inr ge ↦ absurd (
                let f = ap (λ (z : Placed). z.place) first in
                let s = ap (λ (z : Placed). z.place) second in
                let fh = ap (λ (z : Placed). z.higher) first in
                let sh = ap (λ (z : Placed). z.higher) second in
                let hs = t.5 in
                let ps = t.6 in
                elim (cases_lt k j) [
                  | inl less ↦ elim (order k j t.0 less low (ap (λ (z : Placed). z.lower) second ∙ sym t.4
                      ∙ sym (ap (λ (z : Placed). z.lower) first))) [
                        | inl rise ↦ omega arith
                        | inr same ↦ (let later = same.1 in omega arith)
                      ]
                  | inr le ↦ (let one : j ≡ k = omega arith in let at = ap (λ q. (get_or entries q t.0).place) one in omega arith)
                ])
          ]
