-- Numbers in order, put into others.
use Rattle.std.proofs.Common.{◌≡◌, ℕ, ◌+◌, ◌-◌, ◌<◌, ◌≤◌, List, length, get_or, Contains, sym, ◌∙◌, ap, subst, arith, inl, inr}
use Rattle.std.specs.Prelude.{◌⊎◌, ◌≢◌, AllPairs, slice_index}
use Rattle.std.specs.List.{insert}
use Rattle.std.proofs.lemmas.Bool.{cases_eq, cases_lt}
use Rattle.std.proofs.lemmas.Grind.{get_or_default_zero}
use Rattle.std.proofs.lemmas.List.Edits.{length-insert, get_or-insert_at, get_or-insert_below, get_or-insert_above}
use Rattle.ch_custom.specs.Pairs.{IsUnion, IsPutAt}

-- the first `place` of the others are put in; all before `next` are less than those that follow
pub record IsUnionTo (old others : List ℕ) (without place next : ℕ) (new : List ℕ) : Type 0 where
  pub within : next ≤ length new
  pub ordered : AllPairs ◌<◌ new
  pub passed : (k j : ℕ) → k < next → place ≤ j → j < length others → slice_index new k < slice_index others j
  pub each : (y : ℕ) → Contains new y → Contains old y ⊎ (Contains others y × (y ≢ without))
  pub kept : (y : ℕ) → Contains old y → Contains new y
  pub added : (k : ℕ) → k < place → k < length others → slice_index others k ≢ without → Contains new (slice_index others k)

-- an element, by the default of clauses
number_at : (xs : List ℕ) (k d : ℕ) → k < length xs → get_or xs k d ≡ slice_index xs k
number_at xs k d lt = get_or_default_zero xs k d lt

-- the element at a place is one of the list
pub has_number : (xs : List ℕ) (k : ℕ) → k < length xs → Contains xs (slice_index xs k)
has_number xs k lt = (k, lt, number_at xs k (slice_index xs k) lt)

-- the place of an element
pub place_of : (xs : List ℕ) (y : ℕ) → Contains xs y → (k : ℕ) × (k < length xs) × (slice_index xs k ≡ y)
place_of xs y c = (c.0, c.1, sym (number_at xs c.0 y c.1) ∙ c.2)

-- after the last
pub union_all : (old others : List ℕ) (without place next : ℕ) (new : List ℕ) → IsUnionTo old others without place next new →
    length others ≤ place → IsUnion old others without new
union_all old others without place next new u past = record {
  ordered = u.ordered;
  each = u.each;
  kept = u.kept;
  added = λ y c ne. let p = place_of others y c in let lt = p.1 in
      subst (Contains new) p.2 (u.added p.0 (omega arith) p.1 (λ e. ne (sym p.2 ∙ e)));
}

-- elements at greater places are greater
rises : (xs : List ℕ) → AllPairs ◌<◌ xs → (i j : ℕ) → i < j → j < length xs → slice_index xs i < slice_index xs j
rises xs ordered i j lt below = ordered i j 0 lt below

module _ (xs : List ℕ) (i x : ℕ) (le : i ≤ length xs) (ordered : AllPairs ◌<◌ xs) (less : (k : ℕ) → k < i → slice_index xs k < x)
    (more : i < length xs → x < slice_index xs i) where
  -- the list with x put in
  abbrev pub put : List ℕ
  put = insert xs i x

  at_more : (k : ℕ) → i ≤ k → k < length xs → x < slice_index xs k
  at_more k past lt = elim (cases_eq i k) [
    | inl same ↦ subst (λ z. x < slice_index xs z) same (more (omega arith))
    | inr ne ↦ let a = more (omega arith) in let b = rises xs ordered i k (omega arith) lt in omega arith
  ]

  size : length put ≡ length xs + 1
  size = length-insert xs i x le

  -- what is at a place
  at_place : (k : ℕ) → k < length put → ((k < i) × (slice_index put k ≡ slice_index xs k))
      ⊎ (((k ≡ i) × (slice_index put k ≡ x)) ⊎ ((j : ℕ) × (i ≤ j) × (j < length xs) × (k ≡ j + 1) × (slice_index put k ≡ slice_index xs j)))
  at_place k lt = elim (cases_lt k i) [
    | inl first ↦ inl (first, get_or-insert_below xs i x 0 k first le)
    | inr past ↦ elim (cases_eq k i) [
      | inl same ↦ inr (inl (same, ap (slice_index put) same ∙ get_or-insert_at xs i x 0 le))
      | inr ne ↦
          let s = size in
          let e : k ≡ (k - 1) + 1 = omega arith in
          inr (inr (k - 1, omega arith, omega arith, e, ap (slice_index put) e ∙ get_or-insert_above xs i x 0 (k - 1) (omega arith) le))
    ]
  ]

  pub put_ordered : AllPairs ◌<◌ put
  put_ordered a b d lt below =
      let s = size in
      let ea = number_at put a d (omega arith) in
      let eb = number_at put b d below in
      let less_than : slice_index put a < slice_index put b = elim (at_place a (omega arith)) [
        | inl p ↦ elim (at_place b below) [
          | inl q ↦ let r = rises xs ordered a b lt (omega (arith, q.0)) in omega (arith, p.1, q.1)
          | inr rest ↦ elim rest [
            | inl q ↦ let r = less a p.0 in omega (arith, p.1, q.1)
            | inr q ↦ let r = less a p.0 in let t = at_more q.0 q.1 q.2 in omega (arith, p.1, q.4)
          ]
        ]
        | inr rest ↦ elim rest [
          | inl p ↦ elim (at_place b below) [
            | inl q ↦ absurd (omega (arith, p.0, q.0))
            | inr more_rest ↦ elim more_rest [
              | inl q ↦ absurd (omega (arith, p.0, q.0))
              | inr q ↦ let t = at_more q.0 q.1 q.2 in omega (arith, p.1, q.4)
            ]
          ]
          | inr p ↦ elim (at_place b below) [
            | inl q ↦ absurd (omega (arith, p.1, p.3, q.0))
            | inr more_rest ↦ elim more_rest [
              | inl q ↦ absurd (omega (arith, p.1, p.3, q.0))
              | inr q ↦ let r = rises xs ordered p.0 q.0 (omega (arith, p.3, q.3)) q.2 in omega (arith, p.4, q.4)
            ]
          ]
        ]
      ] in
      omega arith

  pub put_each : (y : ℕ) → Contains put y → Contains xs y ⊎ (y ≡ x)
  put_each y c =
      let p = place_of put y c in
      elim (at_place p.0 p.1) [
        | inl q ↦ inl (subst (Contains xs) (sym q.1 ∙ p.2) (has_number xs p.0 (let f = q.0 in omega arith)))
        | inr rest ↦ elim rest [
          | inl q ↦ inr (sym p.2 ∙ q.1)
          | inr q ↦ inl (subst (Contains xs) (sym q.4 ∙ p.2) (has_number xs q.0 q.2))
        ]
      ]

  pub put_kept : (y : ℕ) → Contains xs y → Contains put y
  put_kept y c =
      let p = place_of xs y c in
      let lt = p.1 in
      let s = size in
      elim (cases_lt p.0 i) [
        | inl first ↦ subst (Contains put) (get_or-insert_below xs i x 0 p.0 first le ∙ p.2) (has_number put p.0 (omega arith))
        | inr past ↦ subst (Contains put) (get_or-insert_above xs i x 0 p.0 past le ∙ p.2) (has_number put (p.0 + 1) (omega arith))
      ]

  pub put_here : Contains put x
  put_here = let s = size in subst (Contains put) (get_or-insert_at xs i x 0 le) (has_number put i (omega arith))

module _ (old others : List ℕ) (without place next : ℕ) (now : List ℕ) (u : IsUnionTo old others without place next now)
    (inside : place < length others) (up : AllPairs ◌<◌ others) (step : ℕ)
    (within : step ≤ length now) (before : (k : ℕ) → k < step → slice_index now k < slice_index others place) (after : step < length now →
    slice_index others place ≤ slice_index now step) where
  -- one that is there already, or is left out
  pub union_skip : (slice_index others place ≢ without → Contains now (slice_index others place)) →
      IsUnionTo old others without (place + 1) step now
  union_skip there = record {
    within = within;
    ordered = u.ordered;
    passed = λ k j lt le below. let a = before k lt in let b = rises others up place j (omega arith) below in omega arith;
    each = u.each;
    kept = u.kept;
    added = λ k lt below ne. elim (cases_eq k place) [
      | inl same ↦ subst (λ z. Contains now (slice_index others z)) (sym same) (there (λ e. ne (ap (slice_index others) same ∙ e)))
      | inr apart ↦ u.added k (omega arith) below ne
    ];
  }

  -- one that is put in
  pub union_put : slice_index others place ≢ without → (step < length now → slice_index now step ≢ slice_index others place) →
      IsUnionTo old others without (place + 1) step (insert now step (slice_index others place))
  union_put ne fresh =
      let more : step < length now → slice_index others place < slice_index now step = λ lt. let a = after lt in let b = fresh lt in
      omega arith in
      let size = length-insert now step (slice_index others place) within in
      record {
        within = omega arith;
        ordered = put_ordered now step (slice_index others place) within u.ordered before more;
        passed = λ k j lt le below. let a = before k lt in let b = rises others up place j (omega arith) below in let e =
            get_or-insert_below now step (slice_index others place) 0 k lt within in omega arith;
        each = λ y c. elim (put_each now step (slice_index others place) within u.ordered before more y c) [
          | inl was ↦ u.each y was
          | inr is ↦ inr (subst (Contains others) (sym is) (has_number others place inside), λ e. ne (sym is ∙ e))
        ];
        kept = λ y c. put_kept now step (slice_index others place) within u.ordered before more y (u.kept y c);
        added = λ k lt below apart. elim (cases_eq k place) [
          | inl same ↦ subst (λ z. Contains (insert now step (slice_index others place)) (slice_index others z)) (sym same)
              (put_here now step (slice_index others place) within u.ordered before more)
          | inr other ↦ put_kept now step (slice_index others place) within u.ordered before more (slice_index others k)
              (u.added k (omega arith) below apart)
        ];
      }

-- one more is put in, or passed over
pub union_step : (old others : List ℕ) (without place next : ℕ) (now : List ℕ) → IsUnionTo old others without place next now →
    place < length others → AllPairs ◌<◌ others → (step : ℕ) (s : List ℕ) → s ≡ now → step ≤ length s →
    ((k : ℕ) → k < step → slice_index s k < slice_index others place) →
    (step < length s → slice_index others place ≤ slice_index s step) → (new : List ℕ) →
    IsPutAt now step (slice_index others place) new ⊎ ((slice_index others place ≡ without) × (new ≡ now)) →
    (slice_index others place ≢ without) ⊎ (new ≡ now) → IsUnionTo old others without (place + 1) step new
union_step old others without place next now u inside up step s same within before after new how other =
    at same within before after how other
  where
    at : s ≡ now → step ≤ length s → ((k : ℕ) → k < step → slice_index s k < slice_index others place) →
        (step < length s → slice_index others place ≤ slice_index s step) → IsPutAt now step (slice_index others place) new
        ⊎ ((slice_index others place ≡ without) × (new ≡ now)) → (slice_index others place ≢ without)
        ⊎ (new ≡ now) → IsUnionTo old others without (place + 1) step new
    at same within before after how other =
        let w = subst (λ z. step ≤ length z) same within in
        let b = subst (λ z. (k : ℕ) → k < step → slice_index z k < slice_index others place) same before in
        let a = subst (λ z. step < length z → slice_index others place ≤ slice_index z step) same after in
        elim how [
          | inl put ↦ elim put [
            | inl there ↦ subst (IsUnionTo old others without (place + 1) step) (sym there.2)
                (union_skip old others without place next now u inside up step w b a
                (λ ne. subst (Contains now) there.1 (has_number now step there.0)))
            | inr fresh ↦ elim other [
              | inl ne ↦ subst (IsUnionTo old others without (place + 1) step) (sym fresh.1)
                  (union_put old others without place next now u inside up step w b a ne fresh.0)
              | inr stays ↦ absurd
                  (apart (insert now step (slice_index others place)) now (length-insert now step (slice_index others place) w)
                  (sym fresh.1 ∙ stays))
            ]
          ]
          | inr out ↦ subst (IsUnionTo old others without (place + 1) step) (sym out.1)
              (union_skip old others without place next now u inside up step w b a (λ ne. absurd (ne out.0)))
        ]
      where
        apart : (xs ys : List ℕ) → length xs ≡ length ys + 1 → xs ≡ ys → ⊥
        apart xs ys size e = let same : length xs ≡ length ys = ap length e in omega arith
