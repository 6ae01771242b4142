-- Rows in one array, of which one is written.
use Rattle.std.proofs.Common.{◌≡◌, ◌^◌, ℕ, suc, zero, ◌+◌, ◌-◌, ◌<◌, ◌≤◌, List, [], ◌∷◌, ◌++◌, length, get_or, set, take, drop}
use Rattle.std.proofs.Common.{slice_range, refl, sym, ◌∙◌, ap, subst, arith, inl, inr, length-set, get_or-set_same, get_or-set_other}
use Rattle.std.specs.Prelude.{map}
use Rattle.std.proofs.lemmas.Bool.{cases_eq, cases_lt}
use Rattle.std.proofs.lemmas.List.{ext_get_or, get_or-take, get_or-drop, length-take-le, length-drop, length-append, get_or_append_left}
use Rattle.std.proofs.lemmas.List.{get_or-append_right, get_or_default, map-append, get_or-map, length-map, drop-map, take-map}
use Rattle.std.proofs.Math.Seq.{take-append_seam}
use Rattle.ch_graph.proofs.RowsBetween.{row_within, rows_pushed, ordered_pushed}
use Rattle.ch_custom.specs.declared.leg_pair.LegPair.{LegPair}
use Rattle.ch_custom.specs.LegPairs.{no_pair}
use Rattle.ch_custom.proofs.theory.RowLoops.{take_more}
use Rattle.ch_graph.specs.Rows.{AreOrdered, rows_between}
use Rattle.ch_graph.proofs.RowsBetween.{length-rows_between, get_or-rows_between}

-- the starts rise
rising : (starts : List ℕ) (len i : ℕ) → AreOrdered starts len → (k : ℕ) → i + k < length starts →
    get_or starts i 0 ≤ get_or starts (i + k) 0
rising starts len i o zero lt = let e : i + zero ≡ i = omega arith in
    subst (λ z. get_or starts i 0 ≤ get_or starts z 0) (sym e) (omega arith)
rising starts len i o (suc k) lt =
    let e : i + k + 1 ≡ i + suc k = omega arith in
    let one = rising starts len i o k (omega arith) in
    let two = o.ordered (i + k) (omega arith) in
    let all : get_or starts i 0 ≤ get_or starts (i + k + 1) 0 = omega arith in
    subst (λ z. get_or starts i 0 ≤ get_or starts z 0) e all

rises : (starts : List ℕ) (len i j : ℕ) → AreOrdered starts len → i ≤ j → j < length starts → get_or starts i 0 ≤ get_or starts j 0
rises starts len i j o le lt = let e : i + (j - i) ≡ j = omega arith in
    subst (λ z. get_or starts i 0 ≤ get_or starts z 0) e (rising starts len i o (j - i) (omega arith))

-- the elements of a range
range_at : {T : Type 0} (xs : List T) (a b j : ℕ) (d : T) → j < b - a → get_or (slice_range xs a b) j d ≡ get_or xs (a + j) d
range_at xs a b j d lt = get_or-take (b - a) (drop a xs) j d lt ∙ get_or-drop a xs j d

range_size : {T : Type 0} (xs : List T) (a b : ℕ) → a ≤ b → b ≤ length xs → length (slice_range xs a b) ≡ b - a
range_size xs a b le lt = length-take-le (b - a) (drop a xs) (omega (arith, length-drop a xs))

module _ {T : Type 0} (blank : T) (starts : List ℕ) (values new row : List T) (i : ℕ) (o : AreOrdered starts (length values))
    (inside : i + 1 < length starts) (size : length new ≡ length values)
    (many : length row ≡ get_or starts (i + 1) 0 - get_or starts i 0)
    (apart : (p : ℕ) → (p < get_or starts i 0 → get_or new p blank ≡ get_or values p blank)
    × (get_or starts (i + 1) 0 ≤ p → get_or new p blank ≡ get_or values p blank))
    (here : (j : ℕ) → j < length row → get_or new (get_or starts i 0 + j) blank ≡ get_or row j blank) where
  -- the rows after one of them is written
  pub row_written : rows_between starts new ≡ set (rows_between starts values) i row
  row_written = ext_get_or [] (rows_between starts new) (set (rows_between starts values) i row) (length-rows_between starts new
      ∙ sym (length-set (rows_between starts values) i row ∙ length-rows_between starts values)) (λ k lt.
      let count = length-rows_between starts new in
      let old_count = length-rows_between starts values in
      let below : k + 1 < length starts = omega arith in
      let here_k = get_or-rows_between starts new k [] below in
      let a = get_or starts k 0 in
      let b = get_or starts (k + 1) 0 in
      let le = o.ordered k below in
      let end = o.within (k + 1) below in
      elim (cases_eq k i) [
        | inl same ↦
            here_k ∙ ap (λ z. slice_range new (get_or starts z 0) (get_or starts (z + 1) 0)) same
            ∙ ext_get_or blank (slice_range new (get_or starts i 0) (get_or starts (i + 1) 0)) row
            (range_size new (get_or starts i 0) (get_or starts (i + 1) 0) (o.ordered i inside)
            (subst (λ z. get_or starts (i + 1) 0 ≤ z) (sym size) (o.within (i + 1) inside)) ∙ sym many)
            (λ j less. let wide =
            range_size new (get_or starts i 0) (get_or starts (i + 1) 0) (o.ordered i inside)
            (subst (λ z. get_or starts (i + 1) 0 ≤ z) (sym size) (o.within (i + 1) inside)) in
            range_at new (get_or starts i 0) (get_or starts (i + 1) 0) j blank (omega arith) ∙ here j (omega arith))
            ∙ sym (get_or-set_same (rows_between starts values) i row [] (omega arith))
            ∙ ap (λ z. get_or (set (rows_between starts values) i row) z []) (sym same)
        | inr ne ↦
            here_k
            ∙ ext_get_or blank (slice_range new a b) (slice_range values a b) (range_size new a b le (subst (λ z. b ≤ z) (sym size) end)
            ∙ sym (range_size values a b le end))
            (λ j less.
            let wide = range_size new a b le (subst (λ z. b ≤ z) (sym size) end) in
            let within : j < b - a = omega arith in
            range_at new a b j blank within ∙ elsewhere k (a + j) ne below (omega arith) (omega arith)
            ∙ sym (range_at values a b j blank within))
            ∙ sym (get_or-rows_between starts values k [] below) ∙ sym (get_or-set_other (rows_between starts values) i k row [] ne)
      ])
    where
      elsewhere : (k p : ℕ) → (k ≡ i → ⊥) → k + 1 < length starts → get_or starts k 0 ≤ p → p < get_or starts (k + 1) 0 →
          get_or new p blank ≡ get_or values p blank
      elsewhere k p ne below low high = elim (cases_lt k i) [
        | inl before ↦ let up = rises starts (length values) (k + 1) i o (omega arith) (omega arith) in (apart p).0 (omega arith)
        | inr after ↦ let up = rises starts (length values) (i + 1) k o (omega arith) (omega arith) in (apart p).1 (omega arith)
      ]

-- an array with a row written over as many of its values, from a start on
abbrev pub pasted_at : {T : Type 0} → List T → List T → ℕ → List T
pasted_at values row start = take start values ++ (row ++ drop (length row) (drop start values))

module _ {T : Type 0} (values row : List T) (start : ℕ) (fits : start + length row ≤ length values) where
  abbrev pasted : List T
  pasted = pasted_at values row start

  front : length (take start values) ≡ start
  front = length-take-le start values (omega arith)

  pub pasted_size : length pasted ≡ length values
  pasted_size = omega (
    arith,
    fits,
    front,
    length-append (take start values) (row ++ drop (length row) (drop start values)),
    length-append row (drop (length row) (drop start values)),
    length-drop (length row) (drop start values),
    length-drop start values,
  )

  pub pasted_before : (p : ℕ) (d : T) → p < start → get_or pasted p d ≡ get_or values p d
  pasted_before p d lt = get_or_append_left (take start values) (row ++ drop (length row) (drop start values)) d p (omega (arith, front))
      ∙ get_or-take start values p d lt

  pub pasted_here : (j : ℕ) (d : T) → j < length row → get_or pasted (start + j) d ≡ get_or row j d
  pasted_here j d lt =
      let e : start + j - start ≡ j = omega arith in
      get_or-append_right (take start values) (row ++ drop (length row) (drop start values)) start (start + j) d front (omega arith)
      ∙ ap (λ z. get_or (row ++ drop (length row) (drop start values)) z d) e
      ∙ get_or_append_left row (drop (length row) (drop start values)) d j lt

  pub pasted_after : (p : ℕ) (d : T) → start + length row ≤ p → get_or pasted p d ≡ get_or values p d
  pasted_after p d le =
      let e : start + (length row + (p - start - length row)) ≡ p = omega arith in
      get_or-append_right (take start values) (row ++ drop (length row) (drop start values)) start p d front (omega arith)
      ∙ get_or-append_right row (drop (length row) (drop start values)) (length row) (p - start) d refl (omega arith)
      ∙ get_or-drop (length row) (drop start values) (p - start - length row) d
      ∙ get_or-drop start values (length row + (p - start - length row)) d
      ∙ ap (λ z. get_or values z d) e

  -- a Vec of n elements after the write
  pub refilled : (n : ℕ) → n ≡ length values → take n (pasted ++ drop (length pasted) values) ≡ pasted
  refilled n e = ap (λ z. take z (pasted ++ drop (length pasted) values)) (e ∙ sym pasted_size)
      ∙ take-append_seam pasted (drop (length pasted) values)

-- a row of an array in rows: where it is, and the rows after it is written
module _ {T : Type 0} (blank : T) (starts : List ℕ) (values : List T) (rows : List (List T)) (i start end : ℕ)
    (o : AreOrdered starts (length values))
    (are : rows_between starts values ≡ rows) (low : i < length rows) (is_start : start ≡ get_or starts i start)
    (is_end : end ≡ get_or starts (i + 1) end) where
  inside : i + 1 < length starts
  inside = row_within starts values rows i are low

  from : start ≡ get_or starts i 0
  from = is_start ∙ get_or_default starts i start 0 (omega (arith, inside))

  to : end ≡ get_or starts (i + 1) 0
  to = is_end ∙ get_or_default starts (i + 1) end 0 inside

  pub bounds : (start ≤ end) × (end ≤ length values)
  bounds = (omega (arith, from, to, o.ordered i inside), omega (arith, to, o.within (i + 1) inside))

  -- the values from its start to its end are the row
  pub lent_row : slice_range values start end ≡ get_or rows i []
  lent_row =
      ap (λ a. slice_range values a end) from
      ∙ ap (slice_range values (get_or starts i 0)) to
      ∙ sym (get_or-rows_between starts values i [] inside)
      ∙ ap (λ xs. get_or xs i []) are

  pub lent_range : (lent : List T) → lent ≡ values → slice_range lent start end ≡ get_or rows i []
  lent_range lent same = ap (λ xs. slice_range xs start end) same ∙ lent_row

  pub range_lent : (lent : List T) → lent ≡ values → length (slice_range lent start end) ≡ end - start
  range_lent lent same = ap (λ xs. length (slice_range xs start end)) same ∙ range_size values start end bounds.0 bounds.1

  -- the rows after it is written, and that row
  pub row_pasted : (row : List T) → length row ≡ end - start → (n : ℕ) → n ≡ length values →
      rows_between starts (take n (pasted_at values row start ++ drop (length (pasted_at values row start)) values)) ≡ set rows i row
  row_pasted row many n is =
      let b = bounds in
      let fits : start + length row ≤ length values = omega (arith, b.0, b.1) in
      let stop : start + length row ≡ end = omega (arith, b.0) in
      ap (rows_between starts) (refilled values row start fits n is)
      ∙ row_written blank starts values (pasted_at values row start) row i o inside (pasted_size values row start fits) (many
      ∙ (λ k. to k - from k))
      (λ p. (
        (λ lt. pasted_before values row start fits p blank (subst (λ z. p < z) (sym from) lt)),
        (λ le. pasted_after values row start fits p blank (subst (λ z. z ≤ p) (sym to ∙ sym stop) le)),
      ))
      (λ j lt. ap (λ z. get_or (pasted_at values row start) (z + j) blank) (sym from) ∙ pasted_here values row start fits j blank lt)
      ∙ ap (λ z. set z i row) are

  -- the same for what a range of a Vec was written over
  pub row_put : (row lent : List T) (n : ℕ) → length row ≡ end - start → n ≡ length values → lent ≡ values →
      rows_between starts (take n ((take start lent ++ (row ++ drop (end - start) (drop start lent)))
      ++ drop (length (take start lent ++ (row ++ drop (end - start) (drop start lent)))) values)) ≡ set rows i row
  row_put row lent n many is same =
      ap (λ z. after z (end - start)) same ∙ ap (after values) (sym many) ∙ row_pasted row many n is
    where
      after : List T → ℕ → List (List T)
      after xs k = rows_between starts
          (take n ((take start xs ++ (row ++ drop k (drop start xs))) ++ drop
          (length (take start xs ++ (row ++ drop k (drop start xs)))) values))

-- the row that was written
pub put_row : {T : Type 0} (rows new : List (List T)) (i : ℕ) (row : List T) → i < length rows → new ≡ set rows i row →
    get_or new i [] ≡ row
put_row rows new i row lt is = ap (λ z. get_or z i []) is ∙ get_or-set_same rows i row [] lt

-- one more row without legs
pub opened_more : (topology : List (List ℕ)) (starts after : List ℕ) (pairs more : List LegPair) (node end : ℕ) (r : List ℕ) →
    length topology + 1 < 2 ^ 32 →
    node < length topology → rows_between starts pairs ≡ map (λ z. map no_pair z) (take node topology) → AreOrdered starts (length pairs) →
    length starts ≡ node + 1 → r ≡ get_or topology node [] → more ≡ pairs ++ map no_pair r → end ≡ length more →
    after ≡ starts ++ end ∷ [] →
    (rows_between after more ≡ map (λ z. map no_pair z) (take (node + 1) topology)) × AreOrdered after (length more)
    × (length after ≡ node + 1 + 1)
opened_more topology starts after pairs more node end r small lt all o count is grown stop pushed =
    let next : after ≡ starts ++ length (pairs ++ map no_pair r) ∷ [] = pushed ∙ ap (λ z. starts ++ z ∷ []) (stop ∙ ap length grown) in (
      ap (λ z. rows_between z more) next ∙ ap (rows_between (starts ++ length (pairs ++ map no_pair r) ∷ [])) grown
          ∙ rows_pushed starts pairs (map no_pair r) o ∙ (λ i. all i ++ map no_pair (is i) ∷ [])
          ∙ sym (map-append (λ z. map no_pair z) (take node topology) (get_or topology node [] ∷ []))
          ∙ ap (map (λ z. map no_pair z)) (sym (take_more topology node [] lt)),
      subst (AreOrdered after) (ap length (sym grown)) (subst (λ z. AreOrdered z (length (pairs ++ map no_pair r))) (sym next)
          (ordered_pushed starts pairs (map no_pair r) o (omega arith))),
      (let size = ap length pushed in let more = length-append starts (end ∷ []) in omega arith),
    )

-- the rows after a function is mapped over all their values
pub rows_mapped : {T : Type 0} (f : T → T) (starts : List ℕ) (values : List T) →
    rows_between starts (map f values) ≡ map (λ r. map f r) (rows_between starts values)
rows_mapped f starts values = ext_get_or [] (rows_between starts (map f values)) (map (λ r. map f r) (rows_between starts values))
    (length-rows_between starts (map f values) ∙ sym (length-map (rows_between starts values) (λ r. map f r)
    ∙ length-rows_between starts values)) (λ k lt.
    let count = length-rows_between starts (map f values) in
    let old_count = length-rows_between starts values in
    let below : k + 1 < length starts = omega arith in
    let a = get_or starts k 0 in
    let b = get_or starts (k + 1) 0 in
    get_or-rows_between starts (map f values) k [] below
    ∙ ap (take (b - a)) (drop-map f a values) ∙ take-map f (b - a) (drop a values)
    ∙ ap (map f) (sym (get_or-rows_between starts values k [] below))
    ∙ sym (get_or-map (λ r. map f r) (rows_between starts values) k [] [] (omega arith)))

-- the same for a Vec of n elements
pub rows_mapped_over : {T : Type 0} (f : T → T) (starts : List ℕ) (values lent new : List T) (rows : List (List T)) (n : ℕ) →
    n ≡ length values → rows_between starts values ≡ rows → lent ≡ values → new ≡ map f lent →
    rows_between starts (take n (new ++ drop (length new) values)) ≡ map (λ r. map f r) rows
rows_mapped_over f starts values lent new rows n size are same is =
    let whole : new ≡ map f values = is ∙ ap (map f) same in
    let many : n ≡ length new = size ∙ sym (ap length whole ∙ length-map values f) in
    ap (λ z. rows_between starts (take z (new ++ drop (length new) values))) many
    ∙ ap (rows_between starts) (take-append_seam new (drop (length new) values) ∙ whole) ∙ rows_mapped f starts values
    ∙ ap (map (λ r. map f r)) are
