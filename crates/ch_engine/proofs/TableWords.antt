-- Tables of distances as words: search spaces by slots of ranks, the least sums of a row, and rows one after the other.
use Rattle.std.proofs.Common.{◌≡◌, ℕ, ◌+◌, ◌*◌, ◌-◌, ◌/◌, ◌%◌, ◌<◌, ◌≤◌, List, [], ◌∷◌, ◌++◌}
use Rattle.std.proofs.Common.{length, map, replicate, take, get_or, All, Contains, Option, Some, inl, inr, refl, sym, ◌∙◌, ap, subst, arith}
use Rattle.std.proofs.lemmas.Bool.{cases_lt, le-leb, lt-leb}
use Rattle.std.proofs.lemmas.Nat.{div-mul-add, mod-mul-add}
use Rattle.std.proofs.lemmas.Option.{same_Some}
use Rattle.std.proofs.lemmas.List.{get_or-append-add, get_or-map, get_or-replicate, get_or_append_left, length-map, length-replicate}
use Rattle.std.proofs.lemmas.List.{length-append}
use Rattle.std.proofs.lemmas.List.Elements.{Contains-append_cases, Contains-append_left, Contains-append_right}
use Rattle.std.proofs.lemmas.List.Elements.{Contains-get_or, Contains-push, Contains-push_cases}
use Rattle.ch_graph.specs.Rows.{AreRowsOf, pairs_at}
use Rattle.ch_graph.specs.declared.cost.TheConstants.{UNREACHED}
use Rattle.ch_graph.specs.declared.limits.TheConstants.{MOST_SUM}
use Rattle.ch_graph.proofs.Lists.{contains_map, contains_map_of, contains_none}
use Rattle.ch_hierarchy.specs.Hierarchy.{LevelsAndLegs}
use Rattle.ch_hierarchy.specs.declared.side.Side.TheVariants.{Down, Up}
use Rattle.ch_query.specs.Distance.{IsKeptForSome}
use Rattle.ch_query.specs.Limits.{IsDistanceWithin}
use Rattle.ch_query.specs.Lowered.{AreLowered}
use Rattle.ch_query.specs.SearchSpace.{IsRankedSpace}
use Rattle.ch_query.specs.SearchSpaceLaws.{IsLeastSharedSum, IsSharedSum}
use Rattle.ch_query.proofs.by_weight.LoweredWords.{IsOne, lowered_alike, lowered_none, lowered_then}
use Rattle.ch_query.proofs.by_weight.MoreEntries.{some_cases, some_new, some_old}
use Rattle.ch_query.proofs.two_sides.SharedSums.{ranked_spaces_give_distance}
use Rattle.ch_engine.specs.Cells.{AreTableCells, IsCell}
use Rattle.ch_engine.specs.Slots.{IsSlotFound, named}
use Rattle.ch_engine.specs.Tables.{HasSpaces, HoldSpaces, IsMostSum, IsSumAt, IsSumBy, IsSumOfRank, IsTableRow}
use Rattle.ch_engine.specs.Tables.{cell_of, cell_word}
use Rattle.ch_engine.proofs.Bounds.{word_within}
use Rattle.ch_engine.proofs.SparseSets.{at_slot, slot_at}

-- a bucket without entries lowers nothing
pub bucket_none : (weight : ℕ) (row : List ℕ) → AreLowered (IsSumAt weight []) row row
bucket_none weight row = lowered_none (IsSumAt weight []) row (λ j x sum. contains_none (j, sum.0) sum.1)

-- one more entry lowers its place
pub bucket_more : (weight i : ℕ) (bucket : List (ℕ × ℕ)) (entry : ℕ × ℕ) → take (i + 1) bucket ≡ take i bucket ++ entry ∷ [] →
    (a b c : List ℕ) →
    AreLowered (IsSumAt weight (take i bucket)) a b → AreLowered (IsOne entry.0 (weight + entry.1)) b c →
    AreLowered (IsSumAt weight (take (i + 1) bucket)) a c
bucket_more weight i bucket entry is a b c =
    lowered_then (IsSumAt weight (take i bucket)) (IsOne entry.0 (weight + entry.1)) (IsSumAt weight (take (i + 1) bucket)) a b c
    (λ j x sum. (
      sum.0,
      subst (λ (l : List (ℕ × ℕ)). Contains l (j, sum.0)) (sym is)
          (Contains-append_left (take i bucket) (entry ∷ []) (j, sum.0) sum.1),
      sum.2,
    ))
    (λ j x one. (
      entry.1,
      subst (λ (l : List (ℕ × ℕ)). Contains l (j, entry.1)) (sym is)
          (subst (λ (q : ℕ). Contains (take i bucket ++ entry ∷ []) (q, entry.1)) (sym one.0) (Contains-push (take i bucket) entry)),
      one.1,
    ))
    (λ j x sum. elim (Contains-push_cases (take i bucket) entry (j, sum.0)
    (subst (λ (l : List (ℕ × ℕ)). Contains l (j, sum.0)) is sum.1)) [
      | inl before ↦ inl (sum.0, before, sum.2)
      | inr here ↦
          let place : entry.0 ≡ j = ap (λ (e : ℕ × ℕ). e.0) here in
          let rest : entry.1 ≡ sum.0 = ap (λ (e : ℕ × ℕ). e.1) here in
          let all = sum.2 in
          inr (sym place, omega (arith, rest, all))
    ])

module _ (names : List ℕ) (rows : List (List (ℕ × ℕ))) where
  -- a rank lowers by the bucket of its slot
  pub rank_some : (rank weight slot : ℕ) (a b : List ℕ) → IsSlotFound names rank (Some slot) →
      AreLowered (IsSumAt weight (get_or rows slot [])) a b → AreLowered (IsSumOfRank names rows rank weight) a b
  rank_some rank weight slot a b found =
      lowered_alike (IsSumAt weight (get_or rows slot [])) (IsSumOfRank names rows rank weight) a b
      (λ j x sum. (sum.0, (slot, (found slot).1 refl, sum.1), sum.2))
      (λ j x sum. (
        sum.0,
        subst (λ (i : ℕ). Contains (get_or rows i []) (j, sum.0)) (sym (same_Some slot sum.1.0 ((found sum.1.0).0 sum.1.1))) sum.1.2,
        sum.2,
      ))

  -- a search space without entries lowers nothing
  pub space_none : (row : List ℕ) → AreLowered (IsSumBy names rows []) row row
  space_none row = lowered_none (IsSumBy names rows []) row (λ j x sum. contains_none (sum.0, sum.1) sum.2)

  -- one more entry lowers by its rank
  pub space_more : (i : ℕ) (space : List (ℕ × ℕ)) (entry : ℕ × ℕ) → take (i + 1) space ≡ take i space ++ entry ∷ [] → (a b c : List ℕ) →
      AreLowered (IsSumBy names rows (take i space)) a b → AreLowered (IsSumOfRank names rows entry.0 entry.1) b c →
      AreLowered (IsSumBy names rows (take (i + 1) space)) a c
  space_more i space entry is a b c =
      let Q : ℕ → ℕ → ℕ → ℕ → Type 0 = λ j x rank weight. IsSumOfRank names rows rank weight j x in
      lowered_then (IsSumBy names rows (take i space)) (IsSumOfRank names rows entry.0 entry.1)
      (IsSumBy names rows (take (i + 1) space)) a b c
      (λ j x. some_old (Q j x) (take (i + 1) space) (take i space) entry is)
      (λ j x. some_new (Q j x) (take (i + 1) space) (take i space) entry is)
      (λ j x. some_cases (Q j x) (take (i + 1) space) (take i space) entry is)

-- the row of a source
module _ (H : LevelsAndLegs) (kept : IsKeptForSome H) (limit : Option ℕ) (targets names : List ℕ) (rows : List (List (ℕ × ℕ)))
    (are : HoldSpaces H limit targets names rows) (s : ℕ) (space : List (ℕ × ℕ)) (up : IsRankedSpace H Up limit s space)
    (row : List ℕ) (lowered : AreLowered (IsSumBy names rows space) (replicate (length targets) UNREACHED) row) (most : ℕ)
    (is_most : IsMostSum limit most) where
  module _ (j : ℕ) (column : j < length targets) where
    abbrev down : List (ℕ × ℕ)
    down = (are.has.spaces j column).0

    abbrev to : IsRankedSpace H Down limit (get_or targets j 0) down
    to = (are.has.spaces j column).1

    -- a sum of the row is shared by the two search spaces
    sum_shared : (x : ℕ) → IsSumBy names rows space j x → IsSharedSum space down x
    sum_shared x sum =
        let by = sum.3 in
        (sum.0, sum.1, by.0, sum.2, ((are.has.spaces j column).2 sum.0 by.0).1 by.1, sym by.2)

    -- a shared sum is a sum of the row
    shared_sum : (x : ℕ) → IsSharedSum space down x → IsSumBy names rows space j x
    shared_sum x sum = (sum.0, sum.1, sum.3, (sum.2, ((are.has.spaces j column).2 sum.0 sum.2).0 sum.4, sym sum.5))

    -- a shared sum is at most the sum of two weights of paths
    shared_low : (x : ℕ) → IsSharedSum space down x → x ≤ MOST_SUM
    shared_low x sum =
        let first = (up.sound sum.0 sum.1 sum.3).3 in
        let second = (to.sound sum.0 sum.2 sum.4).3 in
        let a = first.1.weight in
        let same = first.2 in
        let b = second.1.weight in
        let same' = second.2 in
        let all = sum.5 in omega arith

    -- a word that is at most `most` is a sum
    reached : get_or row j 0 ≤ most → IsSumBy names rows space j (get_or row j 0)
    reached low =
        let size = length-replicate (length targets) UNREACHED in
        let none = get_or-replicate (length targets) j UNREACHED 0 column in
        let few = is_most.limits in
        elim (lowered.sound j (omega arith)) [
          | inl same ↦ absurd (omega arith)
          | inr sum ↦ sum
        ]

    -- the cell is the least shared sum within the limit
    least : IsLeastSharedSum limit space down (cell_of most (get_or row j 0))
    least = elim (cases_lt most (get_or row j 0)) [
      | inl over ↦ rw (lt-leb (get_or row j 0) most over) (λ x sum low.
          let le = lowered.whole j x (shared_sum x sum) in
          let within = is_most.whole x (shared_low x sum) low in omega arith)
      | inr low ↦ rw (le-leb (get_or row j 0) most low) (
        sum_shared (get_or row j 0) (reached low),
        is_most.sound (get_or row j 0) low,
        λ y sum within.
            lowered.whole j y (shared_sum y sum),
      )
    ]

    -- so it is the distance within the limit
    cell_is : IsDistanceWithin H limit s (get_or targets j 0) (cell_of most (get_or row j 0))
    cell_is = ranked_spaces_give_distance H kept limit s (get_or targets j 0) space down up to (cell_of most (get_or row j 0)) least

  -- the words of the cells are the row of the source
  pub row_is : IsTableRow H limit s targets (map (cell_word most) row)
  row_is =
      let size : length row ≡ length targets = lowered.size ∙ length-replicate (length targets) UNREACHED in
      record {
        size = length-map row (cell_word most) ∙ size;
        each = λ j column.
            let d = cell_is j column in
            subst (IsCell H limit s (get_or targets j 0))
            (sym (get_or-map (cell_word most) row j 0 0 (omega (arith, size, column)))) (
              d.whole,
              cell_of most (get_or row j 0),
              d.distance,
              d.cut,
              word_within H kept s (get_or targets j 0) limit d.whole d.distance (cell_of most (get_or row j 0)) d.cut,
            );
      }

-- entries have the search spaces of the first n targets
abbrev pub HaveSpaces : LevelsAndLegs → Option ℕ → List ℕ → ℕ → List (ℕ × (ℕ × ℕ)) → Type 0
HaveSpaces H limit targets n entries = HasSpaces H limit targets n (λ rank entry. Contains entries (rank, entry))

module _ (H : LevelsAndLegs) (limit : Option ℕ) (targets : List ℕ) where
  -- the search space of one more target
  pub spaces_more : (n : ℕ) (entries new : List (ℕ × (ℕ × ℕ))) (space : List (ℕ × ℕ)) →
      IsRankedSpace H Down limit (get_or targets n 0) space → new ≡ entries ++ pairs_at n space → HaveSpaces H limit targets n entries →
      HaveSpaces H limit targets (n + 1) new
  spaces_more n entries new space made is are =
      let here = pairs_at n space in
      let pair : ℕ × ℕ → ℕ × (ℕ × ℕ) = λ p. (p.0, (n, p.1)) in
      subst (HaveSpaces H limit targets (n + 1)) (sym is) (record {
        few = λ rank entry has. elim (Contains-append_cases entries here (rank, entry) has) [
          | inl before ↦ (let low = are.few rank entry before in omega (arith, low))
          | inr there ↦ (
              let r = contains_map_of pair space (rank, entry) there in
              let place : n ≡ entry.0 = ap (λ (e : ℕ × (ℕ × ℕ)). e.1.0) r.2 in
              omega (arith, place))
        ];
        spaces = λ c low. elim (cases_lt c n) [
          | inl less ↦ (
              let old = are.spaces c less in (
                old.0,
                old.1,
                λ rank x. (
                  λ own. Contains-append_left entries here (rank, (c, x)) ((old.2 rank x).0 own),
                  λ has. elim (Contains-append_cases entries here (rank, (c, x)) has) [
                    | inl before ↦ (old.2 rank x).1 before
                    | inr there ↦ absurd (
                        let r = contains_map_of pair space (rank, (c, x)) there in
                        let place : n ≡ c = ap (λ (e : ℕ × (ℕ × ℕ)). e.1.0) r.2 in
                        omega (arith, place, less))
                  ],
                ),
              ))
          | inr more ↦ (
              let at : n ≡ c = omega (arith, low, more) in
              subst (λ (m : ℕ). (own : List (ℕ × ℕ)) × IsRankedSpace H Down limit (get_or targets m 0) own
              × ((rank x : ℕ) → (Contains own (rank, x) → Contains (entries ++ here) (rank, (m, x)))
              × (Contains (entries ++ here) (rank, (m, x)) → Contains own (rank, x)))) at (
                space,
                made,
                λ rank x. (
                  λ own. Contains-append_right entries here (rank, (n, x)) (contains_map pair space (rank, x) own),
                  λ has. elim (Contains-append_cases entries here (rank, (n, x)) has) [
                    | inl before ↦ absurd (let past = are.few rank (n, x) before in omega (arith, past))
                    | inr there ↦ (
                        let r = contains_map_of pair space (rank, (n, x)) there in
                        let own : r.0.0 ≡ rank = ap (λ (e : ℕ × (ℕ × ℕ)). e.0) r.2 in
                        let weight : r.0.1 ≡ x = ap (λ (e : ℕ × (ℕ × ℕ)). e.1.1) r.2 in
                        subst (λ (q : ℕ). Contains space (q, x)) own
                        (subst (λ (w : ℕ). Contains space (r.0.0, w)) weight r.1))
                  ],
                ),
              ))
        ];
      })

  -- the rows that entries make by their slots hold the search spaces
  pub spaces_hold : (names : List ℕ) (pairs : List (ℕ × (ℕ × ℕ))) → All (λ (p : ℕ × (ℕ × ℕ)). p.0 < length names) pairs →
      HaveSpaces H limit targets (length targets) (named names pairs) → (rows : List (List (ℕ × ℕ))) →
      AreRowsOf (length names) pairs rows → HoldSpaces H limit targets names rows
  spaces_hold names pairs low are rows made = record {
    among = λ i k d inside.
        let e = get_or (get_or rows i []) k d in
        let has = at_slot names pairs rows made i e (Contains-get_or (get_or rows i []) k d inside) in
        let few = are.few (get_or names i 0) e has in
        let own = are.spaces e.0 few in
        let path = (own.1.sound (get_or names i 0) e.1 ((own.2 (get_or names i 0) e.1).1 has)).3 in
        let weight = path.1.weight in
        let same = path.2 in
        (few, omega (arith, weight, same));
    has = record {
      few = λ rank entry has. are.few rank entry
          (subst (λ (r : ℕ). Contains (named names pairs) (r, entry)) has.1.1 (at_slot names pairs rows made has.0 entry has.2));
      spaces = λ c inside.
          let own = are.spaces c inside in (
            own.0,
            own.1,
            λ rank x. (
              λ there. slot_at names pairs low rows made rank (c, x) ((own.2 rank x).0 there),
              λ has. (own.2 rank x).1
                  (subst (λ (r : ℕ). Contains (named names pairs) (r, (c, x))) has.1.1 (at_slot names pairs rows made has.0 (c, x) has.2)),
            ),
          );
    };
  }

-- one more row of cells
pub table_more : (H : LevelsAndLegs) (limit : Option ℕ) (sources targets words new row : List ℕ) (i : ℕ) →
    length words ≡ i * length targets → AreTableCells H limit sources targets words → new ≡ words ++ row →
    IsTableRow H limit (get_or sources i 0) targets row → AreTableCells H limit sources targets new
table_more H limit sources targets words new row i long are is made =
    let n = length targets in
    subst (AreTableCells H limit sources targets) (sym is) (λ k low. elim (cases_lt k (length words)) [
      | inl less ↦ subst (IsCell H limit (get_or sources (k / n) 0) (get_or targets (k % n) 0))
          (sym (get_or_append_left words row 0 k less)) (are k less)
      | inr past ↦ (
          let j = k - length words in
          let both = length-append words row in
          let size = made.size in
          let column : j < n = omega (arith, low, both, size, past) in
          let at : k ≡ length words + j = omega (arith, past) in
          let place : k ≡ i * n + j = omega (arith, past, long) in
          let down : k / n ≡ i = ap (λ (q : ℕ). q / n) place ∙ div-mul-add i n j column in
          let over : k % n ≡ j = ap (λ (q : ℕ). q % n) place ∙ mod-mul-add i n j column in
          let word : get_or (words ++ row) k 0 ≡ get_or row j 0 =
          ap (λ (q : ℕ). get_or (words ++ row) q 0) at ∙ get_or-append-add words row j 0 in
          subst (λ (r : ℕ). IsCell H limit (get_or sources r 0) (get_or targets (k % n) 0) (get_or (words ++ row) k 0)) (sym down)
          (subst (λ (c : ℕ). IsCell H limit (get_or sources i 0) (get_or targets c 0) (get_or (words ++ row) k 0)) (sym over)
          (subst (IsCell H limit (get_or sources i 0) (get_or targets j 0)) (sym word) (made.each j column))))
    ])

-- and its words
pub table_long : (words row new : List ℕ) (i n : ℕ) → length words ≡ i * n → new ≡ words ++ row → length row ≡ n → length new ≡ (i + 1) * n
table_long words row new i n long is size =
    let both : length new ≡ length words + length row = ap length is ∙ length-append words row in
    omega (arith, both, long, size)

-- before the first row there is no word
pub cells_none : (H : LevelsAndLegs) (limit : Option ℕ) (sources targets words : List ℕ) → words ≡ [] →
    AreTableCells H limit sources targets words
cells_none H limit sources targets words none k low = absurd (let size : length words ≡ 0 = ap length none in omega (arith, low, size))
