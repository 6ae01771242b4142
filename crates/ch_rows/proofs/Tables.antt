-- The cells of a table: the least sums that the nodes owe, and their meaning.
use Rattle.std.proofs.Common.{◌≡◌, ℕ, zero, suc, ◌+◌, ◌*◌, ◌<◌, ◌≤◌, min, List, [], ◌∷◌, length, Contains, Option, Some, None}
use Rattle.std.proofs.Common.{get_or, refl, sym, ◌∙◌, subst, arith}
use Rattle.std.specs.Prelude.{All, slice_index, slice_index_or, slice_range}
use Rattle.std.specs.List.{AllZip}
use Rattle.std.proofs.lemmas.List.Edits.{length-between, get_or-between}
use Rattle.std.proofs.lemmas.List.Elements.{Contains-get_or}
use Rattle.std.proofs.lemmas.List.FromFn.{length-map-range_with_len, get_or-map-range_with_len}
use Rattle.std.proofs.lemmas.Nat.{same_from_place, mul-le}
use Rattle.ch_hierarchy.specs.Hierarchy.{LevelsAndLegs, nodes_of}
use Rattle.ch_hierarchy.specs.declared.side.Side.{Side}
use Rattle.ch_hierarchy.specs.declared.side.Side.TheVariants.{Up, Down}
use Rattle.ch_query.specs.Limits.{IsWithin, IsDistanceWithin}
use Rattle.ch_query.specs.SearchSpaceLaws.{IsSharedSum, IsLeastSharedSum}
use Rattle.ch_query.proofs.two_sides.SharedSums.{ranked_spaces_give_distance}
use Rattle.ch_work.specs.declared.limits.TheConstants.{MOST_CELLS}
use Rattle.ch_work.specs.Owed.{owed_by, IsLeastOwed}
use Rattle.ch_work.specs.Pieces.{pieces_of}
use Rattle.ch_work.proofs.PieceLists.{piece_of}
use Rattle.ch_rows.specs.Buckets.{HoldSearchSpaces, IsEntryAmong}
use Rattle.ch_rows.specs.Owed.{BothSides, AreWithin, IsOwedAmong}
use Rattle.ch_rows.specs.Table.{IsRowBy, rows_of_cells}
use Rattle.ch_rows.proofs.Held.{held_within}
use Rattle.ch_rows.proofs.HeldSpaces.{rank_within, space_at, space_weight, spaces_count}

-- two lists of the same length are related if their elements are at each place
pub all_zip_at : {X Y : Type 0} (R : X → Y → Type 0) (d : X) (e : Y) (xs : List X) (ys : List Y) → length ys ≡ length xs →
    ((j : ℕ) → j < length xs → R (get_or xs j d) (get_or ys j e)) → AllZip R xs ys
all_zip_at R d e [] [] size h = tt
all_zip_at R d e [] (y ∷ ys) size h = absurd (omega arith)
all_zip_at R d e (x ∷ xs) [] size h = absurd (omega arith)
all_zip_at R d e (x ∷ xs) (y ∷ ys) size h = (h zero (omega arith), all_zip_at R d e xs ys (omega arith) (λ j lt. h (suc j) (omega arith)))

-- there are `rows` rows
pub length_rows : (rows columns : ℕ) (cells : List (Option ℕ)) → length (rows_of_cells rows columns cells) ≡ rows
length_rows rows columns cells = length-map-range_with_len (λ i. slice_range cells (i * columns) (i * columns + columns)) 0 rows

-- each row is its part of the cells
pub row_at : (rows columns : ℕ) (cells : List (Option ℕ)) (i : ℕ) → i < rows →
    slice_index_or (rows_of_cells rows columns cells) i [] ≡ slice_range cells (i * columns) (i * columns + columns)
row_at rows columns cells i lt =
    get_or-map-range_with_len (λ j. slice_range cells (j * columns) (j * columns + columns)) 0 rows i i [] lt (omega arith)

-- a row is within the cells
pub row_fits : (rows columns i : ℕ) → i < rows → i * columns + columns ≤ rows * columns
row_fits rows columns i lt =
    let next : (i + 1) * columns ≡ i * columns + columns = omega arith in
    let most = mul-le (i + 1) columns rows columns (omega arith) (omega arith) in omega arith

-- the entries of the buckets are those of search spaces
pub entries_among : {H : LevelsAndLegs} {side : Side} {limit : Option ℕ} {item : ℕ → ℕ} {nodes : List ℕ} {buckets : List (List (ℕ × ℕ))} →
    HoldSearchSpaces H side limit item nodes buckets → (q : ℕ) → All (IsEntryAmong (length nodes)) (slice_index_or buckets q [])
entries_among {nodes = nodes} {buckets} hold q k d lt =
    let bucket = slice_index_or buckets q [] in
    let e = get_or bucket k d in
    let r = hold.held.sound q e.0 e.1 (Contains-get_or bucket k d lt) in
    let size = spaces_count hold in
    let place : e.0 < length nodes = (let within = r.0 in omega arith) in
    (place, space_weight (space_at hold e.0 place) r.1 e.1 r.2)

-- the buckets of both sides fit the cells
pub within : {H : LevelsAndLegs} {limit : Option ℕ} {item item' : ℕ → ℕ} {sources targets : List ℕ} {ups downs : List (List (ℕ × ℕ))} →
    HoldSearchSpaces H Up limit item sources ups →
    HoldSearchSpaces H Down limit item' targets downs → length sources * length targets ≤ MOST_CELLS →
    AreWithin (record { ups = ups; downs = downs; rows = length sources; columns = length targets; limit = limit })
within rise fall few = record {
  items = fall.held.count ∙ sym rise.held.count;
  ups = entries_among rise;
  downs = entries_among fall;
  cells = few;
}

module _ (H : LevelsAndLegs) (limit : Option ℕ) (item : ℕ → ℕ) (sources targets : List ℕ) (ups downs : List (List (ℕ × ℕ)))
    (rise : HoldSearchSpaces H Up limit item sources ups)
    (fall : HoldSearchSpaces H Down limit item targets downs) where
  -- the buckets of both sides
  abbrev sides : BothSides
  sides = record { ups = ups; downs = downs; rows = length sources; columns = length targets; limit = limit }

  module _ (apart : (q r : ℕ) → q < nodes_of H → r < nodes_of H → item q ≡ item r → q ≡ r) (i j : ℕ)
      (row : i < length sources) (column : j < length targets) where
    abbrev up : List (ℕ × ℕ)
    up = slice_index_or rise.spaces i []

    abbrev down : List (ℕ × ℕ)
    down = slice_index_or fall.spaces j []

    abbrev cell : ℕ
    cell = i * length targets + j

    -- a weight that the nodes owe to the cell is shared by the two search spaces and within the limit, because an
    -- item has one rank
    owed_shared : (from to x : ℕ) → IsOwedAmong sides from to cell x → IsSharedSum up down x × IsWithin limit x
    owed_shared from to x o =
        let source = rise.held.sound o.0 o.3.0 o.3.1 o.3.2 in
        let there = o.3.3 in
        let target = fall.held.sound o.0 there.0 there.1 there.2 in
        let size = spaces_count fall in
        let inside : there.0 < length targets = (let lt = target.0 in omega arith) in
        let same = same_from_place o.3.0 there.0 i j (length targets) inside column (sym there.3) in
        let r = source.1 in
        let from_source = subst (λ k. Contains (slice_index_or rise.spaces k []) (r, o.3.1)) same.0 source.2 in
        let at_target = subst (λ k. Contains (slice_index_or fall.spaces k []) (target.1, there.1)) same.1 target.2 in
        let low = rank_within (space_at rise i row) rise.kept.2.levelled r o.3.1 from_source in
        let low' = rank_within (space_at fall j column) fall.kept.2.levelled target.1 there.1 at_target in
        let one = apart target.1 r low' low (target.3 ∙ sym source.3) in (
          (r, o.3.1, there.1, from_source, subst (λ q. Contains down (q, there.1)) one at_target, sym there.4),
          there.5,
        )

    -- a shared weight within the limit is owed by the piece of its rank's item
    shared_owed : (p x : ℕ) → 0 < p → IsSharedSum up down x → IsWithin limit x →
        (k : ℕ) × (k < pieces_of (length ups) p) × owed_by (IsOwedAmong sides) (length ups) p k cell x
    shared_owed p x positive h low =
        let r = h.0 in
        let size = spaces_count rise in
        let size' = spaces_count fall in
        let source = rise.held.whole r i h.1 (omega arith) h.3 in
        let target = fall.held.whole r j h.2 (omega arith) h.4 in
        let piece = piece_of (length ups) p (item r) positive (held_within ups (item r) (i, h.1) source) in
        (piece.0, piece.1, (item r, piece.2, piece.3, (i, h.1, source, (j, h.2, target, refl, sym h.5, low))))

    -- the least weight that is owed is the distance within the limit
    cell_is : (p : ℕ) (o : Option ℕ) → 0 < p → IsLeastOwed (IsOwedAmong sides) (length ups) p cell o →
        IsDistanceWithin H limit (slice_index sources i) (slice_index targets j) o
    cell_is p o positive h =
        let s = slice_index sources i in
        let t = slice_index targets j in
        ranked_spaces_give_distance H rise.kept limit s t up down (space_at rise i row) (space_at fall j column) o (shared o h)
      where
        shared : (q : Option ℕ) → IsLeastOwed (IsOwedAmong sides) (length ups) p cell q → IsLeastSharedSum limit up down q
        shared None least = λ x sum low. let r = shared_owed p x positive sum low in least r.0 x r.1 r.2
        shared (Some x) least =
            let owed = owed_shared (least.0.0 * p) (min (least.0.0 * p + p) (length ups)) x least.0.2 in
            (owed.0, owed.1, λ y sum low. let r = shared_owed p y positive sum low in least.1 r.0 y r.1 r.2)

  -- the cells are the table
  pub table_is : (p : ℕ) (cells : List (Option ℕ)) → 0 < p →
      ((q r : ℕ) → q < nodes_of H → r < nodes_of H → item q ≡ item r → q ≡ r) →
      length cells ≡ length sources * length targets →
      ((cell : ℕ) (d : Option ℕ) → cell < length sources * length targets →
      IsLeastOwed (IsOwedAmong sides) (length ups) p cell (slice_index_or cells cell d)) →
      AllZip (IsRowBy H limit targets) sources (rows_of_cells (length sources) (length targets) cells)
  table_is p cells positive apart size least =
      let n = length sources in
      let m = length targets in
      all_zip_at (IsRowBy H limit targets) 0 [] sources (rows_of_cells n m cells) (length_rows n m cells) (λ i row.
      let fits = row_fits n m i row in
      let part = slice_range cells (i * m) (i * m + m) in
      let count : length part ≡ m = (let l = length-between cells (i * m) (i * m + m) (omega arith) in omega arith) in
      subst (IsRowBy H limit targets (slice_index sources i)) (sym (row_at n m cells i row))
      (all_zip_at (IsDistanceWithin H limit (slice_index sources i)) 0 None targets part count (λ j column.
      subst (IsDistanceWithin H limit (slice_index sources i) (slice_index targets j))
      (sym (get_or-between cells (i * m) (i * m + m) j None (omega arith)))
      (cell_is apart i j row column p (slice_index_or cells (i * m + j) None) positive (least (i * m + j) None (omega arith))))))
