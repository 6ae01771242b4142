-- The cells of a row: the least sum of a place over the source's search space and the buckets is the distance.
use Rattle.std.proofs.Common.{◌≡◌, ℕ, ◌<◌, ◌≤◌, ◌-◌, List, [], ◌∷◌, ◌++◌, length, map, get_or, Contains, Option, Some, None}
use Rattle.std.proofs.Common.{refl, sym, ◌∙◌, ap, replicate, take, take_all, subst, arith, inl, inr}
use Rattle.std.specs.Prelude.{◌≢◌, All, AllPairs, MatchOption, slice_index, slice_index_or}
use Rattle.std.proofs.lemmas.Bool.{cases_lt, le-leb, lt-leb}
use Rattle.std.proofs.lemmas.List.{get_or-map, get_or-replicate, length-map, length-replicate}
use Rattle.std.proofs.lemmas.List.Elements.{All-contains}
use Rattle.ch_graph.proofs.Lists.{contains_cons, contains_map_of, pairs_cons, pairs_map}
use Rattle.ch_hierarchy.specs.Hierarchy.{LevelsAndLegs, nodes_of}
use Rattle.ch_hierarchy.specs.declared.side.Side.TheVariants.{Up, Down}
use Rattle.ch_query.specs.Distance.{IsKeptForSome}
use Rattle.ch_query.specs.Limits.{IsWithin, IsDistanceWithin}
use Rattle.ch_query.specs.Lowered.{AreLowered}
use Rattle.ch_query.specs.SearchSpace.{IsRankedSpace}
use Rattle.ch_query.specs.SearchSpaceLaws.{IsSharedSum, IsLeastSharedSum}
use Rattle.ch_query.proofs.two_sides.SharedSums.{ranked_spaces_give_distance}
use Rattle.ch_rows.specs.declared.offers.TheConstants.{UNOFFERED}
use Rattle.ch_rows.specs.Buckets.{HoldTargets, HoldNearest}
use Rattle.ch_rows.specs.Cells.{IsCellTo, IsMostSum, cell_of}
use Rattle.ch_rows.specs.First.{IsNearer}
use Rattle.ch_rows.specs.Offers.{AreUnoffered, AreOffered}
use Rattle.ch_rows.specs.Sums.{IsSumIn, IsSumOf}
use Rattle.ch_rows.specs.Table.{IsRowBy}
use Rattle.ch_rows.proofs.NearRows.{bucket_apart, down, entry_at, sum_shared}
use Rattle.ch_rows.proofs.Orders.{nearer_never}
use Rattle.ch_rows.proofs.Pigeons.{few_below}
use Rattle.ch_rows.proofs.HeldSpaces.{rank_once, rank_within, shared_low, space_at, spaces_count}
use Rattle.ch_rows.proofs.Tables.{all_zip_at}

-- a row that was cleared and then filled to the number of targets has no offers
pub refilled : (n : ℕ) (row cleared : List ℕ) (len : ℕ) → row ≡ take n cleared ++ replicate (n - len) UNOFFERED → cleared ≡ [] → len ≡ 0 →
    AreUnoffered n row
refilled n row cleared len is none empty =
    let whole : n - len ≡ n = omega arith in
    let filled = is ∙ ap (λ l. take n l ++ replicate (n - len) UNOFFERED) none
    ∙ ap (λ l. l ++ replicate (n - len) UNOFFERED) (take_all n [] (omega arith)) ∙ ap (λ m. replicate m UNOFFERED) whole in
    subst (AreUnoffered n) (sym filled)
    (record { size = length-replicate n UNOFFERED; each = λ j lt. get_or-replicate n j UNOFFERED 0 lt })

-- two search spaces, and sums S that they share: at least those within the limit
module _ (H : LevelsAndLegs) (kept : IsKeptForSome H) (limit : Option ℕ) (s t : ℕ) (ups downs : List (ℕ × ℕ))
    (up : IsRankedSpace H Up limit s ups) (down : IsRankedSpace H Down limit t downs) (S : ℕ → Type 0)
    (shared : (x : ℕ) → S x → IsSharedSum ups downs x) (whole : (x : ℕ) → IsSharedSum ups downs x → IsWithin limit x → S x) where
  -- the least of them within the limit is the distance
  least_is_distance : (answer : Option ℕ) → MatchOption answer ((x : ℕ) → S x → IsWithin limit x → ⊥)
      (λ x. S x × IsWithin limit x × ((y : ℕ) → S y → IsWithin limit y → x ≤ y)) → IsDistanceWithin H limit s t answer
  least_is_distance answer least = ranked_spaces_give_distance H kept limit s t ups downs up down answer (at answer least)
    where
      at : (o : Option ℕ) → MatchOption o ((x : ℕ) → S x → IsWithin limit x → ⊥)
          (λ x. S x × IsWithin limit x × ((y : ℕ) → S y → IsWithin limit y → x ≤ y)) → IsLeastSharedSum limit ups downs o
      at None none = λ x sum low. none x (whole x sum low) low
      at (Some x) least = (shared x least.0, least.1, λ y sum low. least.2 y (whole y sum low) low)

-- the words of a table's row
module _ (H : LevelsAndLegs) (limit : Option ℕ) (targets : List ℕ) (buckets : List (List (ℕ × ℕ)))
    (hold : HoldTargets H limit targets buckets) (s : ℕ) (space : List (ℕ × ℕ)) (up : IsRankedSpace H Up limit s space)
    (fresh row : List ℕ) (none : AreUnoffered (length targets) fresh) (lowered : AreLowered (IsSumIn space buckets) fresh row) (most : ℕ)
    (is_most : IsMostSum limit most) where
  -- the cell of a word is the distance within the limit
  cell_is : (j : ℕ) → j < length targets → IsDistanceWithin H limit s (slice_index targets j) (cell_of most (get_or row j 0))
  cell_is j column =
      least_is_distance H hold.kept limit s (slice_index targets j) space (slice_index_or hold.spaces j []) up to (IsSumIn space buckets j)
      shared whole (cell_of most (get_or row j 0)) least
    where
      to : IsRankedSpace H Down limit (slice_index targets j) (slice_index_or hold.spaces j [])
      to = space_at hold j column

      shared : (x : ℕ) → IsSumIn space buckets j x → IsSharedSum space (slice_index_or hold.spaces j []) x
      shared x sum =
          let target = hold.held.sound sum.0 j sum.3.0 sum.3.1 in
          let there = subst (λ r. Contains (slice_index_or hold.spaces j []) (r, sum.3.0)) target.3 target.2 in
          (sum.0, sum.1, sum.3.0, sum.2, there, sym sum.3.2)

      whole : (x : ℕ) → IsSharedSum space (slice_index_or hold.spaces j []) x → IsWithin limit x → IsSumIn space buckets j x
      whole x sum low =
          let size = spaces_count hold in
          (sum.0, sum.1, sum.3, (sum.2, hold.held.whole sum.0 j sum.2 (omega arith) sum.4, sym sum.5))

      -- a word that is at most `most` is a sum
      reached : get_or row j 0 ≤ most → IsSumIn space buckets j (get_or row j 0)
      reached low =
          let size = none.size in
          let away = none.each j column in
          let few = is_most.limits in
          elim (lowered.sound j (omega arith)) [ inl same ↦ absurd (omega arith) | inr sum ↦ sum ]

      least : MatchOption (cell_of most (get_or row j 0)) ((x : ℕ) → IsSumIn space buckets j x → IsWithin limit x → ⊥)
          (λ x. IsSumIn space buckets j x × IsWithin limit x × ((y : ℕ) → IsSumIn space buckets j y → IsWithin limit y → x ≤ y))
      least = elim (cases_lt most (get_or row j 0)) [
        | inl over ↦ rw (lt-leb (get_or row j 0) most over) (λ x sum low.
            let le = lowered.whole j x sum in
            let within = is_most.whole x (shared_low up to x (shared x sum)) low in omega arith)
        | inr low ↦ rw (le-leb (get_or row j 0) most low)
            (reached low, is_most.sound (get_or row j 0) low, λ y sum within. lowered.whole j y sum)
      ]

  -- the cells are the row of the source
  pub row_is : IsRowBy H limit targets s (map (cell_of most) row)
  row_is =
      let size = lowered.size in
      let places = none.size in
      let count = length-map row (cell_of most) in
      all_zip_at (IsDistanceWithin H limit s) 0 None targets (map (cell_of most) row) (omega arith) (λ j column.
      subst (IsDistanceWithin H limit s (slice_index targets j)) (sym (get_or-map (cell_of most) row j 0 None (omega arith)))
      (cell_is j column))

-- different places below m, none of which is j, are fewer than m
fewer : (places : List ℕ) (j m : ℕ) → AllPairs ◌≢◌ places → ((p : ℕ) → Contains places p → (p < m) × (p ≢ j)) → j < m → length places < m
fewer places j m distinct others low =
    let most = few_below (j ∷ places) m (pairs_cons ◌≢◌ j places (λ p c same. (others p c).1 (sym same)) distinct) (λ p c.
    elim (contains_cons j p places c) [ inl here ↦ subst (λ q. q < m) here low | inr there ↦ (others p there).0 ]) in
    omega arith

-- the offers of a source, where no bucket leaves a target out for their number
module _ (H : LevelsAndLegs) (limit count : Option ℕ) (targets : List ℕ) (buckets : List (List (ℕ × ℕ)))
    (hold : HoldNearest H limit count targets buckets) (s : ℕ) (ups : List (ℕ × ℕ)) (up : IsRankedSpace H Up limit s ups)
    (all : IsWithin count (length targets)) where
  -- a bucket has each entry of its rank
  in_bucket : (rank j x : ℕ) → rank < nodes_of H → j < length targets → Contains (down H limit count targets buckets hold j) (rank, x) →
      Contains (slice_index_or buckets rank []) (x, j)
  in_bucket rank j x lt low there =
      let size = spaces_count hold in
      elim ((hold.held.each rank lt).whole (x, j) (omega arith, there)) [
        | inl has ↦ has
        | inr full ↦ absurd (
            let bucket = slice_index_or buckets rank [] in
            let places = map (λ (e : ℕ × ℕ). e.1) bucket in
            let long = length-map bucket (λ (e : ℕ × ℕ). e.1) in
            let few = fewer places j (length targets)
            (pairs_map (λ (e : ℕ × ℕ). e.1) ◌≢◌ bucket (bucket_apart H limit count targets buckets hold rank lt)) (others full.1) low in
            let most : length targets ≤ length bucket = subst (λ q. IsWithin q (length targets)) full.0 all in
            omega arith)
      ]
    where
      -- the entries before that of j have other places
      others : All (λ f. IsNearer f (x, j)) (slice_index_or buckets rank []) → (p : ℕ) →
          Contains (map (λ (e : ℕ × ℕ). e.1) (slice_index_or buckets rank [])) p → (p < length targets) × (p ≢ j)
      others nearer p c =
          let r = contains_map_of (λ (e : ℕ × ℕ). e.1) (slice_index_or buckets rank []) p c in
          let at = entry_at H limit count targets buckets hold rank r.0 lt r.1 in
          let near = All-contains (λ f. IsNearer f (x, j)) (slice_index_or buckets rank []) r.0 nearer r.1 in (
            subst (λ q. q < length targets) r.2 at.0,
            λ same.
                let here : r.0.1 ≡ j = r.2 ∙ same in
                let weight = rank_once (space_at hold j low) rank r.0.0 x
                (subst (λ q. Contains (down H limit count targets buckets hold q) (rank, r.0.0)) here at.1) there in
                let is : r.0 ≡ (x, j) = λ i. (weight i, here i) in
                nearer_never (x, j) (subst (λ q. IsNearer q (x, j)) is near),
          )

  -- the word of each target is its distance within the limit, or none
  pub cell_of_sums : (fresh least : List ℕ) → AreUnoffered (length targets) fresh → AreOffered (IsSumOf limit ups buckets) fresh least →
      (j : ℕ) → j < length targets → IsCellTo H limit s (slice_index targets j) (slice_index least j)
  cell_of_sums fresh least none offered j low =
      let size = none.size in
      elim (offered.sound j (omega arith)) [
        | inl same ↦ (
          None,
          distance None (λ x sum within.
              let le = offered.whole j x sum in let is = none.each j low in let few = below x sum in omega arith),
          same ∙ none.each j low,
        )
        | inr sum ↦ (
          Some (slice_index least j),
          distance (Some (slice_index least j)) (sum, sum.3.3, λ y other within. offered.whole j y other),
          (refl, below (slice_index least j) sum),
        )
      ]
    where
      to : IsRankedSpace H Down limit (slice_index targets j) (down H limit count targets buckets hold j)
      to = space_at hold j low

      shared : (x : ℕ) → IsSumOf limit ups buckets (x, j) → IsSharedSum ups (down H limit count targets buckets hold j) x
      shared x sum = (sum_shared H limit count targets buckets hold limit (λ y w. w) s ups up (x, j) sum).1

      whole : (x : ℕ) → IsSharedSum ups (down H limit count targets buckets hold j) x → IsWithin limit x → IsSumOf limit ups buckets (x, j)
      whole x sum within =
          let rank = rank_within up hold.kept.2.levelled sum.0 sum.1 sum.3 in
          (sum.0, sum.1, sum.3, (sum.2, in_bucket sum.0 j sum.2 rank low sum.4, sym sum.5, within))

      below : (x : ℕ) → IsSumOf limit ups buckets (x, j) → x < UNOFFERED
      below x sum = let most = shared_low up to x (shared x sum) in omega arith

      distance : (answer : Option ℕ) → MatchOption answer ((x : ℕ) → IsSumOf limit ups buckets (x, j) → IsWithin limit x → ⊥)
          (λ x. IsSumOf limit ups buckets (x, j) × IsWithin limit x
          × ((y : ℕ) → IsSumOf limit ups buckets (y, j) → IsWithin limit y → x ≤ y)) →
          IsDistanceWithin H limit s (slice_index targets j) answer
      distance = least_is_distance H hold.kept limit s (slice_index targets j) ups (down H limit count targets buckets hold j) up to
          (λ x. IsSumOf limit ups buckets (x, j)) shared whole
