-- The rule that a board keeps between any two steps.
use Rattle.std.specs.Prelude.{◌-◌, ◌^◌, MatchOption, slice_index_or, ◌≡◌, ℕ, ◌+◌, ◌<◌, ◌≤◌, min, cond, nat_lt, List, [], ◌∷◌}
use Rattle.std.specs.Prelude.{length, slice_index}
use Rattle.std.specs.Prelude.{Option, Some, None, ◌==◌}
use mathlib.Core.Option.{some}
use lib.ListN.{get_elem?}
use Rattle.atomic_table.specs.Table.{State}
use Rattle.ch_work.specs.declared.limits.TheConstants.{MOST_OFFER}
use Rattle.ch_work.specs.declared.board.known.Known.{Known}
use Rattle.ch_work.specs.declared.board.known.Size.{Size}
use Rattle.ch_work.specs.Counts.{bit, total, times, times_at}

-- the word of a cell without an offer
abbrev pub none_yet : ℕ
none_yet = 2 ^ 64 - 1

-- a view without passes has done nothing, and at most all passes of a view have ended
pub record Fits (k : Size) (v : Known) : Type 0 where
  pub pieces : 0 < v.parts → v.pieces ≡ k.pieces
  pub ended : v.ended ≤ v.parts
  pub idle : v.parts ≡ 0 → (v.claims ≡ []) × (v.offers ≡ []) × (v.shown ≡ [])

-- the counter is c
pub record Numbers (k : Size) (c : ℕ) (views : List Known) : Type 0 where
  -- c is the number of all claims and of all passes that have ended
  pub counted : c ≡ min c k.pieces + total (λ v. v.ended) views
  -- each number below both the counter and the number of pieces is claimed once, and no other is claimed
  pub claimed : (x : ℕ) → total (λ v. times x v.claims) views ≡ bit (nat_lt x (min c k.pieces))
  pub parts : total (λ v. v.parts) views ≡ k.passes

-- ws are the cells
pub record Cells (k : Size) (ws : List ℕ) (views : List Known) : Type 0 where
  -- the word of a cell was offered to it, unless nothing was
  pub hit : (i : ℕ) → i < k.cells → slice_index ws i < none_yet → 0 < total (λ v. times_at i (slice_index ws i) v.offers) views
  -- no lesser weight was offered to it
  pub low : (i x : ℕ) → 0 < total (λ v. times_at i x v.offers) views → slice_index ws i ≤ x
  pub small : (i x : ℕ) → 0 < total (λ v. times_at i x v.offers) views → (i < k.cells) × (x ≤ MOST_OFFER)
  -- each weight that was shown had been offered
  pub shown : (i x : ℕ) → 0 < total (λ v. times_at i x v.shown) views → 0 < total (λ v. times_at i x v.offers) views

-- each view fits the board
abbrev pub AllFit : Size → List Known → Type 0
AllFit k views = (j : ℕ) (v : Known) → get_elem? views j ≡ some v → Fits k v

-- the rule of a board whose counter is c and whose cells are ws
pub record Holds (k : Size) (c : ℕ) (ws : List ℕ) (views : List Known) : Type 0 where
  pub room : k.pieces + k.passes + 1 < 2 ^ 64
  pub cells : length ws ≡ k.cells
  pub numbers : Numbers k c views
  pub values : Cells k ws views
  pub fits : AllFit k views

-- the rule, stated of the words of a table: the counter, and then the cells
pub record Kept (k : Size) (s : State (Unit {0}) Known) : Type 0 where
  pub counter : ℕ
  pub values : List ℕ
  pub words : s.words ≡ counter ∷ values
  pub holds : Holds k counter values s.views

-- the value of a closed cell: the least weight that was offered to it, or none
abbrev pub IsLeast : List Known → ℕ → Option ℕ → Type 0
IsLeast views i o = MatchOption o ((x : ℕ) → total (λ v. times_at i x v.offers) views ≡ 0)
    (λ x. (0 < total (λ v. times_at i x v.offers) views) × ((y : ℕ) → 0 < total (λ v. times_at i y v.offers) views → x ≤ y))

-- what is known of a closed board with these cells, given the views of all its passes
pub record Settled (k : Size) (views : List Known) (cells : List (Option ℕ)) : Type 0 where
  pub count : length cells ≡ k.cells
  -- no number was claimed twice
  pub once : (x : ℕ) → total (λ v. times x v.claims) views ≤ 1
  pub below : (x : ℕ) → 0 < total (λ v. times x v.claims) views → x < k.pieces
  -- if a pass has ended, every number was claimed
  pub every : 0 < total (λ v. v.ended) views → (x : ℕ) → x < k.pieces → total (λ v. times x v.claims) views ≡ 1
  pub least : (i : ℕ) (d : Option ℕ) → i < k.cells → IsLeast views i (slice_index_or cells i d)
  pub shown : (i x : ℕ) → 0 < total (λ v. times_at i x v.shown) views → 0 < total (λ v. times_at i x v.offers) views

-- what is known of the words of a closed board, given one view that stands for all its passes
pub record IsWhole (k : Size) (v : Known) (ws : List ℕ) : Type 0 where
  pub cells : length ws ≡ k.cells
  pub once : (x : ℕ) → times x v.claims ≤ 1
  pub below : (x : ℕ) → 0 < times x v.claims → x < k.pieces
  pub every : 0 < v.ended → (x : ℕ) → x < k.pieces → times x v.claims ≡ 1
  pub hit : (i : ℕ) → i < k.cells → slice_index ws i < none_yet → 0 < times_at i (slice_index ws i) v.offers
  pub low : (i x : ℕ) → 0 < times_at i x v.offers → slice_index ws i ≤ x
  pub small : (i x : ℕ) → 0 < times_at i x v.offers → (i < k.cells) × (x ≤ MOST_OFFER)
  pub shown : (i x : ℕ) → 0 < times_at i x v.shown → 0 < times_at i x v.offers

-- one view has all that these views have together
pub record Sums (v : Known) (views : List Known) : Type 0 where
  pub parts : v.parts ≡ total (λ u. u.parts) views
  pub ended : v.ended ≡ total (λ u. u.ended) views
  pub claims : (x : ℕ) → times x v.claims ≡ total (λ u. times x u.claims) views
  pub offers : (i x : ℕ) → times_at i x v.offers ≡ total (λ u. times_at i x u.offers) views
  pub shown : (i x : ℕ) → times_at i x v.shown ≡ total (λ u. times_at i x u.shown) views

-- the value of a cell with this word
abbrev pub read_cell : ℕ → Option ℕ
read_cell n = cond (n == none_yet) None (Some n)

-- the value that the program reads from a word
abbrev pub IsRead : ℕ → Option ℕ → Type 0
IsRead n o = (o ≡ read_cell n) × (n < 2 ^ 64)
