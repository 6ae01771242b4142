-- What the pieces of a job owe to the cells of a board, and how it is paid. What is owed is a relation between a cell
-- and a weight.
use Rattle.std.specs.Prelude.{◌≡◌, ℕ, ◌+◌, ◌-◌, ◌*◌, ◌<◌, ◌≤◌, ◌⊎◌, min, Option, MatchOption, Result, OnOk}
use Rattle.ch_work.specs.declared.board.known.Known.{Known}
use Rattle.ch_work.specs.declared.board.Board.{Board}
use Rattle.ch_work.specs.declared.board.Pass.{Pass}
use Rattle.ch_work.specs.Counts.{times, times_at}
use Rattle.ch_work.specs.Passes.{view_of, IsPassOf, HasEnded}
use Rattle.ch_work.specs.Pieces.{pieces_of}
use Rattle.ch_work.specs.Steps.{Knows}

-- the pass offered the weight x to the cell
abbrev pub HasOffered : Known → ℕ → ℕ → Type 0
HasOffered v cell x = 0 < times_at cell x v.offers

-- between the views v and w the pass claimed nothing, forgot nothing, and offered only what is owed
pub record OffersOwed (owed : ℕ → ℕ → Type 0) (v w : Known) : Type 0 where
  pub pieces : w.pieces ≡ v.pieces
  pub ended : w.ended ≡ v.ended
  pub claims : w.claims ≡ v.claims
  pub knows : (cell x : ℕ) → Knows v cell x → Knows w cell x
  pub offers : (cell x : ℕ) → HasOffered w cell x → HasOffered v cell x ⊎ owed cell x

-- for each weight that is owed, the pass knows at its cell a weight that is no greater
abbrev pub Covers : (ℕ → ℕ → Type 0) → Known → Type 0
Covers owed v = (cell x : ℕ) → owed cell x → (y : ℕ) × Knows v cell y × (y ≤ x)

-- between the views v and w all that is owed was paid
abbrev pub HasPaid : (ℕ → ℕ → Type 0) → Known → Known → Type 0
HasPaid owed v w = OffersOwed owed v w × Covers owed w

-- what piece k owes, where n items are cut into pieces of p items
abbrev pub owed_by : (ℕ → ℕ → ℕ → ℕ → Type 0) → ℕ → ℕ → ℕ → ℕ → ℕ → Type 0
owed_by owes n p k = owes (k * p) (min (k * p + p) n)

-- the least weight that the pieces owe to the cell, or none if they owe it nothing
abbrev pub IsLeastOwed : (ℕ → ℕ → ℕ → ℕ → Type 0) → ℕ → ℕ → ℕ → Option ℕ → Type 0
IsLeastOwed owes n p cell o = MatchOption o
    ((k x : ℕ) → k < pieces_of n p → owed_by owes n p k cell x → ⊥)
    (λ x. ((k : ℕ) × (k < pieces_of n p) × owed_by owes n p k cell x)
    × ((k y : ℕ) → k < pieces_of n p → owed_by owes n p k cell y → x ≤ y))

-- all that the pass offered is owed by pieces that it claimed, and it covers what they owe
pub record Pays (owes : ℕ → ℕ → ℕ → ℕ → Type 0) (n p : ℕ) (v : Known) : Type 0 where
  pub owed : (cell x : ℕ) → HasOffered v cell x → (k : ℕ) × (0 < times k v.claims) × owed_by owes n p k cell x
  pub covers : (k : ℕ) → 0 < times k v.claims → Covers (owed_by owes n p k) v

-- the state of a worker: it has paid for all that it claimed, and `next` is 0 or one more than its last claim
pub record Paying (owes : ℕ → ℕ → ℕ → ℕ → Type 0) (n p : ℕ) (v : Known) (next : ℕ) : Type 0 where
  pub pieces : v.pieces ≡ pieces_of n p
  pub next_in : next ≤ pieces_of n p
  pub last : 0 < next → 0 < times (next - 1) v.claims
  pub pays : Pays owes n p v

-- the pass is one of the board, has ended, and has paid
abbrev pub HasPaidOff : (ℕ → ℕ → ℕ → ℕ → Type 0) → ℕ → ℕ → Board → Pass → Type 0
HasPaidOff owes n p board pass = IsPassOf board pass × HasEnded pass × Pays owes n p (view_of pass)

-- what a worker hands back: its pass, which has paid all if the worker was refused no memory
abbrev pub HandsBack : {E : Type 0} → (ℕ → ℕ → ℕ → ℕ → Type 0) → ℕ → ℕ → Board → Pass → Result (Unit {0}) E → Type 0
HandsBack owes n p board pass outcome = IsPassOf board pass × OnOk outcome (HasPaidOff owes n p board pass)
