-- The pieces that workers claimed, and their values.
use Rattle.std.specs.Prelude.{◌≡◌, ℕ, ◌+◌, ◌-◌, ◌*◌, ◌<◌, ◌≤◌, min, List, map, All, Option, IfSome, Result, Vec, IfOk}
use Rattle.std.specs.declared.alloc.Global.{Global}
use Rattle.ch_work.specs.declared.board.known.Known.{Known}
use Rattle.ch_work.specs.declared.board.Board.{Board}
use Rattle.ch_work.specs.declared.board.Pass.{Pass}
use Rattle.ch_work.specs.declared.done.Done.{Done}
use Rattle.ch_work.specs.Counts.{total, times}
use Rattle.ch_work.specs.Passes.{view_of, IsPassOf, HasEnded}
use Rattle.ch_work.specs.Pieces.{pieces_of}
use Rattle.ch_work.specs.Steps.{nothing_known}

-- the numbers of the pieces that are done
abbrev pub numbers : {X : Type 0} → List (Done X) → List ℕ
numbers done = map (λ d. d.number) done

-- the number is that of a piece, and the value has the meaning of the piece's range
abbrev pub IsDone : {X : Type 0} → (ℕ → ℕ → X → Type 0) → ℕ → ℕ → Done X → Type 0
IsDone meaning n p d = (d.number < pieces_of n p) × meaning (d.number * p) (min (d.number * p + p) n) d.value

-- the state of a worker: it has done all that it claimed, and `next` is 0 or one more than its last claim
pub record Working {X : Type 0} (meaning : ℕ → ℕ → X → Type 0) (n p : ℕ) (view : Known) (next : ℕ) (done : List (Done X)) : Type 0 where
  pub pieces : view.pieces ≡ pieces_of n p
  pub next_in : next ≤ pieces_of n p
  pub last : 0 < next → 0 < times (next - 1) view.claims
  pub claims : view.claims ≡ numbers done
  pub each : All (IsDone meaning n p) done

-- what a worker receives: a pass that has done nothing, and perhaps a room
abbrev pub IsHand : {R : Type 0} → (R → Type 0) → ℕ → ℕ → Board → Pass × Option R → Type 0
IsHand clean n p board hand = IsPassOf board hand.0 × (view_of hand.0 ≡ nothing_known (pieces_of n p) 1) × IfSome hand.1 clean

-- what a worker hands back: its pass; if it was refused no memory, also its room and the pieces that it claimed until
-- none was left
abbrev pub HasWorked : {X R E : Type 0} → (ℕ → ℕ → X → Type 0) → (R → Type 0) → ℕ → ℕ → Board → Pass → Result (R × Vec (Done X) Global) E →
    Type 0
HasWorked meaning clean n p board pass outcome =
    IsPassOf board pass × IfOk outcome
    (λ w. HasEnded pass × ((view_of pass).claims ≡ numbers w.1.items) × All (IsDone meaning n p) w.1.items × clean w.0)

-- the passes have ended, and the pieces that they claimed are done
pub record AreGathered {X : Type 0} (meaning : ℕ → ℕ → X → Type 0) (n p : ℕ) (board : Board) (passes : List Pass)
    (done : List (Done X)) : Type 0 where
  pub board_of : All (IsPassOf board) passes
  pub ended : All HasEnded passes
  pub claims : (number : ℕ) → times number (numbers done) ≡ total (λ view. times number view.claims) (map view_of passes)
  pub each : All (IsDone meaning n p) done
