-- The requests of a stream that comes in parts, and of a reader that is fed and asked in turn.
use Rattle.std.specs.Prelude.{◌≡◌, ℕ, ◌==◌, Bool, false, true, if◌then◌else◌, List, [], ◌∷◌, ◌++◌, Some, None, is_none}
use Rattle.std.specs.List.{slice_split, flat_map}
use Rattle.ch_read.specs.declared.request.Asked.{Asked}
use Rattle.ch_read.specs.declared.request_fault.RequestFault.{RequestFault}
use Rattle.ch_read.specs.Words.{lines, words}
use Rattle.ch_read.specs.Requests.{Begun, Told, Standing, after_these, line_after, made, nothing, stopping, text_fault, told}
use Rattle.ch_read.specs.Requests.{told_by, starting, fed, MayCome, Gives, HasGiven, IsUsedUp, IsStopped}

-- the state of a reader after some lines: their requests and their fault, and the state for the next line
pub record Went : Type 0 where
  pub told : Told
  pub line : ℕ
  pub begun : Begun

abbrev pub went_on : List Asked → Went → Went
went_on given w = record { told = after_these given w.told; line = w.line; begun = w.begun }

abbrev pub went : ℕ → ℕ → Begun → List (List ℕ) → Went
went n line begun [] = record { told = stopping None; line = line; begun = begun }
went n line begun (text ∷ more) =
    if is_none (text_fault n (line_after line) begun text)
    then went_on (made n (line_after line) begun (words text)).given
    (went n (line_after line) (made n (line_after line) begun (words text)).begun more)
    else record { told = stopping (text_fault n (line_after line) begun text); line = line; begun = begun }

-- the requests and the fault after more lines; after a fault there are no more
abbrev pub and_then : ℕ → Went → List (List ℕ) → Told
and_then n w more = if is_none w.told.fault then after_these w.told.given (told n w.line w.begun more) else w.told

abbrev pub without_last : List (List ℕ) → List (List ℕ)
without_last [] = []
without_last (part ∷ []) = []
without_last (part ∷ next ∷ parts) = part ∷ without_last (next ∷ parts)

abbrev pub last_of : List (List ℕ) → List ℕ
last_of [] = []
last_of (part ∷ []) = part
last_of (part ∷ next ∷ parts) = last_of (next ∷ parts)

-- the lines that end with a line feed, and the bytes after the last line feed
abbrev pub ended_lines : List ℕ → List (List ℕ)
ended_lines bytes = without_last (slice_split (λ b. b == 10) bytes)

abbrev pub unended : List ℕ → List ℕ
unended bytes = last_of (slice_split (λ b. b == 10) bytes)

-- the state of a reader after the lines that end in these bytes
abbrev pub went_by : ℕ → List ℕ → Went
went_by n bytes = went n 0 nothing (ended_lines bytes)

-- for each cut: the requests and the fault are those of the lines that end in the first part, then those of its rest
-- with the second part
abbrev pub AreToldByParts : Type 0
AreToldByParts =
    (n : ℕ) (first second : List ℕ) → told_by n (first ++ second) ≡ and_then n (went_by n first) (lines (unended first ++ second))

-- a turn: a reader is fed these bytes, and then gives these requests; either may be none
abbrev pub Turn : Type 0
Turn = List ℕ × List Asked

abbrev pub bytes_of : List Turn → List ℕ
bytes_of turns = flat_map (λ turn. turn.0) turns

abbrev pub given_by : List Turn → List Asked
given_by turns = flat_map (λ turn. turn.1) turns

-- these turns take a reader from one state to another
abbrev pub GoesBy : List Turn → Standing → Standing → Type 0
GoesBy [] old new = new ≡ old
GoesBy (turn ∷ turns) old new = (next : Standing) × Gives false (fed old turn.0) next turn.1 × GoesBy turns next new

-- for every continuation of the input: the requests that were given are the first requests of the bytes, and the others
-- and the fault are ahead of the reader
abbrev pub AreGivenInTurn : Type 0
AreGivenInTurn =
    (n : ℕ) (turns : List Turn) (s : Standing) → GoesBy turns (starting n) s → HasGiven false n (bytes_of turns) s (given_by turns)

-- when the input has ended and all is used up, the reader has given all requests of the bytes, and they have no fault
abbrev pub AreGivenToTheEnd : Type 0
AreGivenToTheEnd =
    (n : ℕ) (turns : List Turn) (s : Standing) → GoesBy turns (starting n) s → (new : Standing) (last : List Asked) →
    Gives true s new last → IsUsedUp true new →
    told_by n (bytes_of turns) ≡ record { given = given_by turns ++ last; fault = None }

-- for every continuation of the input: when a fault was met, the reader has given all requests before it, and the bytes
-- have that fault
abbrev pub AreGivenToTheFault : Type 0
AreGivenToTheFault =
    (n : ℕ) (turns : List Turn) (s : Standing) → GoesBy turns (starting n) s → (ended : Bool) (new : Standing)
    (last : List Asked) → Gives ended s new last → (fault : RequestFault) → IsStopped ended new fault →
    (more : List ℕ) → MayCome ended more →
    told_by n (bytes_of turns ++ more) ≡ record { given = given_by turns ++ last; fault = Some fault }

-- if no line is whole in the pending bytes, no request is held back: the reader has given all requests of the lines
-- that ended
abbrev pub AreNotHeldBack : Type 0
AreNotHeldBack = (n : ℕ) (turns : List Turn) (s : Standing) → GoesBy turns (starting n) s → IsUsedUp false s →
    given_by turns ≡ (went_by n (bytes_of turns)).told.given
