-- How the opening of files ends.
use Rattle.std.proofs.Common.{◌≡◌, ℕ, List, [], ◌∷◌, ◌++◌, Option, inl, inr, subst}
use Rattle.std.specs.Prelude.{Result, Ok, Err}
use Rattle.ch_run.specs.declared.fault.RunFault.{RunFault}
use Rattle.ch_run.specs.declared.fault.Which.{Which}
use Rattle.ch_run.specs.Run.{IsWrite}
use Rattle.ch_line.specs.declared.files.OpenFault.{OpenFault}
use Rattle.ch_line.specs.Files.{FileState, Opens}
use Rattle.ch_line.specs.Line.{AreOpened, AtMissing, EndsAtMissing, File, HaveBytes, IsNotOpened, IsUnopened, MayAllBeThere}
use Rattle.ch_line.specs.Line.{MayBeRefused, MayBeThere, StopsOpening, open_fault}

-- a file that may exist doesn't end the run
past : {T : Type 0} (state : FileState) (which : Which) (rest : Type 0) (r : Result T RunFault) → MayBeThere state → rest →
    AtMissing state which rest r
past FileState.Untold which rest r there goes = inr goes
past FileState.Missing which rest r there goes = absurd there
past (FileState.Holds bytes) which rest r there goes = goes

-- files that may all exist don't end the run
pub goes-on : {T : Type 0} (known : List ℕ → FileState) (files : List File) (r : Result T RunFault) → MayAllBeThere known files →
    EndsAtMissing known files r
goes-on known [] r there = tt
goes-on known (file ∷ files) r there = past (known file.1) file.0 (EndsAtMissing known files r) r there.0 (goes-on known files r there.1)

module _ {F I : Type 0} (opens : F → List ℕ → Result I OpenFault → F → Type 0) where
  -- files are opened, and then more files: together they are opened as one list
  pub opened-more : (files more : List File) (xs ys : List (Which × I)) (old mid new : F) → AreOpened opens files xs old mid →
      AreOpened opens more ys mid new → AreOpened opens (files ++ more) (xs ++ ys) old new
  opened-more [] more [] ys old mid new are also = subst (λ (start : F). AreOpened opens more ys start new) are also
  opened-more (file ∷ files) more (x ∷ xs) ys old mid new are also =
      (are.0, are.1, are.2, opened-more files more xs ys are.1 mid new are.3 also)
  opened-more _ more _ ys old mid new are also = absurd are

  -- files are opened, and the run stops at one of those behind them
  pub opened-stops : (files more : List File) (xs : List (Which × I)) (old mid new : F) (e : RunFault) → AreOpened opens files xs old mid →
      StopsOpening opens more mid new e → StopsOpening opens (files ++ more) old new e
  opened-stops [] more [] old mid new e are stops = subst (λ (start : F). StopsOpening opens more start new e) are stops
  opened-stops (file ∷ files) more (x ∷ xs) old mid new e are stops =
      inr (x.1, are.1, are.2, opened-stops files more xs are.1 mid new e are.3 stops)
  opened-stops _ more _ old mid new e are stops = absurd are

  -- the run stops at one of the first files
  pub stops-first : (files more : List File) (old new : F) (e : RunFault) → StopsOpening opens files old new e →
      StopsOpening opens (files ++ more) old new e
  stops-first [] more old new e stops = absurd stops
  stops-first (file ∷ files) more old new e (inl refused) = inl refused
  stops-first (file ∷ files) more old new e (inr later) = inr (later.0, later.1, later.2, stops-first files more later.1 new e later.3)

-- what is known of a name tells of its opening
module _ {F I : Type 0} (opens : F → List ℕ → Result I OpenFault → F → Type 0) (left : I → Option (List ℕ)) (known : F → List ℕ → FileState)
    (tells : (old : F) (name : List ℕ) (answer : Result I OpenFault) (new : F) → opens old name answer new →
    Opens left (known old name) answer × (known new ≡ known old)) where
  -- files that were opened have the bytes that are known of their names
  pub have-bytes : (files : List File) (inputs : List (Which × I)) (old new : F) → AreOpened opens files inputs old new →
      HaveBytes left (known old) files inputs
  have-bytes [] [] old new are = tt
  have-bytes (file ∷ files) (x ∷ xs) old new are =
      let law = tells old file.1 (Ok x.1) are.1 are.2 in
      (law.0, subst (λ (k : List ℕ → FileState). HaveBytes left k files xs) law.1 (have-bytes files xs are.1 new are.3))
  have-bytes _ _ old new are = absurd are

  is-there : (state : FileState) (input : I) → Opens left state (Ok input) → MayBeThere state
  is-there FileState.Missing input opened = opened
  is-there _ input opened = tt

  -- files that have such bytes may exist
  may-exist : (now : List ℕ → FileState) (files : List File) (inputs : List (Which × I)) → HaveBytes left now files inputs →
      MayAllBeThere now files
  may-exist now [] inputs have = tt
  may-exist now (file ∷ files) [] have = absurd have
  may-exist now (file ∷ files) (x ∷ xs) have = (is-there (now file.1) x.1 have.0, may-exist now files xs have.1)

  -- so files that were opened may exist
  pub all-there : (files : List File) (inputs : List (Which × I)) (old new : F) → AreOpened opens files inputs old new →
      MayAllBeThere (known old) files
  all-there files inputs old new are = may-exist (known old) files inputs (have-bytes files inputs old new are)

  may-refuse : (state : FileState) → Opens {I = I} left state (Err OpenFault.Refused) → MayBeRefused state
  may-refuse (FileState.Holds bytes) refused = cc
  may-refuse _ refused = tt

  -- a file that isn't opened is missing, or nothing is known of it, or there is no memory
  refused-so : (file : File) (old new : F) (fault : RunFault) (refusal : OpenFault) → opens old file.1 (Err refusal) new →
      fault ≡ open_fault file.0 refusal → IsNotOpened (known old file.1) file.0 fault
  refused-so file old new fault OpenFault.Memory opened is = inl is
  refused-so file old new fault OpenFault.Refused opened is =
      inr (is, may-refuse (known old file.1) (tells old file.1 (Err OpenFault.Refused) new opened).0)

  pub not-all-opened : (files : List File) (old new : F) (fault : RunFault) → StopsOpening opens files old new fault →
      IsUnopened (known old) files fault
  not-all-opened [] old new fault stops = stops
  not-all-opened (file ∷ files) old new fault (inl refused) = inl (refused-so file old new fault refused.0 refused.1 refused.2)
  not-all-opened (file ∷ files) old new fault (inr later) =
      let law = tells old file.1 (Ok later.0) later.1 later.2 in
      inr (subst (λ (k : List ℕ → FileState). IsUnopened k files fault) law.1 (not-all-opened files later.1 new fault later.3))

  module _ (T : Type 0) where
    abbrev Ends : (List ℕ → FileState) → List File → RunFault → Type 0
    Ends now files fault = EndsAtMissing {T = T} now files (Err fault)

    -- the run ends at a file that isn't opened, or it goes on for a lack of memory
    at-fault : (state : FileState) (which : Which) (rest : Type 0) (fault : RunFault) → IsNotOpened state which fault →
        (fault ≡ RunFault.Memory → rest) → AtMissing {T = T} state which rest (Err fault)
    at-fault FileState.Untold which rest fault (inl is) goes = inr (goes is)
    at-fault FileState.Untold which rest fault (inr (is, may)) goes = inl is
    at-fault FileState.Missing which rest fault (inl is) goes = inr is
    at-fault FileState.Missing which rest fault (inr (is, may)) goes = inl is
    at-fault (FileState.Holds bytes) which rest fault (inl is) goes = goes is
    at-fault (FileState.Holds bytes) which rest fault (inr (is, may)) goes = absurd may

    memory-ends : (now : List ℕ → FileState) (files : List File) (fault : RunFault) → fault ≡ RunFault.Memory → Ends now files fault
    memory-ends now [] fault is = tt
    memory-ends now (file ∷ files) fault is =
        at-fault (now file.1) file.0 (Ends now files fault) fault (inl is) (memory-ends now files fault)

    -- the run ends at the first file that is missing
    pub ends-at : (files : List File) (old new : F) (fault : RunFault) → StopsOpening opens files old new fault →
        Ends (known old) files fault
    ends-at [] old new fault stops = tt
    ends-at (file ∷ files) old new fault (inl refused) = at-fault (known old file.1) file.0 (Ends (known old) files fault) fault
        (refused-so file old new fault refused.0 refused.1 refused.2) (memory-ends (known old) files fault)
    ends-at (file ∷ files) old new fault (inr later) =
        let law = tells old file.1 (Ok later.0) later.1 later.2 in
        past (known old file.1) file.0 (Ends (known old) files fault) (Err fault) (is-there (known old file.1) later.0 law.0)
        (subst (λ (k : List ℕ → FileState). Ends k files fault) law.1 (ends-at files later.1 new fault later.3))

-- a file that isn't opened is no failed write
open_no_write : (which : Which) (refusal : OpenFault) → IsWrite (open_fault which refusal) → ⊥
open_no_write which OpenFault.Refused write = write
open_no_write which OpenFault.Memory write = write

pub stops_no_write : {F I : Type 0} (opens : F → List ℕ → Result I OpenFault → F → Type 0) (files : List File) (old new : F)
    (fault : RunFault) → StopsOpening opens files old new fault → IsWrite fault → ⊥
stops_no_write opens [] old new fault stops write = stops
stops_no_write opens (file ∷ files) old new fault (inl refused) write = open_no_write file.0 refused.0 (rw refused.2 at write)
stops_no_write opens (file ∷ files) old new fault (inr later) write = stops_no_write opens files later.1 new fault later.3 write
