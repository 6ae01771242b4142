-- The definitions name one text, whatever the hierarchy of a run comes from.
use Rattle.std.specs.Prelude.{◌≡◌, ℕ, Bool, false, List, ⊤}
use Rattle.ch_job.specs.declared.options.Options.{Options}
use Rattle.ch_run.specs.DistRun.{IsAnsweredBy}
use Rattle.ch_run.specs.NearRun.{IsNearBy}
use Rattle.ch_run.specs.Run.{CustomizedFile, FoundOrder, GivesOnly, NoFile, NoInput, OneInput, OrderFile, Reading, ReadingIf, SavedFile}
use Rattle.ch_run.specs.Run.{SourceReading}
use Rattle.ch_run.specs.SaveRun.{IsSavedBy}
use Rattle.ch_run.specs.TableRun.{IsTabledBy}

-- the reads of the input can give only certain bytes
abbrev pub HasKnown : Reading → Type 0
HasKnown input = (bytes : List ℕ) × GivesOnly input bytes

-- the same of a list that only some runs have
abbrev pub HasKnownIf : ReadingIf → Type 0
HasKnownIf NoInput = ⊤
HasKnownIf (OneInput input) = HasKnown input

-- the same of the file for the hierarchy, if one is read. No rule names the hierarchy if it is customized, because it may be built quickly
-- instead
abbrev pub HasKnownSource : SourceReading → Type 0
HasKnownSource NoFile = ⊤
HasKnownSource (SavedFile saved) = HasKnown saved
HasKnownSource (OrderFile order fresh hops) = HasKnown order
HasKnownSource (CustomizedFile order hops) = ⊥
HasKnownSource (FoundOrder hops) = ⊥

-- a rule names the hierarchy that is saved if it comes from a file, or if it is not built quickly
abbrev pub IsNamed : (quick : Bool) → SourceReading → Type 0
IsNamed quick NoFile = quick ≡ false
IsNamed quick _ = ⊤

-- two texts with P are equal
abbrev pub HaveOneText : (List ℕ → Type 0) → Type 0
HaveOneText P = (text other : List ℕ) → P text → P other → text ≡ other

-- there is one text that answers the same bytes, with the same options
abbrev pub AnswersHaveOneText : (graph : Reading) → SourceReading → (queries : Reading) → Type 0
AnswersHaveOneText graph source queries = (options : Options) → HasKnown graph → HasKnownSource source → HasKnown queries →
    HaveOneText (IsAnsweredBy options graph source queries)

-- there is one text of the table of the same bytes
abbrev pub TablesHaveOneText : (graph : Reading) → SourceReading → (sources targets : Reading) → Type 0
TablesHaveOneText graph source sources targets = (options : Options) → HasKnown graph → HasKnownSource source → HasKnown sources →
    HasKnown targets → HaveOneText (IsTabledBy options graph source sources targets)

-- there is one text of the near rows of the same bytes
abbrev pub NearRowsHaveOneText : (graph : Reading) → SourceReading → (sources : ReadingIf) → (targets : Reading) → Type 0
NearRowsHaveOneText graph source sources targets = (options : Options) → HasKnown graph → HasKnownSource source → HasKnownIf sources →
    HasKnown targets → HaveOneText (IsNearBy options graph source sources targets)

-- there is one text of the hierarchy that is saved of the same bytes, if a rule names it
abbrev pub HierarchiesHaveOneText : (graph : Reading) → SourceReading → Type 0
HierarchiesHaveOneText graph source = (options : Options) → IsNamed options.quick source → HasKnown graph → HasKnownSource source →
    HaveOneText (IsSavedBy options graph source)

-- the near rows by a saved hierarchy are those of the graph
abbrev pub SavedNearRowsAreThoseOfTheGraph : (graph saved : Reading) → (sources : ReadingIf) → (targets : Reading) → Type 0
SavedNearRowsAreThoseOfTheGraph graph saved sources targets = (options : Options) (text : List ℕ) →
    IsNearBy options graph (SavedFile saved) sources targets text → IsNearBy options graph NoFile sources targets text
