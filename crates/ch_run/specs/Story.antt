-- The story of a run: what it did with its inputs and its output, in the order in which it did it. Each step is followed by what comes
-- after it.
use Rattle.std.specs.Prelude.{◌≡◌, ◌⊎◌, ℕ, List, Option, Some, None, Result, Ok, Err, IsErrAnd, take}
use Rattle.ch_graph.specs.Graph.{Network, IsWithinLimits}
use Rattle.ch_graph.specs.Saved.{OrderAndLegs}
use Rattle.ch_hierarchy.specs.Hierarchy.{LevelsAndLegs}
use Rattle.ch_hierarchy.specs.Kept.{IsKept}
use Rattle.ch_hierarchy.specs.Saved.{NamesKept, IsFirstFault, IsOrderOf}
use Rattle.ch_contract.specs.Like.{IsHierarchyLike, given_count}
use Rattle.ch_order.specs.Crowded.{HasCrowded}
use Rattle.ch_read.specs.declared.form.Form.{Form}
use Rattle.ch_read.specs.Checks.{IsFault}
use Rattle.ch_read.specs.Names.{NamesGraph, NamesSaved}
use Rattle.ch_text.specs.Moves.{Took, TookUntilFault}
use Rattle.ch_text.specs.declared.device.DeviceFault.{DeviceFault}
use Rattle.ch_run.specs.declared.fault.Which.{Which}
use Rattle.ch_run.specs.declared.fault.RunFault.{RunFault}
use Rattle.ch_run.specs.Customized.{IsDissected, IsUncustomizable, NamesCustomized}
use Rattle.ch_run.specs.Lists.{HasTooManyCells}
use Rattle.ch_run.specs.Run.{CustomizedFile, FoundOrder, IsOf, NoFile, NoInput, OneInput, OrderFile, Reading, ReadingIf, ReadsAll}
use Rattle.ch_run.specs.Run.{SavedFile, SourceReading}

-- the bytes of an input of this form are refused, for this fault of their lines
abbrev pub IsRefused : Form → List ℕ → RunFault → Type 0
IsRefused form bytes (RunFault.Read input fault) = IsFault form bytes fault.line fault.kind
IsRefused form bytes _ = ⊥

-- the bytes of a saved hierarchy are refused on this graph, for a fault of their lines or for their first fault on the graph
abbrev pub IsSavedRefusedOn : Network → List ℕ → RunFault → Type 0
IsSavedRefusedOn g bytes (RunFault.Read input fault) = IsFault (Form.Saved g.nodes) bytes fault.line fault.kind
IsSavedRefusedOn g bytes (RunFault.Check fault) = (s : OrderAndLegs) × NamesSaved bytes g.nodes s × IsFirstFault g s fault
IsSavedRefusedOn g bytes _ = ⊥

-- the bytes of an order are refused on this graph, for a fault of their lines, or because they don't have each node once, or because too
-- many legs touch one of the given nodes in its turn
abbrev pub IsOrderRefusedOn : Network → (fresh hops : ℕ) → List ℕ → RunFault → Type 0
IsOrderRefusedOn g fresh hops bytes (RunFault.Read input fault) = IsFault (Form.Saved g.nodes) bytes fault.line fault.kind
IsOrderRefusedOn g fresh hops bytes RunFault.Order =
    (s : OrderAndLegs) × NamesSaved bytes g.nodes s × (IsOrderOf g.nodes s.order → ⊥)
IsOrderRefusedOn g fresh hops bytes (RunFault.Crowded node) =
    (s : OrderAndLegs) × NamesSaved bytes g.nodes s × HasCrowded g hops (take (given_count g.nodes fresh) s.order) node
IsOrderRefusedOn g fresh hops bytes _ = ⊥

-- the bytes name an order of the graph's nodes. This hierarchy is that of the graph in an order like it, and right for the graph
abbrev pub NamesLike : Network → (fresh hops : ℕ) → List ℕ → LevelsAndLegs → Type 0
NamesLike g fresh hops bytes H = (s : OrderAndLegs) × NamesSaved bytes g.nodes s × IsOrderOf g.nodes s.order
    × IsHierarchyLike g hops s.order fresh H × IsKept g H

-- why a run stopped at an input: a read failed, and no read came after it. Or there was no memory. Or the input was read to its end, and
-- its bytes are refused
abbrev pub HasEnded : Reading → (refuses : List ℕ → RunFault → Type 0) → RunFault → Type 0
HasEnded input refuses (RunFault.Device other) = (bytes : List ℕ) × input.failed bytes
HasEnded input refuses RunFault.Memory = (bytes : List ℕ) × (input.some bytes ⊎ input.all bytes)
HasEnded input refuses fault = ReadsAll input (λ bytes. refuses bytes fault)

-- the run stopped at this input, for this fault, which is one of the input
abbrev pub EndsAt : Which → Reading → (refuses : List ℕ → RunFault → Type 0) → RunFault → Type 0
EndsAt which input refuses fault = IsOf which fault × HasEnded input refuses fault

-- the same of an input that only some runs have
abbrev pub EndsAtIf : Which → ReadingIf → (refuses : List ℕ → RunFault → Type 0) → RunFault → Type 0
EndsAtIf which NoInput refuses fault = ⊥
EndsAtIf which (OneInput input) refuses fault = EndsAt which input refuses fault

-- the run stopped at this input, and left what comes later as it was. Or it read the input to its end, its bytes name a value, and the
-- run went on with that value
abbrev pub Reads : {T V : Type 0} → Which → Reading → (names : List ℕ → V → Type 0) → (refuses : List ℕ → RunFault → Type 0) →
    Result T RunFault → (later : Type 0) → (next : V → Type 0) → Type 0
Reads {T} {V} which input names refuses result later next =
    (IsErrAnd result (EndsAt which input refuses) × later)
    ⊎ ((bytes : List ℕ) × (value : V) × input.all bytes × names bytes value × next value)

-- the same of an input that only some runs have
abbrev pub ReadsIf : {T V : Type 0} → Which → ReadingIf → (names : List ℕ → V → Type 0) → (refuses : List ℕ → RunFault → Type 0) →
    Result T RunFault → (later : Type 0) → (next : Option V → Type 0) → Type 0
ReadsIf which NoInput names refuses result later next = next None
ReadsIf which (OneInput input) names refuses result later next = Reads which input names refuses result later (λ value. next (Some value))

-- the run read a saved hierarchy that is right for the graph, or an order and built the hierarchy in an order like it, if there is one of
-- these. Or it customized the hierarchy, in an order that it read or found
abbrev pub LoadsSource : {T : Type 0} → Network → SourceReading → Result T RunFault → (later : Type 0) →
    (next : Option LevelsAndLegs → Type 0) → Type 0
LoadsSource g NoFile result later next = next None
LoadsSource g (SavedFile saved) result later next =
    Reads Which.Saved saved (λ bytes H. (s : OrderAndLegs) × NamesSaved bytes g.nodes s × NamesKept g s H) (IsSavedRefusedOn g)
    result later (λ H. next (Some H))
LoadsSource g (OrderFile order fresh hops) result later next =
    Reads Which.Order order (λ bytes H. NamesLike g fresh hops bytes H) (IsOrderRefusedOn g fresh hops) result later (λ H. next (Some H))
LoadsSource g (CustomizedFile order hops) result later next =
    Reads Which.Order order (λ bytes H. NamesCustomized g hops bytes H) (IsUncustomizable g) result later (λ H. next (Some H))
LoadsSource g (FoundOrder hops) result later next = (IsErrAnd result (λ fault. fault ≡ RunFault.Memory) × later)
    ⊎ ((H : LevelsAndLegs) × IsDissected g hops H × next (Some H))

-- the run read a graph within the limits, and then what it needs for its hierarchy. `unread` says that this input is as it was
abbrev pub Loads : {T : Type 0} → (graph : Reading) → (source : SourceReading) → (unread : Type 0) → Result T RunFault →
    (later : Type 0) → (next : Network → Option LevelsAndLegs → Type 0) → Type 0
Loads graph source unread result later next =
    Reads Which.Graph graph (λ bytes g. NamesGraph bytes g × IsWithinLimits g) (IsRefused Form.Graph) result
    (unread × later) (λ g.
    LoadsSource g source result later (λ h. next g h))

-- the lists make too many cells for a table, and the run ends for that. Or they don't, and it went on
abbrev pub Cells : {T : Type 0} → (from to : List ℕ) → Result T RunFault → (later next : Type 0) → Type 0
Cells from to result later next = (HasTooManyCells from to × (result ≡ Err RunFault.Cells) × later) ⊎ ((HasTooManyCells from to → ⊥) × next)

-- the run wrote an answer: all of it, or its first bytes up to a failed write. Or there was no memory, and it wrote nothing
abbrev pub Writes : {T S : Type 0} → (takes : S → List ℕ → Result ℕ DeviceFault → S → Type 0) → (old new : S) →
    (answers : List ℕ → Type 0) → Result T RunFault → Type 0
Writes takes old new answers (Ok done) = (text : List ℕ) × answers text × Took takes old text new
Writes takes old new answers (Err (RunFault.Write count)) = (text : List ℕ) × answers text × TookUntilFault takes old text count new
Writes takes old new answers (Err RunFault.Memory) = new ≡ old
Writes takes old new answers (Err _) = ⊥
