-- Steps of the story of a run.
use Rattle.std.proofs.Common.{◌≡◌, ℕ, List, Option, Some, None, Result, Ok, Err, inl, inr, refl, sym, subst}
use Rattle.std.specs.Prelude.{IsErrAnd, ⊤}
use Rattle.ch_graph.specs.Graph.{Network}
use Rattle.ch_read.specs.declared.form.Form.TheVariants as Form
use Rattle.ch_read.specs.Names.{NamesNodes}
use Rattle.ch_hierarchy.specs.Hierarchy.{LevelsAndLegs}
use Rattle.ch_text.specs.declared.device.DeviceFault.{DeviceFault}
use Rattle.ch_run.specs.declared.fault.RunFault.{RunFault}
use Rattle.ch_run.specs.declared.fault.Which.{Which}
use Rattle.ch_run.specs.Customized.{IsUncustomizable}
use Rattle.ch_run.specs.Run.{CustomizedFile, FoundOrder, NoFile, NoInput, OneInput, OrderFile, Reading, ReadingIf, SavedFile, SourceReading}
use Rattle.ch_run.specs.Story.{EndsAtIf, IsOrderRefusedOn, IsRefused, IsSavedRefusedOn, Loads, LoadsSource, Reads, ReadsIf, Writes}
use Rattle.ch_run.specs.NearRun.{AreSources, sources_among}
use Rattle.ch_run.proofs.Owed.{err_as}

-- at each end of a run: its story went so, what that tells was written, and the inputs are the same ones
pub ended : {Went Written Same : Type 0} → (Went → Written) → Went → Same → record { went : Went; written : Written; same : Same }
ended told went same = record { went = went; written = told went; same = same }

-- the story of a call whose result s the run passes on, as r, is a part of the story of the run
reads_as : {S T V : Type 0} (s : Result S RunFault) (r : Result T RunFault) (which : Which) (input : Reading)
    {names : List ℕ → V → Type 0} (refuses : List ℕ → RunFault → Type 0) {before later : Type 0} {none next : V → Type 0} →
    ((P : RunFault → Type 0) → IsErrAnd s P → before → IsErrAnd r P × later) → ((value : V) → none value → next value) →
    Reads which input names refuses s before none → Reads which input names refuses r later next
reads_as s r which input refuses stop go (inl (ends, at)) = inl (stop _ ends at)
reads_as s r which input refuses stop go (inr (bytes, value, all, named, on)) = inr (bytes, value, all, named, go value on)

-- the same of a run that loads
loads_as : {S T : Type 0} (s : Result S RunFault) (r : Result T RunFault) (graph : Reading) (source : SourceReading) {unread later : Type 0}
    {none next : Network → Option LevelsAndLegs → Type 0} → ((P : RunFault → Type 0) → IsErrAnd s P → IsErrAnd r P × later) →
    ((g : Network) (h : Option LevelsAndLegs) → none g h → next g h) → Loads graph source unread s ⊤ none →
    Loads graph source unread r later next
loads_as s r graph source {later = later} {none = none} {next = next} stop go =
    reads_as s r Which.Graph graph (IsRefused Form.Graph) (λ P own at. let e = stop P own in (e.0, (at.0, e.1))) (at source)
  where
    at : (input : SourceReading) (g : Network) → LoadsSource g input s ⊤ (none g) → LoadsSource g input r later (next g)
    at NoFile g reads = go g None reads
    at (SavedFile saved) g reads =
        reads_as s r Which.Saved saved (IsSavedRefusedOn g) (λ P own at. stop P own) (λ H. go g (Some H)) reads
    at (OrderFile order fresh hops) g reads =
        reads_as s r Which.Order order (IsOrderRefusedOn g fresh hops) (λ P own at. stop P own) (λ H. go g (Some H)) reads
    at (CustomizedFile order hops) g reads =
        reads_as s r Which.Order order (IsUncustomizable g) (λ P own at. stop P own) (λ H. go g (Some H)) reads
    at (FoundOrder hops) g (inl none) = inl (stop _ none.0)
    at (FoundOrder hops) g (inr (H, is, on)) = inr (H, is, go g (Some H) on)

-- the run that loaded in vain stops there
pub loads_stops : (S : Type 0) {T : Type 0} (graph : Reading) (source : SourceReading) (r : Result T RunFault)
    (next : Network → Option LevelsAndLegs → Type 0) {unread later : Type 0} (e : RunFault) → IsErrAnd r (λ other. other ≡ e) → later →
    Loads {T = S} graph source unread (Err e) ⊤ (λ g h. ⊥) → Loads graph source unread r later next
loads_stops S graph source r next e is rest =
    loads_as {S = S} (Err e) r graph source (λ P own. (err_as r e P is own, rest)) (λ g h none. absurd none)

-- the run that loaded goes on with a graph and a hierarchy with R
pub loads_serving : {S T : Type 0} (graph : Reading) (source : SourceReading) (r : Result T RunFault)
    (next : Network → Option LevelsAndLegs → Type 0) {unread later : Type 0} (done : S) (g : Network)
    (R : Network → Option LevelsAndLegs → Type 0) → ((h : Option LevelsAndLegs) → R g h → next g h) →
    Loads {T = S} graph source unread (Ok done) ⊤ (λ k l. (g ≡ k) × R k l) → Loads graph source unread r later next
loads_serving graph source r next done g R goes = loads_as (Ok done) r graph source (λ P none. absurd none)
    (λ k h is. subst (λ (m : Network). next m h) is.0 (goes h (subst (λ (m : Network). R m h) (sym is.0) is.1)))

-- a run that stopped at an input that only some runs have stops its story there
pub if_stops : {T V : Type 0} (r : Result T RunFault) (which : Which) (input : ReadingIf) (names : List ℕ → V → Type 0)
    (refuses : List ℕ → RunFault → Type 0) (later : Type 0) (next : Option V → Type 0) (e : RunFault) → IsErrAnd r (λ other. other ≡ e) →
    EndsAtIf which input refuses e → later → ReadsIf which input names refuses r later next
if_stops r which NoInput names refuses later next e is ends rest = absurd ends
if_stops r which (OneInput input) names refuses later next e is ends rest = inl (err_as r e _ is ends, rest)

-- the run goes on with the sources, which were read, or which are all nodes
pub sources_on : {T : Type 0} (input : ReadingIf) (nodes : ℕ) (from : List ℕ) (refuses : List ℕ → RunFault → Type 0)
    (r : Result T RunFault) (later : Type 0) (next : Option (List ℕ) → Type 0) → AreSources input nodes from →
    ((listed : Option (List ℕ)) → sources_among nodes listed ≡ from → next listed) →
    ReadsIf Which.Sources input (λ bytes listed. NamesNodes bytes nodes listed) refuses r later next
sources_on NoInput nodes from refuses r later next is goes = goes None (sym is)
sources_on (OneInput input) nodes from refuses r later next is goes = inr (is.0, from, is.1, is.2, goes (Some from) refl)

-- a text that was written has P, if the text has it
pub writes_weaker : {T S : Type 0} (takes : S → List ℕ → Result ℕ DeviceFault → S → Type 0) (old new : S) (text : List ℕ)
    (P : List ℕ → Type 0) (r : Result T RunFault) → P text → Writes takes old new (λ bytes. bytes ≡ text) r → Writes takes old new P r
writes_weaker takes old new text P (Ok done) so wrote = (wrote.0, subst P (sym wrote.1) so, wrote.2)
writes_weaker takes old new text P (Err (RunFault.Write count)) so wrote = (wrote.0, subst P (sym wrote.1) so, wrote.2)
writes_weaker takes old new text P (Err _) so wrote = wrote

-- a run without memory for the text has written nothing
pub writes_none : {T S : Type 0} (takes : S → List ℕ → Result ℕ DeviceFault → S → Type 0) (x : S) (P : List ℕ → Type 0)
    (r : Result T RunFault) → IsErrAnd r (λ other. other ≡ RunFault.Memory) → Writes takes x x P r
writes_none takes x P (Ok done) is = absurd is
writes_none {T} takes x P (Err e) is = subst (λ (f : RunFault). Writes {T = T} takes x x P (Err f)) (sym is) refl
