-- What a story tells of each input and of the output, from its last step back to its first.
use Rattle.std.proofs.Common.{◌≡◌, ◌⊎◌, ℕ, ◌<◌, List, Option, Some, None, Result, Ok, Err, inl, inr, refl, sym, ap, subst, arith}
use Rattle.std.specs.Prelude.{IfErr, IsErrAnd, ⊤}
use Rattle.std.proofs.Math.Logic.{⊎_map}
use Rattle.ch_graph.specs.Graph.{IsWithinLimits, Network}
use Rattle.ch_hierarchy.specs.Hierarchy.{LevelsAndLegs}
use Rattle.ch_read.specs.declared.form.Form.TheVariants as Form
use Rattle.ch_read.specs.Names.{NamesGraph, NamesNodes}
use Rattle.ch_text.specs.Moves.{TookUntilFault}
use Rattle.ch_run.specs.declared.fault.RunFault.{RunFault}
use Rattle.ch_run.specs.declared.fault.Which.{Which}
use Rattle.ch_run.specs.Lists.{HasTooManyCells}
use Rattle.ch_run.specs.NearRun.{AreSources, IsOfSources, sources_among}
use Rattle.ch_run.specs.Customized.{IsUncustomizable}
use Rattle.ch_run.specs.Run.{CustomizedFile, FoundOrder, GoesPast, IsOf, IsWrite, NoFile, NoInput, OneInput, OrderFile, Reading, ReadingIf}
use Rattle.ch_run.specs.Run.{ReadsAll, ReadsGraph, SavedFile, SourceReading}
use Rattle.ch_run.specs.Source.{AreBuiltLike, AreChecked, AreCustomized, AreDissected, AreLoaded, IsOfLoading}
use Rattle.ch_run.specs.Story.{Cells, EndsAt, HasEnded, IsOrderRefusedOn, IsRefused, IsSavedRefusedOn, Loads, Reads, ReadsIf, Writes}
use Rattle.ch_run.specs.Told.{Calls, GoesPastBefore, Met, MetFile, MetIf, ReportsReads, Tells, Written, step_of}
use Rattle.ch_run.proofs.Owed.{ends_as, err_is, err_own, err_weaker, no_end, of_no_write, of_one}

-- a run that stopped at an input reports a failed read of it, or had none
ends_report : (which : Which) (input : Reading) (refuses : List ℕ → RunFault → Type 0) {same : Type 0} {T : Type 0}
    (r : Result T RunFault) → IsErrAnd r (EndsAt which input refuses) → ReportsReads which input same r
ends_report which input refuses (Ok done) is = absurd is
ends_report which input refuses (Err (RunFault.Device other)) is =
    inl (ap (λ (w : Which). Err (RunFault.Device w)) (sym is.0), is.1)
ends_report which input refuses (Err RunFault.Memory) is = inr (λ same. cc, inr is.1)
ends_report which input refuses (Err fault) is = inr (λ same. cc, inr (is.1.0, inr is.1.1))

module _ {T : Type 0} (r : Result T RunFault) where
  -- a run that stopped at an input goes past those of other steps
  past_other : (first which : Which) → IsErrAnd r (IsOf first) → (step_of which ≡ step_of first → ⊥) → GoesPast which r
  past_other first which is other = err_own r _ _ is (λ e of stops. other (ap step_of (of_one first which e of stops)))

  -- what is told of an input that the run goes past: it is as it was, or was read to its end
  met_past : {which : Which} {input : Reading} {same accepted : Type 0} {Why : RunFault → Type 0} → GoesPast which r →
      same ⊎ (((bytes : List ℕ) × input.all bytes) × GoesPastBefore r (step_of which) × accepted) →
      Met r which input same accepted Why
  met_past {which} past at = record {
    why = λ fault stops is. absurd (no_end which r fault past stops is);
    calls = inr (
      no_end which r (RunFault.Device which) past (refl, λ is. cc),
      ⊎_map (λ same. same) (λ read. (read.0.0, inr read.0.1)) at,
    );
    unread = ⊎_map (λ same. same) (λ read. (read.1, read.2)) at;
  }

  -- a run that stopped at an earlier input left this one as it was
  pub untouched : (first : Which) {which : Which} {input : Reading} {same accepted : Type 0} {Why : RunFault → Type 0} →
      IsErrAnd r (IsOf first) → step_of first < step_of which → same → Met r which input same accepted Why
  untouched first {which} is less same = met_past (past_other first which is (λ one. omega arith)) (inl same)

-- the same of the list of sources, if there is one
pub untouched_if : {T : Type 0} (r : Result T RunFault) (first : Which) {same : Type 0} (accepted : Type 0)
    (Why : Reading → RunFault → Type 0) (sources : ReadingIf) → IsErrAnd r (IsOf first) → step_of first < 2 → same →
    MetIf r sources same accepted Why
untouched_if r first accepted Why NoInput is less same = tt
untouched_if r first accepted Why (OneInput list) is less same = untouched r first is less same

-- a run that ends in a fault that is no failed write has written nothing
pub unwritten_by : {T O : Type 0} (r : Result T RunFault) {takes : Calls O} {old new : O} {accepted : Type 0} {P : List ℕ → Type 0} →
    IsErrAnd r (λ e. IsWrite e → ⊥) → new ≡ old → Written r takes old new accepted P
unwritten_by (Ok done) none same = absurd none
unwritten_by (Err e) none same =
    record { calls = inr (none, inl same); unwritten = inl same; written = λ count is. absurd (none (subst IsWrite (sym is) tt)) }

-- so has one that stopped at an input
pub unwritten : {T O : Type 0} (r : Result T RunFault) (first : Which) {takes : Calls O} {old new : O} {accepted : Type 0}
    {P : List ℕ → Type 0} → IsErrAnd r (IsOf first) → new ≡ old → Written r takes old new accepted P
unwritten r first is = unwritten_by r (err_weaker r _ _ is (of_no_write first))

-- what a story tells from this step on: the run ends only in faults with Own, it stops at no input of an earlier step, and L
abbrev pub TellsFrom : {T : Type 0} → Result T RunFault → (Own : RunFault → Type 0) → (k : ℕ) → (L : Type 0) → Type 0
TellsFrom r Own k L = IfErr r Own × GoesPastBefore r k × L

module _ {T : Type 0} (r : Result T RunFault) (Own : RunFault → Type 0) where
  -- a run stopped at an input, or went on with the value of its bytes
  pub reads_told : {V L same accepted later : Type 0} {names : List ℕ → V → Type 0} {next : V → Type 0}
      {Why : RunFault → Type 0} (which : Which) (input : Reading) (refuses : List ℕ → RunFault → Type 0) (k : ℕ) →
      step_of which < k → ((e : RunFault) → IsOf which e → Own e) → accepted → ((e : RunFault) → HasEnded input refuses e → Why e) →
      Reads which input names refuses r later next → (IsErrAnd r (IsOf which) → later → L) →
      ((value : V) → ReadsAll input (λ bytes. names bytes value) → next value → TellsFrom r Own k L) →
      TellsFrom r Own (step_of which) (Met r which input same accepted Why × L)
  reads_told {same = same} {accepted = accepted} {Why = Why} which input refuses k less own met so (inl (ends, at)) stop go =
      let is = err_weaker r _ (IsOf which) ends (λ e at. at.0) in
      let past = λ (other : Which) (before : step_of other < step_of which). past_other r which other is (λ one. omega arith) in
      let told : Met r which input same accepted Why = record {
        why = λ fault stops same. so fault (err_is r _ fault ends same).1;
        calls = ends_report which input refuses r ends;
        unread = inr (past, met);
      } in
      (err_own r _ _ is own, past, (told, stop is at))
  reads_told which input refuses k less own met so (inr (bytes, value, all, named, rest)) stop go =
      let tail = go value (bytes, all, named) rest in
      let past = λ (other : Which) (before : step_of other < step_of which). tail.1 other (omega arith) in
      (tail.0, past, (met_past r (tail.1 which less) (inr ((bytes, all), past, met)), tail.2))

  -- a run stopped at the graph or at a file for its hierarchy, or went on with the hierarchy
  file_told : {same later L : Type 0} {names : Network → List ℕ → LevelsAndLegs → Type 0} {next : Network → LevelsAndLegs → Type 0}
      (graph : Reading) (which : Which) (file : Reading) (refuses : Network → List ℕ → RunFault → Type 0) → step_of which ≡ 1 →
      ((e : RunFault) → IsOf Which.Graph e ⊎ IsOf which e → Own e) →
      Reads Which.Graph graph (λ bytes g. NamesGraph bytes g × IsWithinLimits g) (IsRefused Form.Graph) r (same × later)
      (λ g. Reads which file (names g) (refuses g) r later (next g)) →
      (IsErrAnd r (IsOf Which.Graph) → later → L) → (IsErrAnd r (IsOf which) → later → L) →
      ((g : Network) → ReadsGraph graph g → IsWithinLimits g → (H : LevelsAndLegs) → ReadsAll file (λ bytes. names g bytes H) → next g H →
      TellsFrom r Own 2 L) →
      TellsFrom r Own 0
      (Met r Which.Graph graph ⊥ ⊤ (HasEnded graph (IsRefused Form.Graph)) × (MetFile r graph which file same refuses × L))
  file_told graph which file refuses one own went stop_graph stop go =
      reads_told Which.Graph graph (IsRefused Form.Graph) 1 (omega arith) (λ e is. own e (inl is)) tt (λ e is. is) went
      (λ is at. (untouched r Which.Graph is (omega arith) at.0, stop_graph is at.1))
      (λ g named rest.
      let read : ReadsGraph graph g = (named.0, named.1, named.2.0) in
      let e = reads_told which file (refuses g) 2 (omega arith) (λ e is. own e (inr is)) (g, read) (λ e is. (g, read, is)) rest stop
      (go g read named.2.1) in
      (e.0, λ other less. e.1 other (omega arith), e.2))

  -- a run stopped while it loaded, or went on with what it had loaded
  pub loads_told : {same later L : Type 0} {next : Network → Option LevelsAndLegs → Type 0} (graph : Reading)
      (source : SourceReading) → ((e : RunFault) → IsOfLoading source e → Own e) → Loads graph source same r later next →
      ((first : Which) → step_of first < 2 → ((e : RunFault) → IsOf first e → IsOfLoading source e) → IsErrAnd r (IsOf first) → later → L) →
      ((g : Network) (h : Option LevelsAndLegs) → AreLoaded graph source g h → next g h → TellsFrom r Own 2 L) →
      Tells r Own graph source same L
  loads_told graph NoFile own went stop go =
      let e = reads_told Which.Graph graph (IsRefused Form.Graph) 2 (omega arith) own tt (λ e is. is) went
      (λ is at. stop Which.Graph (omega arith) (λ e of. of) is at.1)
      (λ g named. go g None (named.2.1, (named.0, named.1, named.2.0), refl)) in
      record { own = e.0; met_graph = e.2.0; met_source = tt; later = e.2.1 }
  loads_told graph (SavedFile saved) own went stop go =
      let e = file_told graph Which.Saved saved IsSavedRefusedOn refl own went (stop Which.Graph (omega arith) (λ e of. inl of))
      (stop Which.Saved (omega arith) (λ e of. inr of)) (λ g read limits H is.
      let checked : AreChecked graph saved g is.2.0 H =
      record { reads_graph = read; limits = limits; reads_saved = (is.0, is.1, is.2.1); names = is.2.2 } in
      go g (Some H) (is.2.0, checked)) in
      record { own = e.0; met_graph = e.2.0; met_source = e.2.1.0; later = e.2.1.1 }
  loads_told graph (OrderFile order fresh hops) own went stop go =
      let e = file_told graph Which.Order order (λ g. IsOrderRefusedOn g fresh hops) refl own went
      (stop Which.Graph (omega arith) (λ e of. inl of)) (stop Which.Order (omega arith) (λ e of. inr of)) (λ g read limits H is.
      let built : AreBuiltLike graph order fresh hops g is.2.0 H = record {
        reads_graph = read;
        limits = limits;
        reads_order = (is.0, is.1, is.2.1);
        each = is.2.2;
        like = is.2.3;
        kept = is.2.4;
      } in
      go g (Some H) (is.2.0, built)) in
      record { own = e.0; met_graph = e.2.0; met_source = e.2.1.0; later = e.2.1.1 }
  loads_told graph (CustomizedFile order hops) own went stop go =
      let e = file_told graph Which.Order order IsUncustomizable refl own went (stop Which.Graph (omega arith) (λ e of. inl of))
      (stop Which.Order (omega arith) (λ e of. inr of)) (λ g read limits H is.
      let made : AreCustomized graph order hops g is.2.0 H =
      record { reads_graph = read; limits = limits; reads_order = (is.0, is.1, is.2.1); customized = is.2.2 } in
      go g (Some H) (is.2.0, made)) in
      record { own = e.0; met_graph = e.2.0; met_source = e.2.1.0; later = e.2.1.1 }
  loads_told graph (FoundOrder hops) own went stop go =
      let e = reads_told Which.Graph graph (IsRefused Form.Graph) 2 (omega arith) own tt (λ e is. is) went
      (λ is at. stop Which.Graph (omega arith) (λ e of. of) is at.1)
      (λ g named rest. elim rest [
        | inl none ↦
            let none_left = ends_as r _ none.0 in
            let told = stop Which.Graph (omega arith) (λ e of. of) (rw none_left tt) none.1 in
            (rw none_left (own _ tt), λ which less. rw none_left (λ stops. absurd (stops.1 refl)), told)
        | inr made ↦
            let read : ReadsGraph graph g = (named.0, named.1, named.2.0) in
            let found : AreDissected graph hops g made.0 = record { reads_graph = read; limits = named.2.1; dissected = made.1 } in
            go g (Some made.0) found made.2
      ]) in
      record { own = e.0; met_graph = e.2.0; met_source = tt; later = e.2.1 }

  -- a run stopped at the list of sources, or went on with the sources
  pub sources_told : (same : Type 0) {later accepted L : Type 0} {next : Option (List ℕ) → Type 0} (n : ℕ)
      (Why : Reading → RunFault → Type 0) (sources : ReadingIf) → ((e : RunFault) → IsOfSources sources e → Own e) → accepted →
      ((list : Reading) (e : RunFault) → HasEnded list (IsRefused (Form.Nodes n)) e → Why list e) →
      ReadsIf Which.Sources sources (λ bytes listed. NamesNodes bytes n listed) (IsRefused (Form.Nodes n)) r later next →
      (IsErrAnd r (IsOf Which.Sources) → later → L) →
      ((listed : Option (List ℕ)) → AreSources sources n (sources_among n listed) → next listed → TellsFrom r Own 3 L) →
      TellsFrom r Own 2 (MetIf r sources same accepted Why × L)
  sources_told same n Why NoInput own met so reads stop go =
      let e = go None refl reads in (e.0, λ which less. e.1 which (omega arith), (tt, e.2))
  sources_told same n Why (OneInput list) own met so reads stop go =
      reads_told Which.Sources list (IsRefused (Form.Nodes n)) 3 (omega arith) own met (so list) reads stop (λ listed. go (Some listed))

  -- lists with too many cells ended the run, or it went on
  pub cells_told : {later next L : Type 0} (from to : List ℕ) → (HasTooManyCells from to → Own RunFault.Cells) →
      Cells from to r later next → (HasTooManyCells from to → r ≡ Err RunFault.Cells → later → L) →
      ((HasTooManyCells from to → ⊥) → next → TellsFrom r Own 4 L) → TellsFrom r Own 4 L
  cells_told from to own (inl (many, is, at)) stop go =
      (rw is (own many), λ which less. rw is (λ stops. absurd stops.0), stop many is at)
  cells_told from to own (inr (few, goes)) stop go = go few goes

-- a run that wrote its answer ends only in a failed write, or for want of memory
pub writes_told : {T O : Type 0} (r : Result T RunFault) (Own : RunFault → Type 0) (k : ℕ) {takes : Calls O} {old new : O}
    {answers : List ℕ → Type 0} {accepted : Type 0} {P : List ℕ → Type 0} → Own RunFault.Memory →
    ((count : ℕ) → Own (RunFault.Write count)) → accepted → ((text : List ℕ) → answers text → P text) →
    Writes takes old new answers r → TellsFrom r Own k (Written r takes old new accepted P)
writes_told (Ok done) Own k memory write met so (text, is, took) =
    (tt, λ which less. tt, record { calls = inr (λ is. is, inr (text, took)); unwritten = inr (tt, met); written = (text, so _ is, took) })
writes_told {T} (Err (RunFault.Write count)) Own k {takes} {old} {new} {accepted = accepted} {P} memory write met so (text, is, took) =
    let told : Written {T = T} (Err (RunFault.Write count)) takes old new accepted P = record {
      calls = inl (tt, (text, count, took));
      unwritten = inr (tt, met);
      written = λ n same. (text, so text is, subst (λ k. TookUntilFault takes old text k new) (let one : count ≡ n = cc in one) took);
    } in
    (write count, λ which less stops. absurd stops.0, told)
writes_told (Err RunFault.Memory) Own k memory write met so same =
    (memory, λ which less stops. absurd (stops.1 refl), unwritten (Err RunFault.Memory) Which.Graph tt same)
writes_told (Err _) Own k memory write met so wrote = absurd wrote
