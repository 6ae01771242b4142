-- The story of each run: what it reads and what it writes, in the order in which it happens. `same_source` and its like say that an input
-- is as it was. `takes` says what one write of the output may do, which is `old` before the run and `new` after it.
use Rattle.std.specs.Prelude.{◌≡◌, ◌⊎◌, ℕ, List, Result, Err}
use Rattle.ch_read.specs.declared.form.Form.TheVariants as Form
use Rattle.ch_read.specs.Names.{NamesNodes, NamesQueries}
use Rattle.ch_text.specs.declared.device.DeviceFault.{DeviceFault}
use Rattle.ch_text.specs.TableText.{IsTableText}
use Rattle.ch_run.specs.declared.fault.Which.{Which}
use Rattle.ch_run.specs.declared.fault.RunFault.{RunFault}
use Rattle.ch_job.specs.declared.options.Options.{Options}
use Rattle.ch_run.specs.Ask.{ServesFrom}
use Rattle.ch_run.specs.NearRun.{sources_among}
use Rattle.ch_run.specs.Run.{Reading, ReadingIf, SourceReading}
use Rattle.ch_run.specs.Source.{IsOfRoutes, IsToSave}
use Rattle.ch_run.specs.Story.{Cells, IsRefused, Loads, Reads, ReadsIf, Writes}
use Rattle.ch_run.specs.Text.{IsNearTextFor, IsSaveTextOf, IsTextBy, writes_routes}

-- a run that answers queries
abbrev pub RunsDist : {T O : Type 0} → Options → (graph : Reading) → (source : SourceReading) → (queries : Reading) →
    (same_source same_queries : Type 0)
    → (takes : O → List ℕ → Result ℕ DeviceFault → O → Type 0) → (old new : O) → Result T RunFault → Type 0
RunsDist options graph source queries same_source same_queries takes old new result =
    Loads graph source same_source result (same_queries × (new ≡ old)) (λ g h.
    Reads Which.Queries queries (λ bytes pairs. NamesQueries bytes g.nodes pairs) (IsRefused (Form.Queries g.nodes))
    result (new ≡ old) (λ pairs.
    Writes takes old new (IsTextBy (writes_routes options) g (IsOfRoutes options g h) pairs) result))

-- a run that makes a table
abbrev pub RunsTable : {T O : Type 0} → Options → (graph : Reading) → (source : SourceReading) → (sources targets : Reading) →
    (same_source same_sources same_targets : Type 0)
    → (takes : O → List ℕ → Result ℕ DeviceFault → O → Type 0) → (old new : O) → Result T RunFault → Type 0
RunsTable options graph source sources targets same_source same_sources same_targets takes old new result =
    Loads graph source same_source result (same_sources × same_targets × (new ≡ old)) (λ g h.
    Reads Which.Sources sources (λ bytes from. NamesNodes bytes g.nodes from) (IsRefused (Form.Nodes g.nodes)) result
    (same_targets × (new ≡ old)) (λ from.
    Reads Which.Targets targets (λ bytes to. NamesNodes bytes g.nodes to) (IsRefused (Form.Nodes g.nodes)) result
    (new ≡ old) (λ to.
    Cells from to result (new ≡ old) (
    Writes takes old new (IsTableText g options.within from to) result))))

-- a run that writes near rows. Without a list of sources, these are all nodes
abbrev pub RunsNear : {T O : Type 0} → Options → (graph : Reading) → (source : SourceReading) → (sources : ReadingIf) →
    (targets : Reading) → (same_source same_sources same_targets : Type 0)
    → (takes : O → List ℕ → Result ℕ DeviceFault → O → Type 0) → (old new : O) → Result T RunFault → Type 0
RunsNear options graph source sources targets same_source same_sources same_targets takes old new result =
    Loads graph source same_source result (same_sources × same_targets × (new ≡ old)) (λ g h.
    ReadsIf Which.Sources sources (λ bytes listed. NamesNodes bytes g.nodes listed) (IsRefused (Form.Nodes g.nodes))
    result (same_targets × (new ≡ old)) (λ listed.
    Reads Which.Targets targets (λ bytes to. NamesNodes bytes g.nodes to) (IsRefused (Form.Nodes g.nodes)) result
    (new ≡ old) (λ to.
    Writes takes old new (IsNearTextFor options g (sources_among g.nodes listed) to) result)))

-- a run that saves a hierarchy
abbrev pub RunsSave : {T O : Type 0} → Options → (graph : Reading) → (source : SourceReading) → (same_source : Type 0) →
    (takes : O → List ℕ → Result ℕ DeviceFault → O → Type 0) → (old new : O) → Result T RunFault → Type 0
RunsSave options graph source same_source takes old new result =
    Loads graph source same_source result (new ≡ old) (λ g h. Writes takes old new (IsSaveTextOf (IsToSave options g h)) result)

-- a run that answers requests. There may be no memory for the hierarchy that it builds
abbrev pub RunsAsk : {T O : Type 0} → Options → (graph : Reading) → (source : SourceReading) → (requests : Reading) →
    (same_source same_requests : Type 0)
    → (takes : O → List ℕ → Result ℕ DeviceFault → O → Type 0) → (old new : O) → Result T RunFault → Type 0
RunsAsk options graph source requests same_source same_requests takes old new result =
    Loads graph source same_source result (same_requests × (new ≡ old)) (λ g h.
    ((result ≡ Err RunFault.Memory) × same_requests × (new ≡ old))
    ⊎ ServesFrom options source g h requests takes old new result)
