-- The promises of a run that answers queries.
use Rattle.std.specs.Prelude.{◌⊎◌, ℕ, List}
use Rattle.ch_run.specs.declared.fault.Which.{Which}
use Rattle.ch_run.specs.declared.fault.RunFault.{RunFault}
use Rattle.ch_job.specs.declared.options.Options.{Options}
use Rattle.ch_run.specs.Run.{Reading, ReadsQueries, IsOf, IsWrite, SourceReading}
use Rattle.ch_run.specs.Source.{IsOfLoading, IsOfRoutes, WithLoaded}
use Rattle.ch_run.specs.Text.{IsTextBy, writes_routes}

-- the inputs name a graph and queries on it, and the text answers these with the options. A hierarchy that is loaded is
-- right for the graph
abbrev pub IsAnsweredBy : Options → Reading → SourceReading → Reading → List ℕ → Type 0
IsAnsweredBy options graph source queries text = WithLoaded graph source (λ g h.
    (pairs : List (ℕ × ℕ)) × ReadsQueries queries g.nodes pairs × IsTextBy (writes_routes options) g (IsOfRoutes options g h) pairs text)

-- the graph was accepted, and then the file for the hierarchy, if one is read, and then queries on the graph
abbrev pub AcceptsQueries : Reading → SourceReading → Reading → Type 0
AcceptsQueries graph source queries = WithLoaded graph source (λ g _. (pairs : List (ℕ × ℕ)) × ReadsQueries queries g.nodes pairs)

-- the faults that the run can end in: an input is refused or can't be read, there is no memory, or a write failed
abbrev pub IsOfDist : SourceReading → RunFault → Type 0
IsOfDist source fault = IsOfLoading source fault ⊎ IsOf Which.Queries fault ⊎ IsWrite fault
