-- The promises of a run that makes a table.
use Rattle.std.specs.Prelude.{◌⊎◌, ℕ, List}
use Rattle.ch_run.specs.declared.fault.RunFault.{RunFault}
use Rattle.ch_job.specs.declared.options.Options.{Options}
use Rattle.ch_run.specs.Lists.{AcceptsList, HaveCellsRefused, IsOfLists, ReadsLists}
use Rattle.ch_run.specs.Run.{Reading, IsWrite, SourceReading}
use Rattle.ch_run.specs.Source.{IsOfLoading, WithLoaded}
use Rattle.ch_text.specs.TableText.{IsTableText}

-- the inputs name a graph and two lists of its nodes, and the text is their table within the limit of the options. A
-- hierarchy that is loaded is right for the graph
abbrev pub IsTabledBy : Options → Reading → SourceReading → Reading → Reading → List ℕ → Type 0
IsTabledBy options graph source sources targets text =
    WithLoaded graph source
    (λ g _. (from to : List ℕ) × ReadsLists sources targets g.nodes from to × IsTableText g options.within from to text)

-- the graph was accepted, and then the file for the hierarchy, if one is read, and then the sources
abbrev pub AcceptsSources : Reading → SourceReading → Reading → Type 0
AcceptsSources graph source sources = WithLoaded graph source (λ g _. AcceptsList sources g.nodes)

-- all of these were accepted, and then the targets, and the lists don't make too many cells
abbrev pub AcceptsLists : Reading → SourceReading → Reading → Reading → Type 0
AcceptsLists graph source sources targets = WithLoaded graph source (λ g _. (from to : List ℕ) × ReadsLists sources targets g.nodes from to)

-- all inputs were accepted, but the lists make too many cells
abbrev pub HasCellsRefused : Reading → SourceReading → Reading → Reading → Type 0
HasCellsRefused graph source sources targets = WithLoaded graph source (λ g _. HaveCellsRefused sources targets g.nodes)

-- the faults that the run can end in: an input is refused or can't be read, there are too many cells or no memory, or a write failed
abbrev pub IsOfTable : SourceReading → RunFault → Type 0
IsOfTable source fault = IsOfLoading source fault ⊎ IsOfLists fault ⊎ IsWrite fault
