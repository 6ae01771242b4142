-- Where the hierarchy of a run comes from, and the promises on a saved one and on an order.
use Rattle.std.specs.Prelude.{◌≡◌, ◌⊎◌, ℕ, if◌then◌else◌, [], List, Option, Some, None}
use Rattle.std.specs.Prelude.{Result, ⊤}
use Rattle.ch_graph.specs.Graph.{Network, IsWithinLimits}
use Rattle.ch_graph.specs.Saved.{OrderAndLegs}
use Rattle.ch_read.specs.Names.{NamesSaved}
use Rattle.ch_hierarchy.specs.Hierarchy.{LevelsAndLegs}
use Rattle.ch_hierarchy.specs.Kept.{IsKept}
use Rattle.ch_hierarchy.specs.Saved.{NamesKept, IsOrderOf}
use Rattle.ch_contract.specs.declared.measure.OrderBy.TheVariants.{Depth}
use Rattle.ch_contract.specs.Built.{IsHierarchyBy}
use Rattle.ch_contract.specs.Like.{IsHierarchyLike}
use Rattle.ch_text.specs.declared.device.DeviceFault.{DeviceFault}
use Rattle.ch_run.specs.declared.fault.Which.{Which}
use Rattle.ch_run.specs.declared.needed.Needed.{Needed}
use Rattle.ch_run.specs.declared.needed.Needed.TheVariants.{Any, InOrder, Quick}
use Rattle.ch_run.specs.declared.fault.RunFault.{RunFault}
use Rattle.ch_job.specs.declared.options.Options.{Options}
use Rattle.ch_order.specs.Quick.{IsHierarchyAfter}
use Rattle.ch_job.specs.declared.source.Source.{Source}
use Rattle.ch_job.specs.declared.source.Source.TheVariants.{Built, Customized, Dissected, Like, Saved}
use Rattle.ch_run.specs.Customized.{IsCustomizedIn, IsDissected}
use Rattle.ch_run.specs.Run.{Reading, ReadsAll, ReadsGraph, IsOf, reading, SourceReading, NoFile}
use Rattle.ch_run.specs.Run.{CustomizedFile, FoundOrder, SavedFile, OrderFile}
use Rattle.ch_run.specs.Text.{writes_routes}

-- the reading of that input. A run leaves it as what it is: a saved hierarchy or an order
abbrev pub source_reading : {S : Type 0} → (gives : S → List ℕ → Result ℕ DeviceFault → S → Type 0) → Source S → Source S → SourceReading
source_reading gives Built new = NoFile
source_reading gives (Saved old) (Saved new) = SavedFile (reading gives old new)
source_reading gives (Like old fresh hops) (Like new fresh' hops') = OrderFile (reading gives old new) fresh.number hops.number
source_reading gives (Customized old hops) (Customized new hops') = CustomizedFile (reading gives old new) hops.number
source_reading gives (Dissected hops) new = FoundOrder hops.number
source_reading gives _ _ = NoFile

-- the input was read to its end and names this order and these legs, on a graph with this many nodes
abbrev pub ReadsSaved : Reading → ℕ → OrderAndLegs → Type 0
ReadsSaved saved nodes s = ReadsAll saved (λ bytes. NamesSaved bytes nodes s)

-- the inputs were read to their end. They name a graph within the limits and a hierarchy that is right for it
pub record AreChecked (graph saved : Reading) (g : Network) (s : OrderAndLegs) (H : LevelsAndLegs) : Type 0 where
  pub reads_graph : ReadsGraph graph g
  pub limits : IsWithinLimits g
  pub reads_saved : ReadsSaved saved g.nodes s
  pub names : NamesKept g s H

-- the inputs were read to their end. They name a graph within the limits and an order of its nodes. The hierarchy is that of the graph in
-- an order like it
pub record AreBuiltLike (graph order : Reading) (fresh hops : ℕ) (g : Network) (s : OrderAndLegs) (H : LevelsAndLegs) : Type 0 where
  pub reads_graph : ReadsGraph graph g
  pub limits : IsWithinLimits g
  pub reads_order : ReadsSaved order g.nodes s
  pub each : IsOrderOf g.nodes s.order
  pub like : IsHierarchyLike g hops s.order fresh H
  pub kept : IsKept g H

-- the inputs were read to their end. They name a graph within the limits and an order of its nodes, in which the hierarchy is customized
pub record AreCustomized (graph order : Reading) (hops : ℕ) (g : Network) (s : OrderAndLegs) (H : LevelsAndLegs) : Type 0 where
  pub reads_graph : ReadsGraph graph g
  pub limits : IsWithinLimits g
  pub reads_order : ReadsSaved order g.nodes s
  pub customized : IsCustomizedIn g hops s.order H

-- the graph was read to its end and is within the limits, and the hierarchy is customized in some order
pub record AreDissected (graph : Reading) (hops : ℕ) (g : Network) (H : LevelsAndLegs) : Type 0 where
  pub reads_graph : ReadsGraph graph g
  pub limits : IsWithinLimits g
  pub dissected : IsDissected g hops H

-- a saved hierarchy was read to its end and is this one, which is right for the graph. Or an order was read to its end, and this is the
-- hierarchy that was built like it, or customized in it. Or this one is customized in some order
abbrev pub ComesFromFile : (graph : Reading) → (source : SourceReading) → Network → Option LevelsAndLegs → Type 0
ComesFromFile graph (SavedFile saved) g (Some H) = (s : OrderAndLegs) × AreChecked graph saved g s H
ComesFromFile graph (OrderFile order fresh hops) g (Some H) = (s : OrderAndLegs) × AreBuiltLike graph order fresh hops g s H
ComesFromFile graph (CustomizedFile order hops) g (Some H) = (s : OrderAndLegs) × AreCustomized graph order hops g s H
ComesFromFile graph (FoundOrder hops) g (Some H) = AreDissected graph hops g H
ComesFromFile graph _ g _ = ⊥

-- the input was read to its end and names this graph, which is within the limits. If a file is read for the hierarchy, this one comes
-- from it
abbrev pub AreLoaded : (graph : Reading) → (source : SourceReading) → Network → Option LevelsAndLegs → Type 0
AreLoaded graph NoFile g h = IsWithinLimits g × ReadsGraph graph g × (h ≡ None)
AreLoaded graph source g h = ComesFromFile graph source g h

-- the inputs were loaded, and P holds of the graph and of the hierarchy that was saved or built like an order, if there is one
abbrev pub WithLoaded : Reading → SourceReading → (Network → Option LevelsAndLegs → Type 0) → Type 0
WithLoaded graph source P = (g : Network) × (h : Option LevelsAndLegs) × AreLoaded graph source g h × P g h

-- the inputs were loaded
abbrev pub AcceptsLoaded : Reading → SourceReading → Type 0
AcceptsLoaded graph source = WithLoaded graph source (λ _ _. ⊤)

-- the hierarchy serves for what a run writes, if this one was loaded or none. If what is written names no hierarchy, each serves that is
-- right for the graph. Otherwise it is the one that was loaded, if there is one. If not, it is the contraction hierarchy of the graph in
-- this order, with at most this many legs in a witness. Or it is built quickly: its nodes are contracted in any order
abbrev pub IsServing : Needed → ℕ → Network → Option LevelsAndLegs → LevelsAndLegs → Type 0
IsServing Any hops g h K = IsKept g K
IsServing (InOrder by) hops g None K = IsHierarchyBy by g hops K
IsServing Quick hops g None K = IsHierarchyAfter g hops [] K × IsKept g K
IsServing _ hops g (Some H) K = K ≡ H

-- the hierarchy that answers to queries need: with routes that in the order of the options
abbrev pub needed_by_queries : Options → Needed
needed_by_queries options = if writes_routes options then InOrder options.order else Any

-- the hierarchy that answers to requests need, each of which may ask for a route: in the order of the options, or by depth if they ask
-- for no routes
abbrev pub needed_by_requests : Options → Needed
needed_by_requests options = InOrder (if writes_routes options then options.order else Depth)

-- the hierarchy that is saved: in the order of the options, unless it is built quickly
abbrev pub needed_to_save : Options → Needed
needed_to_save options = if options.quick then Quick else InOrder options.order

-- a hierarchy that is saved with these options
abbrev pub IsToSave : Options → Network → Option LevelsAndLegs → LevelsAndLegs → Type 0
IsToSave options g h H = IsServing (needed_to_save options) options.hops.number g h H

-- the hierarchy that routes go by, with these options
abbrev pub IsOfRoutes : Options → Network → Option LevelsAndLegs → LevelsAndLegs → Type 0
IsOfRoutes options g h = IsServing (InOrder options.order) options.hops.number g h

-- the faults that reading the graph and a saved hierarchy can end in: one is refused or can't be read, or there is no memory
abbrev pub IsOfChecked : RunFault → Type 0
IsOfChecked fault = IsOf Which.Graph fault ⊎ IsOf Which.Saved fault

-- the faults that reading the graph and an order can end in
abbrev pub IsOfOrdered : RunFault → Type 0
IsOfOrdered fault = IsOf Which.Graph fault ⊎ IsOf Which.Order fault

-- the faults that loading can end in
abbrev pub IsOfLoading : SourceReading → RunFault → Type 0
IsOfLoading NoFile fault = IsOf Which.Graph fault
IsOfLoading (SavedFile saved) fault = IsOfChecked fault
IsOfLoading (OrderFile order fresh hops) fault = IsOfOrdered fault
IsOfLoading (CustomizedFile order hops) fault = IsOfOrdered fault
IsOfLoading (FoundOrder hops) fault = IsOf Which.Graph fault
