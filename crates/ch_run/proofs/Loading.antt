-- The graph that was loaded, and the hierarchy that was saved or built like an order, if there is one.
use Rattle.std.proofs.Common.{ℕ, List, Some, refl, ◌∙◌, inl}
use Rattle.std.specs.Prelude.{Result, Ok, Err, IfOk}
use Rattle.ch_hierarchy.specs.Kept.{IsKept}
use Rattle.ch_hierarchy.specs.Saved.{IsOrderOf}
use Rattle.ch_contract.specs.declared.measure.OrderBy.TheVariants.{Depth}
use Rattle.ch_contract.specs.Legs.{IsHopBound}
use Rattle.ch_contract.specs.Like.{IsHierarchyLike}
use Rattle.ch_contract.proofs.theory.GivenOrders.{from_kept}
use Rattle.ch_contract.proofs.theory.OrdersExist.{like_exists}
use Rattle.ch_order.specs.declared.construction.like.LikeError.{LikeError}
use Rattle.ch_graph.specs.Graph.{Network, IsWithinLimits}
use Rattle.ch_hierarchy.specs.Hierarchy.{LevelsAndLegs}
use Rattle.ch_run.specs.declared.fault.RunFault.{RunFault}
use Rattle.ch_run.specs.declared.fault.Which.{Which}
use Rattle.ch_read.specs.declared.form.Form.TheVariants as Form
use Rattle.ch_run.specs.Customized.{IsUncustomizable}
use Rattle.ch_run.specs.Run.{CustomizedFile, FoundOrder, IsOf, Reading, SourceReading, NoFile, SavedFile, OrderFile}
use Rattle.ch_run.specs.Story.{EndsAt, IsOrderRefusedOn, IsRefused}
use Rattle.ch_run.specs.Source.{IsOfLoading, IsServing}
use Rattle.ch_run.specs.declared.needed.Needed.{Needed}
use Rattle.ch_run.specs.declared.needed.Needed.TheVariants.{Any, InOrder, Quick}

-- a hierarchy that is right for the graph serves if it was loaded
pub serves_itself : (needed : Needed) (hops : ℕ) (g : Network) (H : LevelsAndLegs) → IsKept g H → IsServing needed hops g (Some H) H
serves_itself Any hops g H kept = kept
serves_itself (InOrder by) hops g H kept = refl
serves_itself Quick hops g H kept = refl

-- a hierarchy that serves in the place of one that serves in the place of another serves in the place of that one
pub serves_in_place : (needed : Needed) (hops legs : ℕ) (g : Network) (H K L : LevelsAndLegs) → IsServing needed hops g (Some H) K →
    IsServing needed legs g (Some K) L → IsServing needed legs g (Some H) L
serves_in_place Any hops legs g H K L first second = second
serves_in_place (InOrder by) hops legs g H K L first second = second ∙ first
serves_in_place Quick hops legs g H K L first second = second ∙ first

module _ (g : Network) (hops : ℕ) (given : List ℕ) (fresh : ℕ) where
  -- the hierarchy that the rules name serves if it is loaded
  pub built_in_place : (needed : Needed) (r : Result LevelsAndLegs LikeError) → IfOk r (IsHierarchyLike g hops given fresh) →
      IfOk r (IsKept g) → IfOk r
      (λ K. (H : LevelsAndLegs) × IsHierarchyLike g hops given fresh H × IsKept g H × IsServing needed hops g (Some H) K)
  built_in_place needed (Ok K) like kept = (K, like, kept, serves_itself needed hops g K kept)
  built_in_place needed (Err e) like kept = tt

  -- each hierarchy that is right for the graph serves in its place, if what is written names none
  pub built_in_its_place : (K : LevelsAndLegs) → IsHopBound hops → IsWithinLimits g → IsOrderOf g.nodes given → IsKept g K →
      (H : LevelsAndLegs) × IsHierarchyLike g hops given fresh H × IsKept g H × IsServing Any hops g (Some H) K
  built_in_its_place K bound limits each kept =
      let H = like_exists g hops given fresh limits bound each in
      (H.0, H.1, from_kept Depth g hops _ H.0 limits bound H.1, kept)

-- an order that is refused for a fault of its lines is refused
pub lines_refused : (g : Network) (fresh hops : ℕ) (input : Reading) (e : RunFault) →
    EndsAt Which.Order input (IsRefused (Form.Saved g.nodes)) e → EndsAt Which.Order input (IsOrderRefusedOn g fresh hops) e
lines_refused g fresh hops input (RunFault.Read which fault) is = is
lines_refused g fresh hops input (RunFault.Device which) is = is
lines_refused g fresh hops input RunFault.Memory is = is
lines_refused g fresh hops input RunFault.Order is = absurd is.1.2
lines_refused g fresh hops input (RunFault.Crowded node) is = absurd is.1.2
lines_refused g fresh hops input RunFault.Cells is = absurd is.0
lines_refused g fresh hops input (RunFault.CellsAt line) is = absurd is.1.2
lines_refused g fresh hops input (RunFault.NoArcAt line) is = absurd is.1.2
lines_refused g fresh hops input (RunFault.FixedAt line) is = absurd is.1.2
lines_refused g fresh hops input (RunFault.Write count) is = absurd is.0
lines_refused g fresh hops input (RunFault.Check fault) is = absurd is.1.2

-- so it is refused for customization
pub lines_unfit : (g : Network) (input : Reading) (e : RunFault) → EndsAt Which.Order input (IsRefused (Form.Saved g.nodes)) e →
    EndsAt Which.Order input (IsUncustomizable g) e
lines_unfit g input (RunFault.Read which fault) is = is
lines_unfit g input (RunFault.Device which) is = is
lines_unfit g input RunFault.Memory is = is
lines_unfit g input RunFault.Order is = absurd is.1.2
lines_unfit g input (RunFault.Crowded node) is = absurd is.1.2
lines_unfit g input RunFault.Cells is = absurd is.0
lines_unfit g input (RunFault.CellsAt line) is = absurd is.1.2
lines_unfit g input (RunFault.NoArcAt line) is = absurd is.1.2
lines_unfit g input (RunFault.FixedAt line) is = absurd is.1.2
lines_unfit g input (RunFault.Write count) is = absurd is.0
lines_unfit g input (RunFault.Check fault) is = absurd is.1.2

-- a fault of the graph is one of loading
pub graph_of : (source : SourceReading) (e : RunFault) → IsOf Which.Graph e → IsOfLoading source e
graph_of NoFile e is = is
graph_of (SavedFile saved) e is = inl is
graph_of (OrderFile order fresh hops) e is = inl is
graph_of (CustomizedFile order hops) e is = inl is
graph_of (FoundOrder hops) e is = is
