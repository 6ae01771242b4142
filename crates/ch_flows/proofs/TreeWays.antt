-- The legs of a descent are a way of its arcs.
use Rattle.std.proofs.Common.{ℕ, List, [], ◌∷◌, ◌++◌, Option, refl, sym, subst, arith}
use Rattle.ch_graph.specs.declared.arc.InArc.{InArc}
use Rattle.ch_hierarchy.specs.Hierarchy.{LevelsAndLegs}
use Rattle.ch_hierarchy.specs.declared.side.Side.{Side}
use Rattle.ch_hierarchy.specs.declared.side.Side.TheVariants.{Up, Down}
use Rattle.ch_query.specs.Routes.{AreDownArcs, AreUpArcs, DescentStep}
use Rattle.ch_flows.specs.declared.handing.Halves.{Halves}
use Rattle.ch_flows.specs.declared.plan.Link.{Link}
use Rattle.ch_flows.specs.Layouts.{link_of}
use Rattle.ch_flows.specs.Links.{IsLinkUnpacked}
use Rattle.ch_flows.specs.Plans.{IsPlan, IsWay}
use Rattle.ch_flows.specs.Trees.{AreLegsAt, IsLegAt}
use Rattle.ch_flows.proofs.Plans.{unpacked_at}
use Rattle.ch_flows.proofs.WaysByLegs.{way_joined, way_none, way_one, way_swapped}

module _ (H : LevelsAndLegs) (links : List Link) (parts : List (Option Halves)) (plan : IsPlan H links parts) where
  -- the arcs of a step
  step_way : (side : Side) (step : DescentStep) (p : ℕ) → IsLegAt side links step.low step.leg p →
      (here : List InArc) × IsLinkUnpacked H (link_of side step.low step.leg) here × IsWay H links (p ∷ []) here
  step_way side step p at =
      let here = unpacked_at H links parts plan p (omega (arith, at.0, plan.long)) in (
        here.0,
        subst (λ (l : Link). IsLinkUnpacked H l here.0) at.1 here.1,
        way_one H links p here.0 at.0 here.1,
      )

  -- the arcs up along the steps of a descent
  pub up_way : (steps : List DescentStep) (places : List ℕ) → AreLegsAt Up links steps places →
      (arcs : List InArc) × AreUpArcs H steps arcs × IsWay H links places arcs
  up_way [] places none = ([], refl, subst (λ (l : List ℕ). IsWay H links l []) (sym none) (way_none H links))
  up_way (step ∷ steps) [] no_place = absurd no_place
  up_way (step ∷ steps) (p ∷ places) at =
      let before = up_way steps places at.1 in
      let here = step_way Up step p at.0 in (
        before.0 ++ here.0,
        (before.0, here.0, before.1, here.1, refl),
        way_swapped H links (p ∷ []) places here.0 before.0 here.2 before.2,
      )

  -- the same of the arcs down
  pub down_way : (steps : List DescentStep) (places : List ℕ) → AreLegsAt Down links steps places →
      (arcs : List InArc) × AreDownArcs H steps arcs × IsWay H links places arcs
  down_way [] places none = ([], refl, subst (λ (l : List ℕ). IsWay H links l []) (sym none) (way_none H links))
  down_way (step ∷ steps) [] no_place = absurd no_place
  down_way (step ∷ steps) (p ∷ places) at =
      let after = down_way steps places at.1 in
      let here = step_way Down step p at.0 in (
        here.0 ++ after.0,
        (here.0, after.0, here.1, after.1, refl),
        way_joined H links (p ∷ []) places here.0 after.0 here.2 after.2,
      )
