-- An arc that has no place in the plan has no flow.
use Rattle.std.proofs.Common.{◌≡◌, ℕ, zero, suc, ◌*◌, ◌<◌, List, [], ◌∷◌, length, get_or, Contains, Option, Some, None, refl, sym, ◌∙◌}
use Rattle.std.proofs.Common.{ap, subst, arith, inl, inr}
use Rattle.std.proofs.lemmas.List.{get_or_default}
use Rattle.std.proofs.lemmas.List.Sums.{sum_by-cons}
use Rattle.std.proofs.lemmas.Option.{none-some}
use Rattle.ch_graph.specs.declared.arc.InArc.{InArc}
use Rattle.ch_hierarchy.specs.declared.leg.Leg.{Leg}
use Rattle.ch_hierarchy.specs.Rows.{row}
use Rattle.ch_hierarchy.specs.Hierarchy.{LevelsAndLegs, nodes_of}
use Rattle.ch_hierarchy.specs.Ranked.{rank_of}
use Rattle.ch_hierarchy.specs.declared.side.Side.{Side}
use Rattle.ch_hierarchy.specs.declared.side.Side.TheVariants.{Up, Down}
use Rattle.ch_hierarchy.specs.Side.{rows_of}
use Rattle.ch_hierarchy.proofs.theory.NoLeg.{no_leg}
use Rattle.ch_query.specs.declared.routes.Route.{Route}
use Rattle.ch_query.proofs.by_weight.States.{state_below}
use Rattle.ch_query.proofs.routing.Rows.{has_row}
use Rattle.ch_flows.specs.declared.handing.Halves.{Halves}
use Rattle.ch_flows.specs.declared.plan.Plan.{Plan}
use Rattle.ch_flows.specs.Flows.{AreServed, IsAnswer, arcs_of, flow, times}
use Rattle.ch_flows.specs.Handing.{part_at}
use Rattle.ch_flows.specs.Layouts.{IsSpot, leg_on, link_of, place_of}
use Rattle.ch_flows.specs.Links.{from_of, head_of, link_at, tail_of, to_of}
use Rattle.ch_flows.specs.Plans.{IsPlanOf}
use Rattle.ch_flows.proofs.Plans.{no_time, times-append}
use Rattle.ch_flows.proofs.RouteLegs.{HasArcLeg, HaveLegs, route_legs}

-- an arc from u to w has a place
pub record HasPlace (plan : Plan) (u w : ℕ) : Type 0 where
  pub place : ℕ
  pub low : place < length plan.parts.items
  pub arc : part_at plan.parts.items place ≡ None
  pub from : from_of (link_at plan.layout.links.items place) ≡ u
  pub to : to_of (link_at plan.layout.links.items place) ≡ w

module _ (H : LevelsAndLegs) (plan : Plan) (is : IsPlanOf H plan) where
  -- a leg without a middle in a row has a place
  leg_placed : (side : Side) (v : ℕ) (l : Leg) → Contains (row (rows_of H side) v) l → l.middle ≡ None →
      HasPlace plan (tail_of side v l.node) (head_of side v l.node)
  leg_placed side v l has none =
      let node = has_row H is.is.levelled side v l has in
      let legs = row (rows_of H side) v in
      let level = is.is.levelled.levels.0 v 0 node in
      let spot : IsSpot H (2 * nodes_of H) side v has.0 = record {
        node = node;
        state = state_below side (rank_of H v) (nodes_of H) (omega (arith, level.0, level.1, node));
        leg = has.1;
      } in
      let p = place_of H plan.layout.starts.items side v has.0 in
      let within = is.laid.within side v has.0 spot in
      let found : leg_on legs has.0 ≡ l = get_or_default legs has.0 no_leg l has.1 ∙ has.2 in
      let link : link_at plan.layout.links.items p ≡ link_of side v l = is.laid.each side v has.0 spot ∙ ap (link_of side v) found in
      record {
        place = p;
        low = omega (arith, within, is.is.long);
        arc = here p (omega (arith, within, is.is.long)) link (part_at plan.parts.items p) refl;
        from = ap from_of link;
        to = ap to_of link;
      }
    where
      here : (p : ℕ) → p < length plan.parts.items → link_at plan.layout.links.items p ≡ link_of side v l → (part : Option Halves) →
          part_at plan.parts.items p ≡ part → part_at plan.parts.items p ≡ None
      here p low link None e = e
      here p low link (Some two) e =
          let h = is.is.halves p two low e in
          absurd (none-some h.middle (sym none ∙ ap (λ k. k.leg.middle) (sym link) ∙ h.is))

  -- an arc of a route has a place
  arc_placed : (a : InArc) → HasArcLeg H a → HasPlace plan a.from a.to
  arc_placed a has = elim has.1.3 [
    | inl up ↦ subst (HasPlace plan a.from) up.1 (leg_placed Up a.from has.1.0 up.0 has.1.2)
    | inr down ↦ subst (λ (n : ℕ). HasPlace plan n a.to) down.1 (leg_placed Down a.to has.1.0 down.0 has.1.2)
  ]

  module _ (u w : ℕ) (never : HasPlace plan u w → ⊥) where
    one_less : (a : InArc) → HasArcLeg H a → times u w (a ∷ []) ≡ 0
    one_less a has = no_time u w a (λ p q. never (subst (HasPlace plan u) q (subst (λ (n : ℕ). HasPlace plan n a.to) p (arc_placed a has))))

    no_times : (arcs : List InArc) → HaveLegs H arcs → times u w arcs ≡ 0
    no_times [] have = refl
    no_times (a ∷ arcs) have = omega (arith, times-append u w (a ∷ []) arcs, one_less a have.0, no_times arcs have.1)

    answer_times : (s t : ℕ) (answer : Option Route) → IsAnswer H s t answer → times u w (arcs_of answer) ≡ 0
    answer_times s t None a = refl
    answer_times s t (Some route) a = no_times route.arcs (route_legs H s t route a)

    sum_none : (served : List (ℕ × Option Route)) → ((i : ℕ) → i < length served → times u w (arcs_of (get_or served i (0, None)).1) ≡ 0) →
        flow u w served ≡ 0
    sum_none [] all = refl
    sum_none (p ∷ served) all =
        let one = sum_by-cons (λ (q : ℕ × Option Route). q.0 * times u w (arcs_of q.1)) p served in
        let here : p.0 * times u w (arcs_of p.1) ≡ p.0 * 0 = ap (λ (n : ℕ). p.0 * n) (all zero (omega arith)) in
        omega (arith, one, here, sum_none served (λ i low. all (suc i) (omega (arith, low))))

    -- so it has no flow
    pub no_flow : (sources targets demands : List ℕ) (n : ℕ) (served : List (ℕ × Option Route)) →
        AreServed H sources targets demands n served →
        flow u w served ≡ 0
    no_flow sources targets demands n served are = sum_none served
        (λ i low. answer_times (get_or sources i 0) (get_or targets i 0) (get_or served i (0, None)).1
        (are.route i (omega (arith, low, are.long))))
