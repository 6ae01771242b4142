-- Each arc of a route has a leg without a middle, and the places of these legs are a way.
use Rattle.std.proofs.Common.{◌≡◌, ℕ, suc, ◌+◌, ◌*◌, ◌<◌, ◌≤◌, List, [], ◌∷◌, ◌++◌, length, get_or, take, Contains, Option, None, refl}
use Rattle.std.proofs.Common.{sym, ◌∙◌, ap, subst, arith, inl, inr}
use Rattle.std.specs.Prelude.{slice_index}
use Rattle.std.proofs.lemmas.List.Elements.{All-contains}
use Rattle.std.proofs.Math.Seq.{take-suc}
use Rattle.ch_graph.specs.declared.arc.InArc.{InArc}
use Rattle.ch_graph.specs.declared.cost.Cost.{Cost}
use Rattle.ch_hierarchy.specs.declared.leg.Leg.{Leg}
use Rattle.ch_hierarchy.specs.Rows.{row}
use Rattle.ch_hierarchy.specs.Hierarchy.{LevelsAndLegs, IsLevelled, IsLegUp, nodes_of}
use Rattle.ch_hierarchy.specs.Kept.{IsLeg}
use Rattle.ch_hierarchy.specs.declared.side.Side.{Side}
use Rattle.ch_hierarchy.specs.declared.side.Side.TheVariants.{Up, Down}
use Rattle.ch_hierarchy.specs.Side.{rows_of}
use Rattle.ch_query.specs.declared.routes.Route.{Route}
use Rattle.ch_query.specs.Routes.{AreDownArcs, AreUpArcs, DescentStep, IsDescent, IsRoute, IsUnpacked, arc, shortcut}
use Rattle.ch_query.specs.declared.routes.unpacking.PendingLeg.{PendingLeg}
use Rattle.ch_query.specs.Unpacking.{ArePendingArcs, IsPending}
use Rattle.ch_query.proofs.routing.PendingLegs.{pending_arcs_pop}
use Rattle.ch_query.proofs.routing.Rows.{has_row, row_one, rows_ordered}
use Rattle.ch_flows.specs.declared.plan.Link.{Link}
use Rattle.ch_flows.specs.Layouts.{IsLaid, IsPlaceOf, leg_on, link_of}
use Rattle.ch_flows.specs.Links.{IsLinkUnpacked, link_at}
use Rattle.ch_flows.specs.Plans.{IsLegPlace, IsWay}
use Rattle.ch_flows.proofs.Parts.{leg_in, placed_within, rises}
use Rattle.ch_flows.proofs.WaysByLegs.{way_one, way_swapped}

-- there is a leg without a middle between the ends of an arc, and it weighs as much
abbrev pub HasArcLeg : LevelsAndLegs → InArc → Type 0
HasArcLeg H a = (c : Cost) × IsLeg H a.from a.to c None × (c.weight ≡ a.weight)

module _ (H : LevelsAndLegs) where
  -- each of these arcs has such a leg
  abbrev pub HaveLegs : List InArc → Type 0
  HaveLegs [] = Unit {0}
  HaveLegs (a ∷ arcs) = HasArcLeg H a × HaveLegs arcs

  have_both : (xs ys : List InArc) → HaveLegs xs → HaveLegs ys → HaveLegs (xs ++ ys)
  have_both [] ys p q = q
  have_both (x ∷ xs) ys p q = (p.0, have_both xs ys p.1 q)

  unpacked_legs : {u w weight : ℕ} {m : Option ℕ} {xs : List InArc} → IsUnpacked H u w weight m xs → (c : Cost) → IsLeg H u w c m →
      weight ≡ c.weight → HaveLegs xs
  unpacked_legs (arc {u = u} {w = w} {weight = weight}) c l e = ((c, l, sym e), tt)
  unpacked_legs (shortcut {u = u} {w = w} {v = v} {a = a} {b = b} {xs = xs} {ys = ys} ha na hb nb p q) c l e =
      have_both xs ys (unpacked_legs p a.cost (a, refl, refl, inr (ha, na)) refl)
      (unpacked_legs q b.cost (b, refl, refl, inl (hb, nb)) refl)

  up_legs : (s x : ℕ) (steps : List DescentStep) (arcs : List InArc) → IsDescent H.up s x steps → AreUpArcs H steps arcs → HaveLegs arcs
  up_legs s x [] arcs d is = subst HaveLegs (sym is) tt
  up_legs s x (step ∷ steps) arcs d is =
      let leg = step.leg in
      subst HaveLegs (sym is.4) (have_both is.0 is.1 (up_legs s step.low steps is.0 d.2 is.2)
      (unpacked_legs is.3 leg.cost (leg, refl, refl, inl (d.1.last.0, refl)) refl))

  down_legs : (t x : ℕ) (steps : List DescentStep) (arcs : List InArc) → IsDescent H.down t x steps → AreDownArcs H steps arcs →
      HaveLegs arcs
  down_legs t x [] arcs d is = subst HaveLegs (sym is) tt
  down_legs t x (step ∷ steps) arcs d is =
      let leg = step.leg in
      subst HaveLegs (sym is.4) (have_both is.0 is.1 (unpacked_legs is.2 leg.cost (leg, refl, refl, inr (d.1.last.0, refl)) refl)
      (down_legs t step.low steps is.1 d.2 is.3))

  pub route_legs : (s t : ℕ) (route : Route) → IsRoute H s t route → HaveLegs route.arcs
  route_legs s t route r =
      subst HaveLegs (sym r.arcs) (have_both r.first r.second (up_legs s r.meet r.ups r.first r.rise r.up_arcs)
      (down_legs t r.meet r.downs r.second r.fall r.down_arcs))

  -- one more leg of a way
  pub way_next : (links : List Link) (way new : List ℕ) (legs : List PendingLeg) (j p : ℕ) (leg : PendingLeg) → j < length legs →
      leg ≡ get_or legs j leg → IsLegPlace H links leg p → new ≡ way ++ p ∷ [] →
      ((arcs : List InArc) → ArePendingArcs H (take j legs) arcs → IsWay H links way arcs) →
      (arcs : List InArc) → ArePendingArcs H (take (j + 1) legs) arcs → IsWay H links new arcs
  way_next links way new legs j p leg low at place e before arcs are =
      let next : j + 1 ≡ suc j = omega arith in
      let more : take (j + 1) legs ≡ take j legs ++ (leg ∷ []) = ap (λ (n : ℕ). take n legs) next ∙ take-suc legs j leg low
      ∙ ap (λ (q : PendingLeg). take j legs ++ q ∷ []) (sym at) in
      let parts = pending_arcs_pop H (take j legs) leg arcs (subst (λ (l : List PendingLeg). ArePendingArcs H l arcs) more are) in
      subst (λ (l : List ℕ). IsWay H links l arcs) (sym e)
      (subst (IsWay H links (way ++ p ∷ [])) (sym parts.4)
      (way_swapped H links way (p ∷ []) parts.1 parts.0 (before parts.1 parts.3) (way_one H links p parts.0 place.within
      (place.unpacked parts.0 parts.2))))

  module _ (levelled : IsLevelled H) (leg : PendingLeg) (has : IsPending H leg) where
    -- the leg is in the row of the lower end
    pub up_leg : slice_index H.level leg.from < slice_index H.level leg.to →
        (l : Leg) × Contains (row H.up leg.from) l × (l.node ≡ leg.to) × (l.middle ≡ leg.middle) × (l.cost ≡ leg.cost)
    up_leg less = elim has.3 [
      | inl up ↦ (has.0, up.0, up.1, has.2, has.1)
      | inr down ↦ absurd (let r = rises H levelled Down leg.to has.0 down.0 in omega (arith, r, less, ap (slice_index H.level) down.1))
    ]

    pub down_leg : slice_index H.level leg.to ≤ slice_index H.level leg.from →
        (l : Leg) × Contains (row H.down leg.to) l × (l.node ≡ leg.from) × (l.middle ≡ leg.middle) × (l.cost ≡ leg.cost)
    down_leg ge = elim has.3 [
      | inl up ↦ absurd (let r = rises H levelled Up leg.from has.0 up.0 in omega (arith, r, ge, ap (slice_index H.level) up.1))
      | inr down ↦ (has.0, down.0, down.1, has.2, has.1)
    ]

    module _ (starts : List ℕ) (links : List Link) (laid : IsLaid H starts links (2 * nodes_of H)) where
      -- the leg at a place that was looked for
      leg_is : (side : Side) (v x p : ℕ) (l : Leg) → Contains (row (rows_of H side) v) l → l.node ≡ x → IsPlaceOf H starts side v x p →
          link_at links p ≡ link_of side v l
      leg_is side v x p l l_in l_node is =
          let found = leg_on (row (rows_of H side) v) is.place in
          let same : found ≡ l = row_one (row (rows_of H side) v) (rows_ordered H levelled side v) found l
          (leg_in (row (rows_of H side) v) is.place is.spot.leg) l_in (is.node ∙ sym l_node) in
          ap (link_at links) is.is ∙ laid.each side v is.place is.spot ∙ ap (link_of side v) same

      pub leg_up : (p : ℕ) → slice_index H.level leg.from < slice_index H.level leg.to → IsPlaceOf H starts Up leg.from leg.to p →
          IsLegPlace H links leg p
      leg_up p less is =
          let l = up_leg less in
          let e = leg_is Up leg.from leg.to p l.0 l.1 l.2 is in
          let same : leg ≡ record { from = leg.from; to = l.0.node; cost = l.0.cost; middle = l.0.middle } =
          sym (λ i. record { from = leg.from; to = l.2 i; cost = l.4 i; middle = l.3 i }) in
          record {
            within = placed_within H levelled starts links laid Up leg.from leg.to p is;
            unpacked = λ arcs u. subst (λ (k : Link). IsLinkUnpacked H k arcs) (sym e)
                (subst (λ (q : PendingLeg). IsUnpacked H q.from q.to q.cost.weight q.middle arcs) same u);
          }

      pub leg_down : (p : ℕ) → slice_index H.level leg.to ≤ slice_index H.level leg.from → IsPlaceOf H starts Down leg.to leg.from p →
          IsLegPlace H links leg p
      leg_down p ge is =
          let l = down_leg ge in
          let e = leg_is Down leg.to leg.from p l.0 l.1 l.2 is in
          let same : leg ≡ record { from = l.0.node; to = leg.to; cost = l.0.cost; middle = l.0.middle } =
          sym (λ i. record { from = l.2 i; to = leg.to; cost = l.4 i; middle = l.3 i }) in
          record {
            within = placed_within H levelled starts links laid Down leg.to leg.from p is;
            unpacked = λ arcs u. subst (λ (k : Link). IsLinkUnpacked H k arcs) (sym e)
                (subst (λ (q : PendingLeg). IsUnpacked H q.from q.to q.cost.weight q.middle arcs) same u);
          }

    -- both ends are nodes
    pub from_node : leg.from < nodes_of H
    from_node = elim has.3 [
      | inl up ↦ has_row H levelled Up leg.from has.0 up.0
      | inr down ↦ subst (λ (n : ℕ). n < nodes_of H) down.1 (All-contains (IsLegUp H leg.to) (row H.down leg.to) has.0
          (levelled.down.1 leg.to).1 down.0).node
    ]

    pub to_node : leg.to < nodes_of H
    to_node = elim has.3 [
      | inl up ↦ subst (λ (n : ℕ). n < nodes_of H) up.1 (All-contains (IsLegUp H leg.from) (row H.up leg.from) has.0
          (levelled.up.1 leg.from).1 up.0).node
      | inr down ↦ has_row H levelled Down leg.to has.0 down.0
    ]
