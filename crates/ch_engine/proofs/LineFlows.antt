-- Flows of legs that are arcs, written on the lines of these arcs.
use Rattle.std.proofs.Common.{◌≡◌, ◌≢◌, ℕ, ◌+◌, ◌<◌, List, length, get_or, set, Option, Some, None, inl, inr}
use Rattle.std.proofs.Common.{sym, ◌∙◌, ap, subst, arith}
use Rattle.std.specs.Prelude.{slice_index}
use Rattle.std.proofs.lemmas.Bool.{cases_eq, cases_lt}
use Rattle.std.proofs.lemmas.List.{get_or_default, get_or-set_other, get_or-set_same}
use Rattle.std.proofs.lemmas.Option.{none-some}
use Rattle.std.proofs.Math.ListN.{length-set}
use Rattle.ch_graph.specs.declared.arc.InArc.{InArc}
use Rattle.ch_graph.specs.Graph.{Network, IsWithinLimits}
use Rattle.ch_hierarchy.specs.Hierarchy.{LevelsAndLegs, nodes_of}
use Rattle.ch_hierarchy.specs.Kept.{IsFounded, IsKept}
use Rattle.ch_hierarchy.specs.declared.side.Side.{Side}
use Rattle.ch_hierarchy.specs.declared.side.Side.TheVariants.{Up, Down}
use Rattle.ch_query.specs.declared.routes.Route.{Route}
use Rattle.ch_query.specs.declared.routes.unpacking.PendingLeg.{PendingLeg}
use Rattle.ch_flows.specs.declared.handing.Halves.{Halves}
use Rattle.ch_flows.specs.declared.plan.Plan.{Plan}
use Rattle.ch_flows.specs.Flows.{AreServed, flow}
use Rattle.ch_flows.specs.Handing.{part_at}
use Rattle.ch_flows.specs.Links.{from_of, head_of, link_at, tail_of, to_of}
use Rattle.ch_flows.specs.Plans.{AreFlows, IsPlanOf}
use Rattle.ch_flows.proofs.Parts.{leg_of, rises}
use Rattle.ch_flows.proofs.RouteLegs.{from_node, to_node}
use Rattle.ch_flows.proofs.Unplaced.{no_flow}
use Rattle.ch_engine.specs.Flows.{ArePut, IsLineFlow, IsNamed, IsPut}
use Rattle.ch_engine.specs.Lines.{AreLines, IsFirstLine, IsLineBy, IsOfSome, Leads, Lines, arc_on}

-- of the lines between the same nodes one comes first
first_one : (arcs : List InArc) (P : ℕ → Type 0) (j k : ℕ) → IsFirstLine arcs P j → IsFirstLine arcs P k → j ≡ k
first_one arcs P j k a b = elim (a.least k b.is) [
  | inl less ↦ elim (b.least j a.is) [
    | inl more ↦ absurd (omega (arith, less, more))
    | inr same ↦ absurd (omega (arith, less, same.0))
  ]
  | inr same ↦ elim (b.least j a.is) [
    | inl more ↦ absurd (omega (arith, same.0, more))
    | inr both ↦ omega (arith, same.1, both.1)
  ]
]

-- both ends of a leg differ
ends_differ : (level : List ℕ) (side : Side) (v x : ℕ) → slice_index level v < slice_index level x → tail_of side v x ≢ head_of side v x
ends_differ level Up v x less same = omega (arith, less, ap (slice_index level) same)
ends_differ level Down v x less same = omega (arith, less, ap (slice_index level) same)

module _ (H : LevelsAndLegs) (plan : Plan) (is : IsPlanOf H plan) (n : ℕ) (low : n < length plan.parts.items) where
  abbrev tail : ℕ
  tail = from_of (link_at plan.layout.links.items n)

  abbrev head : ℕ
  head = to_of (link_at plan.layout.links.items n)

  -- the leg at a place, with its ends
  abbrev leg_at : PendingLeg
  leg_at =
      let link = link_at plan.layout.links.items n in
      record { from = from_of link; to = to_of link; cost = link.leg.cost; middle = link.leg.middle }

  pub place_differs : tail ≢ head
  place_differs =
      let link = link_at plan.layout.links.items n in
      ends_differ H.level link.side link.low link.leg.node
      (rises H is.is.levelled link.side link.low link.leg (is.is.legs n (omega (arith, low, is.is.long))))

  pub tail_within : tail < nodes_of H
  tail_within =
      let link = link_at plan.layout.links.items n in
      from_node H is.is.levelled leg_at (leg_of H is.is.levelled link.side link.low link.leg (is.is.legs n (omega (
        arith,
        low,
        is.is.long,
      ))))

  pub head_within : head < nodes_of H
  head_within =
      let link = link_at plan.layout.links.items n in
      to_node H is.is.levelled leg_at (leg_of H is.is.levelled link.side link.low link.leg (is.is.legs n (omega (arith, low, is.is.long))))

  -- a line between nodes that are its ends
  pub line_by : (lines : Lines) (u w word : ℕ) → u ≡ tail → w ≡ head → (u ≢ w → IsLineBy H lines u w word) → IsLineBy H lines tail head word
  line_by lines u w word p q by =
      subst (λ (x : ℕ). IsLineBy H lines x head word) p (subst (λ (x : ℕ). IsLineBy H lines u x word) q
      (by (λ same. place_differs (sym p ∙ same ∙ q))))

  -- the line of an arc comes first among those between its ends
  pub place_first : (g : Network) (lines : Lines) → IsWithinLimits g → IsKept g H → AreLines g H lines → part_at plan.parts.items n ≡ None →
      (word : ℕ) → IsLineBy H lines tail head word → IsFirstLine g.arcs (Leads g.arcs tail head) word
  place_first g lines within kept are none word by =
      let link = link_at plan.layout.links.items n in
      let leg = leg_of H is.is.levelled link.side link.low link.leg (is.is.legs n (omega (arith, low, is.is.long))) in
      let middle = is.is.arcs n low none in
      let f : IsFounded g H tail head link.leg.cost None = subst (IsFounded g H tail head link.leg.cost) middle
      (kept.founded tail head link.leg.cost link.leg.middle leg) in
      let a : InArc = record { from = tail; to = head; weight = link.leg.cost.weight } in
      let on : arc_on g.arcs f.1.0 ≡ a = get_or_default g.arcs f.1.0 (record { from = 0; to = 0; weight = 0 }) a f.1.1 ∙ f.1.2 in
      elim (by g within kept are) [
        | inl first ↦ first
        | inr missed ↦ absurd (missed.1 f.1.0 (f.1.1, ap (λ (x : InArc). x.from) on, ap (λ (x : InArc). x.to) on))
      ]

  -- that line is one of the graph
  pub line_inside : (lines : Lines) → IsOfSome H lines → part_at plan.parts.items n ≡ None → (word : ℕ) → IsLineBy H lines tail head word →
      word < lines.count
  line_inside lines of none word by =
      let first = place_first of.0 lines of.1 of.2 of.3 none word by in
      omega (arith, first.is.0, of.3.2)

module _ (arcs : List InArc) (plan : Plan) (legs : List ℕ) where
  -- before the first leg no line is written for one
  pub put_none : (line f : ℕ) → f ≡ 0 → IsPut arcs plan legs 0 line f
  put_none line f e = inr ((λ i low. absurd (omega (arith, low))), e)

  -- a leg that stands for two is passed over
  pub put_past : (n line f : ℕ) (two : Halves) → part_at plan.parts.items n ≡ Some two → IsPut arcs plan legs n line f →
      IsPut arcs plan legs (n + 1) line f
  put_past n line f two e p = elim p [
    | inl some ↦ inl (some.0, omega (arith, some.1), some.2, some.3, some.4)
    | inr none ↦ inr (
      (λ i low arc. elim (cases_lt i n) [
        | inl less ↦ none.0 i less arc
        | inr ge ↦ (
            let same : i ≡ n = omega (arith, ge, low) in
            absurd (none-some two (sym arc ∙ ap (part_at plan.parts.items) same ∙ e)))
      ]),
      none.1,
    )
  ]

  -- the flow of one more arc is written on its line
  pub put_more : (n word : ℕ) (old new : List ℕ) → part_at plan.parts.items n ≡ None →
      IsFirstLine arcs (Leads arcs (from_of (link_at plan.layout.links.items n)) (to_of (link_at plan.layout.links.items n))) word →
      word < length old → new ≡ set old word (get_or legs n 0) →
      ((line : ℕ) → line < length old → IsPut arcs plan legs n line (get_or old line 0)) →
      (line : ℕ) → line < length new → IsPut arcs plan legs (n + 1) line (get_or new line 0)
  put_more n word old new none first within is before line low =
      let size : length new ≡ length old = ap length is ∙ length-set old word (get_or legs n 0) in
      elim (cases_eq line word) [
        | inl same ↦ inl (
          n,
          omega arith,
          none,
          subst (IsFirstLine arcs (Leads arcs (from_of (link_at plan.layout.links.items n)) (to_of
              (link_at plan.layout.links.items n)))) (sym same) first,
          ap (λ (l : List ℕ). get_or l line 0) is ∙ ap (λ (k : ℕ). get_or (set old word (get_or legs n 0)) k 0) same
              ∙ get_or-set_same old word (get_or legs n 0) 0 within,
        )
        | inr other ↦ (
            let f : get_or new line 0 ≡ get_or old line 0 =
            ap (λ (l : List ℕ). get_or l line 0) is ∙ get_or-set_other old word line (get_or legs n 0) 0 other in
            elim (before line (omega (arith, low, size))) [
              | inl some ↦ inl (some.0, omega (arith, some.1), some.2, some.3, f ∙ some.4)
              | inr no_one ↦ inr (
                (λ i less arc here. elim (cases_lt i n) [
                  | inl under ↦ no_one.0 i under arc here
                  | inr ge ↦ (
                      let at : i ≡ n = omega (arith, ge, less) in
                      let now = subst (λ (k : ℕ). IsFirstLine arcs (Leads arcs (from_of (link_at plan.layout.links.items k)) (to_of
                      (link_at plan.layout.links.items k))) line) at here in
                      other (first_one arcs (Leads arcs (from_of (link_at plan.layout.links.items n)) (to_of
                      (link_at plan.layout.links.items n))) line word now first))
                ]),
                f ∙ no_one.1,
              )
            ])
      ]

-- what is on a line is its flow
module _ (H : LevelsAndLegs) (lines : Lines) (plan : Plan) (is : IsPlanOf H plan) (legs : List ℕ) (sources targets demands : List ℕ) (n : ℕ)
    (served : List (ℕ × Option Route)) (are : AreServed H sources targets demands n served)
    (flows : AreFlows plan.layout.links.items plan.parts.items served legs) where
  pub line_flow : (out : List ℕ) → ArePut H lines plan legs (length plan.parts.items) out → (line : ℕ) → line < length out →
      IsLineFlow H lines served line (get_or out line 0)
  line_flow out put line low g within kept on =
      let f = get_or out line 0 in
      let a = arc_on g.arcs line in
      elim (put g within kept on line low) [
        | inl some ↦ (
            let leads = some.3.is in
            let there = flows some.0 some.1 some.2 in
            let named : IsNamed g.arcs line = subst (λ (u : ℕ). IsFirstLine g.arcs (Leads g.arcs u a.to) line) (sym leads.1)
            (subst (λ (w : ℕ). IsFirstLine g.arcs (Leads g.arcs (from_of (link_at plan.layout.links.items some.0)) w) line)
            (sym leads.2) some.3) in (
              (λ first. some.4 ∙ there ∙ ap (λ (u : ℕ). flow u (to_of (link_at plan.layout.links.items some.0)) served) (sym leads.1)
                  ∙ ap (λ (w : ℕ). flow a.from w served) (sym leads.2)),
              λ never. absurd (never named),
            ))
        | inr none ↦ (
          (λ named. none.1 ∙ sym (no_flow H plan is a.from a.to
              (λ has. none.0 has.place has.low has.arc
              (subst (λ (u : ℕ). IsFirstLine g.arcs (Leads g.arcs u (to_of (link_at plan.layout.links.items has.place))) line)
              (sym has.from)
              (subst (λ (w : ℕ). IsFirstLine g.arcs (Leads g.arcs a.from w) line) (sym has.to) named)))
              sources targets demands n served are)),
          λ never. none.1,
        )
      ]
