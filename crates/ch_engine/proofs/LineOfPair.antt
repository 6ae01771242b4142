-- The word beside a leg is the line of the arc between its ends.
use Rattle.std.proofs.Common.{◌≡◌, ◌≢◌, ℕ, ◌<◌, ◌≤◌, List, [], length, get_or, Contains, inl, inr, sym, ◌∙◌, ap, subst, arith}
use Rattle.std.proofs.lemmas.List.{get_or_default}
use Rattle.std.proofs.lemmas.List.Elements.{All-contains}
use Rattle.ch_graph.specs.declared.arc.InArc.{InArc}
use Rattle.ch_graph.specs.Graph.{Network}
use Rattle.ch_hierarchy.specs.declared.leg.Leg.{Leg}
use Rattle.ch_hierarchy.specs.Rows.{row}
use Rattle.ch_hierarchy.specs.Hierarchy.{LevelsAndLegs, IsLegUp}
use Rattle.ch_hierarchy.specs.Kept.{IsKept}
use Rattle.ch_hierarchy.proofs.theory.NoLeg.{no_leg}
use Rattle.ch_engine.specs.Lines.{AreLines, IsLineWord, IsWordAt, Leads, Lines, arc_on, node_at}

-- an arc on a line is an arc of the graph
pub on_line : (arcs : List InArc) (line : ℕ) → line < length arcs → Contains arcs (arc_on arcs line)
on_line arcs line low = (line, low, get_or_default arcs line (arc_on arcs line) (record { from = 0; to = 0; weight = 0 }) low)

-- a leg that a row has is at a place of it
at_place : (legs : List Leg) (l : Leg) (x : ℕ) → Contains legs l → l.node ≡ x → (k : ℕ) × (k < length legs) × (node_at legs k ≡ x)
at_place legs l x has is = (has.0, has.1, ap (λ (m : Leg). m.node) (get_or_default legs has.0 no_leg l has.1 ∙ has.2) ∙ is)

module _ (g : Network) (H : LevelsAndLegs) (lines : Lines) (kept : IsKept g H) (are : AreLines g H lines) (u w : ℕ) (differ : u ≢ w) where
  -- from a node to a higher one
  pub line_up : u < length H.up → get_or H.level u 0 < get_or H.level w 0 → (word : ℕ) →
      IsWordAt (row H.up u) (get_or lines.up u []) w word → IsLineWord g.arcs (Leads g.arcs u w) word
  line_up inside rises word at = elim at [
    | inl found ↦ subst (λ (x : ℕ). IsLineWord g.arcs (Leads g.arcs u x) word) found.2
        (subst (IsLineWord g.arcs (Leads g.arcs u (node_at (row H.up u) found.0))) (sym found.3) (are.0.each u found.0 inside found.1))
    | inr missed ↦ inr (
      missed.0,
      λ line leads.
          let a = arc_on g.arcs line in
          let leg = kept.arcs a (on_line g.arcs line leads.0) (λ same. differ (sym leads.1 ∙ same ∙ leads.2)) in
          elim leg.2.3 [
            | inl up ↦ (let place = at_place (row H.up u) leg.2.0 w (subst (λ x. Contains (row H.up x) leg.2.0) leads.1 up.0)
                (up.1 ∙ leads.2) in missed.1 place.0 place.1 place.2)
            | inr down ↦ (
                let has = subst (λ x. Contains (row H.down x) leg.2.0) leads.2 down.0 in
                let higher = (All-contains (IsLegUp H w) (row H.down w) leg.2.0 (kept.levelled.down.1 w).1 has).higher in
                let is : leg.2.0.node ≡ u = down.1 ∙ leads.1 in
                let level = ap (λ x. get_or H.level x 0) is in
                omega (arith, higher, level, rises))
          ],
    )
  ]

  -- from a node to a lower one
  pub line_down : w < length H.down → get_or H.level w 0 ≤ get_or H.level u 0 → (word : ℕ) →
      IsWordAt (row H.down w) (get_or lines.down w []) u word → IsLineWord g.arcs (Leads g.arcs u w) word
  line_down inside falls word at = elim at [
    | inl found ↦ subst (λ (x : ℕ). IsLineWord g.arcs (Leads g.arcs x w) word) found.2
        (subst (IsLineWord g.arcs (Leads g.arcs (node_at (row H.down w) found.0) w)) (sym found.3) (are.1.each w found.0 inside found.1))
    | inr missed ↦ inr (
      missed.0,
      λ line leads.
          let a = arc_on g.arcs line in
          let leg = kept.arcs a (on_line g.arcs line leads.0) (λ same. differ (sym leads.1 ∙ same ∙ leads.2)) in
          elim leg.2.3 [
            | inl up ↦ (
                let has = subst (λ x. Contains (row H.up x) leg.2.0) leads.1 up.0 in
                let higher = (All-contains (IsLegUp H u) (row H.up u) leg.2.0 (kept.levelled.up.1 u).1 has).higher in
                let is : leg.2.0.node ≡ w = up.1 ∙ leads.2 in
                let level = ap (λ x. get_or H.level x 0) is in
                omega (arith, higher, level, falls))
            | inr down ↦ (let place =
                at_place (row H.down w) leg.2.0 u (subst (λ x. Contains (row H.down x) leg.2.0) leads.2 down.0)
                (down.1 ∙ leads.1) in missed.1 place.0 place.1 place.2)
          ],
    )
  ]
