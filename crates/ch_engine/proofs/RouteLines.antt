-- The lines of a route's arcs.
use Rattle.std.proofs.Common.{◌≡◌, ◌≢◌, ℕ, zero, suc, ◌+◌, ◌<◌, ◌≤◌, List, [], ◌∷◌, length, get_or, set, All, Contains, Option}
use Rattle.std.proofs.Common.{Some, None, inl, inr, sym, ap, ◌∙◌, subst, arith}
use Rattle.std.specs.Prelude.{MatchOption, ⊤}
use Rattle.std.proofs.lemmas.List.{get_or_default, length-map}
use Rattle.std.proofs.lemmas.List.Elements.{All-contains}
use Rattle.std.proofs.lemmas.List.Sums.{sum_by-cons, sum_by-set}
use Rattle.ch_graph.specs.declared.arc.InArc.{InArc}
use Rattle.ch_graph.specs.Graph.{Network, IsArcWithin, HasEnds}
use Rattle.ch_graph.specs.Walk.{IsWalk, weight_of}
use Rattle.ch_hierarchy.specs.Hierarchy.{LevelsAndLegs, nodes_of}
use Rattle.ch_query.specs.declared.routes.Route.{Route}
use Rattle.ch_query.specs.Routes.{IsLeastWalk, IsRouteBy}
use Rattle.ch_engine.specs.Lines.{IsLineBy, IsOfSome, Leads, Lines, arc_on}
use Rattle.ch_engine.specs.Routes.{AreArcLines, AreNoted, IsArcLine, nodes_from}
use Rattle.ch_engine.proofs.LineOfPair.{on_line}

-- an arc of a walk is one of the graph
arc_of_walk : (g : Network) (s t : ℕ) (arcs : List InArc) (j : ℕ) (d : InArc) → j < length arcs → IsWalk g s t arcs →
    Contains g.arcs (get_or arcs j d)
arc_of_walk g s t [] j d low walk = absurd (omega (arith, low))
arc_of_walk g s t (a ∷ arcs) zero d low walk = walk.0
arc_of_walk g s t (a ∷ arcs) (suc j) d low walk = arc_of_walk g a.to t arcs j d (omega (arith, low)) walk.2

-- an arc of a walk can be replaced by another one between the same nodes
walk_with : (g : Network) (s t : ℕ) (arcs : List InArc) (j : ℕ) (d b : InArc) → j < length arcs → IsWalk g s t arcs →
    Contains g.arcs b → b.from ≡ (get_or arcs j d).from → b.to ≡ (get_or arcs j d).to →
    IsWalk g s t (set arcs j b)
walk_with g s t [] j d b low walk has from to = absurd (omega (arith, low))
walk_with g s t (a ∷ arcs) zero d b low walk has from to = (has, from ∙ walk.1, subst (λ v. IsWalk g v t arcs) (sym to) walk.2)
walk_with g s t (a ∷ arcs) (suc j) d b low walk has from to =
    (walk.0, walk.1, walk_with g a.to t arcs j d b (omega (arith, low)) walk.2 has from to)

-- an arc from a node to itself can be left out
walk_without : (g : Network) (s t : ℕ) (arcs : List InArc) (j : ℕ) (d : InArc) → j < length arcs → IsWalk g s t arcs →
    (get_or arcs j d).from ≡ (get_or arcs j d).to →
    (less : List InArc) × IsWalk g s t less × (weight_of less ≤ weight_of arcs) × (length less < length arcs)
walk_without g s t [] j d low walk loop = absurd (omega (arith, low))
walk_without g s t (a ∷ arcs) zero d low walk loop =
    let f : InArc → ℕ = λ x. x.weight in
    (arcs, subst (λ v. IsWalk g v t arcs) (sym loop ∙ walk.1) walk.2, omega (arith, sum_by-cons f a arcs), omega arith)
walk_without g s t (a ∷ arcs) (suc j) d low walk loop =
    let f : InArc → ℕ = λ x. x.weight in
    let rest = walk_without g a.to t arcs j d (omega (arith, low)) walk.2 loop in
    (a ∷ rest.0, (walk.0, walk.1, rest.1), omega (arith, sum_by-cons f a arcs, sum_by-cons f a rest.0, rest.2), omega (arith, rest.3))

-- two arcs with the same ends and weight are equal
same_arc : (a b : InArc) → a.from ≡ b.from → a.to ≡ b.to → a.weight ≡ b.weight → a ≡ b
same_arc a b p q r = λ i. record { from = p i; to = q i; weight = r i }

module _ (g : Network) (s t : ℕ) (arcs : List InArc) (least : IsLeastWalk g s t arcs) (j : ℕ) (d : InArc) (low : j < length arcs) where
  -- an arc of a least walk leads to another node
  no_loop : (get_or arcs j d).from ≢ (get_or arcs j d).to
  no_loop loop =
      let shorter = walk_without g s t arcs j d low least.walk loop in
      let most = least.least.least shorter.0 shorter.1 in
      let count = most.1 shorter.2 in
      omega (arith, count, shorter.3)

  -- no arc between the same nodes is lighter
  lightest : (b : InArc) → Contains g.arcs b → b.from ≡ (get_or arcs j d).from → b.to ≡ (get_or arcs j d).to →
      (get_or arcs j d).weight ≤ b.weight
  lightest b has from to =
      let f : InArc → ℕ = λ x. x.weight in
      let most = (least.least.least (set arcs j b) (walk_with g s t arcs j d b low least.walk has from to)).0 in
      let sums = sum_by-set f arcs j b d low in
      omega (arith, most, sums)

-- the line between the ends of a route's arc is the line of this arc
pub arc_line : (H : LevelsAndLegs) (lines : Lines) (s t : ℕ) (route : Route) → IsRouteBy H s t (Some route) → (j : ℕ) (d : InArc) →
    j < length route.arcs → (word : ℕ) →
    ((get_or route.arcs j d).from ≢ (get_or route.arcs j d).to → IsLineBy H lines (get_or route.arcs j d).from
    (get_or route.arcs j d).to word) → IsArcLine H lines (get_or route.arcs j d) word
arc_line H lines s t route by j d low word noted g within kept are =
    let least = (by g within kept).0 in
    let a = get_or route.arcs j d in
    let has = arc_of_walk g s t route.arcs j d low least.walk in
    let on : arc_on g.arcs has.0 ≡ a = get_or_default g.arcs has.0 (record { from = 0; to = 0; weight = 0 }) a has.1 ∙ has.2 in
    let leads : Leads g.arcs a.from a.to has.0 = (has.1, ap (λ (x : InArc). x.from) on, ap (λ (x : InArc). x.to) on) in
    elim (noted (no_loop g s t route.arcs least j d low) g within kept are) [
      | inl first ↦ (
          let here = first.is in
          let light = lightest g s t route.arcs least j d low (arc_on g.arcs word) (on_line g.arcs word here.0) here.1 here.2 in
          let weighs = ap (λ (x : InArc). x.weight) on in
          let same : (arc_on g.arcs word).weight ≡ a.weight = elim (first.least has.0 leads) [
            | inl less ↦ absurd (omega (arith, less, light, weighs))
            | inr both ↦ both.0 ∙ weighs
          ] in
          (first, same_arc (arc_on g.arcs word) a here.1 here.2 same))
      | inr none ↦ absurd (none.1 has.0 leads)
    ]

-- what is noted of a route are the lines of its arcs
pub route_lines : (H : LevelsAndLegs) (lines : Lines) (s t : ℕ) (answer : Option Route) → IsRouteBy H s t answer →
    (begin : ℕ) (array : List ℕ) → AreNoted H lines answer begin array → AreArcLines H lines answer begin array
route_lines H lines s t None by begin array noted = tt
route_lines H lines s t (Some route) by begin array noted = λ some.
    ((noted some).0, λ j d low. arc_line H lines s t route by j d low (get_or array (begin + 1 + j) 0) ((noted some).1 j d low))

-- the ends of a route's arcs are nodes
pub route_ends : (H : LevelsAndLegs) (lines : Lines) → IsOfSome H lines → (s t : ℕ) (answer : Option Route) →
    IsRouteBy H s t answer → MatchOption answer ⊤ (λ route. All (HasEnds (nodes_of H)) route.arcs)
route_ends H lines of s t None by = tt
route_ends H lines of s t (Some route) by = λ j d low.
    let g = of.0 in
    let least = (by g of.1 of.2).0 in
    let ends = (All-contains (IsArcWithin g.nodes) g.arcs (get_or route.arcs j d) of.1.each
    (arc_of_walk g s t route.arcs j d low least.walk)).ends in
    subst (λ n. HasEnds n (get_or route.arcs j d)) (sym of.2.nodes) ends

-- the lines of a route stay if the array changes only after its end
pub lines_stay : (H : LevelsAndLegs) (lines : Lines) (s : ℕ) (answer : Option Route) (begin at : ℕ) (array array' : List ℕ) →
    AreArcLines H lines answer begin array → begin + length (nodes_from s answer) ≤ at →
    ((k : ℕ) → k < at → get_or array' k 0 ≡ get_or array k 0) → length array' ≡ length array → AreArcLines H lines answer begin array'
lines_stay H lines s None begin at array array' are low agree long = tt
lines_stay H lines s (Some route) begin at array array' are low agree long = λ some.
    let size = length-map route.arcs (λ a. a.to) in
    let old = are (omega (arith, some, long)) in (
      agree begin (omega (arith, low, size)) ∙ old.0,
      λ j d inside. subst (IsArcLine H lines (get_or route.arcs j d))
          (sym (agree (begin + 1 + j) (omega (arith, low, size, inside)))) (old.1 j d inside),
    )
