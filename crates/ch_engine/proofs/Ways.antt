-- The routes of many pairs in arrays, one after the other.
use Rattle.std.proofs.Common.{◌≡◌, ℕ, ◌+◌, ◌<◌, ◌≤◌, List, length, get_or, set, Option, Some, None, Ok, Err, inl}
use Rattle.std.proofs.Common.{inr, refl, sym, ◌∙◌, subst, arith}
use Rattle.std.specs.Prelude.{IfOk, MatchOption, Result, ⊤}
use Rattle.std.proofs.lemmas.List.{get_or-map, get_or-set_same, get_or-set_other, length-map}
use Rattle.std.proofs.lemmas.Bool.{cases_order}
use Rattle.ch_graph.specs.declared.arc.InArc.{InArc}
use Rattle.ch_hierarchy.specs.Hierarchy.{LevelsAndLegs, nodes_of}
use Rattle.ch_hierarchy.specs.Paths.{NeverMeets}
use Rattle.ch_query.specs.declared.routes.Route.{Route}
use Rattle.ch_query.specs.Routes.{IsRoute, IsRouteBy}
use Rattle.ch_engine.specs.NearRows.{begin_of}
use Rattle.ch_engine.specs.Held.{Held}
use Rattle.ch_engine.specs.Routes.{AreArcLines, AreRoutesAt, HoldsFrom, IsFound, IsRouteAt, heads_of, nodes_from, weight_word}
use Rattle.ch_engine.proofs.NearRows.{begins_stay}
use Rattle.ch_engine.proofs.RouteLines.{lines_stay}

-- a way has at most as many nodes as the network
pub way_short : (s n : ℕ) (answer : Option Route) → MatchOption answer ⊤ (λ route. length route.arcs < n) → length (nodes_from s answer) ≤ n
way_short s n None few = omega arith
way_short s n (Some route) few = let same = length-map route.arcs (λ a. a.to) in omega (arith, same, few)

-- an answer that is the named route, and a walk of least cost with few arcs, is what is asked for
pub found_if : {E : Type 0} (H : LevelsAndLegs) (s t : ℕ) (result : Result (Option Route) E) →
    IfOk result (λ answer. MatchOption answer (NeverMeets H s t) (IsRoute H s t)) → IfOk result (IsRouteBy H s t) →
    IfOk result (λ answer. MatchOption answer ⊤ (λ route. length route.arcs < nodes_of H)) → IfOk result (IsFound H s t)
found_if H s t (Ok answer) chosen walk few = record { chosen = chosen; walk = walk; few = way_short s (nodes_of H) answer few }
found_if H s t (Err fault) chosen walk few = tt

-- the node to which one more arc leads is written
pub heads_more : (arcs : List InArc) (begin j : ℕ) (nodes : List ℕ) (d : InArc) → j < length arcs → begin + j < length nodes →
    ((k : ℕ) → k < j → get_or nodes (begin + k) 0 ≡ get_or (heads_of arcs) k 0) → (k : ℕ) → k < j + 1 →
    get_or (set nodes (begin + j) (get_or arcs j d).to) (begin + k) 0 ≡ get_or (heads_of arcs) k 0
heads_more arcs begin j nodes d low inside before k less = elim (cases_order k j) [
  | inl same ↦ subst (λ (n : ℕ). get_or (set nodes (begin + j) (get_or arcs j d).to) (begin + n) 0 ≡ get_or (heads_of arcs) n 0) (sym same)
      (get_or-set_same nodes (begin + j) (get_or arcs j d).to 0 inside ∙ sym (get_or-map (λ (a : InArc). a.to) arcs j d 0 low))
  | inr (inl fewer) ↦ get_or-set_other nodes (begin + j) (begin + k) (get_or arcs j d).to 0 (λ same. omega arith) ∙ before k fewer
  | inr (inr past) ↦ absurd (omega arith)
]

-- a route stays if the arrays change only after its end
route_stays : (held : Held) (s t weight begin end at : ℕ) (nodes nodes' lines lines' : List ℕ) →
    IsRouteAt held s t weight begin end nodes lines → end ≤ at → ((k : ℕ) → k < at → get_or nodes' k 0 ≡ get_or nodes k 0) →
    length nodes' ≡ length nodes → ((k : ℕ) → k < at → get_or lines' k 0 ≡ get_or lines k 0) → length lines' ≡ length lines →
    IsRouteAt held s t weight begin end nodes' lines'
route_stays held s t weight begin end at nodes nodes' lines lines' is low agree long same wide = (
  is.0,
  is.1,
  is.2,
  is.3,
  omega (arith, long, is.4),
  λ j inside. agree (begin + j) (omega (arith, low, inside, is.3)) ∙ is.5 j inside,
  lines_stay held.hierarchy held.lines s is.0 begin at lines lines' is.6 (omega (arith, low, is.3)) same wide,
)

module _ (held : Held) (sources targets weights ends nodes nodes' lines lines' : List ℕ) (i begin : ℕ) where
  -- the routes before stay, and one more comes after them
  pub routes_more : AreRoutesAt held sources targets weights ends nodes lines i → begin ≡ begin_of ends i →
      ((k : ℕ) → k < i → get_or ends k 0 ≤ begin) → i < length weights → i < length ends →
      ((k : ℕ) → k < begin → get_or nodes' k 0 ≡ get_or nodes k 0) → length nodes' ≡ length nodes →
      ((k : ℕ) → k < begin → get_or lines' k 0 ≡ get_or lines k 0) → length lines' ≡ length lines →
      (answer : Option Route) → IsFound held.hierarchy (get_or sources i 0) (get_or targets i 0) answer → (weight : ℕ) →
      weight ≡ weight_word answer →
      begin + length (nodes_from (get_or sources i 0) answer) ≤ length nodes → HoldsFrom begin
      (nodes_from (get_or sources i 0) answer) nodes' → AreArcLines held.hierarchy held.lines answer begin lines' →
      AreRoutesAt held sources targets (set weights i weight) (set ends i (begin + length (nodes_from (get_or sources i 0) answer)))
      nodes' lines' (i + 1)
  routes_more are here low weighs inside agree long same wide answer found weight is fits holds lined k more =
      let s = get_or sources i 0 in
      let end = begin + length (nodes_from s answer) in
      let At : ℕ → ℕ → ℕ → ℕ → Type 0 = λ n w b e. IsRouteAt held (get_or sources n 0) (get_or targets n 0) w b e nodes' lines' in
      let own : At i weight begin end = (answer, found, is, refl, omega (arith, long, fits), holds, lined) in
      elim (cases_order k i) [
        | inl equal ↦ subst (λ (n : ℕ). At n (get_or (set weights i weight) n 0) (begin_of (set ends i end) n)
            (get_or (set ends i end) n 0)) (sym equal)
            (subst (λ w. At i w (begin_of (set ends i end) i) (get_or (set ends i end) i 0))
            (sym (get_or-set_same weights i weight 0 weighs))
            (subst (λ b. At i weight b (get_or (set ends i end) i 0)) (here ∙ sym (begins_stay ends i end i (omega arith)))
            (subst (λ e. At i weight begin e) (sym (get_or-set_same ends i end 0 inside)) own)))
        | inr (inl less) ↦ subst (λ w. At k w (begin_of (set ends i end) k) (get_or (set ends i end) k 0))
            (sym (get_or-set_other weights i k weight 0 (λ equal. omega arith)))
            (subst (λ b. At k (get_or weights k 0) b (get_or (set ends i end) k 0)) (sym (begins_stay ends i end k (omega arith)))
            (subst (λ e. At k (get_or weights k 0) (begin_of ends k) e) (sym (get_or-set_other ends i k end 0 (λ equal. omega arith)))
            (route_stays held (get_or sources k 0) (get_or targets k 0) (get_or weights k 0) (begin_of ends k) (get_or ends k 0)
            begin nodes nodes' lines lines' (are k less) (low k less) agree long same wide)))
        | inr (inr past) ↦ absurd (omega arith)
      ]
