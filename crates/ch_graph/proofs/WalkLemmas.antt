-- Walks joined, walks with one more arc, and walks whose arcs are relaxed.
use Rattle.std.proofs.Common.{◌≡◌, ℕ, ◌+◌, ◌≤◌, List, [], ◌∷◌, ◌++◌, Contains, All, Option, Some, refl, sym, subst, arith}
use Rattle.std.proofs.lemmas.List.Sums.{sum_by-append, sum_by-cons}
use Rattle.std.proofs.lemmas.List.Elements.{All-contains}
use Rattle.ch_graph.specs.declared.arc.InArc.{InArc}
use Rattle.ch_graph.specs.Graph.{Network}
use Rattle.ch_graph.specs.Walk.{IsWalk, weight_of}
use Rattle.ch_graph.specs.Relaxing.{IsRelaxed, weight_at}

-- a walk and a walk from its end together are a walk
pub walk_append : (g : Network) (s m t : ℕ) (xs ys : List InArc) → IsWalk g s m xs → IsWalk g m t ys → IsWalk g s t (xs ++ ys)
walk_append g s m t [] ys w v = subst (λ q. IsWalk g q t ys) (sym w) v
walk_append g s m t (x ∷ xs) ys w v = (w.0, w.1, walk_append g x.to m t xs ys w.2 v)

-- a walk and an arc from its end together are a walk
pub walk_push : (g : Network) (s : ℕ) (a : InArc) (xs : List InArc) → IsWalk g s a.from xs → Contains g.arcs a →
    IsWalk g s a.to (xs ++ a ∷ [])
walk_push g s a xs w has = walk_append g s a.from a.to xs (a ∷ []) w (has, refl, refl)

-- one more arc adds its weight
pub weight_push : (a : InArc) (xs : List InArc) → weight_of (xs ++ a ∷ []) ≡ weight_of xs + a.weight
weight_push a xs = omega (arith, sum_by-append (λ (x : InArc). x.weight) xs (a ∷ []))

-- if each arc is relaxed, a walk from a known node ends at a known node whose weight is at most that of the walk
pub relaxed_walk : (g : Network) (best : List (Option ℕ)) (s t d : ℕ) (xs : List InArc) → All (IsRelaxed best) g.arcs →
    weight_at best s ≡ Some d → IsWalk g s t xs → (e : ℕ) × (weight_at best t ≡ Some e) × (e ≤ d + weight_of xs)
relaxed_walk g best s t d [] relaxed known w = (d, subst (λ q. weight_at best q ≡ Some d) w known, omega arith)
relaxed_walk g best s t d (x ∷ xs) relaxed known w =
    let one = All-contains (IsRelaxed best) g.arcs x relaxed w.0 d (subst (λ q. weight_at best q ≡ Some d) (sym w.1) known) in
    let rest = relaxed_walk g best x.to t one.0 xs relaxed one.1 w.2 in
    (rest.0, rest.1, omega (arith, sum_by-cons (λ (a : InArc). a.weight) x xs, one.2, rest.2))
