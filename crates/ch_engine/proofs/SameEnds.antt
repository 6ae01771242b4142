-- Arcs with the same ends, and what their topologies serve.
use Rattle.std.proofs.Common.{◌≡◌, ℕ, suc, List, [], ◌∷◌, length, map, drop, refl, ap, sym, arith, ◌∙◌}
use Rattle.ch_graph.specs.declared.arc.InArc.{InArc}
use Rattle.ch_graph.specs.Graph.{Network}
use Rattle.ch_custom.specs.Customizing.{IsTopology}
use Rattle.ch_custom.proofs.theory.Customizing.{topologies_serve_all_weights}
use Rattle.ch_engine.specs.Topologies.{EndsAndPairs, HasEndsOf}

-- the nodes from which arcs lead, those to which they lead, and both
abbrev pub froms : List InArc → List ℕ
froms = map (λ (a : InArc). a.from)

abbrev pub tos : List InArc → List ℕ
tos = map (λ (a : InArc). a.to)

abbrev ends : List InArc → List (ℕ × ℕ)
ends = map {B = ℕ × ℕ} (λ a. (a.from, a.to))

-- the first of a list
abbrev first : List ℕ → ℕ
first [] = 0
first (x ∷ xs) = x

-- lists with the same first and second ends have the same pairs of ends
same_pairs : (xs ys : List InArc) → froms xs ≡ froms ys → tos xs ≡ tos ys → ends xs ≡ ends ys
same_pairs [] [] a b = refl
same_pairs [] (y ∷ ys) a b = let long : 0 ≡ suc (length (froms ys)) = ap length a in absurd (omega (arith, long))
same_pairs (x ∷ xs) [] a b = let long : suc (length (froms xs)) ≡ 0 = ap length a in absurd (omega (arith, long))
same_pairs (x ∷ xs) (y ∷ ys) a b =
    let from : x.from ≡ y.from = ap first a in
    let to : x.to ≡ y.to = ap first b in
    let rest = same_pairs xs ys (ap (drop 1) a) (ap (drop 1) b) in
    let head : (x.from, x.to) ≡ (y.from, y.to) = ap (λ n. (n, x.to)) from ∙ ap (λ n. (y.from, n)) to in
    ap (λ (p : ℕ × ℕ). p ∷ ends xs) head ∙ ap (λ (l : List (ℕ × ℕ)). (y.from, y.to) ∷ l) rest

-- a topology of one graph with these ends of arcs is one of each
pub serves_all : (t : EndsAndPairs) (g : Network) → HasEndsOf t g → IsTopology g t.order t.pairs → (f : Network) → HasEndsOf t f →
    IsTopology f t.order t.pairs
serves_all t g of_g topology f of_f =
    topologies_serve_all_weights g f t.order t.pairs (
      of_g.nodes ∙ sym of_f.nodes,
      same_pairs g.arcs f.arcs (of_g.tails ∙ sym of_f.tails) (of_g.heads ∙ sym of_f.heads),
    ) topology
