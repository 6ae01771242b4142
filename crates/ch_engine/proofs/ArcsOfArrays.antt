-- The arcs that three arrays of one length have.
use Rattle.std.proofs.Common.{◌≡◌, ℕ, ◌<◌, List, [], ◌∷◌, length, refl, ap, sym, arith, ◌∙◌}
use Rattle.std.proofs.lemmas.List.{length-map}
use Rattle.ch_graph.specs.declared.arc.InArc.{InArc}
use Rattle.ch_graph.specs.declared.limits.TheConstants.{MOST_ARCS}
use Rattle.ch_graph.specs.Graph.{Network, HasSize}
use Rattle.ch_engine.specs.Opened.{AreArcsOf, IsOfArrays}

-- the arcs of arrays
arcs_from : List ℕ → List ℕ → List ℕ → List InArc
arcs_from (t ∷ ts) (h ∷ hs) (w ∷ ws) = record { from = t; to = h; weight = w } ∷ arcs_from ts hs ws
arcs_from (t ∷ ts) (h ∷ hs) [] = []
arcs_from (t ∷ ts) [] ws = []
arcs_from [] hs ws = []

-- arrays of one length have them
are_arcs_from : (ts hs ws : List ℕ) → length hs ≡ length ts → length ws ≡ length ts → AreArcsOf ts hs ws (arcs_from ts hs ws)
unfolding arcs_from
are_arcs_from [] [] [] a b = record { from = refl; to = refl; weight = refl }
are_arcs_from [] [] (w ∷ ws) a b = absurd (omega (arith, b))
are_arcs_from [] (h ∷ hs) ws a b = absurd (omega (arith, a))
are_arcs_from (t ∷ ts) [] ws a b = absurd (omega (arith, a))
are_arcs_from (t ∷ ts) (h ∷ hs) [] a b = absurd (omega (arith, b))
are_arcs_from (t ∷ ts) (h ∷ hs) (w ∷ ws) a b =
    let rest = are_arcs_from ts hs ws (omega (arith, a)) (omega (arith, b)) in record {
      from = ap (λ l. t ∷ l) rest.from;
      to = ap (λ l. h ∷ l) rest.to;
      weight = ap (λ l. w ∷ l) rest.weight;
    }

-- arrays of too many arcs have no size within the limits
pub too_many : (n : ℕ) (tails heads weights : List ℕ) → length heads ≡ length tails → length weights ≡ length tails →
    MOST_ARCS < length tails → (g : Network) × IsOfArrays n tails heads weights g × (HasSize g → ⊥)
too_many n tails heads weights as_heads as_weights many =
    let are = are_arcs_from tails heads weights as_heads as_weights in
    let arcs = arcs_from tails heads weights in
    let size = sym (length-map arcs (λ (a : InArc). a.from)) ∙ ap length are.from in
    (record { nodes = n; arcs = arcs }, (refl, are), λ size'. omega (arith, size, size'.1, many))
