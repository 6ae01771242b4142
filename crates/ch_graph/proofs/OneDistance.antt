-- Two nodes have only one distance.
use Rattle.std.proofs.Common.{◌≡◌, ℕ, Option, Some, None, refl, ap, arith}
use Rattle.ch_graph.specs.Graph.{Network}
use Rattle.ch_graph.specs.Walk.{IsAnswer, IsDistance}

-- two nodes have only one distance
one_distance : (g : Network) (s t x y : ℕ) → IsDistance g s t x → IsDistance g s t y → x ≡ y
one_distance g s t x y h k =
    let a = h.least k.walk.0 k.walk.1 in
    let b = k.least h.walk.0 h.walk.1 in
    let c = h.walk.2 in
    let d = k.walk.2 in
    omega arith

-- two nodes have only one answer: a distance, or none
pub one_answer : (g : Network) (s t : ℕ) (a b : Option ℕ) → IsAnswer g s t a → IsAnswer g s t b → a ≡ b
one_answer g s t None None h k = refl
one_answer g s t None (Some y) h k = absurd (h k.walk.0 k.walk.1)
one_answer g s t (Some x) None h k = absurd (k h.walk.0 h.walk.1)
one_answer g s t (Some x) (Some y) h k = ap Some (one_distance g s t x y h k)
