-- The opening legs are those of the arcs that are put in.
use Rattle.std.proofs.Common.{◌≡◌, ℕ, ◌≤◌, Bool, true, false, cond, List, [], ◌∷◌, length, Option, Some, None, refl, sym, ◌∙◌, ap, take}
use Rattle.std.specs.Prelude.{◌==◌, ◌&&◌, if◌then◌else◌, filter, not}
use Rattle.std.proofs.lemmas.Bool.{eqb-true, eqb-false}
use Rattle.std.proofs.lemmas.List.{take_all}
use Rattle.ch_graph.specs.declared.arc.InArc.{InArc}
use Rattle.ch_graph.specs.Graph.{Network}
use Rattle.ch_contract.specs.Legs.{Legs, AreLegsWithin, SameLegs, ArcsOpen, opening, arc_label_of, least_weight, lesser_weight}
use Rattle.ch_hierarchy.proofs.theory.Ordered.{same_ends}

-- the arc leads to another node
abbrev pub joins : InArc → Bool
joins a = not (a.from == a.to)

-- loops do not change the least weight between two nodes
pub without_loops : (u w : ℕ) (arcs : List InArc) →
    least_weight u w (filter joins arcs) ≡ (if u == w then None else least_weight u w arcs)
without_loops u w [] = at (u == w)
  where
    nothing : Option ℕ
    nothing = None

    at : (b : Bool) → nothing ≡ cond b None None
    at true = refl
    at false = refl
without_loops u w (a ∷ arcs) = at (a.from == a.to) (a.from == u && a.to == w) (u == w) refl refl refl (without_loops u w arcs)
  where
    loop_apart : a.from == a.to ≡ true → (a.from == u && a.to == w) ≡ true → (u == w) ≡ false → ⊥
    loop_apart e f g = let i = eqb-true a.from a.to e in let j = same_ends u w a.from a.to f in eqb-false u w g (sym j.0 ∙ i ∙ j.1)

    joined : (a.from == a.to) ≡ false → (a.from == u && a.to == w) ≡ true → (u == w) ≡ true → ⊥
    joined e f g = let i = eqb-true u w g in let j = same_ends u w a.from a.to f in eqb-false a.from a.to e (j.0 ∙ i ∙ sym j.1)

    at : (l m s : Bool) → (a.from == a.to) ≡ l → (a.from == u && a.to == w) ≡ m → (u == w) ≡ s →
        least_weight u w (filter joins arcs) ≡ cond s None (least_weight u w arcs) →
        least_weight u w (cond (not l) (a ∷ filter joins arcs) (filter joins arcs))
        ≡ cond s None (cond m (Some (lesser_weight a.weight (least_weight u w arcs))) (least_weight u w arcs))
    at true m true e f g more = more
    at true true false e f g more = absurd (loop_apart e f g)
    at true false false e f g more = more
    at false m s e f g more =
        ap (λ z. cond z (Some (lesser_weight a.weight (least_weight u w (filter joins arcs))))
        (least_weight u w (filter joins arcs))) f ∙ kept m s f g more
      where
        kept : (m s : Bool) → (a.from == u && a.to == w) ≡ m → (u == w) ≡ s →
            least_weight u w (filter joins arcs) ≡ cond s None (least_weight u w arcs) →
            cond m (Some (lesser_weight a.weight (least_weight u w (filter joins arcs)))) (least_weight u w (filter joins arcs))
            ≡ cond s None (cond m (Some (lesser_weight a.weight (least_weight u w arcs))) (least_weight u w arcs))
        kept true true f g more = absurd (joined e f g)
        kept true false f g more = ap (λ z. Some (lesser_weight a.weight z)) more
        kept false s f g more = more

-- after all arcs are put in, the legs are the opening legs
pub opens : (g : Network) (L : Legs) (arcs : List InArc) (i : ℕ) → arcs ≡ g.arcs → length arcs ≤ i →
    ArcsOpen (filter joins (take i arcs)) L → SameLegs L (opening g)
opens g L arcs i same all opened u w =
    opened u w ∙ ap (λ l. arc_label_of (least_weight u w (filter joins l))) (take_all i arcs all ∙ same)
    ∙ ap arc_label_of (without_loops u w g.arcs) ∙ at (u == w)
  where
    at : (b : Bool) → arc_label_of (cond b None (least_weight u w g.arcs)) ≡ cond b None (arc_label_of (least_weight u w g.arcs))
    at true = refl
    at false = refl

-- legs that are the same as legs within the limits are within the limits
pub same_within : (n : ℕ) (L M : Legs) → SameLegs L M → AreLegsWithin n M → AreLegsWithin n L
same_within n L M same h u w l e = h u w l (sym (same u w) ∙ e)
