-- Legs that are light enough for searches over words, and stay light.
use Rattle.std.proofs.Common.{◌≡◌, ℕ, ◌≤◌, List, [], sym, ◌∙◌, subst, inl, inr}
use Rattle.std.specs.Prelude.{All}
use Rattle.std.proofs.lemmas.List.Elements.{All-contains}
use Rattle.std.proofs.lemmas.Option.{same_Some}
use Rattle.ch_graph.proofs.Lists.{contains_none}
use Rattle.ch_graph.specs.declared.limits.TheConstants.{MOST_WEIGHT}
use Rattle.ch_graph.specs.declared.arc.InArc.{InArc}
use Rattle.ch_graph.specs.Graph.{Network}
use Rattle.ch_hierarchy.specs.declared.leg.Leg.{Leg}
use Rattle.ch_contract.specs.declared.shortcut.Shortcut.{Shortcut}
use Rattle.ch_contract.specs.Legs.{Label, Legs, SameLegs, AreLegsWithin, opening}
use Rattle.ch_contract.specs.Contraction.{leg_after_shortcuts, legs_after_contraction}
use Rattle.ch_contract.specs.LegLists.{legs_from, legs_into}
use Rattle.ch_contract.specs.KnownCosts.{AreLegsUpTo}
use Rattle.ch_contract.proofs.theory.OpeningLegs.{arc, opening_leg}
use Rattle.ch_contract.proofs.theory.Contracting.{override_cases}
use Rattle.ch_contract.proofs.theory.Levelled.{contracted_cases}

-- legs within the limits weigh at most MOST_WEIGHT
pub within_light : (n : ℕ) (L : Legs) → AreLegsWithin n L → AreLegsUpTo MOST_WEIGHT L
within_light n L limits u w l e = (limits u w l e).weight

-- light legs are light in the other direction
pub turned_light : (limit : ℕ) (lists : List (List Leg)) → AreLegsUpTo limit (legs_from lists) → AreLegsUpTo limit (legs_into lists)
turned_light limit lists light u w = light w u

-- the opening legs of light arcs are light
pub opened_light : (limit : ℕ) (g : Network) (L : Legs) → All (λ a. a.weight ≤ limit) g.arcs → SameLegs L (opening g) → AreLegsUpTo limit L
opened_light limit g L light same u w l e =
    let is = opening_leg g u w l (sym (same u w) ∙ e) in
    subst (λ (z : Label). z.cost.weight ≤ limit) (sym is.label)
    (All-contains (λ (a : InArc). a.weight ≤ limit) g.arcs (arc u w is.weight) light is.arc_is)

-- light legs stay light when a node is taken out
pub cleared_light : (limit : ℕ) (L : Legs) (v : ℕ) (M : Legs) → AreLegsUpTo limit L → SameLegs M (legs_after_contraction L v []) →
    AreLegsUpTo limit M
cleared_light limit L v M before same u w l e = elim (contracted_cases L v [] u w l (sym (same u w) ∙ e)) [
  | inl old ↦ before u w l old
  | inr made ↦ absurd (contains_none made.0 made.1)
]

-- light legs stay light when light shortcuts are put in
pub put_light : (limit : ℕ) (L : Legs) (v : ℕ) (list : List Shortcut) (M : Legs) → AreLegsUpTo limit L →
    All (λ s. s.cost.weight ≤ limit) list → ((u w : ℕ) → M u w ≡ leg_after_shortcuts v list u w (L u w)) → AreLegsUpTo limit M
put_light limit L v list M before light same u w l e = elim (override_cases v list u w (L u w)) [
  | inl stays ↦ before u w l (sym stays ∙ sym (same u w) ∙ e)
  | inr s ↦ subst (λ (z : Label). z.cost.weight ≤ limit) (same_Some _ _ (sym s.4 ∙ sym (same u w) ∙ e))
      (All-contains (λ (t : Shortcut). t.cost.weight ≤ limit) list s.0 light s.1)
]
