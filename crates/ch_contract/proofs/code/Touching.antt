-- The legs that touch a node, in its two rows.
use Rattle.std.proofs.Common.{◌≡◌, ℕ, Bool, true, false, cond, List, Some, None, refl, sym, ◌∙◌, ap}
use Rattle.std.specs.Prelude.{◌==◌, if◌then◌else◌}
use Rattle.std.proofs.lemmas.Bool.{eqb-true}
use Rattle.std.proofs.lemmas.Option.{none-some}
use Rattle.ch_graph.proofs.Numbers.{eqb-refl}
use Rattle.ch_hierarchy.specs.declared.leg.Leg.{Leg}
use Rattle.ch_contract.specs.declared.shortcut.Shortcut.{Shortcut}
use Rattle.ch_contract.specs.Legs.{Label, Legs, AreLegsWithin}
use Rattle.ch_contract.specs.LegRows.{row_leg, AreLegsFrom, AreLegsTo}
use Rattle.ch_contract.specs.KnownCosts.{AreLegsUpTo}
use Rattle.ch_contract.specs.Enough.{IsPairThrough}
use Rattle.ch_contract.specs.Contraction.{AreShortcuts}
use Rattle.ch_contract.specs.ShortcutLists.{AreShortcutsAmong}
use Rattle.ch_contract.specs.ShortcutLists.{legs_touching, AreTouching}
use Rattle.ch_contract.proofs.theory.Contracting.{pair_of_shortcut}

-- pairs of legs through v depend only on the legs at v
pair_same : (n : ℕ) (K L : Legs) (v : ℕ) → ((x : ℕ) → K v x ≡ L v x) → ((x : ℕ) → K x v ≡ L x v) → (s : Shortcut) → IsPairThrough n K v s →
    IsPairThrough n L v s
pair_same n K L v from to s is = record {
  apart = is.apart;
  legs = (is.legs.0, is.legs.1, sym (to s.from) ∙ is.legs.2, sym (from s.to) ∙ is.legs.3, is.legs.4);
  weight = is.weight;
  arcs = is.arcs;
}

-- the shortcuts of v depend only on the legs at v and on the legs of witnesses
pub among_same : (n h : ℕ) (K L W : Legs) (v : ℕ) (list : List Shortcut) → ((x : ℕ) → K v x ≡ L v x) → ((x : ℕ) → K x v ≡ L x v) →
    AreShortcutsAmong n h K W v list → AreShortcutsAmong n h L W v list
among_same n h K L W v list from to are = record {
  ordered = are.ordered;
  sound = λ s c. let is = are.sound s c in record { pair = pair_same n K L v from to s is.pair; needed = is.needed };
  whole = λ s is. are.whole s (record { pair = pair_same n L K v (λ x. sym (from x)) (λ x. sym (to x)) s is.pair; needed = is.needed });
}

-- shortcuts with witnesses among the legs themselves are the shortcuts of v
pub among_own : (n h : ℕ) (L : Legs) (v : ℕ) (list : List Shortcut) → AreShortcutsAmong n h L L v list → AreShortcuts n h L v list
among_own n h L v list are = record {
  ordered = are.ordered;
  sound = λ s c. let is = are.sound s c in
      record { apart = is.pair.apart; legs = is.pair.legs; weight = is.pair.weight; arcs = is.pair.arcs; needed = is.needed };
  whole = λ s is. are.whole s (record { pair = pair_of_shortcut n h L v s is; needed = is.needed });
}

module _ (L : Legs) (v : ℕ) (up down : List Leg) (from : AreLegsFrom L v up) (to : AreLegsTo L v down) where
  -- the rows have the legs from v
  pub touching_from : (x : ℕ) → legs_touching v up down v x ≡ L v x
  touching_from x = rw (eqb-refl v) (from.1 x)

  -- the rows have the legs to v
  pub touching_to : (x : ℕ) → legs_touching v up down x v ≡ L x v
  touching_to x = at (x == v) refl
    where
      at : (b : Bool) → (x == v) ≡ b → cond b (row_leg up v) (if v == v then row_leg down x else None) ≡ L x v
      at true e = from.1 v ∙ ap (λ z. L z v) (sym (eqb-true x v e))
      at false e = rw (eqb-refl v) (to.1 x)

  -- the rows have no other legs
  pub touching_leg : (u w : ℕ) (l : Label) → legs_touching v up down u w ≡ Some l → L u w ≡ Some l
  touching_leg u w l e = at (u == v) (w == v) refl refl e
    where
      at : (a b : Bool) → (u == v) ≡ a → (w == v) ≡ b → cond a (row_leg up w) (cond b (row_leg down u) None) ≡ Some l → L u w ≡ Some l
      at true b p q f = ap (λ z. L z w) (eqb-true u v p) ∙ sym (from.1 w) ∙ f
      at false true p q f = ap (L u) (eqb-true w v q) ∙ sym (to.1 u) ∙ f
      at false false p q f = absurd (none-some l f)

  -- the rows touch v within the limits, if the legs do
  pub are_touching : (n limit : ℕ) → AreLegsWithin n L → AreLegsUpTo limit L → AreTouching n limit v up down
  are_touching n limit within light = record {
    from = (from.0, λ x. from.1 x ∙ sym (touching_from x));
    to = (to.0, λ x. to.1 x ∙ sym (touching_to x));
    within = λ u w l e. within u w l (touching_leg u w l e);
    light = λ u w l e. light u w l (touching_leg u w l e);
  }

  -- the shortcuts of the rows are those of the node
  pub own_shortcuts : (n h : ℕ) (list : List Shortcut) → AreShortcutsAmong n h (legs_touching v up down) L v list →
      AreShortcuts n h L v list
  own_shortcuts n h list are = among_own n h L v list (among_same n h (legs_touching v up down) L L v list touching_from touching_to are)
