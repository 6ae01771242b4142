-- The legs after a contraction.
use Rattle.std.proofs.Common.{◌≡◌, ℕ, suc, zero, ◌<◌, Bool, true, false, cond, List, [], ◌∷◌, Option, Some, None, Contains, refl}
use Rattle.std.proofs.Common.{sym, ◌∙◌, ap, subst, arith, inl, inr}
use Rattle.std.specs.Prelude.{◌⊎◌, ◌≢◌, ◌==◌, ◌&&◌, ◌||◌}
use Rattle.std.proofs.lemmas.Bool.{eqb-true}
use Rattle.std.proofs.lemmas.Option.{same_Some, none-some}
use Rattle.ch_contract.specs.declared.shortcut.Shortcut.{Shortcut}
use Rattle.ch_contract.specs.Legs.{Label, Legs, SameLegs, AreLegsWithin, IsLegWithin}
use Rattle.ch_contract.specs.Contraction.{IsShortcut, AreShortcuts, shortcut_label, leg_after_shortcuts, legs_after_contraction, Contracts}
use Rattle.ch_contract.specs.Enough.{IsPairThrough, ContractsWithEnough}
use Rattle.ch_hierarchy.proofs.theory.Ordered.{same_ends}

-- one of the shortcuts is the leg between the two nodes
abbrev pub IsOverridden : ℕ → List Shortcut → ℕ → ℕ → Option Label → Type 0
IsOverridden v list u w before =
    (s : Shortcut) × Contains list s × (s.from ≡ u) × (s.to ≡ w) × (leg_after_shortcuts v list u w before ≡ Some (shortcut_label v s))

-- the leg before stays, or a shortcut replaces it
pub override_cases : (v : ℕ) (list : List Shortcut) (u w : ℕ) (before : Option Label) →
    (leg_after_shortcuts v list u w before ≡ before) ⊎ IsOverridden v list u w before
override_cases v [] u w before = inl refl
override_cases v (s ∷ list) u w before = at (s.from == u && s.to == w) refl (override_cases v list u w before)
  where
    at : (b : Bool) → (s.from == u && s.to == w) ≡ b → (leg_after_shortcuts v list u w before ≡ before) ⊎ IsOverridden v list u w before →
        (cond b (Some (shortcut_label v s)) (leg_after_shortcuts v list u w before) ≡ before)
        ⊎ ((t : Shortcut) × Contains (s ∷ list) t × (t.from ≡ u) × (t.to ≡ w)
        × (cond b (Some (shortcut_label v s)) (leg_after_shortcuts v list u w before) ≡ Some (shortcut_label v t)))
    at true e more = let is = same_ends u w s.from s.to e in inr (s, (zero, omega arith, refl), is.0, is.1, refl)
    at false e more = elim more [ inl h ↦ inl h | inr h ↦ inr (h.0, (suc h.1.0, omega (arith, h.1.1), h.1.2), h.2, h.3, h.4) ]

-- each member of the list is the sum of two legs through v
abbrev pub ArePairs : ℕ → Legs → ℕ → List Shortcut → Type 0
ArePairs n L v list = (s : Shortcut) → Contains list s → IsPairThrough n L v s

-- M are the legs after v is contracted in L with sums of two legs through v
abbrev pub ContractsWithPairs : ℕ → Legs → ℕ → Legs → Type 0
ContractsWithPairs n L v M = (list : List Shortcut) × ArePairs n L v list × SameLegs M (legs_after_contraction L v list)

-- a shortcut is the sum of two legs through v
pub pair_of_shortcut : (n h : ℕ) (L : Legs) (v : ℕ) (s : Shortcut) → IsShortcut n h L v s → IsPairThrough n L v s
pair_of_shortcut n h L v s is = record { apart = is.apart; legs = is.legs; weight = is.weight; arcs = is.arcs }

-- all shortcuts are sums of two legs through v
pub pairs_of_shortcuts : (n h : ℕ) (L : Legs) (v : ℕ) (list : List Shortcut) → AreShortcuts n h L v list → ArePairs n L v list
pairs_of_shortcuts n h L v list are s c = pair_of_shortcut n h L v s (are.sound s c)

-- contraction puts in sums of two legs
pub pairs_by_needed : (n h : ℕ) (L : Legs) (v : ℕ) (M : Legs) → Contracts n h L v M → ContractsWithPairs n L v M
pairs_by_needed n h L v M c = (c.0, pairs_of_shortcuts n h L v c.0 c.1, c.2)

-- contraction with enough shortcuts puts in sums of two legs
pub pairs_by_enough : (n h : ℕ) (L : Legs) (v : ℕ) (M : Legs) → ContractsWithEnough n h L v M → ContractsWithPairs n L v M
pairs_by_enough n h L v M c = (c.0, c.1.pairs, c.2)

module _ (n : ℕ) (L : Legs) (v : ℕ) (list : List Shortcut) (limits : AreLegsWithin n L) (are : ArePairs n L v list) where
  -- no shortcut leads from v or to v
  pub off : (s : Shortcut) → Contains list s → (s.from ≢ v) × (s.to ≢ v)
  off s c =
      let legs = (are s c).legs in
      ((λ e. (limits s.from v legs.0 legs.2).ends.2 e), (λ e. (limits v s.to legs.1 legs.3).ends.2 (sym e)))

  -- putting the shortcuts over the legs that do not touch v gives the legs after the contraction
  pub put_over : (u w : ℕ) → leg_after_shortcuts v list u w (legs_after_contraction L v [] u w) ≡ legs_after_contraction L v list u w
  put_over u w = at (u == v) (w == v) refl refl
    where
      at : (a b : Bool) → (u == v) ≡ a → (w == v) ≡ b →
          leg_after_shortcuts v list u w (cond (a || b) None (L u w)) ≡ cond (a || b) None (leg_after_shortcuts v list u w (L u w))
      at true b e f = elim (override_cases v list u w None) [ inl stays ↦ stays | inr s ↦ absurd ((off s.0 s.1).0 (s.2 ∙ eqb-true u v e)) ]
      at false true e f = elim (override_cases v list u w None)
          [ inl stays ↦ stays | inr s ↦ absurd ((off s.0 s.1).1 (s.3 ∙ eqb-true w v f)) ]
      at false false e f = refl

  -- a shortcut keeps the limits
  pub shortcut_within : (s : Shortcut) → IsPairThrough n L v s → IsLegWithin n s.from s.to (shortcut_label v s)
  shortcut_within s is =
      let first = limits s.from v is.legs.0 is.legs.2 in
      let second = limits v s.to is.legs.1 is.legs.3 in
      record {
        ends = (first.ends.0, second.ends.1, is.apart);
        weight = is.weight;
        arcs = is.arcs;
        middle =
            λ x e. subst (λ z. z < n) (same_Some v x e) second.ends.0;
      }

  -- the legs after the contraction keep the limits
  pub contracted_within : AreLegsWithin n (legs_after_contraction L v list)
  contracted_within u w l e = at (u == v || w == v) e
    where
      at : (b : Bool) → cond b None (leg_after_shortcuts v list u w (L u w)) ≡ Some l → IsLegWithin n u w l
      at true f = absurd (none-some _ f)
      at false f = elim (override_cases v list u w (L u w)) [
        | inl stays ↦ limits u w l (sym stays ∙ f)
        | inr s ↦ subst (IsLegWithin n u w) (same_Some _ _ (sym s.4 ∙ f))
            (subst (λ z. IsLegWithin n z w (shortcut_label v s.0)) s.2
            (subst (λ z. IsLegWithin n s.0.from z (shortcut_label v s.0)) s.3 (shortcut_within s.0 (are s.0 s.1))))
      ]

-- removing the legs of v and putting its shortcuts in is the contraction
pub after : (n h v : ℕ) (L removed M : Legs) (list : List Shortcut) → AreLegsWithin n L → AreShortcuts n h L v list →
    SameLegs removed (legs_after_contraction L v []) → ((u w : ℕ) → M u w ≡ leg_after_shortcuts v list u w (removed u w)) →
    SameLegs M (legs_after_contraction L v list)
after n h v L removed M list limits are gone put u w =
    put u w ∙ ap (leg_after_shortcuts v list u w) (gone u w) ∙ put_over n L v list limits (pairs_of_shortcuts n h L v list are) u w
