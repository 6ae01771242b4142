-- Given nodes that are contracted in their turns, but for those that too many legs touch then.
use Rattle.std.proofs.Common.{◌≡◌, ℕ, ◌+◌, ◌<◌, ◌≤◌, List, [], ◌∷◌, ◌++◌, length, refl, sym, ap, subst, arith, inl, inr, Contains}
use Rattle.ch_graph.proofs.Lists.{contains_cons, contains_head, contains_tail}
use Rattle.ch_contract.specs.Contraction.{count_touching}
use Rattle.ch_contract.specs.Legs.{Legs}
use Rattle.ch_order.specs.declared.construction.steps.TheConstants.{MOST_GIVEN_LEGS}
use Rattle.ch_order.specs.Quick.{AreTakenIfSmall}

-- the turns do not depend on the legs of later steps
pub turns_along : (n : ℕ) (L M : ℕ → Legs) (i : ℕ) (given taken : List ℕ) → ((k : ℕ) → k ≤ i + length taken → M k ≡ L k) →
    AreTakenIfSmall n L i given taken → AreTakenIfSmall n M i given taken
turns_along n L M i [] taken same t = t
turns_along n L M i (v ∷ given) taken same (inl t) =
    inl (
      subst (λ (K : Legs). count_touching n K v ≤ MOST_GIVEN_LEGS) (sym (same i (omega arith))) t.0,
      t.1,
      t.2,
      turns_along n L M (i + 1) given t.1 (λ k le. same k (omega (arith, ap length t.2))) t.3,
    )
turns_along n L M i (v ∷ given) taken same (inr t) =
    inr (
      subst (λ (K : Legs). MOST_GIVEN_LEGS < count_touching n K v) (sym (same i (omega arith))) t.0,
      turns_along n L M i given taken same t.1,
    )

-- a small node is contracted after those that were contracted before
pub turns_take : (n : ℕ) (L : ℕ → Legs) (i k : ℕ) (given taken : List ℕ) (v : ℕ) → AreTakenIfSmall n L i given taken →
    k ≡ i + length taken → count_touching n (L k) v ≤ MOST_GIVEN_LEGS →
    AreTakenIfSmall n L i (given ++ v ∷ []) (taken ++ v ∷ [])
turns_take n L i k [] taken v t at fits = inl (
  subst (λ j. count_touching n (L j) v ≤ MOST_GIVEN_LEGS) (omega (arith, at, ap length t)) fits,
  [],
  ap (λ (l : List ℕ). l ++ v ∷ []) t,
  refl,
)
turns_take n L i k (w ∷ given) taken v (inl t) at fits = inl (
  t.0,
  t.1 ++ v ∷ [],
  ap (λ (l : List ℕ). l ++ v ∷ []) t.2,
  turns_take n L (i + 1) k given t.1 v t.3 (omega (arith, at, ap length t.2)) fits,
)
turns_take n L i k (w ∷ given) taken v (inr t) at fits = inr (t.0, turns_take n L i k given taken v t.1 at fits)

-- a node that many legs touch waits
pub turns_skip : (n : ℕ) (L : ℕ → Legs) (i k : ℕ) (given taken : List ℕ) (v : ℕ) → AreTakenIfSmall n L i given taken →
    k ≡ i + length taken → MOST_GIVEN_LEGS < count_touching n (L k) v → AreTakenIfSmall n L i (given ++ v ∷ []) taken
turns_skip n L i k [] taken v t at large =
    inr (subst (λ j. MOST_GIVEN_LEGS < count_touching n (L j) v) (omega (arith, at, ap length t)) large, t)
turns_skip n L i k (w ∷ given) taken v (inl t) at large =
    inl (t.0, t.1, t.2, turns_skip n L (i + 1) k given t.1 v t.3 (omega (arith, at, ap length t.2)) large)
turns_skip n L i k (w ∷ given) taken v (inr t) at large = inr (t.0, turns_skip n L i k given taken v t.1 at large)

-- only given nodes are contracted
pub turns_within : (n : ℕ) (L : ℕ → Legs) (i : ℕ) (given taken : List ℕ) (x : ℕ) → AreTakenIfSmall n L i given taken →
    Contains taken x → Contains given x
turns_within n L i [] taken x t has = subst (λ l. Contains l x) t has
turns_within n L i (v ∷ given) taken x (inl t) has =
    elim (contains_cons v x t.1 (subst (λ l. Contains l x) t.2 has)) [
      | inl is ↦ subst (Contains (v ∷ given)) is (contains_head v given)
      | inr later ↦ contains_tail x v given (turns_within n L (i + 1) given t.1 x t.3 later)
    ]
turns_within n L i (v ∷ given) taken x (inr t) has = contains_tail x v given (turns_within n L i given taken x t.1 has)
