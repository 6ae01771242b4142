-- Legs that are lowered to the sums of two legs, until they cost the least of all walks between their ends.
use Rattle.std.proofs.Common.{◌≡◌, ℕ, ◌<◌, ◌≤◌, Bool, true, false, cond, Option, Some, None, refl, sym, ◌∙◌, ap, subst, arith, inl, inr}
use Rattle.std.specs.Prelude.{◌&&◌, nat_le, nat_lt}
use Rattle.std.proofs.lemmas.Bool.Decides.{nat_tests}
use Rattle.std.proofs.lemmas.Option.{same_Some}
use Rattle.ch_graph.specs.declared.cost.Cost.{Cost}
use Rattle.ch_graph.specs.declared.limits.TheConstants.{MOST_WEIGHT}
use Rattle.ch_graph.specs.Cost.{IsAtMost, IsBelow, cost_sum}
use Rattle.ch_graph.specs.Graph.{Network, IsWithinLimits}
use Rattle.ch_graph.specs.Walk.{IsLeast}
use Rattle.ch_graph.specs.WalkLaws.{IsWalkCost}
use Rattle.ch_graph.proofs.CostOrder.{is_lt-cost_cmp}
use Rattle.ch_graph.proofs.CostSums.{cost_sum_comm}
use Rattle.ch_graph.proofs.LeastSearch.{IsLeast-of_walk}
use Rattle.ch_graph.proofs.SimpleWalks.{IsLeast-weight, IsLeast-arcs}
use Rattle.ch_graph.proofs.WalkCosts.{IsWalkCost-cost_sum, IsLeast-IsAtMost, IsLeast-again, IsLeast_unique, IsLeast-front, IsLeast-back}
use Rattle.ch_hierarchy.specs.declared.side.Side.{Side}
use Rattle.ch_hierarchy.specs.declared.side.Side.TheVariants.{Up, Down}
use Rattle.ch_hierarchy.specs.Side.{other}
use Rattle.ch_contract.specs.Legs.{Label}
use Rattle.ch_custom.specs.declared.leg_pair.TheConstants.{BEATEN}
use Rattle.ch_custom.specs.Customizing.{is_cheaper, leg_over}
use Rattle.ch_custom.specs.Exact.{IsWalkAt, IsLeastAt, IsSoundAt, IsExactAt, IsShortened, IsOver}
use Rattle.ch_custom.proofs.theory.Customizing.{cheaper_not, dearer}

-- the laws of walks in both directions
pub least_turned : (g : Network) (side : Side) (v x : ℕ) (c : Cost) → IsLeastAt g side v x c → IsLeastAt g (other side) x v c
least_turned g Up v x c l = l
least_turned g Down v x c l = l

pub walk_turned : (g : Network) (side : Side) (v x : ℕ) (c : Cost) → IsWalkAt g (other side) x v c → IsWalkAt g side v x c
walk_turned g Up v x c l = l
walk_turned g Down v x c l = l

pub walk_sum : (g : Network) (side : Side) (v y x : ℕ) (a b : Cost) → IsWalkAt g side v y a → IsWalkAt g side y x b →
    IsWalkAt g side v x (cost_sum a b)
walk_sum g Up v y x a b p q = IsWalkCost-cost_sum g v y x a b p q
walk_sum g Down v y x a b p q = subst (IsWalkCost g x v) (cost_sum_comm b a) (IsWalkCost-cost_sum g x y v b a q p)

pub least_front : (g : Network) (side : Side) (v y x : ℕ) (a b : Cost) → IsLeastAt g side v x (cost_sum a b) → IsWalkAt g side v y a →
    IsWalkAt g side y x b → IsLeastAt g side v y a
least_front g Up v y x a b l p q = IsLeast-front g v y x a b l p q
least_front g Down v y x a b l p q = IsLeast-back g x y v b a (subst (IsLeast g x v) (cost_sum_comm a b) l) q p

pub least_walk : (g : Network) (side : Side) (v x : ℕ) (c : Cost) → IsLeastAt g side v x c → IsWalkAt g side v x c
least_walk g Up v x c l = l.walk
least_walk g Down v x c l = l.walk

pub least_at_most : (g : Network) (side : Side) (v x : ℕ) (c d : Cost) → IsLeastAt g side v x c → IsWalkAt g side v x d → IsAtMost c d
least_at_most g Up v x c d l w = IsLeast-IsAtMost g v x c d l w
least_at_most g Down v x c d l w = IsLeast-IsAtMost g x v c d l w

pub least_again : (g : Network) (side : Side) (v x : ℕ) (c d : Cost) → IsLeastAt g side v x c → IsWalkAt g side v x d → IsAtMost d c → d ≡ c
least_again g Up v x c d l w h = IsLeast-again g v x c d l w h
least_again g Down v x c d l w h = IsLeast-again g x v c d l w h

pub least_unique : (g : Network) (side : Side) (v x : ℕ) (c d : Cost) → IsLeastAt g side v x c → IsLeastAt g side v x d → c ≡ d
least_unique g Up v x c d l k = IsLeast_unique g v x c d l k
least_unique g Down v x c d l k = IsLeast_unique g x v c d l k

pub least_weight : (g : Network) (side : Side) (v x : ℕ) (c : Cost) → IsWithinLimits g → IsLeastAt g side v x c → c.weight ≤ MOST_WEIGHT
least_weight g Up v x c limits l = IsLeast-weight g v x c limits l
least_weight g Down v x c limits l = IsLeast-weight g x v c limits l

pub least_arcs : (g : Network) (side : Side) (v x : ℕ) (c : Cost) → IsWithinLimits g → v < g.nodes → x < g.nodes →
    IsLeastAt g side v x c → c.arcs < g.nodes
least_arcs g Up v x c limits lt below l = IsLeast-arcs g v x c limits below l
least_arcs g Down v x c limits lt below l = IsLeast-arcs g x v c limits lt l

pub least_of_walk : (g : Network) (side : Side) (v x : ℕ) (d : Cost) → IsWalkAt g side v x d →
    (c : Cost) × IsLeastAt g side v x c × IsAtMost c d
least_of_walk g Up v x d w = IsLeast-of_walk g v x d w
least_of_walk g Down v x d w = IsLeast-of_walk g x v d w

-- a leg that is less than one that is cheaper is cheaper
cheaper_trans : (c : Cost) (l : Label) (o : Option Label) → IsBelow c l.cost → is_cheaper l.cost o ≡ true → is_cheaper c o ≡ true
cheaper_trans c l None less e = refl
cheaper_trans c l (Some z) less e =
    let below = (is_lt-cost_cmp l.cost z.cost).0 e in
    (is_lt-cost_cmp c z.cost).1 (omega arith, λ tie. omega arith)

module _ (g : Network) (side : Side) (v x : ℕ) where
  -- a leg that has the least cost stays
  pub stays : (old new : Option Label) → IsShortened g side v x old new → (l : Label) → old ≡ Some l → IsLeastAt g side v x l.cost →
      new ≡ Some l
  stays old new short l is least = elim short [
    | inl same ↦ same ∙ is
    | inr beaten ↦ absurd (cheaper_not beaten.0.cost old l beaten.4 is
        (least_at_most g side v x l.cost beaten.0.cost least beaten.3))
  ]

  -- a leg that is shortened twice is shortened
  pub again : (a b c : Option Label) → IsShortened g side v x a b → IsShortened g side v x b c → IsShortened g side v x a c
  again a b c first second = elim second [
    | inl same ↦ subst (IsShortened g side v x a) (sym same) first
    | inr beaten ↦ elim first [
      | inl was ↦ inr (beaten.0, beaten.1, beaten.2, beaten.3, subst (λ z. is_cheaper beaten.0.cost z ≡ true) was beaten.4)
      | inr once ↦ inr (
        beaten.0,
        beaten.1,
        beaten.2,
        beaten.3,
        cheaper_trans beaten.0.cost once.0 a
            ((is_lt-cost_cmp beaten.0.cost once.0.cost).0 (subst (λ z. is_cheaper beaten.0.cost z ≡ true) once.1 beaten.4)) once.4,
      )
    ]
  ]

  -- a shortened leg is a walk
  pub still_sound : (old new : Option Label) → IsShortened g side v x old new → IsSoundAt g side v x old → IsSoundAt g side v x new
  still_sound old new short sound l is = elim short [
    | inl same ↦ sound l (sym same ∙ is)
    | inr beaten ↦ subst (λ (z : Label). IsWalkAt g side v x z.cost) (same_Some _ _ (sym beaten.1 ∙ is)) beaten.3
  ]

  -- an exact leg that is a walk has the least cost
  pub exact_least : (leg : Option Label) (l : Label) → IsSoundAt g side v x leg → IsExactAt g side v x leg → leg ≡ Some l →
      IsLeastAt g side v x l.cost
  exact_least leg l sound exact is =
      let least = least_of_walk g side v x l.cost (sound l is) in
      let its = exact least.0 least.1 in
      subst (IsLeastAt g side v x) (sym its.2 ∙ ap (λ (z : Label). z.cost) (same_Some _ _ (sym its.1 ∙ is))) least.1

  -- what a leg costs over two legs it still costs when it is shortened
  pub over_kept : (first second old new : Option Label) → IsOver g side v x first second old → IsShortened g side v x old new →
      IsOver g side v x first second new
  over_kept first second old new over short a b ea eb least =
      let is = over a b ea eb least in (
        is.0,
        stays old new short is.0 is.1 (subst (IsLeastAt g side v x) (sym is.2) least),
        is.2,
      )

  -- and over the first of these legs before it was shortened
  pub over_before : (y : ℕ) (old first second leg : Option Label) → IsShortened g side v y old first → IsSoundAt g side v y old →
      IsSoundAt g side y x second → IsOver g side v x first second leg → IsOver g side v x old second leg
  over_before y old first second leg short sound rest over a b ea eb least =
      over a b (stays_at a ea (least_front g side v y x a.cost b.cost least (sound a ea) (rest b eb))) eb least
    where
      stays_at : (a : Label) → old ≡ Some a → IsLeastAt g side v y a.cost → first ≡ Some a
      stays_at a is least = elim short [
        | inl same ↦ same ∙ is
        | inr beaten ↦ absurd (cheaper_not beaten.0.cost old a beaten.4 is
            (least_at_most g side v y a.cost beaten.0.cost least beaten.3))
      ]

  -- a leg that is lowered to the sum of two walks is shortened
  pub lowered : (n y : ℕ) (a b old new : Option Label) → IsSoundAt g side v y a → IsSoundAt g side y x b →
      new ≡ leg_over n BEATEN a b old → IsShortened g side v x old new
  lowered n y None b old new one two e = inl e
  lowered n y (Some a) None old new one two e = inl e
  lowered n y (Some a) (Some b) old new one two e =
      at (nat_le sum.weight MOST_WEIGHT) (nat_lt sum.arcs n) (is_cheaper sum old) refl e
    where
      sum : Cost
      sum = cost_sum a.cost b.cost

      at : (p q r : Bool) → is_cheaper sum old ≡ r → new ≡ cond (p && q && r) (Some (record { cost = sum; middle = Some BEATEN })) old →
          IsShortened g side v x old new
      at true true true k f = inr (
        record { cost = sum; middle = Some BEATEN },
        f,
        refl,
        walk_sum g side v y x a.cost b.cost (one a refl) (two b refl),
        k,
      )
      at true true false k f = inl f
      at true false r k f = inl f
      at false q r k f = inl f

  -- then it costs that sum, if this is the least cost
  pub lowered_over : (a b old new : Option Label) → IsWithinLimits g → v < g.nodes → x < g.nodes → IsSoundAt g side v x old →
      new ≡ leg_over g.nodes BEATEN a b old → IsOver g side v x a b new
  lowered_over a b old new limits lt below sound e first second ea eb least =
      let light = least_weight g side v x (cost_sum first.cost second.cost) limits least in
      let few = least_arcs g side v x (cost_sum first.cost second.cost) limits lt below least in
      at (nat_le (cost_sum first.cost second.cost).weight MOST_WEIGHT) (nat_lt (cost_sum first.cost second.cost).arcs g.nodes)
      (is_cheaper (cost_sum first.cost second.cost) old)
      (grind (arith, nat_tests)) (grind (arith, nat_tests)) refl
      (e ∙ ap (λ z. leg_over g.nodes BEATEN z b old) ea ∙ ap (λ z. leg_over g.nodes BEATEN (Some first) z old) eb)
    where
      at : (p q r : Bool) → p ≡ true → q ≡ true → is_cheaper (cost_sum first.cost second.cost) old ≡ r →
          new ≡ cond (p && q && r) (Some (record { cost = cost_sum first.cost second.cost; middle = Some BEATEN })) old →
          (l : Label) × (new ≡ Some l) × (l.cost ≡ cost_sum first.cost second.cost)
      at false q r p e k f = absurd (let no = p in cc)
      at true false r p e k f = absurd (let no = e in cc)
      at true true true p e k f = (record { cost = cost_sum first.cost second.cost; middle = Some BEATEN }, f, refl)
      at true true false p e k f =
          let l = dearer (cost_sum first.cost second.cost) old k in (
            l.0,
            f ∙ l.1,
            least_again g side v x (cost_sum first.cost second.cost) l.0.cost least (sound l.0 l.1) l.2,
          )
