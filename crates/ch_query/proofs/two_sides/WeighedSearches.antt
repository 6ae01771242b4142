-- Two searches by weights alone that are past the sum that they know have found the least weight.
use Rattle.std.proofs.Common.{◌≡◌, ℕ, ◌+◌, ◌<◌, ◌≤◌, List, Option, Some, None, refl, sym, ◌∙◌, ap, subst, arith, inl, inr}
use Rattle.std.proofs.lemmas.Bool.{cases_lt}
use Rattle.std.proofs.lemmas.Option.{same_Some}
use Rattle.ch_graph.specs.declared.cost.Cost.{Cost}
use Rattle.ch_graph.specs.Cost.{IsAtMost, cost_sum, cost_at}
use Rattle.ch_graph.specs.Walk.{IsUnreachable}
use Rattle.ch_graph.specs.WalkLaws.{IsWalkCost}
use Rattle.ch_graph.proofs.CostOrder.{IsAtMost_refl}
use Rattle.ch_graph.proofs.WalkCosts.{IsLeast-IsAtMost}
use Rattle.ch_hierarchy.specs.Hierarchy.{LevelsAndLegs}
use Rattle.ch_hierarchy.specs.KeptLaws.{IsLeastMeeting, MeetingsAreDistances}
use Rattle.ch_hierarchy.specs.declared.side.Side.{Side}
use Rattle.ch_hierarchy.specs.declared.side.Side.TheVariants.{Up, Down}
use Rattle.ch_hierarchy.specs.Side.{rows_of}
use Rattle.ch_hierarchy.proofs.theory.KeptWalks.{kept_has_walks, meetings_are_distances}
use Rattle.ch_query.specs.Distance.{IsKeptForSome, IsLeastWeight}
use Rattle.ch_query.specs.Search.{IsSettled, IsUpwardCost}
use Rattle.ch_query.specs.SearchSpace.{IsTight}
use Rattle.ch_query.specs.Weighed.{weighed_cost, IsWeightSearchTo, IsWeightSearch, IsWeightSeen, IsWeightFound, IsPastWeight}
use Rattle.ch_query.specs.Weighed.{WeightsAreEnough}
use Rattle.ch_query.proofs.one_side.End.{least_reached, matched}
use Rattle.ch_query.proofs.one_side.TightNodes.{sum_walk, tight_up, tight_down, tight_least}
use Rattle.ch_query.proofs.one_side.WeighedPaths.{weighed_rows, weighed_reached, reached_weight, weighed_avoids}

-- each remaining key weighs more than x
abbrev pub IsPastAll : List (Option Cost) → ℕ → Type 0
IsPastAll queue x = (v : ℕ) (d : Cost) → cost_at queue v ≡ Some d → x < d.weight

-- once each remaining key weighs more, a tight node that weighs at most `most` is settled at no more than its least
-- weight
pub tight_settled : {most : ℕ} (H : LevelsAndLegs) → IsKeptForSome H →
    (side : Side) (s m : ℕ) (a : Cost) (best queue : List (Option Cost)) → IsWeightSearchTo most H side s best queue →
    IsTight H side s m a → a.weight ≤ most → IsPastAll queue a.weight → (b : Cost) × IsSettled best queue m b × (b.weight ≤ a.weight)
tight_settled H k side s m a best queue is_search tight light past =
    let least = tight_least H side s m a tight in
    let reached = weighed_reached (rows_of H side) s m a (least_reached (rows_of H side) s m a least) in
    let there = subst (λ rows. IsUpwardCost rows s m (weighed_cost a)) (sym (weighed_rows H side)) reached in
    let is = matched _ s _ best queue is_search m (weighed_cost a) light
    (λ x d key. (let more = past x d key in omega arith, λ tie. let more = past x d key in omega arith))
    (weighed_avoids H k side s m a tight) there.path.0 there.path.1
    (subst (λ q. IsAtMost q (weighed_cost a)) (sym there.path.2) (IsAtMost_refl (weighed_cost a))) in
    let low = subst (IsAtMost is.0) there.path.2 is.2 in
    (is.0, is.1, low.0)

module _ (H : LevelsAndLegs) (k : IsKeptForSome H) (s t : ℕ) (least : Option ℕ) (best_up queue_up best_down queue_down : List (Option Cost))
    (up : IsWeightSearch H Up s best_up queue_up) (down : IsWeightSearch H Down t best_down queue_down)
    (seen : IsWeightSeen best_up queue_up best_down queue_down least)
    (found : IsWeightFound H s t least) (past_up : IsPastWeight queue_up least) (past_down : IsPastWeight queue_down least) where
  -- the least meetings of the hierarchy are the distances
  law : MeetingsAreDistances k.0 H
  law = meetings_are_distances k.0 H k.1 k.2

  -- the known sum is the weight of a walk
  found_walks : (e : ℕ) → least ≡ Some e → (d : Cost) × IsWalkCost k.0 s t d × (d.weight ≡ e)
  found_walks e is =
      let f = found e is in
      let a = reached_weight H Up s f.0 f.1 f.3 in
      let b = reached_weight H Down t f.0 f.2 f.4 in (
        cost_sum a.0 b.0,
        sum_walk H k s t f.0 a.0 b.0 a.1 b.1,
        (let first = a.2 in let second = b.2 in let sum = f.5 in omega arith),
      )

  -- a least meeting
  module _ (c : Cost) (h : IsLeastMeeting H s t c) where
    -- the known sum is at least the weight of c
    no_less : (e : ℕ) → least ≡ Some e → c.weight ≤ e
    no_less e is =
        let walk = found_walks e is in
        let low = (IsLeast-IsAtMost k.0 s t c walk.0 ((law.least s t c).1 h) walk.1).0 in
        let weight = walk.2 in
        omega arith

    -- each known sum is more than the weight of c
    abbrev IsMore : Type 0
    IsMore = (e : ℕ) → least ≡ Some e → c.weight < e

    -- if so, each remaining key is more than the weight of c
    above : (queue : List (Option Cost)) → IsPastWeight queue least → IsMore → (x : ℕ) → x ≤ c.weight → IsPastAll queue x
    above queue past more x le v d key = let r = past v d key in let low = r.2 in let high = more r.0 r.1 in omega arith

    -- this is impossible: both sides have settled a node where they meet at cost c, so a sum that is no more is known
    not_more : IsMore → ⊥
    not_more more =
        let m = h.meets.0 in
        let a = h.meets.1.0 in
        let b = h.meets.1.1 in
        let from = least_reached H.up s m a h.meets.1.2 in
        let to = least_reached H.down t m b h.meets.1.3 in
        let sum : a.weight + b.weight ≡ c.weight = ap (λ (q : Cost). q.weight) h.meets.1.4 in
        let first = tight_settled H k Up s m a best_up queue_up up (tight_up H k s t m a b c h from to h.meets.1.4) from.weight
        (above queue_up past_up more a.weight (omega arith)) in
        let second = tight_settled H k Down t m b best_down queue_down down (tight_down H k s t m a b c h from to h.meets.1.4) to.weight
        (above queue_down past_down more b.weight (omega arith)) in
        let r = seen m first.0 second.0 first.1 second.1 in
        let high = more r.0 r.1 in
        let low = r.2 in
        let low_up = first.2 in
        let low_down = second.2 in
        omega arith

    -- the known sum is the least weight
    known : (o : Option ℕ) → least ≡ o → IsLeastWeight H s t o
    known None is = absurd (not_more (λ e there. absurd (let no : None ≡ Some e = sym is ∙ there in cc)))
    known (Some x) is = elim (cases_lt c.weight x) [
      | inl lt ↦ absurd (not_more (λ e there. let same = same_Some _ _ (sym is ∙ there) in omega arith))
      | inr ge ↦ (let low = no_less x is in (c, h, omega arith))
    ]

  -- if there is no walk, no sum is known
  nothing_found : IsUnreachable k.0 s t → (o : Option ℕ) → least ≡ o → IsLeastWeight H s t o
  nothing_found none None is = (law.never s t).0 none
  nothing_found none (Some x) is = let w = found_walks x is in absurd (none w.1.0 w.1.1)

  -- the known sum is the least weight, and if there is none, no node is reached from both ends
  pub weighed_least : IsLeastWeight H s t least
  weighed_least = elim ((kept_has_walks k.0 H k.1 k.2).decided s t) [
    | inl some ↦ known some.0 ((law.least s t some.0).0 some.1) least refl
    | inr none ↦ nothing_found none least refl
  ]

-- two searches by weights alone are enough
pub weights_are_enough : WeightsAreEnough
weights_are_enough H s t least best_up queue_up best_down queue_down k up down seen found past_up past_down =
    weighed_least H k s t least best_up queue_up best_down queue_down up down seen found past_up past_down
