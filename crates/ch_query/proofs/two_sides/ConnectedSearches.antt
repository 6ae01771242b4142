-- Two searches that look for a way up and down within a bound.
use Rattle.std.proofs.Common.{◌≡◌, ◌↔◌, IsTrue, ℕ, ◌+◌, ◌≤◌, Bool, true, false, List, [], ◌∷◌, length, Some, Option, refl, sym, ap}
use Rattle.std.proofs.Common.{subst, arith, inl, inr}
use Rattle.std.specs.Prelude.{◌⊎◌, slice_index}
use Rattle.std.proofs.lemmas.Bool.{false≢true}
use Rattle.ch_graph.specs.declared.limits.TheConstants.{MOST_WEIGHT}
use Rattle.ch_graph.specs.declared.cost.Cost.{Cost}
use Rattle.ch_graph.specs.Cost.{IsAtMost, IsBelow, cost_sum, cost_at}
use Rattle.ch_graph.proofs.CostOrder.{IsAtMost_or_IsBelow, IsAtMost_trans, IsBelow-IsAtMost}
use Rattle.ch_graph.proofs.CostSums.{cost_sum_comm, IsAtMost-cost_sum, IsAtMost-cost_sum_self}
use Rattle.ch_hierarchy.specs.declared.leg.Leg.{Leg}
use Rattle.ch_hierarchy.specs.Hierarchy.{LevelsAndLegs, nodes_of, IsLevelled}
use Rattle.ch_hierarchy.specs.Paths.{IsUpwardPath, path_cost, IsLeastUpwardPath}
use Rattle.ch_query.specs.ByNode.{keys_of}
use Rattle.ch_query.specs.declared.question.Question.{Question}
use Rattle.ch_query.specs.declared.sides.search.Search.{Search}
use Rattle.ch_query.specs.Limits.{IsMost}
use Rattle.ch_query.specs.Meeting.{AreMeeting}
use Rattle.ch_query.specs.Search.{IsUpwardCost}
use Rattle.ch_query.specs.TwoSided.{IsPast}
use Rattle.ch_hierarchy.specs.Kept.{MeetsWithin}
use Rattle.ch_hierarchy.specs.declared.side.Side.{Side}
use Rattle.ch_hierarchy.specs.declared.side.Side.TheVariants.{Up, Down}
use Rattle.ch_hierarchy.specs.Side.{rows_of}
use Rattle.ch_query.specs.Covering.{IsSumWithin}
use Rattle.ch_query.proofs.one_side.End.{settled_least}
use Rattle.ch_query.proofs.one_side.Expanding.{leg_up, level_small}
use Rattle.ch_query.proofs.one_side.LeastPaths.{decided}
use Rattle.ch_query.proofs.one_side.PathLaws.{then_below}
use Rattle.ch_query.proofs.one_side.Spreads.{never_idle}
use Rattle.ch_query.proofs.two_sides.MeetingSteps.{past_by_node}

-- each leg of a path rises by at least one level
path_rises : (H : LevelsAndLegs) → IsLevelled H → (side : Side) (a b : ℕ) (legs : List Leg) → IsUpwardPath (rows_of H side) a b legs →
    length legs + slice_index H.level a ≤ slice_index H.level b
path_rises H k side a b [] p = let e : slice_index H.level a ≡ slice_index H.level b = ap (slice_index H.level) p in omega arith
path_rises H k side a b (l ∷ legs) p =
    let more = path_rises H k side l.node b legs p.1 in
    let up = (leg_up H k side a l p.0).higher in
    omega arith

-- a path has at most as many legs as there are nodes
path_short : (H : LevelsAndLegs) → IsLevelled H → (side : Side) (a b : ℕ) (legs : List Leg) → IsUpwardPath (rows_of H side) a b legs →
    length legs ≤ nodes_of H
path_short H k side a b legs p = let rise = path_rises H k side a b legs p in let small = level_small H k b in omega arith

-- if a node is reached, a least path to it costs no more
least_within : (H : LevelsAndLegs) → IsLevelled H → (side : Side) (s v : ℕ) (a : Cost) → IsUpwardCost (rows_of H side) s v a →
    (c : Cost) × IsLeastUpwardPath (rows_of H side) s v c × IsAtMost c a
least_within H k side s v a r = elim (decided (rows_of H side) v (nodes_of H) s (λ b legs p. path_short H k side s b legs p)) [
  | inl least ↦
      let le : IsAtMost (path_cost least.0) a = subst (IsAtMost (path_cost least.0)) r.path.2 (least.2 r.path.0 r.path.1) in
      let light : (path_cost least.0).weight ≤ MOST_WEIGHT = (let w = r.weight in let l = le.0 in omega arith) in
      (path_cost least.0, record { path = (least.0, least.1, refl); weight = light; least = λ ks p w. least.2 ks p }, le)
  | inr never ↦ absurd (never r.path.0 r.path.1)
]

-- if a node is reached from both ends within the bound, there is a meeting within the bound
pub meeting_within : (H : LevelsAndLegs) → IsLevelled H → (s t m : ℕ) (a b most : Cost) → IsUpwardCost H.up s m a →
    IsUpwardCost H.down t m b → IsAtMost (cost_sum a b) most → MeetsWithin H s t most
meeting_within H k s t m a b most up down le =
    let rise = least_within H k Up s m a up in
    let fall = least_within H k Down t m b down in (
      m,
      cost_sum rise.0 fall.0,
      (rise.0, fall.0, rise.1, fall.1, refl),
      IsAtMost_trans _ (cost_sum a b) _ (IsAtMost-cost_sum rise.0 a fall.0 b rise.2 fall.2) le,
    )

-- a search that stalls nowhere, for paths of at most this weight
abbrev unstalled : Side → ℕ → ℕ → Question
unstalled side s most = record { side = side; source = s; stalls = false; most = most }

-- two such searches
module _ (H : LevelsAndLegs) (s t most : ℕ) (bound : Cost) (limit : IsMost (Some bound.weight) most) (x y : Search)
    (least : Option (Cost × ℕ)) (m : AreMeeting H (unstalled Up s most) (unstalled Down t most) x y least) where
  -- a sum within the bound is that of a way
  pub sum_covers : IsSumWithin least bound → MeetsWithin H s t bound
  sum_covers (e, is, le) =
      let f = m.found e is in
      meeting_within H m.here.levelled s t e.1 f.0 f.1 bound f.2 f.3 (subst (λ sum. IsAtMost sum bound) (sym f.4) le)

  -- if no sum is within the bound and each remaining key is above the sum, each key is above the bound
  above : (IsSumWithin least bound → ⊥) → (queue : List (Option Cost)) → IsPast queue least → (a : Cost) → IsAtMost a bound →
      (v : ℕ) (d : Cost) → cost_at queue v ≡ Some d → IsBelow a d
  above none queue past a le v d key =
      let e = past v d key in
      then_below a e.0.0 d (elim (IsAtMost_or_IsBelow e.0.0 bound) [
        | inl low ↦ absurd (none (e.0, e.1, low))
        | inr high ↦ IsAtMost_trans a bound e.0.0 le (IsBelow-IsAtMost bound e.0.0 high)
      ]) e.2

  -- then there is no way within the bound
  pub no_sum_covers : (IsSumWithin least bound → ⊥) → IsPast x.queue least → IsPast y.queue least → MeetsWithin H s t bound → ⊥
  no_sum_covers none px py w =
      let a = w.2.0 in
      let b = w.2.1 in
      let sum : IsAtMost (cost_sum a b) bound = subst (λ c. IsAtMost c bound) (sym w.2.4) w.3 in
      let low : IsAtMost a bound = IsAtMost_trans a (cost_sum a b) bound (IsAtMost-cost_sum_self a b) sum in
      let right : IsAtMost b (cost_sum a b) = subst (IsAtMost b) (cost_sum_comm b a) (IsAtMost-cost_sum_self b a) in
      let low' : IsAtMost b bound = IsAtMost_trans b (cost_sum a b) bound right sum in
      let here = settled_least _ s _ _ _ m.here.search w.0 a (limit.whole a.weight w.2.2.weight low.0)
      (above none (keys_of H x) (past_by_node H x least px) a low)
      (λ v e legs idle p q. never_idle H (unstalled Up s most) refl v e idle) w.2.2 in
      let there = settled_least _ t _ _ _ m.there.search w.0 b (limit.whole b.weight w.2.3.weight low'.0)
      (above none (keys_of H y) (past_by_node H y least py) b low')
      (λ v e legs idle p q. never_idle H (unstalled Down t most) refl v e idle) w.2.3 in
      let e = m.seen w.0 a b here there in
      none (e.0, e.1, IsAtMost_trans e.0.0 (cost_sum a b) bound e.2.0 sum)

  -- once the searches have stopped, whether a sum is within the bound tells whether there is a way
  pub within_covers : (told : Bool) → IsTrue told ↔ IsSumWithin least bound →
      IsSumWithin least bound ⊎ (IsPast x.queue least × IsPast y.queue least) → IsTrue told ↔ MeetsWithin H s t bound
  within_covers true i stopped = (λ yes. sum_covers (i.0 yes), λ way. refl)
  within_covers false i (inl within) = absurd (false≢true (i.1 within))
  within_covers false i (inr past) =
      (λ yes. absurd (false≢true yes), λ way. absurd (no_sum_covers (λ within. false≢true (i.1 within)) past.0 past.1 way))
