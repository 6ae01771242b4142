-- The search spaces of two nodes together give the distance between them.
use Rattle.std.proofs.Common.{◌≡◌, ℕ, ◌+◌, ◌<◌, ◌≤◌, List, Contains, Option, Some, None, refl, sym, ap, subst, arith, inl, inr}
use Rattle.std.specs.Prelude.{MatchOption}
use Rattle.ch_graph.specs.declared.cost.Cost.{Cost}
use Rattle.ch_graph.specs.Cost.{cost_sum}
use Rattle.ch_graph.specs.Graph.{Network}
use Rattle.ch_graph.specs.Walk.{IsLeast}
use Rattle.ch_graph.specs.WalkLaws.{IsWalkCost}
use Rattle.ch_graph.proofs.WalkCosts.{IsLeast-IsAtMost}
use Rattle.ch_hierarchy.specs.Hierarchy.{LevelsAndLegs, nodes_of, IsLevelled}
use Rattle.ch_hierarchy.specs.Ranked.{rank_of}
use Rattle.ch_hierarchy.specs.Paths.{NeverMeets}
use Rattle.ch_hierarchy.specs.KeptLaws.{HasWalks, IsLeastMeeting, MeetingsAreDistances}
use Rattle.ch_hierarchy.specs.declared.side.Side.{Side}
use Rattle.ch_hierarchy.specs.declared.side.Side.TheVariants.{Up, Down}
use Rattle.ch_hierarchy.specs.Side.{rows_of}
use Rattle.ch_hierarchy.proofs.code.Ranked.{rank_one}
use Rattle.ch_hierarchy.proofs.theory.KeptWalks.{kept_has_walks, meetings_are_distances}
use Rattle.ch_query.specs.Distance.{IsKeptForSome, IsLeastWeight}
use Rattle.ch_query.specs.Limits.{IsWithin, IsCut, IsDistanceWithin}
use Rattle.ch_query.specs.SearchSpace.{IsPathWeight, IsTight, IsRankedSpace}
use Rattle.ch_query.specs.SearchSpaceLaws.{IsSharedSum, IsLeastSharedSum}
use Rattle.ch_query.proofs.two_sides.Distances.{weight_is_distance}
use Rattle.ch_query.proofs.one_side.End.{least_reached}
use Rattle.ch_query.proofs.one_side.TightNodes.{sum_walk, tight_up, tight_down}

-- x is the sum of the weights that P and Q have for one node
abbrev pub IsNodeSum : (ℕ → ℕ → Type 0) → (ℕ → ℕ → Type 0) → ℕ → Type 0
IsNodeSum P Q x = (v a b : ℕ) × P v a × Q v b × (a + b ≡ x)

-- a weight that is at most one within the limit is within the limit
pub within_less : (limit : Option ℕ) (x y : ℕ) → x ≤ y → IsWithin limit y → IsWithin limit x
within_less None x y le w = tt
within_less (Some most) x y le w = omega arith

-- P has weights of paths up from s, and the least weight of each tight node, all within the limit; Q has the same for
-- paths down to t
module _ (H : LevelsAndLegs) (k : IsKeptForSome H) (limit : Option ℕ) (s t : ℕ) (P Q : ℕ → ℕ → Type 0)
    (up_sound : (v x : ℕ) → P v x → IsPathWeight H.up s v x × IsWithin limit x)
    (up_whole : (v : ℕ) (c : Cost) → IsTight H Up s v c → IsWithin limit c.weight → P v c.weight)
    (down_sound : (v x : ℕ) → Q v x → IsPathWeight H.down t v x × IsWithin limit x)
    (down_whole : (v : ℕ) (c : Cost) → IsTight H Down t v c → IsWithin limit c.weight → Q v c.weight) where
  -- the graph that the hierarchy is kept for
  g : Network
  g = k.0

  -- the paths of the hierarchy are walks
  walks : HasWalks g H
  unfolding g
  walks = kept_has_walks k.0 H k.1 k.2

  -- the least meetings of the hierarchy are the distances
  law : MeetingsAreDistances g H
  unfolding g
  law = meetings_are_distances k.0 H k.1 k.2

  -- a sum is the weight of a walk
  sum_walks : (x : ℕ) → IsNodeSum P Q x → (d : Cost) × IsWalkCost g s t d × (d.weight ≡ x)
  unfolding g
  sum_walks x h =
      let up = (up_sound h.0 h.1 h.3).0 in
      let down = (down_sound h.0 h.2 h.4).0 in (
        cost_sum up.0 down.0,
        sum_walk H k s t h.0 up.0 down.0 up.1 down.1,
        (let a = up.2 in let b = down.2 in let e = h.5 in omega arith),
      )

  -- each sum is at least the least cost's weight
  pub no_less : (c : Cost) → IsLeastMeeting H s t c → (x : ℕ) → IsNodeSum P Q x → c.weight ≤ x
  no_less c h x sum =
      let walk = sum_walks x sum in
      let least : IsLeast g s t c = (law.least s t c).1 h in
      let le = IsLeast-IsAtMost g s t c walk.0 least walk.1 in
      let low = le.0 in
      let is = walk.2 in
      omega arith

  -- if there is no meeting, there is no sum
  pub none_without_walk : NeverMeets H s t → (x : ℕ) → IsNodeSum P Q x → ⊥
  none_without_walk never x sum = let walk = sum_walks x sum in (law.never s t).1 never walk.1.0 walk.1.1

  -- the weight of the least cost is a sum, if it is within the limit
  pub attained : (c : Cost) → IsLeastMeeting H s t c → IsWithin limit c.weight → IsNodeSum P Q c.weight
  attained c h low =
      let m = h.meets.0 in
      let a = h.meets.1.0 in
      let b = h.meets.1.1 in
      let up = h.meets.1.2 in
      let down = h.meets.1.3 in
      let sum : a.weight + b.weight ≡ c.weight = ap (λ (q : Cost). q.weight) h.meets.1.4 in
      let from = least_reached H.up s m a up in
      let to = least_reached H.down t m b down in (
        m,
        a.weight,
        b.weight,
        up_whole m a (tight_up H k s t m a b c h from to h.meets.1.4) (within_less limit a.weight c.weight (omega arith) low),
        down_whole m b (tight_down H k s t m a b c h from to h.meets.1.4) (within_less limit b.weight c.weight (omega arith) low),
        sum,
      )

  -- the least of the sums within the limit, or none if there is no sum
  abbrev IsLeastSum : Option ℕ → Type 0
  IsLeastSum o = MatchOption o ((x : ℕ) → IsNodeSum P Q x → IsWithin limit x → ⊥)
      (λ x. IsNodeSum P Q x × IsWithin limit x × ((y : ℕ) → IsNodeSum P Q y → IsWithin limit y → x ≤ y))

  -- the least sum within the limit is the least weight, if that is within the limit
  least_sum_cuts : (c : Cost) → IsLeastMeeting H s t c → (o : Option ℕ) → IsLeastSum o → IsCut limit (Some c.weight) o
  least_sum_cuts c h None none = (λ low. absurd (none c.weight (attained c h low) low), λ _. refl)
  least_sum_cuts c h (Some x) least =
      let low = no_less c h x least.0 in (
        λ within. let high = least.2 c.weight (attained c h within) within in let same : x ≡ c.weight = omega arith in ap Some same,
        λ above. absurd (above (within_less limit c.weight x low least.1)),
      )

  -- if there is no walk, there is no sum
  no_sum_cuts : NeverMeets H s t → (o : Option ℕ) → IsLeastSum o → o ≡ None
  no_sum_cuts never None none = refl
  no_sum_cuts never (Some x) least = absurd (none_without_walk never x least.0)

  -- the least sum is the distance within the limit
  pub least_sum_is_distance : (o : Option ℕ) → IsLeastSum o → IsDistanceWithin H limit s t o
  least_sum_is_distance o sum = elim (walks.decided s t) [
    | inl found ↦
        let c = found.0 in
        let meeting = (law.least s t c).0 found.1 in
        let least : IsLeastWeight H s t (Some c.weight) = (c, meeting, refl) in
        record {
          whole = Some c.weight;
          least = least;
          distance = weight_is_distance H s t (Some c.weight) least;
          cut =
              least_sum_cuts c meeting o sum;
        }
    | inr away ↦
        let never = (law.never s t).0 away in
        record { whole = None; least = never; distance = weight_is_distance H s t None never; cut = no_sum_cuts never o sum }
  ]

-- the weight that a ranked space has for a node, found by the node's rank
module _ (H : LevelsAndLegs) (levelled : IsLevelled H) (side : Side) (limit : Option ℕ) (s : ℕ) (list : List (ℕ × ℕ))
    (space : IsRankedSpace H side limit s list) where
  abbrev pub IsSaidOf : ℕ → ℕ → Type 0
  IsSaidOf v x = (v < nodes_of H) × Contains list (rank_of H v, x)

  -- this weight is that of a path
  pub said_sound : (v x : ℕ) → IsSaidOf v x → IsPathWeight (rows_of H side) s v x × IsWithin limit x
  said_sound v x (lt, has) =
      let r = space.sound (rank_of H v) x has in
      let one = rank_one H levelled r.0 v r.1 lt r.2 in
      (subst (λ w. IsPathWeight (rows_of H side) s w x) one r.3, r.4)

-- two ranked spaces
module _ (H : LevelsAndLegs) (k : IsKeptForSome H) (limit : Option ℕ) (s t : ℕ) (ups downs : List (ℕ × ℕ))
    (up : IsRankedSpace H Up limit s ups) (down : IsRankedSpace H Down limit t downs) where
  abbrev Ups : ℕ → ℕ → Type 0
  Ups = IsSaidOf H k.2.levelled Up limit s ups up

  abbrev Downs : ℕ → ℕ → Type 0
  Downs = IsSaidOf H k.2.levelled Down limit t downs down

  -- a sum that they share by rank is shared by node
  by_node : (x : ℕ) → IsSharedSum ups downs x → IsNodeSum Ups Downs x
  by_node x h =
      let r = up.sound h.0 h.1 h.3 in (
        r.0,
        h.1,
        h.2,
        (r.1, subst (λ q. Contains ups (q, h.1)) (sym r.2) h.3),
        (r.1, subst (λ q. Contains downs (q, h.2)) (sym r.2) h.4),
        h.5,
      )

  -- a sum that they share by node is shared by rank
  by_rank : (x : ℕ) → IsNodeSum Ups Downs x → IsSharedSum ups downs x
  by_rank x h = (rank_of H h.0, h.1, h.2, h.3.1, h.4.1, h.5)

  least_by_node : (answer : Option ℕ) → IsLeastSharedSum limit ups downs answer →
      MatchOption answer ((x : ℕ) → IsNodeSum Ups Downs x → IsWithin limit x → ⊥)
      (λ x. IsNodeSum Ups Downs x × IsWithin limit x × ((y : ℕ) → IsNodeSum Ups Downs y → IsWithin limit y → x ≤ y))
  least_by_node None none = λ x sum. none x (by_rank x sum)
  least_by_node (Some x) least = (by_node x least.0, least.1, λ y sum. least.2 y (by_rank y sum))

  -- two ranked spaces within a limit give the distance within that limit
  pub ranked_spaces_give_distance : (answer : Option ℕ) → IsLeastSharedSum limit ups downs answer → IsDistanceWithin H limit s t answer
  ranked_spaces_give_distance answer least =
      least_sum_is_distance H k limit s t Ups Downs (said_sound H k.2.levelled Up limit s ups up) up.whole
      (said_sound H k.2.levelled Down limit t downs down) down.whole
      answer (least_by_node answer least)
