-- How often the arcs of the legs of a plan lead from one node to another.
use Rattle.std.proofs.Common.{◌≡◌, ℕ, zero, suc, ◌+◌, ◌*◌, ◌<◌, ◌≤◌, ◌==◌, ◌&&◌, Bool, true, false, cond, List, [], ◌∷◌, ◌++◌, length}
use Rattle.std.proofs.Common.{get_or, Contains, Option, Some, None, refl, sym, ◌∙◌, ap, subst, arith, inl, inr}
use Rattle.std.specs.Prelude.{◌⊎◌}
use Rattle.std.proofs.Math.Nat.{mul-le-mul_left}
use Rattle.ch_query.specs.declared.routes.Route.{Route}
use Rattle.std.specs.List.{sum_by}
use Rattle.std.proofs.lemmas.Bool.{cases_lt}
use Rattle.std.proofs.lemmas.Bool.Decides.{nat_tests}
use Rattle.std.proofs.lemmas.List.Sums.{sum_by-append, sum_by-cons}
use Rattle.ch_graph.specs.declared.arc.InArc.{InArc}
use Rattle.ch_hierarchy.specs.Rows.{row}
use Rattle.ch_hierarchy.specs.Hierarchy.{LevelsAndLegs}
use Rattle.ch_hierarchy.specs.declared.side.Side.{Side}
use Rattle.ch_hierarchy.specs.declared.side.Side.TheVariants.{Up, Down}
use Rattle.ch_hierarchy.specs.Side.{rows_of}
use Rattle.ch_hierarchy.proofs.theory.Ordered.{same_ends}
use Rattle.ch_query.specs.Routes.{IsUnpacked, arc, shortcut}
use Rattle.ch_query.proofs.routing.Unpacked.{unpacked_one}
use Rattle.ch_flows.specs.declared.handing.Halves.{Halves}
use Rattle.ch_flows.specs.declared.plan.Link.{Link}
use Rattle.ch_flows.specs.Gathering.{IsOver}
use Rattle.ch_flows.specs.Handing.{AreShares, IsCount, IsExcess, most_flow, part_at, shares_of, weighed}
use Rattle.ch_flows.specs.Links.{IsBetween, IsLink, IsLinkUnpacked, from_of, head_of, link_at, tail_of, to_of}
use Rattle.ch_flows.specs.Plans.{IsPlan, IsTally, IsTallyBy, IsTooMuch, IsWay, AreFlows, AreTimes}
use Rattle.ch_flows.specs.Flows.{arcs_of, flow, times}

-- the arc of a leg
abbrev arc_of : Link → InArc
arc_of link = record { from = from_of link; to = to_of link; weight = link.leg.cost.weight }

-- the arcs of two lists
pub times-append : (u w : ℕ) (xs ys : List InArc) → times u w (xs ++ ys) ≡ times u w xs + times u w ys
times-append u w xs ys = sum_by-append _ xs ys

-- an arc from u to w counts once, and another does not count
one_time : (u w : ℕ) (a : InArc) → a.from ≡ u → a.to ≡ w → times u w (a ∷ []) ≡ 1
one_time u w a p q =
    let test : (a.from == u && a.to == w) ≡ true = grind (arith, nat_tests) in
    sum_by-cons (λ (b : InArc). cond (b.from == u && b.to == w) 1 0) a [] ∙ ap (λ (b : Bool). cond b 1 0 + 0) test

pub no_time : (u w : ℕ) (a : InArc) → (a.from ≡ u → a.to ≡ w → ⊥) → times u w (a ∷ []) ≡ 0
no_time u w a never = sum_by-cons (λ (b : InArc). cond (b.from == u && b.to == w) 1 0) a [] ∙ at (a.from == u && a.to == w) refl
  where
    at : (b : Bool) → (a.from == u && a.to == w) ≡ b → cond (a.from == u && a.to == w) 1 0 + 0 ≡ 0
    at true e = let same = same_ends u w a.from a.to e in absurd (never same.0 same.1)
    at false e = ap (λ (b : Bool). cond b 1 0 + 0) e

module _ (H : LevelsAndLegs) where
  -- a leg without a middle stands for one arc
  pub link_arc : (link : Link) → link.leg.middle ≡ None →
      IsLinkUnpacked H link (record { from = from_of link; to = to_of link; weight = link.leg.cost.weight } ∷ [])
  link_arc link none =
      subst (λ (m : Option ℕ). IsUnpacked H (from_of link) (to_of link) link.leg.cost.weight m
      (record { from = from_of link; to = to_of link; weight = link.leg.cost.weight } ∷ [])) (sym none)
      (arc {u = from_of link} {w = to_of link} {weight = link.leg.cost.weight})

  -- a half between v and x
  half_in : (side : Side) (v x : ℕ) (link : Link) → IsBetween side v x link → IsLink H link → Contains (row (rows_of H side) v) link.leg
  half_in side v x link b is =
      subst (λ (n : ℕ). Contains (row (rows_of H side) n) link.leg) b.low_is
      (subst (λ (s : Side). Contains (row (rows_of H s) link.low) link.leg) b.side_is is)

  half_unpacked : (side : Side) (v x : ℕ) (link : Link) (arcs : List InArc) → IsBetween side v x link → IsLinkUnpacked H link arcs →
      IsUnpacked H (tail_of side v x) (head_of side v x) link.leg.cost.weight link.leg.middle arcs
  half_unpacked side v x link arcs b is =
      let P : Side → ℕ → ℕ → Type 0 = λ s low node. IsUnpacked H (tail_of s low node)
      (head_of s low node) link.leg.cost.weight link.leg.middle arcs in
      subst (P side v) b.node_is (subst (λ (n : ℕ). P side n link.leg.node) b.low_is
      (subst (λ (s : Side). P s link.low link.leg.node) b.side_is is))

  module _ (links : List Link) (parts : List (Option Halves)) (plan : IsPlan H links parts) where
    -- a leg stands for the arcs of its halves
    joined : (i : ℕ) (two : Halves) → i < length parts → part_at parts i ≡ Some two → (xs ys : List InArc) →
        IsLinkUnpacked H (link_at links two.first) xs → IsLinkUnpacked H (link_at links two.second) ys →
        IsLinkUnpacked H (link_at links i) (xs ++ ys)
    joined i two low is xs ys p q =
        let h = plan.halves i two low is in
        let after = plan.later i two low is in
        let link = link_at links i in
        let a = link_at links two.first in
        let b = link_at links two.second in
        let ha = half_in Down h.middle (from_of link) a h.first (plan.legs two.first (omega (arith, after.2, plan.long))) in
        let hb = half_in Up h.middle (to_of link) b h.second (plan.legs two.second (omega (arith, after.3, plan.long))) in
        subst (λ (m : Option ℕ). IsUnpacked H (from_of link) (to_of link) link.leg.cost.weight m (xs ++ ys)) (sym h.is)
        (shortcut {weight = link.leg.cost.weight} ha h.first.node_is hb h.second.node_is
        (half_unpacked Down h.middle (from_of link) a xs h.first p) (half_unpacked Up h.middle (to_of link) b ys h.second q))

    -- each leg stands for some arcs
    unpacked_within : (n i : ℕ) → length parts ≤ i + n → i < length parts → (arcs : List InArc) × IsLinkUnpacked H (link_at links i) arcs
    unpacked_within zero i most low = absurd (omega (arith, most, low))
    unpacked_within (suc n) i most low = here (part_at parts i) refl (λ k after less. unpacked_within n k (omega (arith, most, after)) less)
      where
        here : (part : Option Halves) → part_at parts i ≡ part →
            ((k : ℕ) → i < k → k < length parts → (arcs : List InArc) × IsLinkUnpacked H (link_at links k) arcs) →
            (arcs : List InArc) × IsLinkUnpacked H (link_at links i) arcs
        here None e rec = (_, link_arc (link_at links i) (plan.arcs i low e))
        here (Some two) e rec =
            let after = plan.later i two low e in
            let first = rec two.first after.0 after.2 in
            let second = rec two.second after.1 after.3 in
            (first.0 ++ second.0, joined i two low e first.0 second.0 first.1 second.1)

    -- the arcs of each leg
    pub unpacked_at : (i : ℕ) → i < length parts → (arcs : List InArc) × IsLinkUnpacked H (link_at links i) arcs
    unpacked_at i low = unpacked_within (length parts) i (omega arith) low

    -- how often the arcs of a leg lead from u to w
    share_by : (u w i : ℕ) → (i < length parts) ⊎ (length parts ≤ i) → ℕ
    share_by u w i (inl low) = times u w (unpacked_at i low).0
    share_by u w i (inr past) = 0

    pub share_on : ℕ → ℕ → ℕ → ℕ
    share_on u w i = share_by u w i (cases_lt i (length parts))

    pub shares_on : (u w : ℕ) → AreTimes H links u w (share_on u w)
    unfolding share_on share_by
    shares_on u w i arcs low is = at (cases_lt i (length parts))
      where
        at : (c : (i < length parts) ⊎ (length parts ≤ i)) → share_by u w i c ≡ times u w arcs
        at (inl less) = ap (times u w) (unpacked_one H plan.levelled (unpacked_at i less).1 is)
        at (inr past) = absurd (omega (arith, low, past, plan.long))

    -- the number of a leg is the sum of those of its halves
    pub times_add : (u w : ℕ) (share : ℕ → ℕ) → AreTimes H links u w share → AreShares parts share
    times_add u w share are i two low is =
        let after = plan.later i two low is in
        let first = unpacked_at two.first after.2 in
        let second = unpacked_at two.second after.3 in
        let whole = are i (first.0 ++ second.0) (omega (arith, low, plan.long)) (joined i two low is first.0 second.0 first.1 second.1) in
        let a = are two.first first.0 (omega (arith, after.2, plan.long)) first.1 in
        let b = are two.second second.0 (omega (arith, after.3, plan.long)) second.1 in
        omega (arith, whole, a, b, times-append u w first.0 second.0)

    -- an arc counts itself once, and no other arc does
    pub times_count : (j : ℕ) (share : ℕ → ℕ) → j < length parts → part_at parts j ≡ None →
        AreTimes H links (from_of (link_at links j)) (to_of (link_at links j)) share → IsCount parts j share
    times_count j share low is are =
        let u = from_of (link_at links j) in
        let w = to_of (link_at links j) in
        record {
          within = low;
          arc = is;
          shares = times_add u w share are;
          itself = are j (arc_of (link_at links j) ∷ []) (omega (arith, low, plan.long)) (link_arc (link_at links j) (plan.arcs j low is))
              ∙ one_time u w (arc_of (link_at links j)) refl refl;
          others = λ i less none other.
              are i (arc_of (link_at links i) ∷ []) (omega (arith, less, plan.long)) (link_arc (link_at links i) (plan.arcs i less none))
              ∙ no_time u w (arc_of (link_at links i)) (λ p q. other (plan.apart i j (omega (arith, less, plan.long))
              (omega (arith, low, plan.long)) p q));
        }

    -- a place of an arc that a leg counts
    record CountsSome (i : ℕ) : Type 0 where
      place : ℕ
      low : place < length parts
      arc : part_at parts place ≡ None
      some : (share : ℕ → ℕ) → AreTimes H links (from_of (link_at links place)) (to_of (link_at links place)) share → 0 < share i

    -- each leg has an arc that it counts
    arc_within : (n i : ℕ) → length parts ≤ i + n → i < length parts → CountsSome i
    arc_within zero i most low = absurd (omega (arith, most, low))
    arc_within (suc n) i most low = here (part_at parts i) refl (λ k after less. arc_within n k (omega (arith, most, after)) less)
      where
        here : (part : Option Halves) → part_at parts i ≡ part → ((k : ℕ) → i < k → k < length parts → CountsSome k) → CountsSome i
        here None e rec = record {
          place = i;
          low = low;
          arc = e;
          some = λ share are. omega (arith, (times_count i share low e are).itself);
        }
        here (Some two) e rec =
            let after = plan.later i two low e in
            let first = rec two.first after.0 after.2 in
            record {
              place = first.place;
              low = first.low;
              arc = first.arc;
              some = λ share are. omega (
                arith,
                first.some share are,
                times_add (from_of (link_at links first.place)) (to_of (link_at links first.place)) share are i two low e,
              );
            }

    -- what is too much for a leg is too much for an arc
    pub too_much : (served : List (ℕ × Option Route)) (i amount : ℕ) → i < length parts → most_flow < amount →
        ((u w : ℕ) (share : ℕ → ℕ) → AreTimes H links u w share → amount * share i ≤ flow u w served) → IsTooMuch links parts served
    too_much served i amount low more most =
        let some = arc_within (length parts) i (omega arith) low in
        let u = from_of (link_at links some.place) in
        let w = to_of (link_at links some.place) in
        let share = share_on u w in
        let are = shares_on u w in
        let part = most u w share are in
        let once : amount * 1 ≤ amount * share i = mul-le-mul_left amount (some.some share are) in
        (some.place, some.low, some.arc, omega (arith, part, once, more))

    -- flows that were handed down
    pub flows_down : (served : List (ℕ × Option Route)) (old new : List ℕ) → IsTally H links served old →
        ((j : ℕ) (count : ℕ → ℕ) → IsCount parts j count → get_or new j 0 ≡ weighed count old) → AreFlows links parts served new
    flows_down served old new tally counts j low is =
        let u = from_of (link_at links j) in
        let w = to_of (link_at links j) in
        counts j (share_on u w) (times_count j (share_on u w) low is (shares_on u w)) ∙ tally u w (share_on u w) (shares_on u w)

    -- an arc would get too much while flows are handed down
    pub down_too_much : (served : List (ℕ × Option Route)) (old : List ℕ) → IsTally H links served old → IsExcess parts old →
        IsTooMuch links parts served
    down_too_much served old tally e =
        too_much served e.0 e.1 e.2 e.3 (λ u w share are. omega (arith, e.4 share (times_add u w share are), tally u w share are))

    -- one more pair
    flow_more : (u w : ℕ) (served : List (ℕ × Option Route)) (demand : ℕ) (answer : Option Route) →
        flow u w (served ++ (demand, answer) ∷ []) ≡ flow u w served + demand * times u w (arcs_of answer)
    flow_more u w served demand answer =
        let f : ℕ × Option Route → ℕ = λ p. p.0 * times u w (arcs_of p.1) in
        let one : sum_by f ((demand, answer) ∷ []) ≡ demand * times u w (arcs_of answer) + 0 = sum_by-cons f (demand, answer) [] in
        omega (arith, sum_by-append f served ((demand, answer) ∷ []), one)

    pub tally_more_by : (served : List (ℕ × Option Route)) (demand : ℕ) (answer : Option Route) (way : List ℕ)
        (old new : (ℕ → ℕ) → ℕ) → IsTallyBy H links served old → IsWay H links way (arcs_of answer) →
        ((share : ℕ → ℕ) → new share ≡ old share + demand * shares_of share way) →
        IsTallyBy H links (served ++ (demand, answer) ∷ []) new
    tally_more_by served demand answer way old new tally is added u w share are =
        let arcs = arcs_of answer in
        let e : demand * shares_of share way ≡ demand * times u w arcs = ap (λ (n : ℕ). demand * n) (is.times u w share are) in
        omega (arith, added share, tally u w share are, e, flow_more u w served demand answer)

    pub tally_more : (served : List (ℕ × Option Route)) (demand : ℕ) (answer : Option Route) (way old new : List ℕ) →
        IsTally H links served old → IsWay H links way (arcs_of answer) →
        ((share : ℕ → ℕ) → weighed share new ≡ weighed share old + demand * shares_of share way) →
        IsTally H links (served ++ (demand, answer) ∷ []) new
    tally_more served demand answer way old new =
        tally_more_by served demand answer way (λ share. weighed share old) (λ share. weighed share new)

    -- an arc has too much if a leg has too much of a total
    pub over_too_much : (served : List (ℕ × Option Route)) (total : (ℕ → ℕ) → ℕ) (legs : ℕ) → legs ≡ length parts →
        IsTallyBy H links served total → IsOver legs total → IsTooMuch links parts served
    over_too_much served total legs count tally over =
        too_much served over.0 over.1 (omega (arith, over.2, count)) over.3 (λ u w share are.
        omega (arith, over.4 share, tally u w share are))

    pub along_too_much : (served : List (ℕ × Option Route)) (demand : ℕ) (answer : Option Route) (way : List ℕ) (old : (ℕ → ℕ) → ℕ)
        (legs : ℕ) → legs ≡ length parts → IsTallyBy H links served old → IsWay H links way (arcs_of answer) →
        IsOver legs (λ share. old share + demand * shares_of share way) → IsTooMuch links parts (served ++ (demand, answer) ∷ [])
    along_too_much served demand answer way old legs count tally is =
        let new : (ℕ → ℕ) → ℕ = λ share. old share + demand * shares_of share way in
        over_too_much (served ++ (demand, answer) ∷ []) new legs count
        (tally_more_by served demand answer way old new tally is (λ share. refl))
