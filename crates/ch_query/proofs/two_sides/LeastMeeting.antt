-- Two searches that are past the least sum have found the meet, and have reached it at its least costs.
use Rattle.std.proofs.Common.{◌≡◌, ℕ, ◌≤◌, List, Option, Some, None, refl, sym, ◌∙◌, subst, inl, inr}
use Rattle.std.specs.Prelude.{MatchOption}
use Rattle.std.proofs.lemmas.Option.{same_Some}
use Rattle.ch_graph.specs.declared.cost.Cost.{Cost}
use Rattle.ch_graph.specs.Cost.{IsAtMost}
use Rattle.ch_graph.specs.Walk.{IsUnreachable}
use Rattle.ch_graph.specs.WalkLaws.{IsWalkCost}
use Rattle.ch_graph.proofs.CostOrder.{IsAtMost_refl, IsAtMost_trans, IsAtMost_antisymm}
use Rattle.ch_graph.proofs.CostSums.{cost_sum_comm, IsAtMost-cost_sum_self}
use Rattle.ch_graph.proofs.LeastSearch.{IsLeast-decided}
use Rattle.ch_graph.proofs.WalkCosts.{IsLeast-IsAtMost}
use Rattle.ch_hierarchy.specs.Hierarchy.{LevelsAndLegs}
use Rattle.ch_hierarchy.specs.Paths.{IsMeeting, IsMeet, NeverMeets}
use Rattle.ch_hierarchy.specs.KeptLaws.{IsLeastMeeting, MeetingsAreDistances}
use Rattle.ch_hierarchy.specs.declared.side.Side.TheVariants.{Up, Down}
use Rattle.ch_hierarchy.proofs.theory.KeptWalks.{meetings_are_distances}
use Rattle.ch_query.specs.ByNode.{costs_of, keys_of}
use Rattle.ch_query.specs.declared.question.Question.{Question}
use Rattle.ch_query.specs.declared.sides.search.Search.{Search}
use Rattle.ch_query.specs.Covering.{IsPastCost}
use Rattle.ch_query.specs.Descents.{HasReached}
use Rattle.ch_query.specs.Distance.{IsKeptForSome}
use Rattle.ch_query.specs.Meeting.{AreMeeting}
use Rattle.ch_query.specs.Questions.{stalling}
use Rattle.ch_query.specs.Search.{IsSettled}
use Rattle.ch_query.specs.TwoSided.{IsPast}
use Rattle.ch_query.proofs.one_side.End.{least_reached, settled}
use Rattle.ch_query.proofs.one_side.PathLaws.{then_below}
use Rattle.ch_query.proofs.two_sides.MeetingSteps.{past_by_node}
use Rattle.ch_query.proofs.one_side.TightNodes.{sum_walk, tight_up, tight_down, tight_reached}

-- a node that was reached is settled
reached_settled : (H : LevelsAndLegs) (q : Question) (x : Search) (m : ℕ) (a : Cost) → HasReached H q x m a →
    IsSettled (costs_of H x) (keys_of H x) m a
reached_settled H q x m a r =
    settled _ _ _ _ _ r.underway.search m a (r.underway.search.light m a r.known) r.past r.avoids m a r.known (IsAtMost_refl a)

module _ (H : LevelsAndLegs) (k : IsKeptForSome H) (s t : ℕ) (x y : Search) (least : Option (Cost × ℕ))
    (meeting : AreMeeting H (stalling Up s) (stalling Down t) x y least)
    (past_here : IsPast x.queue least) (past_there : IsPast y.queue least) where
  -- least meetings are distances
  law : MeetingsAreDistances k.0 H
  law = meetings_are_distances k.0 H k.1 k.2

  -- the known sum is the cost of a walk
  found_walks : (e : Cost × ℕ) → least ≡ Some e → IsWalkCost k.0 s t e.0
  found_walks e is = let f = meeting.found e is in subst (IsWalkCost k.0 s t) f.4 (sum_walk H k s t e.1 f.0 f.1 f.2 f.3)

  -- a least meeting
  module _ (c : Cost) (h : IsLeastMeeting H s t c) where
    -- the known sum is at least c
    no_less : (e : Cost × ℕ) → least ≡ Some e → IsAtMost c e.0
    no_less e is = IsLeast-IsAtMost k.0 s t c e.0 ((law.least s t c).1 h) (found_walks e is)

    -- each remaining key is above c
    above : (queue : List (Option Cost)) → IsPast queue least → (a : Cost) → IsAtMost a c → IsPastCost queue a
    above queue past a le v d key = let r = past v d key in then_below a r.0.0 d (IsAtMost_trans a c r.0.0 le (no_less r.0 r.1)) r.2

    -- a node where the sides meet at cost c is tight on both sides, so both searches have reached it at its least
    -- costs
    pub reached : (m : ℕ) (there : IsMeeting H s t m c) →
        HasReached H (stalling Up s) x m there.0 × HasReached H (stalling Down t) y m there.1
    reached m (a, b, rise, fall, sum) =
        let from = least_reached H.up s m a rise in
        let to = least_reached H.down t m b fall in
        let low = subst (IsAtMost a) sum (IsAtMost-cost_sum_self a b) in
        let low' = subst (IsAtMost b) (cost_sum_comm b a ∙ sum) (IsAtMost-cost_sum_self b a) in (
          tight_reached H k Up s x meeting.here m a (tight_up H k s t m a b c h from to sum)
              (above (keys_of H x) (past_by_node H x least past_here) a low),
          tight_reached H k Down t y meeting.there m b (tight_down H k s t m a b c h from to sum)
              (above (keys_of H y) (past_by_node H y least past_there) b low'),
        )

    -- the known sum is c, at a node that is at most that of each least meeting
    known : (m : ℕ) → IsMeeting H s t m c → (e : Cost × ℕ) × (least ≡ Some e) × (e.0 ≡ c) × (e.1 ≤ m)
    known m there =
        let both = reached m there in
        let r = meeting.seen m there.0 there.1 (reached_settled H _ x m there.0 both.0) (reached_settled H _ y m there.1 both.1) in
        let same : r.0.0 ≡ c = IsAtMost_antisymm r.0.0 c (subst (IsAtMost r.0.0) there.4 r.2.0) (no_less r.0 r.1) in
        (r.0, r.1, same, r.2.1 (same ∙ sym there.4))

    -- the known sum is that of the meet
    meet_found : (e : Cost × ℕ) × (least ≡ Some e) × IsMeet H s t e.1 e.0
    meet_found =
        let r = known h.meets.0 h.meets.1 in
        let f = meeting.found r.0 r.1 in
        let sum = f.4 ∙ r.2 in
        let from = tight_up H k s t r.0.1 f.0 f.1 c h f.2 f.3 sum in
        let to = tight_down H k s t r.0.1 f.0 f.1 c h f.2 f.3 sum in (
          r.0,
          r.1,
          subst (IsMeet H s t r.0.1) (sym r.2) (record {
            meets = (f.0, f.1, from.0, to.0, sum);
            least = λ n d there. (
              h.least n d there,
              λ same.
                  let other = known n (subst (IsMeeting H s t n) same there) in
                  subst (λ (q : Cost × ℕ). q.1 ≤ n) (same_Some _ _ (sym other.1 ∙ r.1)) other.3,
            );
          }),
        )

  -- if there is no walk, no sum is known
  nothing_found : IsUnreachable k.0 s t → (o : Option (Cost × ℕ)) → least ≡ o →
      MatchOption o (NeverMeets H s t) (λ e. IsMeet H s t e.1 e.0)
  nothing_found none None is = (law.never s t).0 none
  nothing_found none (Some e) is = let w = found_walks e is in absurd (none w.0 w.1)

  -- the known sum is that of the meet, and if there is none, no node is reached from both ends
  pub meeting_least : MatchOption least (NeverMeets H s t) (λ e. IsMeet H s t e.1 e.0)
  meeting_least = elim (IsLeast-decided k.0 s t) [
    | inl some ↦
        let r = meet_found some.0 ((law.least s t some.0).0 some.1) in
        subst (λ o. MatchOption o (NeverMeets H s t) (λ e. IsMeet H s t e.1 e.0)) (sym r.1) r.2
    | inr none ↦ nothing_found none least refl
  ]
