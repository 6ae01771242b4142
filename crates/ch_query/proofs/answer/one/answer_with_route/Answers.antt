-- A route that was found is the answer to its query, and no route means that the two nodes never meet.
use Rattle.std.proofs.Common.{true, Some, sym, subst}
use Rattle.std.specs.Prelude.{MatchOption}
use Rattle.ch_hierarchy.specs.Paths.{NeverMeets}
use Rattle.ch_query.specs.Replies.{IsReply}
use Rattle.ch_query.specs.Routes.{IsRoute}
use Rattle.ch_query.specs.Values.{Way}
use Rattle.ch_query.proofs.routing.Replies.{reply_none, reply_some}
use Rattle.ch_query.proofs.answer.one.answer_with_route.Goals as goal
use Rattle.ch_query.proofs.answer.one.answer_with_route.Goals.{in-Some, in-None}

pub returns-clause-reply : goal.returns-clause-reply
returns-clause-reply c =
    let H = c.args.hierarchy.now in
    let s = c.args.query.0 in
    let t = c.args.query.1 in
    let found = c.in_ok-route.ensures.route in
    elim c.match-branch-2.branch [
      | in-Some w ↦ rw w.weight-is
          (subst (λ (route : Way). IsReply H true (s, t)
          (record { from = s; to = t; weight = Some route.weight; arcs = Some route.arcs })) (sym w.route.view_is)
          (reply_some H s t w.in-Some.route (subst (λ o. MatchOption o (NeverMeets H s t) (IsRoute H s t)) w.in-Some.is found)))
      | in-None w ↦ rw w.weight-is (reply_none H s t (subst (λ o. MatchOption o (NeverMeets H s t) (IsRoute H s t)) w.in-None.is found))
    ]
