-- One more stop, and at the end all trees that have an entry of the node are met.
use Rattle.std.proofs.Common.{◌≡◌, ◌<◌, length, ℕ, set, refl, sym, ◌∙◌, subst, arith}
use Rattle.std.proofs.Math.ListN.{length-set}
use Rattle.ch_flows.specs.declared.meeting.Meeting.{Meeting as AnyMeeting}
use Rattle.ch_flows.specs.Meetings.{IsMetBefore, list_at, stop_at}
use Rattle.std.specs.Prelude.{slice_index_or}
use Rattle.ch_flows.proofs.Stops.{met_all, met_more, met_none}
use Rattle.ch_flows.proofs.meeting.meet_at.Goals as goal

pub loop-j-init : goal.loop-j-init
loop-j-init c = record {
  long = refl;
  met = λ ups lists n node low entry size order orders are before.
      met_none ups lists n node c.args.mark c.args.stops.now low entry order orders are c.args.meetings.now before;
}

pub loop-j-preserved : goal.loop-j-preserved
loop-j-preserved c =
    let l = c.loop-j in
    let inv = l.invariant in
    let stop = stop_at c.args.stops.now l.j in
    record {
      long = length-set l.meetings stop.0 c.nearer.result ∙ inv.long;
      met = λ ups lists n node low entry size order orders are before.
          met_more ups lists n node c.args.mark c.args.stops.now low entry order orders are l.j stop.0 stop.1 refl
          c.loop-j-test.true l.meetings (set l.meetings stop.0 c.nearer.result) _ c.nearer.result (inv.long ∙ sym size)
          c.nearer.ensures refl (inv.met ups lists n node low entry size order orders are before);
    }

pub returns-clause-met : goal.returns-clause-met
returns-clause-met c = λ ups lists n node low entry size order orders are before.
    let l = c.loop-j in
    let end : l.j ≡ length c.args.stops.now = omega (arith, c.loop-j-test.false, l.auto.j-end) in
    met_all ups lists n node c.args.mark c.args.stops.now low entry order orders are l.meetings
    (subst (λ (j : ℕ). (i : ℕ) → i < length lists → IsMetBefore ups (list_at lists i) n c.args.stops.now j i
    (slice_index_or l.meetings i AnyMeeting.Unknown)) end (l.invariant.met ups lists n node low entry size order orders are before))
