-- The requests of one more batch are given and answered after those before it, up to the first that fails.
use Rattle.std.proofs.Common.{[]}
use Rattle.ch_run.specs.Serving.{weights_after}
use Rattle.ch_run.proofs.Answered.{batch_waits, ends_memory, ends_stopped}
use Rattle.ch_run.proofs.Owed.{ends_as}
use Rattle.ch_run.proofs.run.serving.answer_whole.Goals as goal

pub returns-in_err-answer_requests-clause-answered : goal.returns-in_err-answer_requests-clause-answered
returns-in_err-answer_requests-clause-answered g c =
    let given = rw c.loop.invariant.ended at c.gather-requests.ensures.given in
    let answers = rw c.deref.ensures.value at c.in_err-answer_requests.ensures.answers in
    rw (ends_as _ _ c.from_residual.ensures.1) (λ read first old h.
    answers c.args.stream.now.ended given.0 (weights_after c.gather-requests.result.then) read first old
    (batch_waits (c.loop.invariant.answered read first old h) given.1))

pub returns-in-Stop-clause-answered : goal.returns-in-Stop-clause-answered
returns-in-Stop-clause-answered g c =
    let given = rw (c.in-Stop.is, c.loop.invariant.ended) at c.gather-requests.ensures.given in
    let answers = rw c.deref.ensures.value at c.in_ok-answer_requests.ensures.answers in
    rw c.refusal.ensures (λ read first old h.
    let waits = batch_waits (c.loop.invariant.answered read first old h) given.1 in
    ends_stopped (answers c.args.stream.now.ended given.0 [] read first old waits) c.in-Stop.error given.2)

pub returns-clause-answered : goal.returns-clause-answered
returns-clause-answered g c = λ read first old h. ends_memory (c.loop.invariant.answered read first old h)
