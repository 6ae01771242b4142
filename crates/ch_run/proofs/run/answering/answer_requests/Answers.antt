-- The text of the first group answers its requests and the rest follow, and a failed write ends the answers within it.
use Rattle.std.proofs.Common.{Ok, Err, ap, arith, length, length-drop}
use Rattle.std.proofs.lemmas.List.{take_rest}
use Rattle.std.proofs.lemmas.List.Elements.{All-drop}
use Rattle.ch_read.specs.Requests.{IsRequest}
use Rattle.std.specs.Prelude.{is_some}
use Rattle.ch_run.specs.Frames.{IsCustomizedBy}
use Rattle.ch_run.proofs.Answered.{ends_memory, first_written}
use Rattle.ch_run.proofs.Owed.{ends_as}
use Rattle.ch_run.proofs.run.answering.answer_requests.Goals as goal

pub returns-in_err-first-clause-answers : goal.returns-in_err-first-clause-answers
returns-in_err-first-clause-answers g c = rw (ends_as _ _ c.from_residual.ensures.1) (λ ended reader later read first old h.
    ends_memory (c.loop-rest.invariant.answers ended reader later read first old h))

pub returns-in_err-write_answers-clause-answers : goal.returns-in_err-write_answers-clause-answers
returns-in_err-write_answers-clause-answers g c =
    let first = rw (← c.deref.ensures.value) at c.in_ok-first.ensures.first in
    let e = c.in_err-write_answers.field-0.0 in
    rw (ends_as _ e c.from_residual-in_err-write_answers.ensures.1) (λ ended reader later read start old h.
    first_written c.args.by.now.options.now (is_some c.args.by.now.checked.now.frame) (IsCustomizedBy c.args.by.now.checked.now.frame) later
    (c.loop-rest.invariant.answers ended reader later read start old h) first _ c.write_answers.new.written (Err e)
    c.in_err-write_answers.ensures.more)

pub loop-rest-preserved : goal.loop-rest-preserved
loop-rest-preserved g c =
    let rest = c.loop-rest.rest.now in
    let count = c.in_ok-first.first.count in
    let few = c.loop-rest.invariant.few in
    let left = take_rest rest count in
    let first = rw (← c.deref.ensures.value) at c.in_ok-first.ensures.first in
    record {
      room = c.in_ok-first.ensures.room;
      each = rw left (All-drop (IsRequest c.args.by.now.checked.now.graph.nodes) count rest c.loop-rest.invariant.each);
      few = omega (arith, ap length left, length-drop count rest);
      answers = λ ended reader later read start old h. rw left
          (first_written c.args.by.now.options.now (is_some c.args.by.now.checked.now.frame)
          (IsCustomizedBy c.args.by.now.checked.now.frame) later (c.loop-rest.invariant.answers ended reader later read start old h)
          first _ c.write_answers.new.written (Ok tt) c.in_ok-write_answers.ensures.more);
    }
