-- A line that is too long or has a fault is the error ahead, and any other line completes its request or leaves it incomplete.
use Rattle.ch_read.specs.Requests.{IsErrorAhead, Standing}
use Rattle.ch_read.proofs.Requests.{error_passed, no_feed, step_faulty, step_given, step_long, step_shorter}
use Rattle.ch_read.proofs.request_reader.RequestReader.step.Goals as goal
use Rattle.ch_read.proofs.request_reader.RequestReader.step.Goals.{in-Some-given, in-None}

pub returns-then-is_long-clause-fault : goal.returns-then-is_long-clause-fault
returns-then-is_long-clause-fault c =
    let inside = c.self.inside in
    let s : Standing = record { nodes = inside.nodes; line = inside.line; begun = inside.begun; pending = inside.pending } in
    rw (← c.self.view_is, c.fault_at.ensures, c.saturating_add-line.ensures)
    (step_long c.args.ended s (no_feed c.args.ended inside.pending c.in_default.ensures) (c.is_long.ensures.0 c.if-is_long.true))

pub returns-in_err-given-clause-fault : goal.returns-in_err-given-clause-fault
returns-in_err-given-clause-fault c =
    let inside = c.self.inside in
    let s : Standing = record { nodes = inside.nodes; line = inside.line; begun = inside.begun; pending = inside.pending } in
    let e = c.in_err-given.field-0.0 in
    rw (← c.self.view_is)
    (error_passed (IsErrorAhead c.args.ended s) c.from_residual.result e c.from_residual.ensures.1
    (step_faulty c.args.ended s c.in-Some.text.now c.in-Some.taken c.in-Some.ensures e
    (rw c.saturating_add-line.ensures at c.in_err-given.ensures.value)))

pub returns-clause-step : goal.returns-clause-step
returns-clause-step c =
    let inside = c.self.inside in
    let s : Standing = record { nodes = inside.nodes; line = inside.line; begun = inside.begun; pending = inside.pending } in
    let value = rw c.saturating_add-line.ensures at c.in_ok-given.ensures.value in
    let gives = step_given c.args.ended s c.in-Some.text.now c.in-Some.taken c.in-Some.ensures c.read_line.new.begun
    c.in_ok-given.given value in
    let shorter = step_shorter c.args.ended s c.in-Some.text.now c.in-Some.taken c.in-Some.ensures c.read_line.new.begun in
    rw (← c.self.view_is, c.advance.ensures, c.saturating_add-line.ensures)
    (elim c.match-given.branch [
      | in-Some-given w ↦ rw (w.result-is) (rw w.in-Some-given.is at gives)
      | in-None w ↦
          rw (w.result-is) (rw w.in-None.is at gives, shorter)
    ])
