-- The run that the arguments ask for is an answer to these arguments.
use Rattle.std.proofs.Common.{inl}
use Rattle.chtab.proofs.program.answer_to.Goals as goal

pub returns-in-Ok-line_of : goal.returns-in-Ok-line_of
returns-in-Ok-line_of g c =
    let run = c.run_line.ensures in
    rw c.in-Ok.is (inl (
      c.in-Ok-line_of.line,
      c.run_line.result,
      rw c.deref.ensures.value at c.in-Ok-line_of.ensures.read,
      record {
        went = run.went;
        requests_once = run.requests_once;
        output = run.output;
      },
      c.program_answer.ensures,
    ))
