-- The status, the text and the line of a fault are those of one answer to the arguments.
use Rattle.chtab.proofs.program.run.Goals as goal

pub returns : goal.returns
returns g c = (c.answer_to-answer.result, c.answer_to-answer.ensures, c.end.ensures)
