-- The numbers of a problem line are those after its words, and there are none without these words.
use Rattle.ch_read.specs.Words.{words}
use Rattle.ch_read.specs.Forms.{problem_words, problem_size}
use Rattle.ch_read.proofs.Judging.{no_numbers, numbers_next}
use Rattle.ch_read.proofs.check.problem_numbers.Goals as goal

pub returns-in_err-after_problem_words : goal.returns-in_err-after_problem_words
returns-in_err-after_problem_words c =
    rw (c.from_residual.ensures) (no_numbers (problem_words c.args.form) (words c.args.rest.now) (problem_size c.args.form)
    c.in_err-after_problem_words.ensures)

pub returns : goal.returns
returns c =
    let same = numbers_next (problem_words c.args.form) (words c.args.rest.now) _ (problem_size c.args.form)
    c.in_ok-after_problem_words.ensures in
    rw same (rw (c.problem_size.ensures) at c.numbers_of.ensures)
