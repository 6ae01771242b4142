-- The text after the two words that query files and lists begin with is found exactly if both are there.
use Rattle.std.proofs.Common.{[], ◌∷◌}
use Rattle.std.specs.Prelude.{codes}
use Rattle.ch_read.specs.Words.{words}
use Rattle.ch_read.proofs.Judging.{other_front, and_next}
use Rattle.ch_read.proofs.check.after_auxiliary.Goals as goal

pub returns-in_err-after_word : goal.returns-in_err-after_word
returns-in_err-after_word c =
    rw (c.from_residual.ensures) (other_front (codes "aux" ∷ []) (codes "sp" ∷ []) (words c.args.rest.now) c.in_err-after_word.ensures)

pub returns : goal.returns
returns c = and_next (codes "aux" ∷ []) (codes "sp" ∷ []) (words c.args.rest.now) _ c.after_word-2.result c.in_ok-after_word.ensures
    c.after_word-2.ensures
