-- The text after the words of a form's problem line is found exactly if all of them are there.
use Rattle.std.proofs.Common.{[], ◌∷◌}
use Rattle.std.specs.Prelude.{codes}
use Rattle.ch_read.specs.Words.{words}
use Rattle.ch_read.proofs.Judging.{other_front, and_next}
use Rattle.ch_read.proofs.check.after_problem_words.Goals as goal

pub returns-in_err-after_auxiliary-in-Queries : goal.returns-in_err-after_auxiliary-in-Queries
returns-in_err-after_auxiliary-in-Queries c =
    rw (c.from_residual.ensures, c.in-Queries.is) (other_front (codes "aux" ∷ codes "sp" ∷ []) (codes "p2p" ∷ [])
    (words c.args.rest.now) c.in_err-after_auxiliary-in-Queries.ensures)

pub returns-in_err-after_auxiliary-in-Nodes : goal.returns-in_err-after_auxiliary-in-Nodes
returns-in_err-after_auxiliary-in-Nodes c =
    rw (c.from_residual-in_err-after_auxiliary-in-Nodes.ensures, c.in-Nodes.is)
    (other_front (codes "aux" ∷ codes "sp" ∷ []) (codes "ss" ∷ []) (words c.args.rest.now) c.in_err-after_auxiliary-in-Nodes.ensures)

pub returns-in_ok-after_auxiliary-in-Queries : goal.returns-in_ok-after_auxiliary-in-Queries
returns-in_ok-after_auxiliary-in-Queries c =
    rw (c.in-Queries.is) (and_next (codes "aux" ∷ codes "sp" ∷ []) (codes "p2p" ∷ []) (words c.args.rest.now) _
    c.after_word-in-Queries.result
    c.in_ok-after_auxiliary-in-Queries.ensures c.after_word-in-Queries.ensures)

pub returns-in_ok-after_auxiliary-in-Nodes : goal.returns-in_ok-after_auxiliary-in-Nodes
returns-in_ok-after_auxiliary-in-Nodes c =
    rw (c.in-Nodes.is) (and_next (codes "aux" ∷ codes "sp" ∷ []) (codes "ss" ∷ []) (words c.args.rest.now) _ c.after_word-in-Nodes.result
    c.in_ok-after_auxiliary-in-Nodes.ensures c.after_word-in-Nodes.ensures)
