-- The engine on the heap is the one that was opened.
use Rattle.std.proofs.Common.{sym, subst}
use Rattle.ch_engine.specs.Held.{Held, KeepsNothing}
use Rattle.ch_engine.specs.Opened.{IsOpenedLike}
use Rattle.ch_c.proofs.answers.opened_like.Goals as goal

pub returns-in-Ok-clause-value : goal.returns-in-Ok-clause-value
returns-in-Ok-clause-value c =
    subst (λ (held : Held). KeepsNothing held × IsOpenedLike c.args.graph.now c.args.other.now.hierarchy c.args.fresh held.hierarchy
    held.lines) (sym c.in-Ok.ensures.ok) c.in_ok-engine.ensures.value
