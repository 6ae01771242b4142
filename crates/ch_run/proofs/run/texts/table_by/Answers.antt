-- The parts of the table, joined, are the text of the table of the graph.
use Rattle.std.proofs.Common.{sym, subst}
use Rattle.std.proofs.lemmas.Result.{IfOk-weaker}
use Rattle.ch_text.specs.TableText.{IsTableText}
use Rattle.ch_run.proofs.run.texts.table_by.Goals as goal

pub returns : goal.returns
returns g c =
    let a = c.args in
    IfOk-weaker c.joined.result _ _ (λ text is network limits kept.
    subst (IsTableText network a.within a.sources.now a.targets.now) (sym is)
    (c.in_ok-parts.ensures.text network limits kept)) c.joined.ensures
