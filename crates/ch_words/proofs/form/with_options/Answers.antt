-- One more option adds its rule to the form.
use Rattle.std.proofs.Common.{sym, subst}
use Rattle.std.specs.Prelude.{IfOk}
use Rattle.clap.specs.Words.{App}
use Rattle.ch_words.specs.Line.{HasForm}
use Rattle.ch_words.proofs.Rows.{with-one-more}
use Rattle.ch_words.proofs.form.with_options.Goals as goal

pub loop-row-preserved : goal.loop-row-preserved
loop-row-preserved c = λ form given.
    let more = c.with_arg-command.ensures _ _ (c.loop-row.invariant form given) c.argument.ensures.rule c.argument.ensures.local in
    subst (λ (f : App). IfOk c.with_arg-command.result (HasForm f))
    (sym (with-one-more form c.args.rows.now c.loop-row.row-index _ c.loop-row-test.true)) more
