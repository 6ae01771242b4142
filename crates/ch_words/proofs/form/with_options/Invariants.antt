-- The form has the rules of the options before the current one.
use Rattle.std.proofs.Common.{fold, take}
use Rattle.std.specs.Prelude.{IfOk}
use Rattle.clap.specs.Words.{App, with_rule}
use Rattle.ch_words.specs.Line.{HasForm}
use Rattle.ch_words.specs.Options.{rules_of}
use Rattle.ch_words.proofs.form.with_options.Given as goal

abbrev pub invariant-loop-row : goal.invariant-loop-row
invariant-loop-row l = (form : App) → IfOk l.initial.command (HasForm form) →
    IfOk l.command (HasForm (fold with_rule form (rules_of (take l.row-index l.rows))))
