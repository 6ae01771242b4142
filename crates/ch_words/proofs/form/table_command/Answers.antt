-- The command `table` has exactly the options and the files of its form.
use Rattle.std.proofs.Common.{codes}
use Rattle.std.proofs.lemmas.Result.{IfOk-weaker}
use Rattle.clap.specs.Words.{new_app}
use Rattle.ch_words.specs.Line.{table_rules}
use Rattle.ch_words.proofs.form.table_command.Goals as goal

pub returns : goal.returns
returns c =
    let with_options = c.with_graph-command.ensures (new_app (codes "table")) table_rules c.table_options.ensures
    (c.named-command.ensures.form, c.named-command.ensures.local) in
    let with_sources = c.with_arg.ensures _ _ with_options c.file-sources.ensures.rule c.file-sources.ensures.local in
    let made = c.with_arg-2.ensures _ _ with_sources c.file-targets.ensures.rule c.file-targets.ensures.local in
    record {
      form = IfOk-weaker c.with_arg-2.result _ _ (λ command is. is.0) made;
      local = IfOk-weaker c.with_arg-2.result _ _ (λ command is. is.1) made;
    }
