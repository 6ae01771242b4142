-- The command `dist` has exactly the options and the files of its form.
use Rattle.std.proofs.Common.{codes}
use Rattle.std.proofs.lemmas.Result.{IfOk-weaker}
use Rattle.clap.specs.Words.{new_app}
use Rattle.ch_words.specs.Line.{dist_rules}
use Rattle.ch_words.proofs.form.dist_command.Goals as goal

pub returns : goal.returns
returns c =
    let with_options = c.with_graph.ensures (new_app (codes "dist")) dist_rules c.dist_options.ensures
    (c.named-command.ensures.form, c.named-command.ensures.local) in
    let made = c.with_arg.ensures _ _ with_options c.file-queries.ensures.rule c.file-queries.ensures.local in
    record {
      form = IfOk-weaker c.with_arg.result _ _ (λ command is. is.0) made;
      local = IfOk-weaker c.with_arg.result _ _ (λ command is. is.1) made;
    }
