-- The command `save` has exactly the options and the file of its form.
use Rattle.std.proofs.Common.{codes}
use Rattle.std.proofs.lemmas.Result.{IfOk-weaker}
use Rattle.clap.specs.Words.{new_app}
use Rattle.ch_words.specs.Line.{save_rules}
use Rattle.ch_words.proofs.form.save_command.Goals as goal

pub returns : goal.returns
returns c =
    let made = c.with_graph.ensures (new_app (codes "save")) save_rules c.save_options.ensures
    (c.named-command.ensures.form, c.named-command.ensures.local) in
    record {
      form = IfOk-weaker c.with_graph.result _ _ (λ command is. is.0) made;
      local = IfOk-weaker c.with_graph.result _ _ (λ command is. is.1) made;
    }
