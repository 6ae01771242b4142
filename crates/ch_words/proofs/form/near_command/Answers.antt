-- The command `near` has exactly the options and the files of its form.
use Rattle.std.proofs.Common.{◌≡◌, ◌∙◌, ap, codes, false}
use Rattle.std.proofs.lemmas.Result.{IfOk-weaker}
use Rattle.clap.specs.Simple.{app_of_fields}
use Rattle.clap.specs.Words.{app_of, new_app}
use Rattle.clap.specs.declared.builder.command.Command.{Command}
use Rattle.clap.specs.declared.builder.command.Command.TheOpen.{Command-F}
use Rattle.clap.specs.declared.builder.command.Command.TheViews.{out-Command}
use Rattle.ch_words.specs.Line.{near_rules}
use Rattle.ch_words.proofs.form.near_command.Goals as goal

pub returns : goal.returns
returns c =
    let named : app_of c.override_usage-command.result ≡ new_app (codes "near") =
    ap app_of_fields c.override_usage-command.ensures ∙ c.named.ensures.form in
    let local : (out-Command c.override_usage-command.result).has_globals ≡ false =
    ap (λ (fields : Command-F Command). fields.has_globals) c.override_usage-command.ensures ∙ c.named.ensures.local in
    let with_options = c.with_graph.ensures (new_app (codes "near")) near_rules c.near_options.ensures (named, local) in
    let made = c.with_arg.ensures _ _ with_options c.lists.ensures.rule c.lists.ensures.local in
    record {
      form = IfOk-weaker c.with_arg.result _ _ (λ command is. is.0) made;
      local = IfOk-weaker c.with_arg.result _ _ (λ command is. is.1) made;
    }
