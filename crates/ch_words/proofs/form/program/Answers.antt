-- The program's own command reads arguments without its name, needs a tool, and beside tools knows only help and version.
use Rattle.std.proofs.Common.{◌∙◌, ap}
use Rattle.std.proofs.lemmas.Result.{IfOk-weaker}
use Rattle.clap.specs.Simple.{app_of_fields}
use Rattle.ch_words.proofs.Matches.{program_set}
use Rattle.ch_words.proofs.form.program.Goals as goal

pub returns : goal.returns
returns c =
    let set = program_set c.named.result c.no_binary_name.result c.subcommand_required.result c.disable_help_subcommand.result
    c.version.result _
    c.named.ensures.form c.no_binary_name.ensures c.subcommand_required.ensures c.disable_help_subcommand.ensures c.version.ensures in
    IfOk-weaker c.bin_name.result _ _ (λ command named. ap app_of_fields named.0 ∙ set) c.bin_name.ensures
