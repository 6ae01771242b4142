-- The options of one tool, those of all tools and the file of the graph are added to the form, in this order.
use Rattle.std.proofs.Common.{List, fold, subst}
use Rattle.std.specs.Prelude.{IfOk}
use Rattle.clap.specs.Words.{Rule, with_rule}
use Rattle.ch_words.specs.Line.{HasForm}
use Rattle.ch_words.proofs.form.with_graph.Goals as goal

pub returns : goal.returns
returns c = λ form rules same given.
    let with_own = subst (λ (some : List Rule). IfOk c.with_options-command.result (HasForm (fold with_rule form some))) same
    (c.with_options-command.ensures form given) in
    let with_shared = subst
    (λ (some : List Rule). IfOk c.with_options.result (HasForm (fold with_rule (fold with_rule form rules) some)))
    c.shared_options.ensures (c.with_options.ensures _ with_own) in
    c.with_arg.ensures _ _ with_shared c.graph.ensures.rule c.graph.ensures.local
