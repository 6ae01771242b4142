-- The answer by the plain distance follows the text of the answers before it.
use Rattle.std.proofs.Common.{ℕ, None, refl}
use Rattle.std.proofs.lemmas.Result.{on_ok_weaker}
use Rattle.ch_query.specs.declared.answer.Answer.{Answer}
use Rattle.ch_text.specs.Distances.{AnswersShortly}
use Rattle.ch_run.proofs.Texts.{short_more}
use Rattle.ch_run.proofs.run.texts.push_plain.Goals as goal

pub returns : goal.returns
returns c =
    let query : ℕ × ℕ = (c.args.from, c.args.to) in
    let answer : Answer = record { from = c.args.from; to = c.args.to; weight = c.in_ok-weight.weight; arcs = None } in
    let short : AnswersShortly c.args.graph.now query answer = (record { from = refl; to = refl; weight = c.in_ok-weight.ensures }, refl) in
    on_ok_weaker c.push_answer.result (λ more done text. short_more c.args.graph.now done query answer
    c.args.text.now.items c.push_answer.new.text.items short text more) c.push_answer.ensures
