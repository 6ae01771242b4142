-- The lists of consecutive pieces, joined in order, have a value for each item.
use Rattle.std.proofs.Common.{refl}
use Rattle.std.proofs.lemmas.Result.{IfOk-weaker}
use Rattle.ch_work.proofs.PieceLists.{all_zipped}
use Rattle.ch_work.proofs.list_job.run_list_in.Goals as goal

pub returns-clause-values : goal.returns-clause-values
returns-clause-values g c =
    let items = c.args.items.now in
    let all = all_zipped (g.J.ListJob.meaning c.args.job.now) items _ c.args.crew.now.plan.piece c.in_ok-lists.lists.items refl
    c.in_ok-lists.ensures.limits.piece.0 c.in_ok-lists.ensures.values in
    IfOk-weaker c.joined.result _ _ (λ list is. rw is all) c.joined.ensures
