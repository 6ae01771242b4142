-- When no node waits, the hierarchy is one that begins with the given nodes that are small.
use Rattle.std.proofs.Common.{subst, refl, arith}
use Rattle.std.proofs.lemmas.Result.{IfOk-weaker}
use Rattle.ch_order.specs.Progress.{AreAll}
use Rattle.ch_order.specs.Construction.{progress_of}
use Rattle.ch_order.proofs.QuickSteps.{any_at_end, any_levelled}
use Rattle.ch_order.proofs.construction.Construction.finish_in_turn.Goals as goal

pub finish-requires-clause-levelled : goal.finish-requires-clause-levelled
finish-requires-clause-levelled g c H all =
    let i = c.in_ok-all.ensures.under_way in
    any_levelled _ _ _ _ i.after (c.in_ok-all.ensures.none refl) (omega (arith, i.sizes.nodes, i.nodes)) H
    (subst (λ n. AreAll n (progress_of c.in_ok-all.all) H) i.nodes all)

pub returns : goal.returns
returns g c =
    let i = c.in_ok-all.ensures.under_way in
    IfOk-weaker c.finish.result _ _
    (λ H all. any_at_end _ _ _ _ i.after (c.in_ok-all.ensures.none refl) H
    (subst (λ n. AreAll n (progress_of c.in_ok-all.all) H) i.nodes all)) c.finish.ensures
