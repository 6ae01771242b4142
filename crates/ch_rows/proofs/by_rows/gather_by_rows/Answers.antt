-- The search spaces of the targets are in the buckets, and the values of the pieces are gathered from consecutive ranges
-- of sources.
use Rattle.std.proofs.Common.{length, refl}
use Rattle.std.proofs.lemmas.Result.{IfOk-weaker}
use Rattle.ch_hierarchy.specs.declared.side.Side.TheVariants.{Down}
use Rattle.ch_rows.specs.Buckets.{HoldLists}
use Rattle.ch_rows.specs.Table.{IsGathered}
use Rattle.ch_rows.proofs.Gathering.{parts_of}
use Rattle.ch_rows.proofs.HeldSpaces.{spaces_few, spaces_held, spaces_within}
use Rattle.ch_rows.proofs.by_rows.gather_by_rows.Goals as goal

pub gathered-requires-clause-listed : goal.gathered-requires-clause-listed
gathered-requires-clause-listed g c =
    let a = c.args in
    spaces_few a.hierarchy.now Down a.within a.targets.now c.in_ok-spaces.spaces.items c.in_ok-spaces.ensures.spaces c.requires.lists.1

pub gathered-requires-clause-ranks : goal.gathered-requires-clause-ranks
gathered-requires-clause-ranks g c =
    let a = c.args in
    spaces_within a.hierarchy.now Down a.within a.targets.now c.in_ok-spaces.spaces.items c.in_ok-spaces.ensures.spaces
    c.requires.kept.2.levelled c.nodes.result c.nodes.ensures.nodes

pub invariant_of-rows : goal.invariant_of-rows
invariant_of-rows g c =
    let a = c.args in
    spaces_held a.hierarchy.now Down a.within a.targets.now c.in_ok-spaces.spaces.items c.in_ok-spaces.ensures.spaces c.requires.kept
    c.requires.lists.1 (λ n spaces. HoldLists n (λ rank. rank) spaces c.in_ok-buckets.buckets) c.nodes.result c.nodes.ensures.nodes
    c.in_ok-buckets.ensures.held

pub returns : goal.returns
returns g c =
    let a = c.args in
    IfOk-weaker c.run_pieces_in.result _ _
    (λ values v. parts_of (IsGathered (g.J.RowJob.meaning a.job.now) a.hierarchy.now a.within a.targets.now) a.sources.now
    (length a.sources.now) a.crew.now.plan.piece values.items refl c.run_pieces_in.ensures.limits.piece.0 v) c.run_pieces_in.ensures.values
