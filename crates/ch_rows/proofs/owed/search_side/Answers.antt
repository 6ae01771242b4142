-- The search spaces of the nodes, dealt over the items, are in the buckets.
use Rattle.std.proofs.lemmas.Result.{IfOk-weaker}
use Rattle.ch_rows.specs.Buckets.{HoldLists, HoldSearchSpaces}
use Rattle.ch_rows.specs.Dealing.{item_of}
use Rattle.ch_rows.proofs.HeldSpaces.{spaces_few, spaces_held, spaces_within}
use Rattle.ch_rows.proofs.owed.search_side.Goals as goal

pub of_lists-requires-clause-count : goal.of_lists-requires-clause-count
of_lists-requires-clause-count g c =
    let a = c.args in
    spaces_few a.hierarchy.now a.side a.within a.nodes.now c.in_ok-spaces.spaces.items c.in_ok-spaces.ensures.spaces c.requires.count

pub of_lists-requires-clause-ranks : goal.of_lists-requires-clause-ranks
of_lists-requires-clause-ranks g c =
    let a = c.args in
    spaces_within a.hierarchy.now a.side a.within a.nodes.now c.in_ok-spaces.spaces.items c.in_ok-spaces.ensures.spaces
    c.requires.kept.2.levelled a.dealing.now.nodes c.requires.dealing

pub returns-clause-buckets : goal.returns-clause-buckets
returns-clause-buckets g c =
    let a = c.args in
    let item = item_of a.dealing.now in
    IfOk-weaker c.of_lists.result _ (HoldSearchSpaces a.hierarchy.now a.side a.within item a.nodes.now)
    (λ buckets. spaces_held a.hierarchy.now a.side a.within a.nodes.now c.in_ok-spaces.spaces.items c.in_ok-spaces.ensures.spaces
    c.requires.kept c.requires.count (λ n spaces. HoldLists n item spaces buckets) a.dealing.now.nodes c.requires.dealing)
    c.of_lists.ensures
