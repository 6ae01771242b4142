-- The branches of the source meet the stops of all targets, and the row has the cells of the source.
use Rattle.std.proofs.Common.{◌≡◌, List, None, length, sym, ◌∙◌, ap, subst}
use Rattle.std.specs.Vec.{with_items}
use Rattle.std.proofs.lemmas.List.{length-replicate, with_items_is}
use Rattle.ch_hierarchy.specs.declared.side.Side.TheVariants.{Up}
use Rattle.ch_engine.specs.declared.sum_trees.Branch.{Branch}
use Rattle.ch_engine.specs.TableSums.{AreBranches, AreCells, AreOffers}
use Rattle.ch_engine.proofs.SumMeets.{branches_small, cells_are, offers_none, stops_within}
use Rattle.ch_engine.proofs.network.Network.find_row.Goals as goal

pub meet_branches-requires-clause-branches : goal.meet_branches-requires-clause-branches
meet_branches-requires-clause-branches c =
    let v = c.args.self.now in
    let values = c.args.table.now.kept.now.values.items in
    let made = subst (λ (es : List Branch). AreBranches Up v.0 v.1 values c.args.source es) (sym c.deref.ensures.value)
    c.in_ok-find_branches.ensures.branches in
    let stops = c.args.stops.now in
    branches_small v.0 v.1 values c.args.table.now.targets.now stops.slots.now.names stops.rows c.requires.stops c.args.source
    c.deref.result.now made

pub meet_branches-requires-clause-stops : goal.meet_branches-requires-clause-stops
meet_branches-requires-clause-stops c =
    let v = c.args.self.now in
    let values = c.args.table.now.kept.now.values.items in
    let targets = c.args.table.now.targets.now in
    let made = subst (λ (es : List Branch). AreBranches Up v.0 v.1 values c.args.source es) (sym c.deref.ensures.value)
    c.in_ok-find_branches.ensures.branches in
    let size : length c.in_ok-row.row.items ≡ length targets = ap length c.in_ok-row.ensures ∙ length-replicate (length targets) None in
    let stops = c.args.stops.now in
    stops_within v.0 v.1 values targets stops.slots.now.names stops.rows c.requires.stops c.args.source c.deref.result.now made
    (length c.as_mut_slice.result.now) (sym (ap length c.as_mut_slice.ensures.value ∙ size))

pub returns-clause-row : goal.returns-clause-row
returns-clause-row c =
    let v = c.args.self.now in
    let values = c.args.table.now.kept.now.values.items in
    let targets = c.args.table.now.targets.now in
    let s = c.args.source in
    let row = c.in_ok-row.row in
    let new = c.meet_branches.new.row in
    let made = subst (λ (es : List Branch). AreBranches Up v.0 v.1 values s es) (sym c.deref.ensures.value)
    c.in_ok-find_branches.ensures.branches in
    let size : length row.items ≡ length targets = ap length c.in_ok-row.ensures ∙ length-replicate (length targets) None in
    let lent : c.as_mut_slice.result.now ≡ row.items = c.as_mut_slice.ensures.value in
    let even : length new ≡ length row.items = c.meet_branches.ensures.long ∙ ap length lent in
    let written : (with_items row new).items ≡ new = with_items_is row new (even ∙ sym row.ok.0) in
    let none : AreOffers v.0 v.1 values s targets c.as_mut_slice.result.now =
    offers_none v.0 v.1 values targets s c.as_mut_slice.result.now (length targets) (lent ∙ c.in_ok-row.ensures) in
    subst (AreCells v.0 v.1 values s targets) (sym written)
    (cells_are v.0 v.1 values targets c.args.stops.now.slots.now.names c.args.stops.now.rows c.requires.stops s c.deref.result.now made new
    (even ∙ size)
    (c.meet_branches.ensures.offers v.0 v.1 values targets s (sym (ap length lent ∙ size)) made c.requires.stops none)
    c.meet_branches.ensures.covers)
