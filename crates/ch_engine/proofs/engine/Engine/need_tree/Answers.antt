-- One more tree is that of its place for the kept values.
use Rattle.std.proofs.Common.{◌∙◌, ◌<◌, List, Option, length, sym, ap, subst, arith}
use Rattle.std.specs.Prelude.{MatchOption, option_map, ⊤}
use Rattle.std.specs.Arc.{arc_value}
use Rattle.std.proofs.lemmas.List.{get_or_read}
use Rattle.ch_hierarchy.specs.Hierarchy.{LevelsAndLegs}
use Rattle.ch_hierarchy.specs.declared.side.Side.{Side}
use Rattle.ch_hierarchy.specs.Direction.{target_side}
use Rattle.ch_rows.specs.Kept.{asked_by}
use Rattle.ch_engine.specs.declared.leg_sums.KeptSums.{KeptSums}
use Rattle.ch_engine.specs.declared.place_trees.PlaceTrees.{PlaceTrees}
use Rattle.ch_engine.specs.declared.sum_trees.Branch.{Branch}
use Rattle.ch_engine.specs.Held.{Held}
use Rattle.ch_engine.specs.LegSums.{values_of}
use Rattle.ch_engine.specs.Lines.{Lines}
use Rattle.ch_engine.specs.PlaceTrees.{AreKeptTrees}
use Rattle.ch_engine.specs.TableSums.{AreBranches}
use Rattle.ch_engine.proofs.NearTrees.{AreAsked, kept_more, kept_still, mapped}
use Rattle.ch_engine.proofs.engine.Engine.need_tree.Goals as goal

pub invariant_of-self-2 : goal.invariant_of-self-2
invariant_of-self-2 c =
    let inv = c.self.invariant in
    let network = arc_value c.self.inside.network in
    let H = network.0 in
    let lines = network.1 in
    let near = option_map asked_by c.self.inside.kept in
    let values = option_map (λ sums. values_of (arc_value sums)) c.self.inside.values in
    let view : Held = record { hierarchy = H; lines = lines; near = near; values = values } in
    let direction = c.self.inside.direction in
    let places = c.self.inside.places.items in
    let place = c.args.place in
    let node = c.index-node.result.now in
    let own = values_of (arc_value c.in-Some-values.kept) in
    let items = c.find_branches.new.room.branches.items in
    let low : place < length places = omega (arith, c.if-place-len.false, c.len.ensures) in
    let first : MatchOption c.take-known.result ⊤ (AreKeptTrees view) =
    subst (λ (o : Option PlaceTrees). MatchOption o ⊤ (AreKeptTrees view)) (sym c.take-known.ensures.value) inv.7 in
    let known : AreKeptTrees view c.in-Some.trees =
    subst (λ (o : Option PlaceTrees). MatchOption o ⊤ (AreKeptTrees view)) c.in-Some.is
    (kept_still near values H lines c.take-known.result c.keep-2.new.kept c.keep-2.ensures first) in
    let on_side : AreBranches (target_side direction) c.deref.result.now.0 c.deref.result.now.1 c.deref-2.result.now.values.items
    node items =
    subst (λ (s : Side). AreBranches s c.deref.result.now.0 c.deref.result.now.1 c.deref-2.result.now.values.items node items)
    c.target_side-side.ensures c.in_ok-find_branches.ensures.branches in
    let in_network : AreBranches (target_side direction) H lines c.deref-2.result.now.values.items node items =
    subst (λ (n : LevelsAndLegs × Lines). AreBranches (target_side direction) n.0 n.1 c.deref-2.result.now.values.items node items)
    c.deref.ensures on_side in
    let of_kept : AreBranches (target_side direction) H lines own node items =
    subst (λ (k : KeptSums). AreBranches (target_side direction) H lines k.values.items node items) c.deref-2.ensures in_network in
    let made : AreBranches (target_side direction) H lines own node c.deref-3.result.now =
    subst (λ (l : List Branch). AreBranches (target_side direction) H lines own node l) (sym c.deref-3.ensures.value) of_kept in
    let more : AreKeptTrees view c.push.new.self = kept_more near values H lines direction places place node own c.deref-3.result.now
    c.in-Some.trees c.push.new.self (mapped (AreAsked direction places) c.self.inside.kept inv.3)
    (get_or_read places _ _ low c.index-node.ensures 0)
    (ap (option_map (λ sums. values_of (arc_value sums))) c.in-Some-values.is) made c.push.ensures known in
    (c.find_branches.ensures.scratch ∙ inv.0, inv.1, inv.2, inv.3, inv.4, inv.5, inv.6, more, inv.8)
