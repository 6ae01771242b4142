-- The trees of both ends are those of the engine's places and values, and their first meeting tells the sum.
use Rattle.std.proofs.Common.{◌∙◌, ℕ, Option, get_or, subst}
use Rattle.std.specs.Prelude.{MatchOption, option_map, ⊤}
use Rattle.std.specs.Arc.{arc_value}
use Rattle.ch_rows.specs.Kept.{asked_by}
use Rattle.ch_engine.specs.declared.place_trees.PlaceTrees.{PlaceTrees}
use Rattle.ch_engine.specs.Held.{Held}
use Rattle.ch_engine.specs.LegSums.{values_of}
use Rattle.ch_engine.specs.NearSums.{IsNearSum}
use Rattle.ch_engine.specs.PlaceTrees.{AreKeptTrees}
use Rattle.ch_engine.specs.TableSums.{AreBranches}
use Rattle.ch_engine.proofs.Meetings.{told_if}
use Rattle.ch_engine.proofs.NearTrees.{kept_branches, meeting_told}
use Rattle.ch_engine.proofs.engine.Engine.known_sum.Goals as goal

pub returns-clause-sum : goal.returns-clause-sum
returns-clause-sum c =
    let held = c.args.self.now in
    let source = c.args.source in
    let pair = c.args.pair in
    let tree = c.args.tree.now in
    let same = c.self.view_is ∙ c.need_tree.ensures in
    let trees = c.in-Some.trees in
    let far = c.in-Some-branches.branches.now in
    let view : Held = record {
      hierarchy = (arc_value c.self.inside.network).0;
      lines = (arc_value c.self.inside.network).1;
      near = option_map asked_by c.self.inside.kept;
      values = option_map (λ sums. values_of (arc_value sums)) c.self.inside.values;
    } in
    let kept : AreKeptTrees held trees = subst (λ (h : Held). AreKeptTrees h trees) same
    (subst (λ (o : Option PlaceTrees). MatchOption o ⊤ (AreKeptTrees view)) c.in-Some.is c.self.invariant.7) in
    let told = told_if c.known_meeting.result c.first_meeting.result (λ found. IsNearSum held source pair.1 pair.0 found.1)
    c.known_meeting.ensures (λ x some known. meeting_told held c.requires.lines source c.requires.source pair.1 pair.0 c.requires.pair
    tree c.requires.tree far (kept_branches held trees pair.1 far kept (λ side H lines values nodes are.
    subst (λ o. MatchOption o ⊤ (λ b. AreBranches side H lines values (get_or nodes pair.1 0) b.now)) c.in-Some-branches.is
    (c.branches.ensures side H lines values nodes are))) c.first_meeting.result (c.first_meeting.ensures c.requires.tree.slots) x some
    known) in
    subst (λ (o : Option (ℕ × ℕ)). MatchOption o ⊤ (λ found. IsNearSum held source pair.1 pair.0 found.1)) c.in-Some-known_meeting.is
    told
