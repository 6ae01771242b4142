-- One more branch is appended after the slot of its node.
use Rattle.std.proofs.Common.{◌≡◌, ◌<◌, ℕ, List, ◌++◌, [], ◌∷◌, get_or, length, sym, ap, ◌∙◌, subst}
use Rattle.std.specs.Prelude.{All}
use Rattle.std.proofs.lemmas.List.{take_more}
use Rattle.ch_engine.specs.declared.sum_meets.Stop.{Stop}
use Rattle.ch_engine.specs.declared.sum_trees.Branch.{Branch}
use Rattle.ch_engine.specs.Slots.{named}
use Rattle.ch_engine.specs.TableSums.{stop_pair}
use Rattle.ch_engine.proofs.SparseSets.{appended_more, named_more, slots_more}
use Rattle.ch_engine.proofs.sum_meets.push_stops.Goals as goal

pub loop-branch-preserved : goal.loop-branch-preserved
loop-branch-preserved c =
    let l = c.loop-branch in
    let i = l.branch-index in
    let branches = c.args.branches.now in
    let none : Branch = record { node = 0; cost = record { weight = 0; arcs = 0 }; sum = 0 } in
    let branch = get_or branches i none in
    let stop : Stop = record { place = c.args.place; cost = branch.cost; sum = branch.sum } in
    let old = l.slots.names in
    let new = c.slot_or_next.new.self.names in
    let pairs = l.pairs.items in
    let slot = c.in_ok-slot.slot in
    let more = c.slot_or_next.ensures.more in
    let own = c.in_ok-slot.ensures.slot in
    let is : c.push.new.self.items ≡ pairs ++ (slot, stop) ∷ [] = c.in_ok-push.ensures.items in
    record {
      numbers = c.slot_or_next.ensures.numbers ∙ l.invariant.numbers;
      low = subst (All (λ (p : ℕ × Stop). p.0 < length new)) (sym is)
          (slots_more branch.node old new more pairs l.invariant.low slot own stop);
      adds = ap (named new) is ∙ named_more branch.node old new more pairs l.invariant.low slot own stop
          ∙ ap (λ (ps : List (ℕ × Stop)). ps ++ (branch.node, stop) ∷ []) l.invariant.adds
          ∙ appended_more (stop_pair c.args.place) (named c.args.slots.now.names c.args.pairs.now.items) branches i branch
          (take_more branches i none c.loop-branch-test.true);
    }
