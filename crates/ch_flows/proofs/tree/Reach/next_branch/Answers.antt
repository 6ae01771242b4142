-- The source's branch needs no step, and any other goes on from that of the entry before.
use Rattle.std.proofs.Common.{◌≡◌, ◌<◌, ℕ, length, ap, ◌∙◌, arith}
use Rattle.std.proofs.lemmas.List.{get_or_default}
use Rattle.ch_graph.specs.declared.cost.Cost.{Cost}
use Rattle.ch_graph.specs.Cost.{no_cost}
use Rattle.ch_flows.specs.Trees.{entry_at}
use Rattle.ch_flows.proofs.Branches.{next_goes_on}
use Rattle.ch_flows.proofs.tree.Reach.next_branch.Goals as goal

pub returns : goal.returns
returns c = λ side H links reach.
    let place = c.args.place in
    let entries = c.args.self.now.entries.items in
    let low : place < length entries = omega (arith, c.if-place-len.false) in
    let entry = c.index.result.now in
    let same : entry.0 ≡ (entry_at entries place).0 =
    ap (λ (e : ℕ × Cost). e.0) (c.index.ensures ∙ get_or_default entries place entry (0, no_cost) low) in
    next_goes_on side H links c.args.self.now reach c.args.branches.now place entry.0 c.in_ok-before.before c.in_ok-step.step low same
    (c.in_ok-step.ensures {u = tt}).1 c.if-node-source.false (c.in_ok-before.ensures {u = tt}).0 (c.in_ok-before.ensures {u = tt}).1
