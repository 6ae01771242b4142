-- One more node gets the priority at its place, so in the end all nodes have theirs.
use Rattle.std.proofs.Common.{rules, ℕ, Bor, List, ◌≡◌, ◌+◌, ◌<◌, ◌++◌, ◌∷◌, [], to_z, of_z, w64, arith, length, length-append}
use Rattle.std.proofs.Common.{get_or, subst}
use Rattle.std.specs.Prelude.{ℤ, pos}
use Rattle.std.proofs.lemmas.Int.{to_z-of_z}
use Rattle.std.proofs.lemmas.Slice.Zip.{zip_turn, zip_end, AllZip-long}
use Rattle.std.proofs.lemmas.List.{take_all}
use Rattle.ch_graph.proofs.Lists.{zipped_at}
use Rattle.ch_order.specs.Priorities.{AreRefreshed, IsKeyIn}
use Rattle.ch_order.proofs.KeptPriorities.{refreshed_more}
use Rattle.ch_order.proofs.priority.PriorityJob.set_all.Goals as goal

pub loop-node-preserved : goal.loop-node-preserved
loop-node-preserved c =
    let job = c.args.self.now in
    let P = IsKeyIn job.keys job.remaining.now job.hops.number job.depths.now in
    let nodes = c.args.nodes.now in
    let anew = c.args.priorities.now in
    let yielded = c.loop-node.yielded in
    let pair : Bor ℕ × Bor ℤ = (c.in-Some.node, c.in-Some.priority) in
    let i = length yielded in
    let turn = zip_turn nodes anew yielded c.into_iter-node-iterator.result c.loop-node.node-iterator c.next.new.self c.next.result
    (search rules) (search rules) c.loop-node.yielded_by pair c.in-Some.is c.next.ensures.steps in
    let more : length (yielded ++ pair ∷ []) ≡ i + 1 = omega (arith, length-append yielded (pair ∷ [])) in
    let priority : P (get_or nodes i 0) (get_or anew i (pos 0)) = zipped_at P nodes anew i 0 (pos 0) c.requires.priorities turn.0 in
    let size = c.loop-node.invariant.size in
    let whole = c.requires.size in
    let node = c.requires.nodes i 0 turn.0 in
    let within : get_or nodes i 0 < length c.loop-node.waiting = omega arith in
    let same : to_z w64 (of_z w64 c.in-Some.priority.now) ≡ c.in-Some.priority.now = grind (arith, to_z-of_z) in
    rw (more, c.set.ensures, same, turn.2 0, turn.3 (pos 0)) (refreshed_more P nodes i _ _ _ turn.0 within priority c.loop-node.invariant)

pub returns : goal.returns
returns c =
    let job = c.args.self.now in
    let P = IsKeyIn job.keys job.remaining.now job.hops.number job.depths.now in
    let nodes = c.args.nodes.now in
    let anew = c.args.priorities.now in
    let end = zip_end nodes anew c.loop-node.yielded c.into_iter-node-iterator.result c.loop-node.node-iterator c.next.new.self
    c.next.result
    (search rules) (search rules) c.loop-node.yielded_by c.in-None.is c.next.ensures.steps in
    let long = AllZip-long P nodes anew c.requires.priorities in
    let all = take_all (length c.loop-node.yielded) nodes (omega arith) in
    subst (λ (l : List ℕ). AreRefreshed P l c.args.waiting.now c.loop-node.waiting) all c.loop-node.invariant
