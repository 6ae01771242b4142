-- A tree more is that of its place, and without memory the trees are those before.
use Rattle.std.proofs.Common.{◌≡◌, ◌<◌, ℕ, List, None, Some, get_or, length, set, sym, subst, arith}
use Rattle.ch_engine.specs.declared.sum_trees.Branch.{Branch}
use Rattle.ch_engine.proofs.PlaceTrees.{Is, trees_more}
use Rattle.ch_engine.proofs.place_trees.PlaceTrees.push.Goals as goal

pub returns-in_err-push : goal.returns-in_err-push
returns-in_err-push c = λ side H lines values nodes made are p i at.
    subst (λ (rows : List (List Branch)). Is side H lines values nodes rows p i) (sym c.in_err-push.ensures.err) (are p i at)

pub returns : goal.returns
returns c = λ side H lines values nodes made are p i at.
    let numbers = c.args.self.now.numbers.items in
    let rows = c.args.self.now.trees in
    let place = c.args.place in
    let low : place < length numbers = omega (arith, c.if-place-len.false, c.len.ensures) in
    subst (λ (list : List (List Branch)). Is side H lines values nodes list p i) (sym c.in_ok-push.ensures.ok)
    (trees_more side H lines values nodes numbers rows place c.args.branches.now low made are p i
    (subst (λ (n : ℕ). get_or (set numbers place (Some n)) p None ≡ Some i) c.row_count-number.ensures at))
