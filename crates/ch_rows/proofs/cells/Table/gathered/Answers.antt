-- One more row is added to what is gathered, so in the end all rows are.
use Rattle.std.proofs.Common.{[], ◌∷◌, ◌++◌, ℕ, List, Option, ◌≡◌, length, get_or, subst, arith}
use Rattle.ch_rows.proofs.Gathering.{row_added, all_added}
use Rattle.ch_rows.proofs.cells.Table.gathered.Goals as goal

pub overflow_cast-place : goal.overflow_cast-place
overflow_cast-place g c = omega (arith, c.loop-place-test.true, c.requires.count)

pub loop-place-preserved : goal.loop-place-preserved
loop-place-preserved g c =
    let i = c.loop-place.place in
    let sources = c.args.sources.now in
    let M = g.J.RowJob.meaning c.args.job.now in
    let before = c.loop-place.gathered in
    let after = c.add.new.gathered in
    let add = subst (λ (cells : List (Option ℕ)). (some : List ℕ) (list : List (List (Option ℕ))) → length list ≡ length some →
    M some list before → M (some ++ get_or sources i 0 ∷ []) (list ++ cells ∷ []) after) c.row.ensures c.in_ok-add.ensures in
    row_added M sources c.args.self.now c.requires.rows i before after c.loop-place-test.true c.loop-place.invariant add

pub returns : goal.returns
returns g c = all_added (g.J.RowJob.meaning c.args.job.now) c.args.sources.now c.args.self.now c.requires.rows c.loop-place.place
    c.loop-place.gathered c.loop-place-test.false c.loop-place.invariant
