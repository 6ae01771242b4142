-- One more rank lowers the row by the bucket of its slot, if it has one.
use Rattle.std.proofs.Common.{ℕ, List, [], get_or, sym, subst}
use Rattle.std.specs.Prelude.{All}
use Rattle.std.proofs.lemmas.List.{take_all, take_more}
use Rattle.ch_query.specs.Lowered.{AreLowered}
use Rattle.ch_engine.specs.Tables.{IsEntryAmong, IsSumBy}
use Rattle.ch_engine.proofs.TableWords.{space_more, space_none}
use Rattle.ch_engine.proofs.tables.lower_row.Goals as goal

pub loop-i-init : goal.loop-i-init
loop-i-init c = space_none c.args.buckets.now.slots.now.names c.args.buckets.now.rows c.args.row.now

pub lower_by_rank-requires-clause-weight : goal.lower_by_rank-requires-clause-weight
lower_by_rank-requires-clause-weight c = c.requires.space c.loop-i.i (0, 0) c.loop-i-test.true

pub lower_by_rank-requires-clause-buckets : goal.lower_by_rank-requires-clause-buckets
lower_by_rank-requires-clause-buckets c = λ i.
    subst (λ (n : ℕ). All (IsEntryAmong n) (get_or c.args.buckets.now.rows i [])) (sym c.loop-i.invariant.size) (c.requires.buckets i)

pub loop-i-preserved : goal.loop-i-preserved
loop-i-preserved c =
    let l = c.loop-i in
    let space = c.args.space.now in
    space_more c.args.buckets.now.slots.now.names c.args.buckets.now.rows l.i space (get_or space l.i (0, 0))
    (take_more space l.i (0, 0) c.loop-i-test.true) c.args.row.now l.row c.lower_by_rank.new.row l.invariant c.lower_by_rank.ensures

pub returns : goal.returns
returns c =
    let l = c.loop-i in
    subst (λ (space : List (ℕ × ℕ)). AreLowered (IsSumBy c.args.buckets.now.slots.now.names c.args.buckets.now.rows space)
    c.args.row.now l.row) (take_all l.i c.args.space.now c.loop-i-test.false) l.invariant
