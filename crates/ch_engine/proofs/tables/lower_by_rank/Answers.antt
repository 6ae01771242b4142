-- A rank lowers the row by the bucket of its slot, or by nothing if it has none.
use Rattle.std.proofs.Common.{ℕ, List, length, sym, subst, arith}
use Rattle.std.specs.Prelude.{All}
use Rattle.ch_query.specs.Lowered.{AreLowered}
use Rattle.ch_engine.specs.Slots.{IsSlotFound}
use Rattle.ch_engine.specs.Tables.{IsEntryAmong, IsSumAt}
use Rattle.ch_engine.proofs.TableWords.{rank_some}
use Rattle.ch_engine.proofs.tables.lower_by_rank.Goals as goal

pub row-requires : goal.row-requires
row-requires c =
    let slot = (c.slot.ensures c.in-Some.slot).1 c.in-Some.is in
    omega (arith, slot.0, c.requires.count)

pub lower-requires-clause-bucket : goal.lower-requires-clause-bucket
lower-requires-clause-bucket c =
    subst (All (IsEntryAmong (length c.args.row.now))) (sym c.row.ensures) (c.requires.buckets c.in-Some.slot)

pub returns : goal.returns
returns c =
    rank_some c.args.buckets.now.slots.now.names c.args.buckets.now.rows c.args.rank c.args.weight c.in-Some.slot c.args.row.now
    c.lower.new.row (subst (IsSlotFound c.args.buckets.now.slots.now.names c.args.rank) c.in-Some.is c.slot.ensures)
    (subst (λ (l : List (ℕ × ℕ)). AreLowered (IsSumAt c.args.weight l) c.args.row.now c.lower.new.row) c.row.ensures c.lower.ensures)
