-- One more row has its weights and sums behind those before it.
use Rattle.std.proofs.Common.{◌≡◌, ◌+◌, length, slice_index, refl, sym, ◌∙◌, arith}
use Rattle.std.proofs.Math.Nat.{add-mul, zero-mul}
use Rattle.ch_flows.proofs.Cells.{row_ends}
use Rattle.ch_engine.specs.declared.written.SumsEnd.{SumsEnd}
use Rattle.ch_engine.specs.Held.{only}
use Rattle.ch_engine.proofs.NearRows.{stays_more}
use Rattle.ch_engine.proofs.TableSums.{row_few, row_whole, table_ends_at, table_more, table_none, written_at}
use Rattle.ch_engine.proofs.network.Network.write_rows.Goals as goal

pub loop-i-init : goal.loop-i-init
loop-i-init c = record {
  scratch = refl;
  at = sym (zero-mul (length c.args.table.now.targets.now));
  weighed = refl;
  long = refl;
  cells = table_none (only c.args.self.now.0 c.args.self.now.1) c.args.table.now.kept.now.values.items c.args.table.now.sources.now
      c.args.table.now.targets.now
      c.args.weights.now c.args.sums.now;
  behind = (λ k from. refl, λ k from. refl);
}

pub write_row-count-requires-clause-fits : goal.write_row-count-requires-clause-fits
write_row-count-requires-clause-fits c =
    let v = c.loop-i.invariant in
    let ends = row_ends c.loop-i.i (length c.args.table.now.sources.now) (length c.args.table.now.targets.now) c.loop-i-test.true in
    (omega (arith, v.at, v.weighed, ends, c.requires.cells.0), omega (arith, v.at, v.long, ends, c.requires.cells.1))

pub loop-i-preserved : goal.loop-i-preserved
loop-i-preserved c =
    let l = c.loop-i in
    let v = l.invariant in
    let network = c.args.self.now in
    let held = only network.0 network.1 in
    let values = c.args.table.now.kept.now.values.items in
    let sources = c.args.table.now.sources.now in
    let targets = c.args.table.now.targets.now in
    let s = slice_index sources l.i in
    let row = c.write_row-count.ensures in
    let new = c.write_row-count.new in
    let n = c.write_row-count.result.0 in
    let end = c.write_row-count.result.1 in
    let all : n ≡ length targets = row_whole held values s targets n end (c.is_all.ensures.whole c.if-not-is_all.false) row.end in
    let next = add-mul l.i 1 (length targets) in
    record {
      scratch = row.scratch ∙ c.find_row.ensures.scratch ∙ v.scratch;
      at = omega (arith, all, v.at, next);
      weighed = row.lengths.0 ∙ v.weighed;
      long = row.lengths.1 ∙ v.long;
      cells = table_more held values sources targets l.weights l.sums new.weights new.sums l.i l.first n v.at v.cells row.before row.cells
          (row_few held values s targets n end row.end);
      behind = (
        stays_more c.args.weights.now l.weights new.weights l.first (l.first + n) v.behind.0 (omega arith) row.behind.0,
        stays_more c.args.sums.now l.sums new.sums l.first (l.first + n) v.behind.1 (omega arith) row.behind.1,
      );
    }

pub returns-then-not-is_all-clause-written : goal.returns-then-not-is_all-clause-written
returns-then-not-is_all-clause-written c =
    let l = c.loop-i in
    let v = l.invariant in
    let network = c.args.self.now in
    let held = only network.0 network.1 in
    let values = c.args.table.now.kept.now.values.items in
    let sources = c.args.table.now.sources.now in
    let targets = c.args.table.now.targets.now in
    let s = slice_index sources l.i in
    let row = c.write_row-count.ensures in
    let new = c.write_row-count.new in
    let n = c.write_row-count.result.0 in
    let end = c.write_row-count.result.1 in
    written_at held values sources targets new.weights new.sums (l.first + n) end c.ended-then-not-is_all.result
    c.ended-then-not-is_all.ensures.0 c.ended-then-not-is_all.ensures.1
    (table_more held values sources targets l.weights l.sums new.weights new.sums l.i l.first n v.at v.cells row.before row.cells
    (row_few held values s targets n end row.end))
    (table_ends_at held values sources targets l.i l.first n end (c.is_all.ensures.early c.if-not-is_all.true)
    c.loop-i-test.true v.at row.end)

pub returns-in_default-clause-written : goal.returns-in_default-clause-written
returns-in_default-clause-written c =
    let l = c.loop-i in
    let v = l.invariant in
    let network = c.args.self.now in
    let sources = c.args.table.now.sources.now in
    let targets = c.args.table.now.targets.now in
    let ends = row_ends l.i (length sources) (length targets) c.loop-i-test.true in
    written_at (only network.0 network.1) c.args.table.now.kept.now.values.items sources targets l.weights l.sums l.first SumsEnd.NoMemory
    c.ended.result c.ended.ensures.0 c.ended.ensures.1 v.cells (omega (arith, v.at, ends))
