-- One more row has its words behind those before it.
use Rattle.std.proofs.Common.{◌≡◌, ◌*◌, ℕ, length, ap, sym, ◌∙◌, arith}
use Rattle.std.proofs.Math.Nat.{zero-mul}
use Rattle.ch_engine.proofs.TableWords.{cells_none, table_long, table_more}
use Rattle.ch_engine.proofs.network.Network.table_words.Goals as goal

pub loop-i-init : goal.loop-i-init
loop-i-init c = record {
  scratch = c.find_entries.ensures.scratch;
  tree = c.find_entries.ensures.tree;
  long = ap length c.in_ok-words.ensures.items ∙ sym (zero-mul (length c.args.asked.targets.now));
  cells = cells_none c.args.self.now.0 c.args.asked.within c.args.asked.sources.now c.args.asked.targets.now _ c.in_ok-words.ensures.items;
}

pub loop-i-preserved : goal.loop-i-preserved
loop-i-preserved c =
    let l = c.loop-i in
    let sources = c.args.asked.sources.now in
    let targets = c.args.asked.targets.now in
    let row = c.in_ok-push_row.ensures.row in
    let new = c.push_row.new.words.items in
    record {
      scratch = c.push_row.ensures.scratch ∙ l.invariant.scratch;
      tree = c.push_row.ensures.tree;
      long = table_long l.words.items row.0 new l.i (length targets) l.invariant.long row.1 row.2.size;
      cells = table_more c.args.self.now.0 c.args.asked.within sources targets l.words.items new row.0 l.i l.invariant.long
          l.invariant.cells
          row.1 row.2;
    }

pub returns-clause-size : goal.returns-clause-size
returns-clause-size c =
    let l = c.loop-i in
    let end : l.i ≡ length c.args.asked.sources.now = omega (arith, c.loop-i-test.false, l.auto.i-end) in
    l.invariant.long ∙ ap (λ (n : ℕ). n * length c.args.asked.targets.now) end
