-- The rows before the current one have their words.
use Rattle.std.proofs.Common.{◌≡◌, ◌*◌, length}
use Rattle.std.specs.Prelude.{MatchOption, ⊤}
use Rattle.ch_hierarchy.specs.Hierarchy.{nodes_of}
use Rattle.ch_engine.specs.Cells.{AreTableCells}
use Rattle.ch_engine.proofs.network.Network.table_words.Given as goal

abbrev pub invariant-loop-i : goal.invariant-loop-i
invariant-loop-i l = record {
  scratch : l.scratch ≡ l.fn.scratch;
  tree : MatchOption l.by_tree ⊤ (λ scratch. scratch ≡ nodes_of l.self.0);
  long : length l.words.items ≡ l.i * length l.fn.asked.targets.now;
  cells : AreTableCells l.self.0 l.fn.asked.within l.fn.asked.sources.now l.fn.asked.targets.now l.words.items;
}
