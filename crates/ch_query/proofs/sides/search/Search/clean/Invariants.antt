-- Each node with a cost is still listed as touched, no node has a key, and each turn takes one node off the list.
use Rattle.std.proofs.Common.{◌≡◌, length, vec_len}
use Rattle.ch_query.specs.Search.{IsEmpty}
use Rattle.ch_query.specs.Underway.{IsRoom}
use Rattle.ch_query.proofs.sides.search.Search.clean.Given as goal

abbrev pub invariant-loop-rank : goal.invariant-loop-rank
invariant-loop-rank l = record {
  room : IsRoom l.self;
  empty : IsEmpty l.self.queue;
  nodes : length l.self.labels.costs ≡ length l.fn.self.labels.costs;
}

abbrev pub decreases-loop-rank : goal.decreases-loop-rank
decreases-loop-rank l = vec_len l.self.touched
