-- The sorted entries are still those of the lists that are not empty, and are in the order of their places.
use Rattle.ch_lists.proofs.Listed.{sorted_entries}
use Rattle.ch_lists.proofs.packing.in_order.Goals as goal

pub returns : goal.returns
returns c = sorted_entries _ _ _ c.in_ok-entries.ensures c.sort_unstable.ensures.permutation c.sort_unstable.ensures.sorted
