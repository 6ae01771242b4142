-- Empty lists that are closed leave the others ready to be moved, and the array that is cut off after them holds all lists packed.
use Rattle.std.proofs.Common.{◌∙◌, length}
use Rattle.ch_lists.proofs.Closed.{closed_ready, packed_from}
use Rattle.ch_lists.proofs.packing.pack.Goals as goal

pub move_together-end-requires : goal.move_together-end-requires
move_together-end-requires g c = record {
  ready =
      rw (c.close_empty.ensures)
      (rw c.deref.ensures.value (closed_ready c.args.places.now (length c.args.values.now.items) c.in_ok-order.order.items
      c.requires c.in_ok-order.ensures));
}

pub returns-clause-ok : goal.returns-clause-ok
returns-clause-ok g c =
    rw (c.shrink_to_fit.ensures.items ∙ c.truncate.ensures.items)
    (packed_from _ _ _ _ _ c.close_empty.ensures c.move_together-end.ensures.packed)
