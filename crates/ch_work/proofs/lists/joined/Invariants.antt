-- The items so far are those of the lists so far, and the lists that are left follow them.
use Rattle.std.proofs.Common.{◌≡◌, ◌++◌}
use Rattle.std.specs.List.{flat_map}
use Rattle.ch_work.proofs.lists.joined.Given as goal

abbrev pub invariant-loop-list : goal.invariant-loop-list
invariant-loop-list g l =
    (l.all.items ≡ flat_map (λ list. list.items) l.yielded) × (l.fn.lists.items ≡ l.yielded ++ l.list-iterator.rest.items)
