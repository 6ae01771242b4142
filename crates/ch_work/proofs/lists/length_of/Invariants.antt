-- The length is the number of items in the lists before the current one, or the greatest number if there are more.
use Rattle.std.proofs.Common.{◌≡◌, ◌^◌, ◌-◌, min, vec_len, take}
use Rattle.std.specs.List.{sum_by}
use Rattle.ch_work.proofs.lists.length_of.Given as goal

abbrev pub invariant-loop-list : goal.invariant-loop-list
invariant-loop-list g l = l.length ≡ min (sum_by vec_len (take l.list-index l.lists)) (2 ^ 64 - 1)
