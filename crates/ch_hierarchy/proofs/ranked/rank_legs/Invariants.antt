-- The row has the legs before the current one, by rank.
use Rattle.std.proofs.Common.{◌≡◌, map, take}
use Rattle.ch_hierarchy.specs.Ranked.{ranked_in}
use Rattle.ch_hierarchy.proofs.ranked.rank_legs.Given as goal

abbrev pub invariant-loop-leg : goal.invariant-loop-leg
invariant-loop-leg l = l.row.items ≡ map (ranked_in l.levels) (take l.leg-index l.legs)
