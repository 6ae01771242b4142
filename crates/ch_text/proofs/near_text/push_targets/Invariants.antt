-- The text has grown by the targets and distances before the current pair.
use Rattle.std.proofs.Common.{◌≡◌, ◌++◌, take, flat_map}
use Rattle.ch_text.specs.NearText.{near_pair_text}
use Rattle.ch_text.proofs.near_text.push_targets.Given as goal

abbrev pub invariant-loop-weight : goal.invariant-loop-weight
invariant-loop-weight l = l.text.items ≡ l.fn.text.items ++ flat_map (near_pair_text l.targets) (take l.weight-index l.row)
