-- The text has grown by the lines of the legs before the current one.
use Rattle.std.proofs.Common.{◌≡◌, ◌++◌, take, flat_map}
use Rattle.ch_hierarchy.specs.Written.{leg_up}
use Rattle.ch_text.specs.SaveText.{leg_text}
use Rattle.ch_text.proofs.hierarchy_text.push_ups.Given as goal

abbrev pub invariant-loop-leg : goal.invariant-loop-leg
invariant-loop-leg l = l.text.items ≡ l.fn.text.items ++ flat_map (λ leg. leg_text (leg_up l.node leg)) (take l.leg-index l.legs)
