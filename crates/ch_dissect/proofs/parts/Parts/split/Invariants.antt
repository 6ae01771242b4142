-- The nodes stay.
use Rattle.std.proofs.Common.{◌≡◌, vec_len}
use Rattle.ch_dissect.proofs.parts.Parts.split.Given as goal

abbrev pub invariant-loop-group : goal.invariant-loop-group
invariant-loop-group l = (l.self.count ≡ l.initial.self.count) × (vec_len l.self.cursors ≡ vec_len l.initial.self.cursors)
