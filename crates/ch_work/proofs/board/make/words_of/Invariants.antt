-- The words so far are the counter and cells without an offer.
use Rattle.std.proofs.Common.{◌≡◌, ◌∷◌, replicate}
use Rattle.ch_work.specs.Rule.{none_yet}
use Rattle.ch_work.proofs.board.make.words_of.Given as goal

abbrev pub invariant-loop : goal.invariant-loop
invariant-loop l = l.words.items ≡ 0 ∷ replicate l.counter none_yet
