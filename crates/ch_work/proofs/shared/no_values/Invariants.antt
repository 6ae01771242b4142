-- All places so far are empty.
use Rattle.std.proofs.Common.{◌≡◌, length, All, None}
use Rattle.ch_work.proofs.shared.no_values.Given as goal

abbrev pub invariant-loop : goal.invariant-loop
invariant-loop g l = (length l.places.items ≡ l.counter) × All (λ place. place ≡ None) l.places.items
