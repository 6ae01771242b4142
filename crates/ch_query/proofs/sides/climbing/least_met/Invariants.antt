-- The least sum covers the ancestors before this place.
use Rattle.ch_query.specs.Climbs.{AreMetTo}
use Rattle.ch_query.specs.Underway.{IsUnderway}
use Rattle.ch_query.specs.declared.question.Question.{Question}
use Rattle.ch_query.proofs.sides.climbing.least_met.Given as goal

abbrev pub invariant-loop-place : goal.invariant-loop-place
invariant-loop-place l = (q r : Question) → IsUnderway l.hierarchy q l.up → IsUnderway l.hierarchy r l.down →
    AreMetTo l.hierarchy q r l.ancestors l.place l.up l.down l.least
