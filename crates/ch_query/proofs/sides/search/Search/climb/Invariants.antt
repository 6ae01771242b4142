-- The legs of the ancestors before this place were taken.
use Rattle.ch_query.specs.Climbs.{IsClimbing}
use Rattle.ch_query.specs.Questions.{stalling}
use Rattle.ch_query.proofs.sides.search.Search.climb.Given as goal

abbrev pub invariant-loop-place : goal.invariant-loop-place
invariant-loop-place l = IsClimbing l.hierarchy (stalling l.fn.side l.source) l.ancestors l.place l.self
