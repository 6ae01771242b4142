-- What searches are asked for.
use Rattle.std.specs.Prelude.{ℕ, true}
use Rattle.ch_graph.specs.declared.limits.TheConstants.{MOST_WEIGHT}
use Rattle.ch_hierarchy.specs.declared.side.Side.{Side}
use Rattle.ch_query.specs.declared.question.Ends.{Ends}
use Rattle.ch_query.specs.declared.question.Question.{Question}

-- a search from s that stalls, for paths of any weight within the limits
abbrev pub stalling : Side → ℕ → Question
stalling side s = record { side = side; source = s; stalls = true; most = MOST_WEIGHT }

-- a search from s to t for paths of any weight within the limits
abbrev pub all_paths : ℕ → ℕ → Ends
all_paths s t = record { start = s; end = t; most = MOST_WEIGHT }
