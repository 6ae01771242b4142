-- The sources are those of the first near row and of those with its limit before the current request.
use Rattle.std.proofs.Common.{◌≡◌, ◌∷◌, map, take}
use Rattle.ch_run.specs.Serving.{near_row_of}
use Rattle.ch_run.proofs.run.first.sources_in_front.Given as goal

-- the first request, and the requests after it so far
abbrev pub invariant-loop-request : goal.invariant-loop-request
invariant-loop-request l = map (near_row_of l.within) l.sources.items ≡ near_row_of l.within l.first ∷ take l.request-index l.rest
