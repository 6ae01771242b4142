-- The pairs are those of the first query and of the queries like it before the current request.
use Rattle.std.proofs.Common.{◌≡◌, ◌∷◌, map, take}
use Rattle.ch_run.specs.Serving.{asked_for}
use Rattle.ch_run.proofs.run.first.pairs_in_front.Given as goal

-- the first request, and the requests after it so far
abbrev pub invariant-loop-request : goal.invariant-loop-request
invariant-loop-request l = map (asked_for l.routed) l.pairs.items ≡ asked_for l.routed l.fn.first ∷ take l.request-index l.rest
