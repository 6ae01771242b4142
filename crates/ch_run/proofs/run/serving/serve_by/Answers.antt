-- Without memory for the places, no request is answered after those that were.
use Rattle.ch_run.proofs.Owed.{ends_as}
use Rattle.ch_run.proofs.Served.{serves_memory}
use Rattle.ch_run.proofs.run.serving.serve_by.Goals as goal

pub returns-in_err-room-clause-served : goal.returns-in_err-room-clause-served
returns-in_err-room-clause-served g c =
    rw (ends_as _ _ c.from_residual.ensures.1) (λ start first old h. serves_memory h)

pub returns-in_err-kept-clause-served : goal.returns-in_err-kept-clause-served
returns-in_err-kept-clause-served g c =
    let served = rw (c.in_ok-room.ensures.places, c.in-Some.is) at c.in_ok-weights.ensures.served in
    rw (ends_as _ _ c.from_residual-in_err-kept.ensures.1) (λ start first old h. serves_memory (served start first old h))
