-- New places are answered by no text, and take the place of those before.
use Rattle.std.proofs.Common.{refl}
use Rattle.ch_read.specs.declared.request.Request.TheVariants.{Places}
use Rattle.ch_run.proofs.Gathered.{one_answered}
use Rattle.ch_run.proofs.run.first.take_places.Goals as goal

pub returns-clause-first : goal.returns-clause-first
returns-clause-first g c = λ rest.
    rw (c.new.ensures.items, c.in_ok-search_from.ensures.places, c.nodes.ensures, c.count.ensures)
    (one_answered (Places c.args.places.now) refl)
