-- A table or a list of places in front is answered alone.
use Rattle.std.proofs.Common.{drop, sym, ◌∙◌}
use Rattle.ch_read.specs.declared.request.Request.TheVariants.{Places, Table}
use Rattle.ch_run.specs.Serving.{places_of}
use Rattle.ch_run.proofs.Gathered.{front}
use Rattle.ch_run.proofs.run.first.answer_first.Goals as goal

pub returns-in-Table-clause-first : goal.returns-in-Table-clause-first
returns-in-Table-clause-first g c =
    rw (front c.args.requests.now _ (Table c.in-Table.lists) c.requires.some (sym c.index-requests-0.is ∙ c.in-Table.is))
    (c.first_table.ensures (places_of c.args.room.now.near) (drop 1 c.args.requests.now))

pub returns-in-Places-clause-first : goal.returns-in-Places-clause-first
returns-in-Places-clause-first g c =
    rw (front c.args.requests.now _ (Places c.in-Places.places) c.requires.some (sym c.index-requests-0.is ∙ c.in-Places.is))
    (c.take_places.ensures.first (drop 1 c.args.requests.now))
