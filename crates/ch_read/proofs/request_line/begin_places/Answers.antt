-- Two numbers within the limits start the places of a request, and others have the fault of this line.
use Rattle.std.proofs.Common.{sym, ◌∙◌}
use Rattle.ch_read.specs.Words.{words}
use Rattle.ch_read.proofs.RequestNumbers.{places_read}
use Rattle.ch_read.proofs.request_line.begin_places.Goals as goal

pub returns-clause-value : goal.returns-clause-value
returns-clause-value c =
    let values = c.in-Some.values in
    rw (c.begin.ensures, c.count_or_all.ensures)
    (places_read c.args.line c.args.begun.now (words c.args.rest.now) values (sym c.is_whole.ensures ∙ c.if-not-is_whole.false)
    c.in-Some.ensures c.if-places-gt-MOST_LISTED.false c.if-count-gt-MOST_LISTED.false)
