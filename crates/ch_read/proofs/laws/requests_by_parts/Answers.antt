-- A stream that is cut anywhere has the requests and the fault of its parts.
use Rattle.ch_read.proofs.RequestLaws.{told_by_parts}
use Rattle.ch_read.proofs.laws.requests_by_parts.Goals as goal

pub returns : goal.returns
returns c = told_by_parts
