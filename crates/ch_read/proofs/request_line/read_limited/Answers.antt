-- The numbers are as many as are asked for, or one more, which is the limit.
use Rattle.ch_read.specs.Words.{words}
use Rattle.ch_read.proofs.RequestNumbers.{with_limit, without_limit}
use Rattle.ch_read.proofs.request_line.read_limited.Goals as goal

pub returns-in-Some : goal.returns-in-Some
returns-in-Some c = without_limit c.args.count (words c.args.rest.now) c.in-Some.values c.in-Some.ensures

pub returns : goal.returns
returns c = with_limit c.args.count (words c.args.rest.now) c.in_ok-values.values c.in_default.ensures c.in_ok-values.ensures
