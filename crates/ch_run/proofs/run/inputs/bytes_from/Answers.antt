-- An input that can count no more failures is left unread.
use Rattle.std.proofs.Common.{[], refl}
use Rattle.ch_run.proofs.run.inputs.bytes_from.Goals as goal

-- nothing was read
pub returns-then-not-counts_one_more-clause-unread : goal.returns-then-not-counts_one_more-clause-unread
returns-then-not-counts_one_more-clause-unread g c = ([], (0, refl))
