-- The error says that the number of lists is wrong.
use Rattle.ch_words.proofs.given.lists_error.Goals as goal

pub returns : goal.returns
returns c = c.error.ensures.kind
