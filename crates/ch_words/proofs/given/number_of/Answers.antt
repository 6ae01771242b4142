-- The number that clap has for the name is the one that the command line gives for it.
use Rattle.std.specs.Str.Parse.{ExplainsUnsignedError, HasUnsignedDigitsIfOk, ParsesUnsigned}
use Rattle.std.proofs.Common.{rules}
use Rattle.clap.specs.Words.{found_of}
use Rattle.ch_words.proofs.Matches.{is_number}
use Rattle.ch_words.proofs.given.number_of.Goals as goal

pub returns-in-Some-clause-given : goal.returns-in-Some-clause-given
returns-in-Some-clause-given c =
    is_number (λ text r. ParsesUnsigned 32 10 text r × ExplainsUnsignedError 10 text r × HasUnsignedDigitsIfOk text r)
    (found_of c.args.matches.now) c.args.name.now c.get_one.result c.in-Some.number (λ text r given. given.0)
    c.get_one.ensures.none c.get_one.ensures.value (search rules)
