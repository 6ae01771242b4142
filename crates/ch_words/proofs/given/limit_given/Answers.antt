-- The number that clap has for the name is the one that the command line gives for it, or there is none.
use Rattle.std.specs.Str.Parse.{ExplainsUnsignedError, HasUnsignedDigitsIfOk, ParsesUnsigned}
use Rattle.std.proofs.Common.{Some, None, rules}
use Rattle.clap.specs.Words.{found_of}
use Rattle.ch_words.proofs.Matches.{is_limit}
use Rattle.ch_words.proofs.given.limit_given.Goals as goal

pub returns-in-Ok-None-clause-given : goal.returns-in-Ok-None-clause-given
returns-in-Ok-None-clause-given c =
    is_limit (λ text r. ParsesUnsigned 64 10 text r × ExplainsUnsignedError 10 text r × HasUnsignedDigitsIfOk text r)
    (found_of c.args.matches.now) c.args.name.now c.try_get_one.result None (λ text r given. given.0)
    c.try_get_one.ensures.none c.try_get_one.ensures.value (search rules)

pub returns-in-Ok-Some-clause-given : goal.returns-in-Ok-Some-clause-given
returns-in-Ok-Some-clause-given c =
    is_limit (λ text r. ParsesUnsigned 64 10 text r × ExplainsUnsignedError 10 text r × HasUnsignedDigitsIfOk text r)
    (found_of c.args.matches.now) c.args.name.now c.try_get_one.result (Some c.in-Ok-Some.number) (λ text r given. given.0)
    c.try_get_one.ensures.none c.try_get_one.ensures.value (search rules)
