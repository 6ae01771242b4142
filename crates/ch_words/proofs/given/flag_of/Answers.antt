-- The flag that clap has is set exactly if the command line gives it.
use Rattle.clap.specs.Words.{found_of}
use Rattle.ch_words.proofs.Matches.{is_flag}
use Rattle.ch_words.proofs.given.flag_of.Goals as goal

pub returns : goal.returns
returns c =
    is_flag (found_of c.args.matches.now) c.args.name.now _ c.get_flag.ensures.none c.get_flag.ensures.value c.get_flag.ensures.other
