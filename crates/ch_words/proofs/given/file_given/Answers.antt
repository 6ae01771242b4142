-- The value that clap has for the name is the first that the command line gives for it, or there is none.
use Rattle.std.proofs.Common.{◌≡◌, Some, None, ◌∙◌, rules}
use Rattle.clap.specs.Words.{first_of, first_value, found_of, rows_of}
use Rattle.clap.proofs.WalkLemmas.{first_value-rows}
use Rattle.ch_words.proofs.given.file_given.Goals as goal

pub returns-in_ok-from_str-in-Some : goal.returns-in_ok-from_str-in-Some
returns-in_ok-from_str-in-Some c =
    let found = found_of c.args.matches.now in
    let named : Some c.in-Some.file.now ≡ first_value found c.args.name.now = search rules in
    let given : Some c.in-Some.file.now ≡ first_of c.args.name.now (rows_of found) = named ∙ first_value-rows found c.args.name.now in
    search rules

pub returns-in-None : goal.returns-in-None
returns-in-None c =
    let found = found_of c.args.matches.now in
    let named : None ≡ first_value found c.args.name.now = search rules in
    let given : None ≡ first_of c.args.name.now (rows_of found) = named ∙ first_value-rows found c.args.name.now in
    search rules
