-- Clap has a value for the name exactly if the command line gives one.
use Rattle.std.proofs.Common.{◌≡◌, ◌∙◌, ap, Bor, Option, Some, None, refl}
use Rattle.std.specs.Prelude.{is_some, option_map}
use Rattle.clap.specs.Words.{Text, found_of}
use Rattle.clap.proofs.WalkLemmas.{first_value-rows}
use Rattle.ch_words.proofs.given.has_value.Goals as goal

some_text : (text : Option (Bor Text)) → is_some text ≡ is_some (option_map (λ (t : Bor Text). t.now) text)
some_text None = refl
some_text (Some text) = refl

pub returns : goal.returns
returns c =
    c.is_some.ensures ∙ some_text c.get_str.result
    ∙ ap is_some (c.get_str.ensures ∙ first_value-rows (found_of c.args.matches.now) c.args.name.now)
