-- The options of a command, added one after the other.
use Rattle.std.proofs.Common.{◌≡◌, ℕ, ◌+◌, ◌<◌, List, ap, ◌∙◌, get_or, length, take, fold, [], ◌∷◌}
use Rattle.std.proofs.lemmas.List.{map-append, take_more}
use Rattle.std.proofs.lemmas.List.Sums.{fold-append}
use Rattle.clap.specs.Words.{App, with_rule}
use Rattle.ch_words.specs.Options.{row_rule, rules_of}
use Rattle.ch_words.specs.declared.options.Row.{Row}

-- the form with the rules of one more row
pub with-one-more : (form : App) (rows : List Row) (i : ℕ) (d : Row) → i < length rows
    → fold with_rule form (rules_of (take (i + 1) rows))
    ≡ with_rule (fold with_rule form (rules_of (take i rows))) (row_rule (get_or rows i d))
with-one-more form rows i d within =
    ap (λ some. fold with_rule form (rules_of some)) (take_more rows i d within)
    ∙ ap (fold with_rule form) (map-append row_rule (take i rows) (get_or rows i d ∷ []))
    ∙ fold-append with_rule form (rules_of (take i rows)) (row_rule (get_or rows i d) ∷ [])
