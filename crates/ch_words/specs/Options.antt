-- The rules of clap that the rows of options give.
use Rattle.std.specs.Prelude.{List, map}
use Rattle.clap.specs.Words.{Rule, Text}
use Rattle.ch_words.specs.Line.{flag_rule, limit_rule, number_rule, option_rule}
use Rattle.ch_words.specs.declared.options.Row.{Row}
use Rattle.ch_words.specs.declared.options.Value.{Value}

-- the rule of an option of this name, with this value
abbrev pub value_rule : Text → Value → Rule
value_rule name Value.Nothing = flag_rule name
value_rule name Value.File = option_rule name
value_rule name (Value.Number shown most default) = number_rule name most default.now
value_rule name (Value.Limit shown least most) = limit_rule name least most

-- the rule of a row
abbrev pub row_rule : Row → Rule
row_rule row = value_rule row.name.now row.value

-- the rules of rows, in order
abbrev pub rules_of : List Row → List Rule
rules_of rows = map row_rule rows
