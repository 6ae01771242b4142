-- The clauses on the first line of bytes, and on a line that is a word and then numbers with a space before each.
use Rattle.std.specs.Prelude.{◌≡◌, ℕ, ◌<◌, true, List, [], ◌∷◌, ◌++◌, length, Option}
use Rattle.std.specs.Str.{all_ascii_digits}
use Rattle.std.specs.Str.Parse.{digits_value}
use Rattle.ch_read.specs.declared.fault.FaultKind.{FaultKind}
use Rattle.ch_read.specs.declared.form.Form.{Form}
use Rattle.ch_read.specs.declared.form.Part.{Part}
use Rattle.ch_read.specs.declared.form.Part.TheVariants.{First, Second}
use Rattle.ch_read.specs.declared.form.Counts.{Counts}
use Rattle.ch_read.specs.declared.form.Heading.{Heading}
use Rattle.ch_read.specs.declared.form.Item.{Item}
use Rattle.ch_read.specs.declared.check.Line.{Line}
use Rattle.ch_read.specs.declared.check.Line.TheVariants.{First as OfFirst, Second as OfSecond}
use Rattle.ch_read.specs.Words.{lines, words}
use Rattle.ch_read.specs.Forms.{numbers_after}
use Rattle.ch_read.specs.Checks.{line_checks}
use Rattle.ch_read.specs.Reading.{AreCapped, Fails, IsLine, capped_number}

-- a space, then digits that write this number, which is capped, and then the rest
pub record HasSpacedNumber (bytes : List ℕ) (value : ℕ) (rest : List ℕ) : Type 0 where
  pub word : List ℕ
  pub split : bytes ≡ 32 ∷ word ++ rest
  pub some : 0 < length word
  pub digits : all_ascii_digits word ≡ true
  pub value_is : value ≡ capped_number (digits_value 10 word)

-- the first line is this word and then so many numbers, which have these values; after it comes the rest
pub record BeginsWithItem (word : List ℕ) (count : ℕ) (bytes values rest : List ℕ) : Type 0 where
  pub text : List ℕ
  pub more : List (List ℕ)
  pub split : lines bytes ≡ text ∷ lines rest
  pub less : length rest < length bytes
  pub words_are : words text ≡ word ∷ more
  pub values_are : AreCapped (numbers_after [] count more) values

-- the content of a line with an item of this part
abbrev pub item_line : Part → Item → Line
item_line First item = OfFirst item
item_line Second item = OfSecond item

-- the first line passes its checks, and has this content; after it comes the rest
pub record IsFirstLine (form : Form) (seen : Option Heading) (counts : Counts) (bytes : List ℕ) (line : Line) (rest : List ℕ) : Type 0 where
  pub text : List ℕ
  pub split : lines bytes ≡ text ∷ lines rest
  pub less : length rest < length bytes
  pub is : IsLine form seen counts (words text) line

-- the first line has this kind of fault; after it comes the rest
pub record FailsFirst (form : Form) (seen : Option Heading) (counts : Counts) (bytes : List ℕ) (kind : FaultKind) : Type 0 where
  pub text : List ℕ
  pub rest : List ℕ
  pub split : lines bytes ≡ text ∷ lines rest
  pub less : length rest < length bytes
  pub fails : Fails (line_checks form seen counts (words text)) kind
