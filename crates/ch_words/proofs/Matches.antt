-- From clap's statements on its matches to the values that the words give.
use Rattle.std.proofs.Common.{◌≡◌, ◌⊎◌, ℕ, List, [], Option, Some, None, Result, Ok, refl, ap, ap₂, sym, ◌∙◌, subst, inl, inr}
use Rattle.std.proofs.Common.{codes, true, false, Bool, map, length, slice_index_or, ◌∷◌, if◌then◌else◌, unwrap_or, Bor, arith}
use Rattle.std.specs.Box.{box_value}
use Rattle.std.specs.Prelude.{Box, option_map}
use Rattle.std.specs.Str.Parse.{ParsesUnsigned}
use Rattle.clap.specs.Matches.{subcommand_name_of}
use Rattle.clap.specs.Simple.{app_of_fields, on_top}
use Rattle.clap.specs.Words.{App, HasMatchesOf, IsAmong, Kinds, ReadsOne, Row, Text, TriesOne, app_of, fault_of, is_simple_and_free}
use Rattle.clap.specs.Words.{new_app, one_text, rows_of, subcommand_rows, subcommand_rows_of, raw_values, matched_of}
use Rattle.clap.specs.declared.builder.command.Command.{Command}
use Rattle.clap.specs.declared.builder.command.Command.TheViews.{out-Command}
use Rattle.clap.specs.declared.error.kind.ErrorKind.{ErrorKind}
use Rattle.clap.specs.declared.error.kind.ErrorKind.TheVariants.{OutOfMemory, WrongNumberOfValues}
use Rattle.clap.specs.declared.parser.matches.ArgMatches.{ArgMatches}
use Rattle.clap.specs.declared.parser.matches.ArgMatches.TheViews.{out-ArgMatches, out-SubCommand}
use Rattle.clap.specs.declared.parser.matches.Found.{Found}
use Rattle.clap.specs.declared.parser.matches.SubCommand.{SubCommand}
use Rattle.std.proofs.lemmas.List.{length-map}
use Rattle.clap.proofs.WalkLemmas.{one_text-rows, raw_values-rows}
use Rattle.ch_words.specs.Line.{AreRefusedLists, AreRefusedOrders, HasOtherLists, IsFaultOf, IsFlag, IsFlagIn}
use Rattle.ch_words.specs.Line.{IsGivenBy, IsReadFrom, IsRefusedMix, IsToldOf, chtab_form, faults_of, given_by, name_of}
use Rattle.ch_words.specs.Line.{number_in, number_of, lists_in, program_form}
use Rattle.ch_words.specs.declared.line.Line.{Line}
use Rattle.ch_words.specs.declared.fault.LineFault.{LineFault}

-- a command with the program's name and settings has the form of the program's own words
pub program_set : (named unnamed requiring helpless versioned : Command) (text : Bor Text) → app_of named ≡ new_app (codes "chtab")
    → out-Command unnamed ≡ record (out-Command named) { no_binary_name = true }
    → out-Command requiring ≡ record (out-Command unnamed) { subcommand_required = true }
    → out-Command helpless ≡ record (out-Command requiring) { disable_help_subcommand = true }
    → out-Command versioned ≡ record (out-Command helpless) { version = Some text } → app_of versioned ≡ program_form
program_set named unnamed requiring helpless versioned text is first second third fourth =
    let with_first : app_of unnamed ≡ on_top (λ s. record s { no_binary_name = true }) (new_app (codes "chtab")) =
    ap app_of_fields first ∙ ap (on_top (λ s. record s { no_binary_name = true })) is in
    let with_second : app_of requiring ≡ on_top (λ s. record s { no_binary_name = true; subcommand_required = true })
    (new_app (codes "chtab")) =
    ap app_of_fields second ∙ ap (on_top (λ s. record s { subcommand_required = true })) with_first in
    let with_third : app_of helpless
    ≡ on_top (λ s. record s { no_binary_name = true; subcommand_required = true; disable_help_subcommand = true })
    (new_app (codes "chtab")) =
    ap app_of_fields third ∙ ap (on_top (λ s. record s { disable_help_subcommand = true })) with_second in
    ap app_of_fields fourth ∙ ap (on_top (λ s. record s { has_version = true })) with_third

-- the text of a flag decides its value
flag_is : (text : Option Text) (flag : Bool) → (text ≡ None → flag ≡ false) → (text ≡ Some (codes "true") → flag ≡ true) →
    (text ≡ Some (codes "false") → flag ≡ false) → IsFlag text flag
flag_is None flag none on off = none refl
flag_is (Some text) flag none on off = ((λ e. on (ap (λ t. Some t) e)), (λ e. off (ap (λ t. Some t) e)))

-- the flag that is read under a name is the given one
pub is_flag : (found : Found) (name : Text) (flag : Bool) → (one_text found name ≡ None → flag ≡ false)
    → (one_text found name ≡ Some (codes "true") → flag ≡ true) → (one_text found name ≡ Some (codes "false") → flag ≡ false)
    → IsFlagIn (rows_of found) name flag
is_flag found name flag none on off =
    let P : Option Text → Type 0 = λ text. IsFlag text flag in
    subst P (one_text-rows found name) (flag_is _ flag none on off)

-- the number that is read under a name is the one that the given text writes
pub is_number : {E : Type 0} (gives : List ℕ → Result ℕ E → Type 0) (found : Found) (name : Text) (read : Option ℕ) (number : ℕ)
    → ((text : List ℕ) (r : Result ℕ E) → gives text r → ParsesUnsigned 32 10 text r) → (one_text found name ≡ None → read ≡ None)
    → ((text : List ℕ) → one_text found name ≡ Some text → ReadsOne gives text read) → read ≡ Some number
    → Some number ≡ number_in (rows_of found) name
is_number {E} gives found name read number parses none value is =
    let P : Option Text → Type 0 = λ text. Some number ≡ option_map number_of text in
    subst P (one_text-rows found name) (at (one_text found name) none value)
  where
    at : (text : Option Text) → (text ≡ None → read ≡ None) → ((t : List ℕ) → text ≡ Some t → ReadsOne gives t read)
        → Some number ≡ option_map number_of text
    at None none value =
        let bad : None ≡ Some number = sym (none refl) ∙ is in
        cc
    at (Some text) none value =
        let reads : ReadsOne gives text (Some number) = subst (λ (r : Option ℕ). ReadsOne gives text r) is (value text refl) in
        let parsed = parses text (Ok number) reads in
        ap (λ n. Some n) parsed.1

-- the limit that is read under a name is the number that the given text writes, or none if no text is given
pub is_limit : {E : Type 0} (gives : List ℕ → Result ℕ E → Type 0) (found : Found) (name : Text) (read : Result (Option ℕ) E)
    (limit : Option ℕ)
    → ((text : List ℕ) (r : Result ℕ E) → gives text r → ParsesUnsigned 64 10 text r) → (one_text found name ≡ None → read ≡ Ok None)
    → ((text : List ℕ) → one_text found name ≡ Some text → TriesOne gives text read) → read ≡ Ok limit
    → limit ≡ number_in (rows_of found) name
is_limit {E} gives found name read limit parses none value is =
    let P : Option Text → Type 0 = λ text. limit ≡ option_map number_of text in
    subst P (one_text-rows found name) (at (one_text found name) none value)
  where
    written : (text : Text) (limit : Option ℕ) → TriesOne gives text (Ok limit) → limit ≡ Some (number_of text)
    written text None tries = absurd tries
    written text (Some number) tries = ap (λ n. Some n) (parses text (Ok number) tries).1

    at : (text : Option Text) → (text ≡ None → read ≡ Ok None) → ((t : List ℕ) → text ≡ Some t → TriesOne gives t read)
        → limit ≡ option_map number_of text
    at None none value =
        let both : Ok limit ≡ Ok None = sym is ∙ none refl in
        cc
    at (Some text) none value = written text limit (subst (λ (r : Result (Option ℕ) E). TriesOne gives text r) is (value text refl))

-- clap's statements on the faults of a command of this form hold of the faults of the words
pub of-faults : (P : Kinds → Type 0) (form : App) (words : List Text) → form ≡ chtab_form →
    (is_simple_and_free form ≡ true → P (fault_of form words)) → P (faults_of words)
of-faults P form words is said =
    let Q : App → Type 0 = λ f. is_simple_and_free f ≡ true → P (fault_of f words) in
    subst Q is said refl

-- the entered subcommand is the pair of its name and its rows
entry_of : (entry : Option (Text × List Row)) (name : Text) (given : List Row) → Some name ≡ option_map (λ p. p.0) entry
    → Some given ≡ option_map (λ p. p.1) entry → entry ≡ Some (name, given)
entry_of None name given is_name is_given = cc
entry_of (Some entry) name given is_name is_given =
    let same_name : entry.0 ≡ name = cc in
    let same_rows : entry.1 ≡ given = cc in
    ap₂ (λ n rows. Some (n, rows)) same_name same_rows

-- the name in the matches is the one beside their rows
name_of_entry : (matches : ArgMatches) → subcommand_name_of matches ≡ option_map (λ p. p.0) (subcommand_rows_of matches)
name_of_entry matches = go (out-ArgMatches matches).subcommand
  where
    go : {Z : Type 0} (sub : Option (Box SubCommand Z))
        → option_map (λ b. (out-SubCommand (box_value b)).name.now) sub ≡ option_map (λ p. p.0) (subcommand_rows sub)
    go None = refl
    go (Some b) = refl

-- the matches of a command of this form, with the name beside them, are those that the words give
pub given-by : (form : App) (words : List Text) (matches : ArgMatches) (name : Text) (given : List Row) → form ≡ chtab_form
    → HasMatchesOf form words matches → Some name ≡ subcommand_name_of matches →
    Some given ≡ option_map (λ p. p.1) (subcommand_rows_of matches)
    → given_by words ≡ Some (name, given)
given-by form words matches name given is matched is_name is_given =
    let P : App → Type 0 = λ f. HasMatchesOf f words matches in
    let same = subst P is matched refl in
    sym same.1 ∙ entry_of (subcommand_rows_of matches) name given (is_name ∙ name_of_entry matches) is_given

-- a fault that is reported for an error of the words is a fault of the words
pub fault-told : (words : List Text) (kind : ErrorKind) (fault : LineFault) → IsToldOf kind fault →
    (kind ≡ OutOfMemory) ⊎ IsAmong kind (faults_of words) → IsFaultOf words fault
fault-told words kind (LineFault.Help text) (inl help) (inl memory) = cc
fault-told words kind (LineFault.Help text) (inr version) (inl memory) = cc
fault-told words kind (LineFault.Help text) told (inr among) = (kind, told, among)
fault-told words kind (LineFault.Refused text) told (inl memory) = absurd (told.2 memory)
fault-told words kind (LineFault.Refused text) told (inr among) = inl (kind, told.0, told.1, among)
fault-told words kind LineFault.NoMemory told among = tt

-- the lists that are read are those that `near` is given
pub lists-read : (found : Found) (lists : List (Bor Text)) →
    Some (map (λ (v : Bor Text). v.now) lists) ≡ option_map raw_values (matched_of found (codes "LISTS"))
    → lists_in (rows_of found) ≡ map (λ (v : Bor Text). v.now) lists
lists-read found lists named = sym (ap (λ given. unwrap_or given []) (named ∙ raw_values-rows found (codes "LISTS")))

-- if the lists that are read have a wrong number, `near` is given a wrong number of lists
pub other-lists : (found : Found) (lists : List (Bor Text)) (all : Bool) →
    Some (map (λ (v : Bor Text). v.now) lists) ≡ option_map raw_values (matched_of found (codes "LISTS"))
    → IsFlagIn (rows_of found) (codes "all") all → (length lists ≡ (if all then 1 else 2) → ⊥) → HasOtherLists (rows_of found)
other-lists found lists all named flag other =
    let count : length (lists_in (rows_of found)) ≡ length lists =
    ap length (lists-read found lists named) ∙ length-map lists (λ (v : Bor Text). v.now) in
    (all, flag, λ same. other (sym count ∙ same))

-- a list of one, and then a list of two, by its elements
pub one-listed : (lists : List (Bor Text)) (d : Bor Text) → length lists ≡ 1 →
    map (λ (v : Bor Text). v.now) lists ≡ (slice_index_or lists 0 d).now ∷ []
one-listed [] d one = cc
one-listed (x ∷ []) d one = refl
one-listed (x ∷ y ∷ rest) d one = absurd (omega arith)

pub two-listed : (lists : List (Bor Text)) (d e : Bor Text) → length lists ≡ 2
    → map (λ (v : Bor Text). v.now) lists ≡ (slice_index_or lists 0 d).now ∷ (slice_index_or lists 1 e).now ∷ []
two-listed [] d e two = cc
two-listed (x ∷ []) d e two = absurd (omega arith)
two-listed (x ∷ y ∷ []) d e two = refl
two-listed (x ∷ y ∷ z ∷ rest) d e two = absurd (omega arith)

-- the fault that is reported for a wrong number of lists refuses them
pub refused-lists : (given : List Row) (fault : LineFault) → IsToldOf WrongNumberOfValues fault → HasOtherLists given →
    AreRefusedLists (codes "near") given fault
refused-lists given (LineFault.Help text) (inl help) other = cc
refused-lists given (LineFault.Help text) (inr version) other = cc
refused-lists given (LineFault.Refused text) told other = (refl, other)
refused-lists given LineFault.NoMemory told other = tt

-- if clap finds nothing wrong with the words, but the lists, the orders or other options are refused, that is the fault of the words
pub refused-fault : (words : List Text) (name : Text) (given : List Row) (fault : LineFault) → faults_of words ≡ []
    → given_by words ≡ Some (name, given) → AreRefusedLists name given fault ⊎ AreRefusedOrders given fault
    ⊎ IsRefusedMix given fault → IsFaultOf words fault
refused-fault words name given (LineFault.Help text) right matched (inl lists) = absurd lists
refused-fault words name given (LineFault.Help text) right matched (inr (inl orders)) = absurd orders
refused-fault words name given (LineFault.Help text) right matched (inr (inr mixed)) = absurd mixed
refused-fault words name given (LineFault.Refused text) right matched (inl lists) = inr (right, inl (rw matched lists))
refused-fault words name given (LineFault.Refused text) right matched (inr (inl orders)) = inr (right, inr (inl (rw matched orders)))
refused-fault words name given (LineFault.Refused text) right matched (inr (inr mixed)) = inr (right, inr (inr (rw matched mixed)))
refused-fault words name given LineFault.NoMemory right matched refused = tt

-- a line with the tool and the values that the words give is read from the words
pub read-from : (line : Line) (words : List Text) (name : Text) (given : List Row) → faults_of words ≡ []
    → given_by words ≡ Some (name, given) → name ≡ name_of line.job.question → IsGivenBy given line → IsReadFrom words line
read-from line words name given right matched is_named read =
    let named = subst (λ (n : Text). given_by words ≡ Some (n, given)) is_named matched in
    record { right = right; given = given; matched = named; read = read }
