-- The words of the command line, and the line that they give.
use Rattle.std.specs.Prelude.{◌≡◌, ◌≢◌, ◌<◌, ◌≤◌, ◌⊎◌, ℕ, pos, [], ◌∷◌, ◌++◌, Bool, List, Option, Some, None, true, false, codes}
use Rattle.std.specs.Prelude.{String, fold, if◌then◌else◌, is_some, length, option_and_then, option_map, slice_get, unwrap_or, ⊤}
use Rattle.std.specs.Str.Parse.{digits_value, without_leading_plus}
use Rattle.std.specs.String.{string_bytes}
use Rattle.clap.specs.Words.{App, IsAmong, Kinds, Row, Rule, Text, all_of, app_of, fault_of, first_of, matched_of, new_app, new_rule}
use Rattle.clap.specs.Words.{one_of, subcommand_of, with_rule, with_subcommand}
use Rattle.clap.specs.Simple.{on_top}
use Rattle.clap.specs.declared.builder.ArgAction.TheVariants.{Append, Set, SetTrue}
use Rattle.clap.specs.declared.builder.command.Command.{Command}
use Rattle.clap.specs.declared.builder.command.Command.TheViews.{out-Command}
use Rattle.clap.specs.declared.builder.value_parser.ValueParser.TheVariants as parser
use Rattle.clap.specs.declared.error.kind.ErrorKind.{ErrorKind}
use Rattle.clap.specs.declared.parser.matches.Found.{Found}
use Rattle.clap.specs.declared.error.kind.ErrorKind.TheVariants.{DisplayHelp, DisplayVersion, OutOfMemory}
use Rattle.ch_graph.specs.declared.limits.TheConstants.{MOST_HOPS, MOST_LISTED, MOST_WEIGHT}
use Rattle.ch_work.specs.declared.limits.TheConstants.{MOST_WORKERS, MOST_PIECE}
use Rattle.ch_work.specs.Plan.{Division}
use Rattle.ch_words.specs.declared.fault.LineFault.{LineFault}
use Rattle.std.specs.declared.alloc.Global.{Global}
use Rattle.ch_contract.specs.declared.measure.OrderBy.{OrderBy}
use Rattle.ch_hierarchy.specs.declared.direction.Direction.{Direction}
use Rattle.ch_job.specs.Job.{IsAllowed as IsJobAllowed}
use Rattle.ch_job.specs.declared.job.Question.{Question}
use Rattle.ch_job.specs.declared.options.Options.{Options}
use Rattle.ch_job.specs.declared.source.Source.{Source}
use Rattle.ch_job.specs.declared.sources.Sources.{Sources}
use Rattle.ch_words.specs.declared.line.Line.{Line}

-- the numbers of a line are within the program's limits
abbrev pub IsAllowed : Line → Type 0
IsAllowed line = IsJobAllowed line.job

-- the word that names the tool for a question
abbrev pub name_of : {F : Type 0} → Question F → Text
name_of (Question.Queries queries) = codes "dist"
name_of (Question.Table sources targets) = codes "table"
name_of (Question.Near sources targets) = codes "near"
name_of Question.Hierarchy = codes "save"
name_of Question.Requests = codes "ask"

-- a flag
abbrev pub flag_rule : Text → Rule
flag_rule name = record (new_rule name) { long = Some name; action = Some SetTrue }

-- an option with a value. The words may leave it out
abbrev pub option_rule : Text → Rule
option_rule name = record (new_rule name) { long = Some name; action = Some Set; value_names = 1 }

-- an option for a number from 1 to the most. The words may leave it out: then it has the default
abbrev pub number_rule : Text → ℕ → Text → Rule
number_rule name most default = record (option_rule name) { parser = Some (parser.Signed (pos 1) (pos most)); defaults = default ∷ [] }

-- an option for a number from the least to the most. The words may leave it out
abbrev pub limit_rule : Text → ℕ → ℕ → Rule
limit_rule name least most = record (option_rule name) { parser = Some (parser.Unsigned least most) }

-- a file that must be named
abbrev pub file_rule : Text → Rule
file_rule name = record (new_rule name) { required = true; action = Some Set }

-- the lists of `near`: one or two
abbrev pub lists_rule : Rule
lists_rule = record (new_rule (codes "LISTS"))
    { required = true; action = Some Append; range = Some (record { start_inclusive = 1; end_inclusive = 2 }) }

-- `[--routes]`
abbrev pub routes_rule : Rule
routes_rule = flag_rule (codes "routes")

-- `[--deep]`
abbrev pub deep_rule : Rule
deep_rule = flag_rule (codes "deep")

-- `[--quick]`
abbrev pub quick_rule : Rule
quick_rule = flag_rule (codes "quick")

-- `[--within R]`
abbrev pub within_rule : Rule
within_rule = limit_rule (codes "within") 0 MOST_WEIGHT

-- `[--saved FILE]`
abbrev pub saved_rule : Rule
saved_rule = option_rule (codes "saved")

-- `[--like FILE [--fresh P]] [--customizable]`
abbrev pub like_rules : List Rule
like_rules = option_rule (codes "like") ∷ limit_rule (codes "fresh") 0 100 ∷ flag_rule (codes "customizable") ∷ []

-- `[--progress]`
abbrev pub progress_rule : Rule
progress_rule = flag_rule (codes "progress")

-- `[--workers N] [--piece K] [--hops H]`
abbrev pub number_rules : List Rule
number_rules = number_rule (codes "workers") MOST_WORKERS (codes "1") ∷ number_rule (codes "piece") MOST_PIECE (codes "64")
    ∷ number_rule (codes "hops") MOST_HOPS (codes "5") ∷ []

-- `[--like FILE [--fresh P]] [--customizable] [--workers N] [--piece K] [--hops H] [--progress]`, which each tool reads. Clap's form
-- accepts `--like` and `--customizable` beside `--saved`, `--deep` and `--quick`, and the line refuses them
abbrev pub shared_rules : List Rule
shared_rules = like_rules ++ number_rules ++ progress_rule ∷ []

-- a command has this form, and no argument that is global
abbrev pub HasForm : App → Command → Type 0
HasForm form command = (app_of command ≡ form) × ((out-Command command).has_globals ≡ false)

-- the words after the name of a tool: its own options, the options that each tool reads, and its files
abbrev pub tool_form : Text → List Rule → List Rule → App
tool_form name own files = fold with_rule (new_app name) (own ++ shared_rules ++ files)

-- `[--plain] [--routes] [--deep] [--saved FILE]`
abbrev pub dist_rules : List Rule
dist_rules = flag_rule (codes "plain") ∷ routes_rule ∷ deep_rule ∷ saved_rule ∷ []

-- `dist [--plain] [--routes] [--deep] [--saved FILE] .. GRAPH QUERIES`
abbrev pub dist_form : App
dist_form = tool_form (codes "dist") dist_rules (file_rule (codes "GRAPH") ∷ file_rule (codes "QUERIES") ∷ [])

-- `[--within R] [--saved FILE]`
abbrev pub table_rules : List Rule
table_rules = within_rule ∷ saved_rule ∷ []

-- `table [--within R] [--saved FILE] .. GRAPH SOURCES TARGETS`
abbrev pub table_form : App
table_form = tool_form (codes "table") table_rules
    (file_rule (codes "GRAPH") ∷ file_rule (codes "SOURCES") ∷ file_rule (codes "TARGETS") ∷ [])

-- `[--count K] [--within R] [--from] [--all] [--saved FILE]`
abbrev pub near_rules : List Rule
near_rules = limit_rule (codes "count") 1 MOST_LISTED ∷ within_rule ∷ flag_rule (codes "from") ∷ flag_rule (codes "all") ∷ saved_rule ∷ []

-- `near [--count K] [--within R] [--from] [--all] [--saved FILE] .. GRAPH LISTS..`
abbrev pub near_form : App
near_form = tool_form (codes "near") near_rules (file_rule (codes "GRAPH") ∷ lists_rule ∷ [])

-- `[--deep | --quick]`, and nothing else. Clap's form accepts both, and the line refuses them
abbrev pub save_rules : List Rule
save_rules = deep_rule ∷ quick_rule ∷ []

-- `save [--deep | --quick] .. GRAPH`
abbrev pub save_form : App
save_form = tool_form (codes "save") save_rules (file_rule (codes "GRAPH") ∷ [])

-- `[--routes] [--deep] [--within R] [--saved FILE]`
abbrev pub ask_rules : List Rule
ask_rules = routes_rule ∷ deep_rule ∷ within_rule ∷ saved_rule ∷ []

-- `ask [--routes] [--deep] [--within R] [--saved FILE] .. GRAPH`
abbrev pub ask_form : App
ask_form = tool_form (codes "ask") ask_rules (file_rule (codes "GRAPH") ∷ [])

-- the program's own words, before its tools are added
abbrev pub program_form : App
program_form = on_top (λ s. record s {
  no_binary_name = true;
  subcommand_required = true;
  disable_help_subcommand =
      true;
  has_version = true;
}) (new_app (codes "chtab"))

-- the words after the program's name: a tool, and its words
abbrev pub chtab_form : App
chtab_form = fold (λ form tool. with_subcommand form tool.top) program_form (dist_form ∷ table_form ∷ near_form ∷ save_form ∷ ask_form ∷ [])

-- the faults that clap finds in the words: none, or the kinds of those that come first
abbrev pub faults_of : List Text → Kinds
faults_of = fault_of chtab_form

-- the tool that the words name, and the values of each of its arguments, as clap matches them
abbrev pub given_by : List Text → Option (Text × List Row)
given_by = subcommand_of chtab_form

-- a flag is on if its text is `true`. It is off if its text is `false`, or if it has none
abbrev pub IsFlag : Option Text → Bool → Type 0
IsFlag None flag = flag ≡ false
IsFlag (Some text) flag = (text ≡ codes "true" → flag ≡ true) × (text ≡ codes "false" → flag ≡ false)

-- the flag of this name has this value
abbrev pub IsFlagIn : List Row → Text → Bool → Type 0
IsFlagIn given name = IsFlag (one_of name given)

-- the number that a text writes in decimal digits, with or without a `+` before them
abbrev pub number_of : Text → ℕ
number_of text = digits_value 10 (without_leading_plus text)

-- the number of the option of this name: the given one, or the default if it has one
abbrev pub number_in : List Row → Text → Option ℕ
number_in given name = option_map number_of (one_of name given)

-- this file is given for this name
abbrev pub IsFileIn : List Row → Text → Text → Type 0
IsFileIn given name file = Some file ≡ first_of name given

-- the lists that `near` is given
abbrev pub lists_in : List Row → List Text
lists_in given = unwrap_or (all_of (codes "LISTS") given) []

-- the files of a question are those given for their names. `near` takes a list of sources and one of targets, and with `--all` only
-- one of targets
abbrev pub AreFilesIn : List Row → Question (String Global) → Type 0
AreFilesIn given (Question.Queries queries) = IsFileIn given (codes "QUERIES") (string_bytes queries)
AreFilesIn given (Question.Table sources targets) = IsFileIn given (codes "SOURCES") (string_bytes sources)
    × IsFileIn given (codes "TARGETS") (string_bytes targets)
AreFilesIn given (Question.Near (Sources.Listed sources) targets) = IsFlagIn given (codes "all") false
    × (lists_in given ≡ string_bytes sources ∷ string_bytes targets ∷ [])
AreFilesIn given (Question.Near Sources.All targets) = IsFlagIn given (codes "all") true × (lists_in given ≡ string_bytes targets ∷ [])
AreFilesIn given Question.Hierarchy = ⊤
AreFilesIn given Question.Requests = ⊤

-- the file of a saved hierarchy, if one is given. Plain distances take none
abbrev pub saved_in : List Row → Bool → Option Text
saved_in given plain = if plain then None else first_of (codes "saved") given

-- the file of an order, if one is given. Plain distances take none
abbrev pub like_in : List Row → Bool → Option Text
like_in given plain = if plain then None else first_of (codes "like") given

-- the per cent of the nodes that are ordered afresh: the given one, or 5
abbrev pub fresh_in : List Row → ℕ
fresh_in given = unwrap_or (number_in given (codes "fresh")) 5

-- whether the hierarchy is customized: if `--customizable` is given. Plain distances have no hierarchy
abbrev pub IsCustomizableIn : List Row → (plain : Bool) → Bool → Type 0
IsCustomizableIn given true flag = flag ≡ false
IsCustomizableIn given false flag = IsFlagIn given (codes "customizable") flag

-- the file for the hierarchy is the given one: a saved hierarchy, or an order with the given per cent and the bound on hops of these
-- options, or none. With `--customizable` there is no per cent
abbrev pub IsSourceIn : List Row → Options → Source (String Global) → Type 0
IsSourceIn given options Source.Built = (saved_in given options.plain ≡ None) × (like_in given options.plain ≡ None)
    × IsCustomizableIn given options.plain false
IsSourceIn given options (Source.Saved saved) = Some (string_bytes saved) ≡ saved_in given options.plain
IsSourceIn given options (Source.Like order fresh hops) = (saved_in given options.plain ≡ None)
    × (Some (string_bytes order) ≡ like_in given options.plain) × (fresh.number ≡ fresh_in given) × (hops ≡ options.hops)
    × IsCustomizableIn given options.plain false
IsSourceIn given options (Source.Customized order hops) = (saved_in given options.plain ≡ None)
    × (Some (string_bytes order) ≡ like_in given options.plain) × (hops ≡ options.hops) × IsCustomizableIn given options.plain true
IsSourceIn given options (Source.Dissected hops) = (saved_in given options.plain ≡ None) × (like_in given options.plain ≡ None)
    × (hops ≡ options.hops) × IsCustomizableIn given options.plain true

-- whether a value is given for this name
abbrev pub is_given : List Row → Text → Bool
is_given given name = is_some (first_of name given)

-- neither `--like` nor `--fresh` is given. Or `--like` is, and none of `--saved`, `--deep` and `--quick`
abbrev pub IsUnmixed : List Row → Type 0
IsUnmixed given =
    ((is_given given (codes "like") ≡ false) × (is_given given (codes "fresh") ≡ false))
    ⊎ ((is_given given (codes "like") ≡ true) × (is_given given (codes "saved") ≡ false) × IsFlagIn given (codes "deep") false
    × IsFlagIn given (codes "quick") false)

-- `--customizable` is not given. Or it is, and none of `--saved`, `--fresh`, `--deep` and `--quick`
abbrev pub IsCustomizableAlone : List Row → Type 0
IsCustomizableAlone given = IsFlagIn given (codes "customizable") false
    ⊎ (IsFlagIn given (codes "customizable") true × (is_given given (codes "saved") ≡ false) × (is_given given (codes "fresh") ≡ false)
    × IsFlagIn given (codes "deep") false × IsFlagIn given (codes "quick") false)

-- the order that the words choose: by depth with `--deep`, and by the difference without it
abbrev pub IsOrderIn : List Row → OrderBy → Type 0
IsOrderIn given OrderBy.Difference = IsFlagIn given (codes "deep") false
IsOrderIn given OrderBy.Depth = IsFlagIn given (codes "deep") true

-- whether the words choose the order that takes the least time to find: `--quick` is given, and `--deep` is not
abbrev pub IsQuickIn : List Row → Bool → Type 0
IsQuickIn given false = IsFlagIn given (codes "quick") false
IsQuickIn given true = IsFlagIn given (codes "quick") true × IsFlagIn given (codes "deep") false

-- the direction that the words choose: `--from` chooses the distances from the targets
abbrev pub IsDirectionIn : List Row → Direction → Type 0
IsDirectionIn given Direction.To = IsFlagIn given (codes "from") false
IsDirectionIn given Direction.From = IsFlagIn given (codes "from") true

-- the flags, the order and the direction of the tool are as given. The other flags are off, a tool without the words of orders has no
-- order but the difference, and only near rows have another direction than that to the targets. Only a saved hierarchy is built quickly
abbrev pub AreFlagsIn : {F : Type 0} → List Row → Question F → Options → Type 0
AreFlagsIn given (Question.Queries queries) options = IsFlagIn given (codes "plain") options.plain
    × IsFlagIn given (codes "routes") options.routes × IsOrderIn given options.order × (options.quick ≡ false)
    × (options.direction ≡ Direction.To)
AreFlagsIn given (Question.Table sources targets) options = (options.plain ≡ false) × (options.routes ≡ false)
    × (options.order ≡ OrderBy.Difference) × (options.quick ≡ false) × (options.direction ≡ Direction.To)
AreFlagsIn given (Question.Near sources targets) options = (options.plain ≡ false) × (options.routes ≡ false)
    × (options.order ≡ OrderBy.Difference) × (options.quick ≡ false) × IsDirectionIn given options.direction
AreFlagsIn given Question.Hierarchy options = (options.plain ≡ false) × (options.routes ≡ false) × IsOrderIn given options.order
    × IsQuickIn given options.quick × (options.direction ≡ Direction.To)
AreFlagsIn given Question.Requests options = (options.plain ≡ false) × IsFlagIn given (codes "routes") options.routes
    × IsOrderIn given options.order × (options.quick ≡ false) × (options.direction ≡ Direction.To)

-- the workers and the size of pieces are as given. While a hierarchy is built, workers share a job only if it has at least 64 nodes
pub record IsPlanIn (given : List Row) (plan : Division) : Type 0 where
  pub workers : Some plan.workers ≡ number_in given (codes "workers")
  pub piece : Some plan.piece ≡ number_in given (codes "piece")
  pub wide : plan.wide ≡ 64

-- the line holds the values that its tool's arguments are given
pub record IsGivenBy (given : List Row) (line : Line) : Type 0 where
  pub graph : IsFileIn given (codes "GRAPH") (string_bytes line.job.graph)
  pub files : AreFilesIn given line.job.question
  pub source : IsSourceIn given line.job.options line.job.source
  pub flags : AreFlagsIn given line.job.question line.job.options
  pub hops : Some line.job.options.hops.number ≡ number_in given (codes "hops")
  pub limit : line.job.options.within ≡ number_in given (codes "within")
  pub count : line.job.options.count ≡ number_in given (codes "count")
  pub plan : IsPlanIn given line.job.plan
  pub progress : IsFlagIn given (codes "progress") line.progress
  pub unmixed : IsUnmixed given
  pub customizable : IsCustomizableAlone given

-- clap finds nothing wrong with the words. They name the tool for the question of the line, and give it the values that
-- the line holds
pub record IsReadFrom (words : List Text) (line : Line) : Type 0 where
  pub right : faults_of words ≡ []
  pub given : List Row
  pub matched : given_by words ≡ Some (name_of line.job.question, given)
  pub read : IsGivenBy given line

-- an error of this kind is no fault: the words ask for help or for the version
abbrev pub AsksForText : ErrorKind → Type 0
AsksForText kind = (kind ≡ DisplayHelp) ⊎ (kind ≡ DisplayVersion)

-- this fault may be reported for an error of this kind
abbrev pub IsToldOf : ErrorKind → LineFault → Type 0
IsToldOf kind (LineFault.Help _) = AsksForText kind
IsToldOf kind (LineFault.Refused _) = (kind ≢ DisplayHelp) × (kind ≢ DisplayVersion) × (kind ≢ OutOfMemory)
IsToldOf kind LineFault.NoMemory = ⊤

-- this text is the text that a value shows, if that is known
abbrev pub IsShownAs : Option Text → Text → Type 0
IsShownAs None text = ⊤
IsShownAs (Some shown) text = text ≡ shown

-- the fault has no text, or its text is the text that an error shows, if that is known
abbrev pub IsToldBy : Option Text → LineFault → Type 0
IsToldBy shown (LineFault.Help text) = IsShownAs shown (string_bytes text)
IsToldBy shown (LineFault.Refused text) = IsShownAs shown (string_bytes text)
IsToldBy shown LineFault.NoMemory = ⊤

-- `near` is given a wrong number of lists: it takes one with `--all`, and two without it
abbrev pub HasOtherLists : List Row → Type 0
HasOtherLists given = (all : Bool) × IsFlagIn given (codes "all") all × (length (lists_in given) ≢ (if all then 1 else 2))

-- the words name `near`, with a wrong number of lists
abbrev pub NamesOtherLists : Option (Text × List Row) → Type 0
NamesOtherLists None = ⊥
NamesOtherLists (Some (name, given)) = (name ≡ codes "near") × HasOtherLists given

-- clap accepts the words after this name. They are refused for the lists of `near`, or there is no memory
abbrev pub AreRefusedLists : Text → List Row → LineFault → Type 0
AreRefusedLists name given (LineFault.Help _) = ⊥
AreRefusedLists name given (LineFault.Refused _) = (name ≡ codes "near") × HasOtherLists given
AreRefusedLists name given LineFault.NoMemory = ⊤

-- both orders are given
abbrev pub HasTwoOrders : List Row → Type 0
HasTwoOrders given = IsFlagIn given (codes "deep") true × IsFlagIn given (codes "quick") true

-- the words name a tool, with both orders
abbrev pub NamesTwoOrders : Option (Text × List Row) → Type 0
NamesTwoOrders None = ⊥
NamesTwoOrders (Some (name, given)) = HasTwoOrders given

-- clap accepts the words of a tool. They are refused for both orders, or there is no memory
abbrev pub AreRefusedOrders : List Row → LineFault → Type 0
AreRefusedOrders given (LineFault.Help _) = ⊥
AreRefusedOrders given (LineFault.Refused _) = HasTwoOrders given
AreRefusedOrders given LineFault.NoMemory = ⊤

-- `--like` is given beside `--saved`, `--deep` or `--quick`, or `--fresh` is given without `--like`
abbrev pub IsMixed : List Row → Type 0
IsMixed given =
    ((is_given given (codes "like") ≡ true) × ((is_given given (codes "saved") ≡ true) ⊎ IsFlagIn given (codes "deep") true
    ⊎ IsFlagIn given (codes "quick") true))
    ⊎ ((is_given given (codes "fresh") ≡ true) × (is_given given (codes "like") ≡ false))

-- why options don't go together: the first of these reasons that is true
abbrev pub IsMixMessage : List Row → Text → Type 0
IsMixMessage given message =
    ((is_given given (codes "like") ≡ false) × (is_given given (codes "fresh") ≡ true)
    × (message ≡ codes "the argument '--fresh' cannot be used without '--like'"))
    ⊎ ((is_given given (codes "like") ≡ true) × (is_given given (codes "saved") ≡ true)
    × (message ≡ codes "the argument '--like' cannot be used with '--saved'"))
    ⊎ ((is_given given (codes "like") ≡ true) × (is_given given (codes "saved") ≡ false) × IsFlagIn given (codes "deep") true
    × (message ≡ codes "the argument '--like' cannot be used with '--deep'"))
    ⊎ ((is_given given (codes "like") ≡ true) × (is_given given (codes "saved") ≡ false) × IsFlagIn given (codes "deep") false
    × IsFlagIn given (codes "quick") true × (message ≡ codes "the argument '--like' cannot be used with '--quick'"))

-- `--customizable` is given beside `--saved`, `--fresh`, `--deep` or `--quick`
abbrev pub IsCustomizableMixed : List Row → Type 0
IsCustomizableMixed given = IsFlagIn given (codes "customizable") true × ((is_given given (codes "saved") ≡ true)
    ⊎ (is_given given (codes "fresh") ≡ true) ⊎ IsFlagIn given (codes "deep") true ⊎ IsFlagIn given (codes "quick") true)

-- why `--customizable` doesn't go with another option: the first of these reasons that is true
abbrev pub IsCustomizableMessage : List Row → Text → Type 0
IsCustomizableMessage given message =
    ((is_given given (codes "saved") ≡ true) × (message ≡ codes "the argument '--customizable' cannot be used with '--saved'"))
    ⊎ ((is_given given (codes "saved") ≡ false) × (is_given given (codes "fresh") ≡ true)
    × (message ≡ codes "the argument '--customizable' cannot be used with '--fresh'"))
    ⊎ ((is_given given (codes "saved") ≡ false) × (is_given given (codes "fresh") ≡ false) × IsFlagIn given (codes "deep") true
    × (message ≡ codes "the argument '--customizable' cannot be used with '--deep'"))
    ⊎ ((is_given given (codes "saved") ≡ false) × (is_given given (codes "fresh") ≡ false) × IsFlagIn given (codes "deep") false
    × IsFlagIn given (codes "quick") true × (message ≡ codes "the argument '--customizable' cannot be used with '--quick'"))

-- an order or `--customizable` is given beside options that don't go with it
abbrev pub AreMixed : List Row → Type 0
AreMixed given = IsMixed given ⊎ IsCustomizableMixed given

-- the place among the words of the first value of an argument, if it has one
abbrev pub place_of : Found → Text → Option ℕ
place_of found name = option_and_then (λ a. slice_get a.indices.items 0) (matched_of found name)

-- why both orders are refused, by their places among the words: the message names first the one that is given first
abbrev pub IsOrdersMessage : (deep quick : Option ℕ) → Text → Type 0
IsOrdersMessage (Some deep) (Some quick) message =
    ((quick < deep) × (message ≡ codes "the argument '--quick' cannot be used with '--deep'"))
    ⊎ ((deep ≤ quick) × (message ≡ codes "the argument '--deep' cannot be used with '--quick'"))
IsOrdersMessage _ _ message = message ≡ codes "the argument '--deep' cannot be used with '--quick'"

-- the words name a tool, with options that don't go together
abbrev pub NamesMixed : Option (Text × List Row) → Type 0
NamesMixed None = ⊥
NamesMixed (Some (name, given)) = AreMixed given

-- clap accepts the words of a tool. They are refused for options that don't go together, or there is no memory
abbrev pub IsRefusedMix : List Row → LineFault → Type 0
IsRefusedMix given (LineFault.Help _) = ⊥
IsRefusedMix given (LineFault.Refused _) = AreMixed given
IsRefusedMix given LineFault.NoMemory = ⊤

-- help and the version are reported only if the words ask for them. Words are refused only if clap finds another fault, or if it finds
-- none and the lists of `near` are wrong, both orders are given, or options are given that don't go together
abbrev pub IsFaultOf : List Text → LineFault → Type 0
IsFaultOf words (LineFault.Help _) = (kind : ErrorKind) × AsksForText kind × IsAmong kind (faults_of words)
IsFaultOf words (LineFault.Refused _) =
    ((kind : ErrorKind) × (kind ≢ DisplayHelp) × (kind ≢ DisplayVersion) × IsAmong kind (faults_of words))
    ⊎ ((faults_of words ≡ []) × (NamesOtherLists (given_by words) ⊎ NamesTwoOrders (given_by words) ⊎ NamesMixed (given_by words)))
IsFaultOf words LineFault.NoMemory = ⊤

-- the exit status if no line is read: 0 for help and for the version, 2 for words that are refused, 3 for a lack of memory
abbrev pub line_status_of : LineFault → ℕ
line_status_of (LineFault.Help _) = 0
line_status_of (LineFault.Refused _) = 2
line_status_of LineFault.NoMemory = 3

-- words are refused for the reason in this text, or there is no memory for it
abbrev pub IsRefusedFor : Text → LineFault → Type 0
IsRefusedFor text (LineFault.Help _) = ⊥
IsRefusedFor text (LineFault.Refused told) = string_bytes told ≡ text
IsRefusedFor text LineFault.NoMemory = ⊤
