-- The line is what the command line gives, and a fault is clap's own or that of lists that `near` doesn't read.
use Rattle.std.proofs.Common.{◌≡◌, Some, [], rules}
use Rattle.std.proofs.lemmas.Result.{IfErr-weaker, IfOk-weaker}
use Rattle.clap.proofs.WalkLemmas.{IfOk-both}
use Rattle.clap.specs.Matches.{subcommand_name_of}
use Rattle.clap.specs.Words.{HasKind, found_of, rows_of}
use Rattle.ch_words.proofs.Matches.{fault-told, given-by, refused-fault, of-faults, read-from}
use Rattle.ch_words.proofs.words.read_words.Goals as goal

pub returns-in-Err-clause-fault : goal.returns-in-Err-clause-fault
returns-in-Err-clause-fault c =
    fault-told _ _ _ c.fault_of.ensures.kind
    (of-faults (λ kinds. HasKind kinds c.in-Err.error) _ _ c.in_ok-command.ensures c.in-Err.ensures.kinds)

pub returns-clause-read : goal.returns-clause-read
returns-clause-read c =
    let given = rows_of (found_of c.in-Some.matches.now) in
    let right = of-faults (λ kinds. kinds ≡ []) _ _ c.in_ok-command.ensures c.in-Ok.ensures.kinds in
    let named : Some c.in-Some.name.now ≡ subcommand_name_of c.in-Ok.matches = search rules in
    let matched = given-by _ _ _ _ given c.in_ok-command.ensures c.in-Ok.ensures.matches named c.in-Some.ensures.rows in
    let both = IfOk-both c.line_of.result _ _ c.line_of.ensures.named c.line_of.ensures.given in
    IfOk-weaker c.line_of.result _ _ (λ line is. read-from _ _ c.in-Some.name.now given right matched is.0 is.1) both

pub returns-clause-fault : goal.returns-clause-fault
returns-clause-fault c =
    let given = rows_of (found_of c.in-Some.matches.now) in
    let right = of-faults (λ kinds. kinds ≡ []) _ _ c.in_ok-command.ensures c.in-Ok.ensures.kinds in
    let named : Some c.in-Some.name.now ≡ subcommand_name_of c.in-Ok.matches = search rules in
    let matched = given-by _ _ _ _ given c.in_ok-command.ensures c.in-Ok.ensures.matches named c.in-Some.ensures.rows in
    IfErr-weaker c.line_of.result _ _ (λ fault refused. refused-fault _ _ given fault right matched refused) c.line_of.ensures.refused
