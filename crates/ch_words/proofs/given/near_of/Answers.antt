-- With `--all` one list is read as the targets, without it two as sources and targets, and any other number is refused.
use Rattle.std.proofs.Common.{◌≡◌, ◌∙◌, ap, ap₂, Some, ◌∷◌, [], Bor, codes, false, map, option_map, subst, sym, true, rules}
use Rattle.clap.specs.Words.{Text, found_of, matched_of, raw_values, rows_of}
use Rattle.ch_words.specs.Line.{IsFlagIn}
use Rattle.ch_words.proofs.Matches.{lists-read, one-listed, other-lists, refused-lists, two-listed}
use Rattle.ch_words.proofs.given.near_of.Goals as goal

pub returns-then-lists-ne1-clause-refused : goal.returns-then-lists-ne1-clause-refused
returns-then-lists-ne1-clause-refused c =
    let found = found_of c.args.matches.now in
    let named : Some (map (λ (v : Bor Text). v.now) c.in-Some.lists.now)
    ≡ option_map raw_values (matched_of found (codes "LISTS")) = search rules in
    let flag = subst (IsFlagIn (rows_of found) (codes "all")) c.if-flag_of.true c.flag_of.ensures in
    refused-lists (rows_of found) _ c.other_lists.ensures (other-lists found c.in-Some.lists.now true named flag c.if-lists-ne1.true)

pub returns-then-flag_of-clause-files : goal.returns-then-flag_of-clause-files
returns-then-flag_of-clause-files c =
    let found = found_of c.args.matches.now in
    let named : Some (map (λ (v : Bor Text). v.now) c.in-Some.lists.now)
    ≡ option_map raw_values (matched_of found (codes "LISTS")) = search rules in
    let flag = subst (IsFlagIn (rows_of found) (codes "all")) c.if-flag_of.true c.flag_of.ensures in
    let listed = lists-read found c.in-Some.lists.now named ∙ one-listed c.in-Some.lists.now _ c.if-lists-ne1.false in
    (flag, listed ∙ sym (ap (λ (t : Text). t ∷ []) c.in_ok-targets.ensures.ok))

pub returns-then-lists-ne2-clause-refused : goal.returns-then-lists-ne2-clause-refused
returns-then-lists-ne2-clause-refused c =
    let found = found_of c.args.matches.now in
    let named : Some (map (λ (v : Bor Text). v.now) c.in-Some.lists.now)
    ≡ option_map raw_values (matched_of found (codes "LISTS")) = search rules in
    let flag = subst (IsFlagIn (rows_of found) (codes "all")) c.if-flag_of.false c.flag_of.ensures in
    refused-lists (rows_of found) _ c.other_lists-then-lists-ne2.ensures
    (other-lists found c.in-Some.lists.now false named flag c.if-lists-ne2.true)

pub returns-clause-files : goal.returns-clause-files
returns-clause-files c =
    let found = found_of c.args.matches.now in
    let named : Some (map (λ (v : Bor Text). v.now) c.in-Some.lists.now)
    ≡ option_map raw_values (matched_of found (codes "LISTS")) = search rules in
    let flag = subst (IsFlagIn (rows_of found) (codes "all")) c.if-flag_of.false c.flag_of.ensures in
    let listed = lists-read found c.in-Some.lists.now named ∙ two-listed c.in-Some.lists.now _ _ c.if-lists-ne2.false in
    (flag, listed ∙ sym (ap₂ (λ (s t : Text). s ∷ t ∷ []) c.in_ok-sources.ensures.ok c.in_ok-targets-2.ensures.ok))
