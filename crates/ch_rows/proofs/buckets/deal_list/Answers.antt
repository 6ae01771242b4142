-- Each entry has its item in the end.
use Rattle.std.proofs.Common.{◌≡◌, ℕ, List, ◌∙◌, length, map, arith, ap, sym}
use Rattle.std.proofs.lemmas.List.{length-map, get_or-map, same_lists}
use Rattle.ch_rows.specs.Dealing.{dealt, item_of}
use Rattle.ch_rows.proofs.Held.{written}
use Rattle.ch_rows.proofs.buckets.deal_list.Goals as goal

pub returns : goal.returns
returns c =
    let f = dealt (item_of c.args.dealing.now) in
    let old = c.args.list.now.items in
    let new = c.loop-entry.entry-items in
    let read = ap (λ (l : List (ℕ × ℕ)). length l) c.deref_mut-entry-items.ensures.value in
    let size : length new ≡ length old = c.loop-entry.auto.entry-items ∙ read in
    let long = length-map old f in
    written c.args.list.now.len new old c.args.list.now.ok.0 size
    ∙ same_lists new (map f old) (size ∙ sym long) (λ k d lt.
    c.loop-entry.invariant.before k d (omega (arith, read, size, c.loop-entry-test.false))
    ∙ sym (get_or-map f old k d d (omega (arith, size))))
