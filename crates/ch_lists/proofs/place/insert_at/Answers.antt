-- A value that is inserted into a list with capacity for it, or into a moved list, edits that list alone.
use Rattle.std.proofs.Common.{◌+◌, ◌≤◌, ◌∙◌, arith, length, subst}
use Rattle.std.proofs.lemmas.List.{with_items_is}
use Rattle.ch_lists.specs.Places.{HasInserted}
use Rattle.ch_lists.proofs.Changed.{inserted}
use Rattle.ch_lists.proofs.place.insert_at.Goals as goal

pub returns-clause-ok : goal.returns-clause-ok
returns-clause-ok g c =
    let long = c.insert_value.auto.values ∙ c.deref_mut.ensures.len in
    let within : c.args.place.start + c.args.place.room ≤ length c.args.values.now.items = omega arith in
    let made = subst (λ middle. HasInserted middle c.insert_value.new.values (c.in_ok-now.now.start + c.args.index)
    (c.in_ok-now.now.start + c.in_ok-now.now.len) c.args.value) c.deref_mut.ensures.value c.insert_value.ensures in
    rw (with_items_is c.place_with_room.new.values c.insert_value.new.values long)
    (inserted c.args.values.now.items c.place_with_room.new.values.items c.insert_value.new.values c.args.place c.in_ok-now.now
    c.args.index c.args.value c.requires.index c.requires.fits within c.in_ok-now.ensures.ok made)
