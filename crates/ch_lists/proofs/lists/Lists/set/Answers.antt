-- One list gets the value at its place, no other list changes, and all lists stay at their places.
use Rattle.std.proofs.Common.{◌≡◌, ◌∙◌, subst}
use Rattle.std.specs.Prelude.{slice_set, slice_index_or, []}
use Rattle.std.proofs.lemmas.List.{with_items_is}
use Rattle.ch_lists.specs.Places.{values_at, lists_at, HasEdited}
use Rattle.ch_lists.proofs.Read.{edited_lists, same_places}
use Rattle.ch_lists.proofs.lists.Lists.set.Goals as goal

pub returns : goal.returns
returns g c =
    let long = c.set_at.auto.values ∙ c.deref_mut.ensures.len in
    let at = c.index-at.result.now in
    let new = c.set_at.new.values in
    let places = c.self.inside.places.items in
    let lists = c.args.self.now in
    let edit = subst (λ old. HasEdited old new at at (slice_set (values_at old at) c.args.place c.args.value)) c.deref_mut.ensures.value
    c.set_at.ensures in
    let same = same_places c.self.inside.values.items places lists c.args.list at c.self.view_is c.requires.list c.index-at.ensures in
    rw (with_items_is c.self.inside.values new long)
    (subst (λ l. lists_at new l ≡ slice_set lists c.args.list (slice_set (slice_index_or lists c.args.list []) c.args.place c.args.value))
    same
    (edited_lists _ _ _ _ _ c.self.view_is c.requires.list c.index-at.ensures c.self.invariant new at
    (λ xs. slice_set xs c.args.place c.args.value) edit))
