-- One list loses the value at its place, no other list changes, and the places of the lists still do not overlap.
use Rattle.std.proofs.Common.{◌∙◌, subst}
use Rattle.std.specs.List.{remove}
use Rattle.std.proofs.lemmas.List.{with_items_is}
use Rattle.ch_lists.specs.Places.{values_at, HasEdited}
use Rattle.ch_lists.proofs.Read.{edited_places, edited_lists}
use Rattle.ch_lists.proofs.lists.Lists.remove.Goals as goal

pub invariant_of-self : goal.invariant_of-self
invariant_of-self g c =
    let long = c.remove_at-new.auto.values ∙ c.deref_mut.ensures.len in
    let edit = subst (λ old. HasEdited old c.remove_at-new.new.values c.index-old.result.now c.remove_at-new.result
    (remove (values_at old c.index-old.result.now) c.args.place)) c.deref_mut.ensures.value c.remove_at-new.ensures in
    rw (with_items_is c.self.inside.values c.remove_at-new.new.values long)
    (edited_places _ _ _ _ _ c.self.view_is c.requires.list c.index-old.ensures c.self.invariant _ _ (λ xs. remove xs c.args.place) edit)

pub returns : goal.returns
returns g c =
    let long = c.remove_at-new.auto.values ∙ c.deref_mut.ensures.len in
    let edit = subst (λ old. HasEdited old c.remove_at-new.new.values c.index-old.result.now c.remove_at-new.result
    (remove (values_at old c.index-old.result.now) c.args.place)) c.deref_mut.ensures.value c.remove_at-new.ensures in
    rw (with_items_is c.self.inside.values c.remove_at-new.new.values long)
    (edited_lists _ _ _ _ _ c.self.view_is c.requires.list c.index-old.ensures c.self.invariant _ _ (λ xs. remove xs c.args.place) edit)
