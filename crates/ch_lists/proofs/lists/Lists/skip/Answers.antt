-- The places that remain are those behind the first ones, and the lists at them have the values that they had.
use Rattle.std.proofs.Common.{◌≡◌, length, vec_len, take, drop, ◌-◌, subst, sym, ap, ◌∙◌}
use Rattle.ch_lists.specs.Places.{ArePlaces}
use Rattle.ch_lists.proofs.Skipped.{skipped_places, skipped_lists, moved_to_front}
use Rattle.ch_lists.proofs.lists.Lists.skip.Given.{Over}
use Rattle.ch_lists.proofs.lists.Lists.skip.Goals.{After-shrink_to_fit}
use Rattle.ch_lists.proofs.lists.Lists.skip.Goals as goal

-- the places that remain
left : (g : Over) (c : After-shrink_to_fit g) → c.shrink_to_fit.new.self.items ≡ drop c.args.count c.self.inside.places.items
left g c =
    let places = c.self.inside.places in
    let size = ap (λ n. take (n - c.args.count) c.copy_within.new.self.items) (c.len.ensures ∙ c.copy_within.ensures.len) in
    let moved = ap (take (vec_len places - c.args.count)) c.copy_within.ensures.items in
    c.shrink_to_fit.ensures.items ∙ c.truncate.ensures.items ∙ size ∙ moved
    ∙ moved_to_front places.items c.args.count (vec_len places) places.ok.0

pub invariant_of-result : goal.invariant_of-result
invariant_of-result g c = subst (λ places. ArePlaces places (length c.self.inside.values.items)) (sym (left g c))
    (skipped_places _ c.args.count _ c.self.invariant)

pub returns : goal.returns
returns g c = skipped_lists _ _ _ _ c.args.count c.self.view_is (left g c)
