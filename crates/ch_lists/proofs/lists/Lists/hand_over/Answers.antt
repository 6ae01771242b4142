-- One list gets the values of the other, which is left empty, and the places of the lists still do not overlap.
use Rattle.ch_lists.proofs.Read.{place_read, list_read}
use Rattle.ch_lists.proofs.Handed.{handed_places, handed_lists}
use Rattle.ch_lists.proofs.lists.Lists.hand_over.Goals as goal

pub invariant_of-self : goal.invariant_of-self
invariant_of-self g c =
    handed_places _ _ _ _ _ c.self.invariant (place_read _ _ _ _ _ c.self.view_is c.requires.from c.index-place.ensures) c.requires.two

pub returns : goal.returns
returns g c =
    handed_lists _ _ _ _ _ _ c.self.view_is (list_read _ _ _ _ _ c.self.view_is c.requires.from c.index-place.ensures) c.requires.two
