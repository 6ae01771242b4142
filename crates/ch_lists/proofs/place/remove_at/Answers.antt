-- Values that are moved up by one after a removal edit that list alone.
use Rattle.ch_lists.proofs.Changed.{removed}
use Rattle.ch_lists.proofs.place.remove_at.Goals as goal

pub returns : goal.returns
returns g c =
    removed _ _ c.args.place c.args.index c.requires.index c.requires.fits c.requires.within c.requires.small c.remove_value.ensures
