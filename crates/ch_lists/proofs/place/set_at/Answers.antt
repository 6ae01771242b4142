-- One value that is written over edits that list alone.
use Rattle.ch_lists.proofs.Changed.{written}
use Rattle.ch_lists.proofs.place.set_at.Goals as goal

pub returns : goal.returns
returns g c =
    written _ c.args.place c.args.index c.args.value c.requires.index c.requires.fits c.requires.within c.requires.small
