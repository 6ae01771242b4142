-- A walk over pairs visits ancestors.
use Rattle.ch_custom.proofs.theory.Ancestors.{climbs_visit_ancestors}
use Rattle.ch_custom.proofs.laws.customizing.climbs_visit_ancestors.Goals as goal

pub returns : goal.returns
returns c n order rows parents i j xs lt climb = climbs_visit_ancestors n order rows parents i j xs lt climb
