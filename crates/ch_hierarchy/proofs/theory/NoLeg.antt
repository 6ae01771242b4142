-- The default leg of a read past the end of a row.
use Rattle.std.proofs.Common.{None}
use Rattle.ch_hierarchy.specs.declared.leg.Leg.{Leg}

abbrev pub no_leg : Leg
no_leg = record { node = 0; cost = record { weight = 0; arcs = 0 }; middle = None }
