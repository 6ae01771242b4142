-- The memory that is owned behind the pointer of a topology without a type.
use Rattle.std.specs.Prelude.{Option, None, Some}
use base.Fml.{Fml, ftrue}
use denote.RawPtr.{Ptr}
use Rattle.std.specs.Coded.{Coded, coded_option}
use Rattle.std.specs.Global.{Global}
use Rattle.ch_engine.specs.contracts.topology.Topology.{the_row}
use Rattle.ch_c.specs.Erased.{owns_boxed}

-- the pointer owns the same as a box of a topology, or nothing
abbrev pub owns_topology : Global → Ptr → Option the_row.Denot → Fml
owns_topology alloc at None = ftrue
owns_topology alloc at (Some topology) = owns_boxed the_row alloc at topology

-- the code of the topology, as the logic stores it
abbrev pub coded_topology : Coded (Option the_row.Denot)
coded_topology = coded_option the_row.coded
