-- The memory that is owned behind a pointer without a type.
use Rattle.std.specs.Prelude.{Option, None, Some}
use base.Fml.{Fml, ftrue}
use denote.RattleType.{RattleType}
use denote.RawPtr.{Ptr}
use Rattle.std.specs.Coded.{Coded, coded_option}
use Rattle.std.specs.Box.Ownership.{box_owns}
use Rattle.std.specs.Global.{Global}
use Rattle.std_heap.specs.contracts.GlobalAllocator.TheImpl.{ghosts}
use Rattle.ch_engine.specs.contracts.engine.Engine.{the_row}

-- the pointer owns the same as a box of the value
abbrev pub owns_boxed : (R : RattleType) → Global → Ptr → R.Denot → Fml
owns_boxed R alloc at value = box_owns (ghosts.dealloc_token alloc) R at value

-- the pointer owns the same as a box of an engine in this network, or nothing
abbrev pub owns_network : Global → Ptr → Option the_row.Denot → Fml
owns_network alloc at None = ftrue
owns_network alloc at (Some network) = owns_boxed the_row alloc at network

-- the code of the network, as the logic stores it
abbrev pub coded_network : Coded (Option the_row.Denot)
coded_network = coded_option the_row.coded
