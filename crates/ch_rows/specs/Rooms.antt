-- The rooms in which workers make near rows.
use Rattle.std.specs.Prelude.{◌≡◌, length}
use Rattle.ch_hierarchy.specs.Hierarchy.{nodes_of}
use Rattle.ch_rows.specs.declared.rows.NearRoom.{NearRoom}
use Rattle.ch_rows.specs.Near.{Wanted}
use Rattle.ch_rows.specs.Offers.{AreUnoffered}

-- the room serves a search for these near rows
abbrev pub IsNearRoomFor : Wanted → NearRoom → Type 0
IsNearRoomFor wanted room = (room.scratch ≡ nodes_of wanted.hierarchy) × AreUnoffered (length wanted.targets) room.offers
