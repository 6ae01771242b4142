-- The legs of the way have room for their arcs, which are the route over the meet.
use Rattle.std.proofs.Common.{refl, arith}
use Rattle.ch_query.proofs.routes.query.route_over.Goals as goal

pub unpack-requires-clause-room : goal.unpack-requires-clause-room
unpack-requires-clause-room c =
    let over = (c.in_ok-legs_over.ensures {u = tt}).legs in
    let room = c.in_ok-arcs.ensures in
    record { legs = omega (arith, over.arcs, over.room); arcs_left = omega (arith, over.arcs, room.exact); empty = room.len }

pub returns : goal.returns
returns c =
    let over = (c.in_ok-legs_over.ensures {u = tt}).legs in
    record { route = (_, refl, over.route c.unpack.new.arcs.items c.unpack.ensures) }
