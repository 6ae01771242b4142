-- One more value is at the place of its piece, and since each piece was done, in the end each place has its value.
use Rattle.std.proofs.Common.{rules, ◌≡◌, length, subst, sym}
use Rattle.ch_work.proofs.Claims.{ArePlaced, places_next, places_full}
use Rattle.ch_work.proofs.Items.{all_done}
use Rattle.ch_work.proofs.shared.places_of.Goals as goal

pub loop-number-preserved-in-Some : goal.loop-number-preserved-in-Some
loop-number-preserved-in-Some g c =
    let work = c.args.work.now in
    let so_far = c.loop-number.invariant in
    places_next (g.J.RoomJob.meaning work.job.now) work.items work.piece c.args.done.items c.loop-number.yielded
    c.loop-number.number-iterator.rest.items c.next.new.self.rest.items c.in-Some.field-0
    c.loop-number.places.items so_far.2 c.in-Some.ensures.steps.0 c.requires.each so_far.0 so_far.1

pub loop-number-preserved : goal.loop-number-preserved
loop-number-preserved g c =
    let work = c.args.work.now in
    let so_far = c.loop-number.invariant in
    places_next (g.J.RoomJob.meaning work.job.now) work.items work.piece c.args.done.items c.loop-number.yielded
    c.loop-number.number-iterator.rest.items c.next.new.self.rest.items c.in-Some.field-0
    c.loop-number.places.items so_far.2 c.in-Some.ensures.steps.0 c.requires.each so_far.0 so_far.1

pub returns-clause-each : goal.returns-clause-each
returns-clause-each g c =
    let work = c.args.work.now in
    let meaning = g.J.RoomJob.meaning work.job.now in
    let places = c.loop-number.places.items in
    let so_far = c.loop-number.invariant in
    let left : length c.loop-number.number-iterator.rest.items ≡ 0 = search rules in
    let all = all_done c.args.done.items c.loop-number.yielded c.loop-number.number-iterator.rest.items so_far.2 left in
    let placed = subst (ArePlaced meaning work.items work.piece places) (sym all) so_far.1 in
    places_full meaning work.items work.piece places c.args.done.items placed c.requires.every
