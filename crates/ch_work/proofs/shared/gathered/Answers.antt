-- One more worker hands back its pass, the pieces that it did, and a clean workspace.
use Rattle.std.proofs.Common.{rules, ◌≡◌, [], ◌∷◌, arith, length, length-append, vec_len}
use Rattle.std.proofs.lemmas.List.Elements.{All-push}
use Rattle.ch_work.specs.Claims.{HasWorked}
use Rattle.ch_work.proofs.Claims.{gathers_none, gathers_one}
use Rattle.ch_work.proofs.Items.{item_has, next_split, next_done}
use Rattle.ch_work.proofs.shared.gathered.Goals as goal

pub loop-pass-init : goal.loop-pass-init
loop-pass-init g c =
    let work = c.args.work.now in
    let none = gathers_none (g.J.RoomJob.meaning work.job.now) work.items work.piece c.args.board.now in
    (search rules, rw (c.in_ok-passes.ensures.items, c.in_ok-all.ensures.items) none, c.requires.clean, search rules)

pub loop-pass-preserved : goal.loop-pass-preserved
loop-pass-preserved g c =
    let work = c.args.work.now in
    let meaning = g.J.RoomJob.meaning work.job.now in
    let clean = g.J.RoomJob.clean work.job.now in
    let board = c.args.board.now in
    let all = c.args.worked.items in
    let before = c.loop-pass.yielded in
    let rest = c.next.new.self.rest.items in
    let so_far = c.loop-pass.invariant in
    let len : length all ≡ vec_len c.args.worked = search rules in
    let now = next_split all before c.loop-pass.pass-iterator.rest.items (c.in-Some.pass, c.in-Some.outcome) rest so_far.3
    c.in-Some.ensures.steps.0 in
    let has = item_has (λ i r. HasWorked meaning clean work.items work.piece board r.0 r.1) all (vec_len c.args.worked) len
    c.requires.each before rest (c.in-Some.pass, c.in-Some.outcome) now in
    let is = rw c.in_ok-room.was at has in
    let room = c.in_ok-room.room in
    let more = c.in_ok-room.done.items in
    let gathered = gathers_one meaning work.items work.piece board c.loop-pass.passes.items c.loop-pass.all.items c.in-Some.pass
    more so_far.1 is.0 is.1.0 is.1.1 is.1.2 in (
      omega (arith, c.in_ok-push.ensures.len, so_far.0, length-append before ((c.in-Some.pass, c.in-Some.outcome) ∷ [])),
      rw (c.in_ok-push.ensures.items, c.in_ok-append.ensures.items) gathered,
      rw c.in_ok-push-2.ensures.items (All-push clean c.loop-pass.rooms.items room so_far.2 is.1.3),
      next_done all before rest (c.in-Some.pass, c.in-Some.outcome) now,
    )

pub returns-in_err-push-2-clause-clean : goal.returns-in_err-push-2-clause-clean
returns-in_err-push-2-clause-clean g c = rw c.in_err-push-2.ensures.items c.loop-pass.invariant.2
