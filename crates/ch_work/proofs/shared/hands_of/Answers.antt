-- One more pass gets a clean workspace while there are any, and none after that.
use Rattle.std.proofs.Common.{◌≡◌, [], ◌∷◌, arith, length-append}
use Rattle.std.proofs.lemmas.List.Elements.{All-pop, All-push}
use Rattle.ch_work.specs.Claims.{IsHand}
use Rattle.ch_work.proofs.Items.{all_at, next_split, next_done}
use Rattle.ch_work.specs.Passes.{view_of, IsPassOf}
use Rattle.ch_work.specs.Pieces.{pieces_of}
use Rattle.ch_work.specs.Steps.{nothing_known}
use Rattle.ch_work.proofs.shared.hands_of.Goals as goal

pub loop-pass-preserved : goal.loop-pass-preserved
loop-pass-preserved g c =
    let work = c.args.work.now in
    let clean = g.J.RoomJob.clean work.job.now in
    let board = c.args.board.now in
    let all = c.args.passes.items in
    let before = c.loop-pass.yielded in
    let rest = c.next.new.self.rest.items in
    let so_far = c.loop-pass.invariant in
    let pass = c.in-Some.pass in
    let now = next_split all before c.loop-pass.pass-iterator.rest.items pass rest so_far.3 c.in-Some.ensures.steps.0 in
    let fresh = all_at (λ p. IsPassOf board p × (view_of p ≡ nothing_known (pieces_of work.items work.piece) 1)) all
    c.requires.passes before rest pass now in
    let popped = All-pop clean c.loop-pass.rooms.items c.pop.new.self.items c.pop.result c.pop.ensures.items so_far.2 in (
      omega (arith, c.in_ok-push.ensures.len, so_far.0, length-append before (pass ∷ [])),
      rw c.in_ok-push.ensures.items (All-push (IsHand clean work.items work.piece board) c.loop-pass.hands.items
          (pass, c.pop.result) so_far.1 (fresh.0, fresh.1, popped.1)),
      popped.0,
      next_done all before rest pass now,
    )

pub returns-in_err-push-clause-clean : goal.returns-in_err-push-clause-clean
returns-in_err-push-clause-clean g c =
    (All-pop (g.J.RoomJob.clean c.args.work.now.job.now) c.loop-pass.rooms.items c.pop.new.self.items c.pop.result
    c.pop.ensures.items c.loop-pass.invariant.2).0
