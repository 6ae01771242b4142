-- One more worker that handed its pass back without an error has paid off its pieces.
use Rattle.std.proofs.Common.{rules, ◌≡◌, [], ◌∷◌, arith, length, length-append, vec_len}
use Rattle.std.proofs.lemmas.List.Elements.{All-push}
use Rattle.ch_work.specs.Owed.{HasPaidOff, HandsBack}
use Rattle.ch_work.proofs.Items.{item_has, next_split, next_done}
use Rattle.ch_work.proofs.cells.all_paid.Goals as goal

pub loop-pass-preserved : goal.loop-pass-preserved
loop-pass-preserved g c =
    let payments = c.args.payments.now in
    let owes = g.J.CellJob.owes payments.job.now in
    let all = c.args.worked.items in
    let before = c.loop-pass.yielded in
    let rest = c.next.new.self.rest.items in
    let len : length all ≡ vec_len c.args.worked = search rules in
    let now = next_split all before c.loop-pass.pass-iterator.rest.items (c.in-Some.pass, c.in-Some.outcome) rest
    c.loop-pass.invariant.2 c.in-Some.ensures.steps.0 in
    let has = item_has (λ i r. HandsBack owes payments.items payments.piece payments.board.now r.0 r.1) all (vec_len c.args.worked)
    len c.requires before rest (c.in-Some.pass, c.in-Some.outcome) now in
    let is = rw c.in_ok-outcome.was at has in (
      omega (arith, c.in_ok-push.ensures.len, c.loop-pass.invariant.0, length-append before ((c.in-Some.pass, c.in-Some.outcome) ∷ [])),
      rw c.in_ok-push.ensures.items (All-push (HasPaidOff owes payments.items payments.piece payments.board.now)
          c.loop-pass.passes.items c.in-Some.pass c.loop-pass.invariant.1 is.1),
      next_done all before rest (c.in-Some.pass, c.in-Some.outcome) now,
    )
