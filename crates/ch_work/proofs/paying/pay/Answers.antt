-- A weight that is offered is paid, and so is one whose cell already has a weight that is no greater.
use Rattle.std.proofs.Common.{◌≤◌, sym, subst}
use Rattle.ch_work.specs.declared.board.known.Known.{Known}
use Rattle.ch_work.specs.Owed.{HasPaid}
use Rattle.ch_work.specs.Passes.{view_of}
use Rattle.ch_work.specs.Steps.{Knows}
use Rattle.ch_work.proofs.Payments.{One, seen_less, offers_it, after_look}
use Rattle.ch_work.proofs.paying.pay.Goals as goal

pub returns-then-seen-weight-clause-paid : goal.returns-then-seen-weight-clause-paid
returns-then-seen-weight-clause-paid c =
    let v = view_of c.args.pass.now in
    subst (λ (w : Known). HasPaid (One c.args.cell c.args.weight) v w) (sym c.in-Some.ensures.some.1)
    (seen_less v c.args.cell c.args.weight c.in-Some.seen c.if-seen-weight.true)

pub returns-clause-paid : goal.returns-clause-paid
returns-clause-paid c =
    let v = view_of c.args.pass.now in
    let u = view_of c.look.new.pass in
    let shows = after_look v u c.args.cell (λ x. (known : _) → Knows v c.args.cell known → x ≤ known)
    ((known : _) → Knows v c.args.cell known → ⊥) c.look.result c.look.ensures.some c.look.ensures.none in
    subst (λ (w : Known). HasPaid (One c.args.cell c.args.weight) v w) (sym c.offer.ensures.view)
    (offers_it v u c.args.cell c.args.weight shows)
