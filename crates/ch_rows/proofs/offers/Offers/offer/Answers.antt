-- The places with an offer are still those that are listed, each once.
use Rattle.std.proofs.Common.{◌≢◌, ◌<◌, length, set, sym, ◌∙◌, ap, subst, arith}
use Rattle.std.proofs.lemmas.List.{get_or_read}
use Rattle.ch_rows.specs.declared.offers.Offers.TheInside.{Inside}
use Rattle.ch_rows.specs.declared.offers.TheConstants.{UNOFFERED}
use Rattle.ch_rows.specs.Offers.{AreListed}
use Rattle.ch_rows.proofs.Takings.{listed_again, listed_more}
use Rattle.ch_rows.proofs.offers.Offers.offer.Goals as goal
use Rattle.ch_rows.proofs.offers.Offers.offer.Goals.{then-least+in_ok-push, else-least}

pub invariant_of-self-then-weight-least : goal.invariant_of-self-then-weight-least
invariant_of-self-then-weight-least c =
    let least = c.self.inside.least.items in
    let places = c.self.inside.places.items in
    let p = c.args.place in
    let w = c.args.weight in
    let size = ap length c.self.view_is in
    let low : p < length least = (let lt = c.requires.place in omega arith) in
    let some : w ≢ UNOFFERED = (let lt = c.requires.weight in λ e. omega arith) in
    let read = get_or_read least p c.index-least.result.now low c.index-least.ensures 0 in
    let Listed : Inside → Type 0 = λ q. AreListed (set q.least.items p w) q.places.items in
    elim c.if-least.branch [
      | then-least+in_ok-push r ↦ subst Listed (sym r.self-inside-is)
          (listed_more least places c.self.invariant p w low some (let e = r.if-least.true in sym read ∙ e) r.push.new.self.items
          r.in_ok-push.ensures.items)
      | else-least r ↦ subst Listed (sym r.self-inside-is)
          (listed_again least places c.self.invariant p w low some (let e = r.if-least.false in λ q. e (read ∙ q)))
    ]
