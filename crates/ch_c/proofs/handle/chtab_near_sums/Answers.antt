-- The network behind the handle is the one whose sums over near rows are answered.
use Rattle.std.proofs.Common.{◌≡◌, sym, subst}
use Rattle.ch_engine.specs.Held.{Held}
use Rattle.ch_c.specs.Calls.{AreSumsAnswered, OfNetwork}
use Rattle.ch_c.proofs.handle.chtab_near_sums.Goals as goal

pub returns-clause-answered : goal.returns-clause-answered
returns-clause-answered c =
    let status = c.write_sums-status.result in
    let args = c.args in
    let new = c.write_sums-status.new in
    let Says : Held → Type 0 = λ held. AreSumsAnswered held args.sources.now args.values.now args.limits.now
    (record { rows = args.rows.now; sums = args.sums.now }) (record { rows = new.rows; sums = new.sums }) status in
    subst (λ network. OfNetwork network status ((new.rows ≡ args.rows.now) × (new.sums ≡ args.sums.now)) Says) (sym c.in-Some.ensures.taken)
    (c.in-Some.ensures.kept, subst Says c.deref_mut.ensures.value c.write_sums-status.ensures.answered)
