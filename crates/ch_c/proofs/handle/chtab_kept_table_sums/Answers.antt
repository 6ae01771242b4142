-- The network behind the handle is the one whose sums of kept values are answered.
use Rattle.std.proofs.Common.{◌≡◌, sym, subst}
use Rattle.ch_engine.specs.Held.{Held}
use Rattle.ch_c.specs.Calls.{AreKeptSumsAnswered, OfNetwork}
use Rattle.ch_c.proofs.handle.chtab_kept_table_sums.Goals as goal

pub returns-clause-answered : goal.returns-clause-answered
returns-clause-answered c =
    let status = c.write_kept_sums-status.result in
    let args = c.args in
    let new = c.write_kept_sums-status.new in
    let Says : Held → Type 0 = λ held. AreKeptSumsAnswered held args.sources.now args.targets.now
    (record { pairs = args.cells.now; weights = args.weights.now; sums = args.sums.now })
    (record { pairs = new.cells; weights = new.weights; sums = new.sums }) status in
    subst (λ network. OfNetwork network status ((new.cells ≡ args.cells.now) × (new.weights ≡ args.weights.now)
    × (new.sums ≡ args.sums.now)) Says) (sym c.in-Some.ensures.taken)
    (c.in-Some.ensures.kept, subst Says c.deref_mut.ensures.value c.write_kept_sums-status.ensures.answered)
