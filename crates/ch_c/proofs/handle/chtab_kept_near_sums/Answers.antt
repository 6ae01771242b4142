-- The network behind the handle is the one whose near rows are answered with their sums.
use Rattle.std.proofs.Common.{◌≡◌, sym, subst}
use Rattle.ch_engine.specs.Held.{Held}
use Rattle.ch_c.specs.Calls.{AreSummedRowsAnswered, OfNetwork}
use Rattle.ch_c.proofs.handle.chtab_kept_near_sums.Goals as goal

pub returns-clause-answered : goal.returns-clause-answered
returns-clause-answered c =
    let status = c.write_summed_rows-status.result in
    let args = c.args in
    let new = c.write_summed_rows-status.new in
    let Says : Held → Type 0 = λ held. AreSummedRowsAnswered held args.sources.now (record {
      rows = record { rows = args.rows.now; ends = args.ends.now; weights = args.weights.now; places = args.places.now };
      sums = args.sums.now;
    }) (record {
      rows = record { rows = new.rows; ends = new.ends; weights = new.weights; places = new.places };
      sums = new.sums;
    }) status in
    subst (λ network. OfNetwork network status ((new.rows ≡ args.rows.now) × (new.ends ≡ args.ends.now)
    × (new.weights ≡ args.weights.now) × (new.places ≡ args.places.now) × (new.sums ≡ args.sums.now)) Says)
    (sym c.in-Some.ensures.taken)
    (c.in-Some.ensures.kept, subst Says c.deref_mut.ensures.value c.write_summed_rows-status.ensures.answered)
