-- The network behind the handle is the one whose table over kept places is answered.
use Rattle.std.proofs.Common.{◌≡◌, sym, subst}
use Rattle.ch_engine.specs.Held.{Held}
use Rattle.ch_c.specs.Calls.{AreCellsAnswered, OfNetwork}
use Rattle.ch_c.proofs.handle.chtab_near_table.Goals as goal

pub returns-clause-answered : goal.returns-clause-answered
returns-clause-answered c =
    let status = c.write_cells-status.result in
    let args = c.args in
    let new = c.write_cells-status.new in
    let Says : Held → Type 0 = λ held. AreCellsAnswered held args.sources.now
    (record { rows = args.rows.now; cells = args.cells.now }) (record { rows = new.rows; cells = new.cells }) status in
    subst (λ network. OfNetwork network status ((new.rows ≡ args.rows.now) × (new.cells ≡ args.cells.now)) Says)
    (sym c.in-Some.ensures.taken)
    (c.in-Some.ensures.kept, subst Says c.deref_mut.ensures.value c.write_cells-status.ensures.answered)
