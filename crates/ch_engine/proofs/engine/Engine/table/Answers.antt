-- The words that are copied are those of the table's cells.
use Rattle.std.proofs.Common.{◌≡◌, ap, sym, ◌∙◌, subst}
use Rattle.ch_hierarchy.specs.Hierarchy.{LevelsAndLegs}
use Rattle.ch_engine.specs.Cells.{AreTableCells}
use Rattle.ch_engine.specs.Held.{Held}
use Rattle.ch_engine.specs.Lines.{Lines}
use Rattle.ch_engine.proofs.engine.Engine.table.Goals as goal

pub returns-clause-cells : goal.returns-clause-cells
returns-clause-cells c =
    let held = c.args.self.now in
    let sources = c.args.sources.now in
    let targets = c.args.targets.now in
    let words = c.in_ok-words.words.items in
    let network : c.deref.result.now ≡ (held.hierarchy, held.lines) =
    c.deref.ensures ∙ ap (λ (h : Held). (h.hierarchy, h.lines)) c.self.view_is in
    let copied : c.copy_from_slice.new.self ≡ words = c.copy_from_slice.ensures.after ∙ c.deref-2.ensures.value in
    subst (AreTableCells held.hierarchy c.args.within sources targets) (sym copied)
    (subst (λ (n : LevelsAndLegs × Lines). AreTableCells n.0 c.args.within sources targets words) network c.in_ok-words.ensures.cells)
