-- One more source has its cells behind those before it.
use Rattle.std.proofs.Common.{◌≡◌, ◌∙◌, ◌+◌, ◌*◌, ◌<◌, ◌≤◌, ℕ, List, length, slice_index, sym, subst, arith}
use Rattle.std.proofs.Math.Nat.{add-mul}
use Rattle.ch_hierarchy.specs.Hierarchy.{nodes_of}
use Rattle.ch_engine.specs.Held.{Held}
use Rattle.ch_engine.specs.NearTable.{AreCellsAt, AreKeptCells, KeepsAll, places_of}
use Rattle.ch_engine.specs.Routes.{HoldsFrom}
use Rattle.ch_engine.proofs.AddingUp.{ends_before}
use Rattle.ch_engine.proofs.NearRows.{stays_more}
use Rattle.ch_engine.proofs.NearTable.{cells_at, cells_more, row_size}
use Rattle.ch_engine.proofs.engine.Engine.write_cells.Goals as goal

pub near_cells-requires : goal.near_cells-requires
near_cells-requires c = record {
  whole = subst (λ (held : Held). KeepsAll held.near) (sym c.loop-i.invariant.same) c.requires.whole;
  source = subst (λ (held : Held). slice_index c.args.sources.now c.loop-i.i < nodes_of held.hierarchy)
      (sym c.loop-i.invariant.same) (c.requires.sources c.loop-i.i 0 c.loop-i-test.true);
}

pub write_found-begin-requires : goal.write_found-begin-requires
write_found-begin-requires c =
    let l = c.loop-i in
    let held = c.args.self.now in
    let s = slice_index c.args.sources.now l.i in
    let row = c.near_cells.new.row.items in
    let m = places_of held.near in
    let kept : AreKeptCells held s row = subst (λ (h : Held). AreKeptCells h s row) l.invariant.same c.in-Ok.ensures.row in
    let size = row_size held s row c.requires.whole kept in
    let long = ends_before l.i (length c.args.sources.now) m c.loop-i-test.true in
    subst (λ (r : List ℕ). l.begin + length r ≤ length l.cells) (sym c.deref.ensures.value)
    (omega (arith, l.invariant.here, l.invariant.long, c.requires.room, size, long))

pub loop-i-preserved : goal.loop-i-preserved
loop-i-preserved c =
    let l = c.loop-i in
    let v = l.invariant in
    let i = l.i in
    let held = c.args.self.now in
    let sources = c.args.sources.now in
    let m = places_of held.near in
    let s = slice_index sources i in
    let row = c.near_cells.new.row.items in
    let cells = c.write_found-begin.new.sums in
    let kept : AreKeptCells held s row = subst (λ (h : Held). AreKeptCells h s row) v.same c.in-Ok.ensures.row in
    let size = row_size held s row c.requires.whole kept in
    let holds : HoldsFrom l.begin row cells = subst (λ (r : List ℕ). HoldsFrom l.begin r cells) c.deref.ensures.value
    c.write_found-begin.ensures.holds in
    let own : AreCellsAt held s (i * m) cells = subst (λ (b : ℕ). AreCellsAt held s b cells) v.here
    (cells_at held s l.begin row cells kept holds) in
    let next = add-mul i 1 m in
    let end : c.write_found-begin.result ≡ l.begin + length row = subst (λ (r : List ℕ). c.write_found-begin.result ≡ l.begin + length r)
    c.deref.ensures.value c.write_found-begin.ensures.end in
    record {
      same = c.near_cells.ensures.same ∙ v.same;
      long = c.write_found-begin.ensures.room ∙ v.long;
      here = omega (arith, end, size, v.here, next);
      behind = stays_more c.args.cells.now l.cells cells l.begin c.write_found-begin.result v.behind
          (omega (arith, end))
          (λ k from. c.write_found-begin.ensures.behind k (omega (arith, from, c.write_found-begin.ensures.end)));
      written = cells_more held sources l.cells cells i v.written
          (λ k low. c.write_found-begin.ensures.before k (omega (arith, low, v.here))) own;
    }
