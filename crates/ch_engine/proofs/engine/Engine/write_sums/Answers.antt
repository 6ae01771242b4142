-- One more source has its sums behind those before it, one for each limit.
use Rattle.std.proofs.Common.{◌≡◌, ◌∙◌, ◌+◌, ◌*◌, ◌<◌, ℕ, List, length, slice_index, sym, subst, arith}
use Rattle.std.specs.Prelude.{All}
use Rattle.std.proofs.Math.Nat.{add-mul}
use Rattle.ch_hierarchy.specs.Hierarchy.{nodes_of}
use Rattle.ch_engine.specs.Held.{Held}
use Rattle.ch_engine.specs.NearRows.{IsKeptRow}
use Rattle.ch_engine.specs.Sums.{AreSumsAt, sum_within}
use Rattle.ch_engine.proofs.AddingUp.{places_low, sums_more}
use Rattle.ch_engine.proofs.NearRows.{stays_more}
use Rattle.ch_engine.proofs.engine.Engine.write_sums.Goals as goal

pub near_row-requires : goal.near_row-requires
near_row-requires c = subst (λ (held : Held). slice_index c.args.sources.now c.loop-i.i < nodes_of held.hierarchy)
    (sym c.loop-i.invariant.same) (c.requires.sources c.loop-i.i 0 c.loop-i-test.true)

pub add_up-requires : goal.add_up-requires
add_up-requires c =
    let l = c.loop-i in
    let held = c.args.self.now in
    let s = slice_index c.args.sources.now l.i in
    let row = c.near_row.new.row.items in
    let values = c.args.values.now in
    let kept : IsKeptRow held s row = subst (λ (h : Held). IsKeptRow h s row) l.invariant.same c.in-Ok-near_row.ensures.row in
    record {
      places = subst (λ (r : List (ℕ × ℕ)). All (λ e. e.1 < length values) r) (sym c.deref.ensures.value)
          (places_low held s row values kept c.requires.values);
      room = l.invariant.wide;
    }

pub loop-i-preserved : goal.loop-i-preserved
loop-i-preserved c =
    let l = c.loop-i in
    let v = l.invariant in
    let i = l.i in
    let held = c.args.self.now in
    let sources = c.args.sources.now in
    let values = c.args.values.now in
    let limits = c.args.limits.now in
    let m = length limits in
    let s = slice_index sources i in
    let row = c.near_row.new.row.items in
    let found = c.add_up.new.found in
    let sums = c.write_found-begin.new.sums in
    let kept : IsKeptRow held s row = subst (λ (h : Held). IsKeptRow h s row) v.same c.in-Ok-near_row.ensures.row in
    let wide : length found ≡ m = c.add_up.ensures.room ∙ v.wide in
    let all = subst (λ (r : List (ℕ × ℕ)). (j : ℕ) → j < m → slice_index found j ≡ sum_within values (slice_index limits j) r)
    c.deref.ensures.value (c.add_up.ensures.all c.if-not-add_up.false) in
    let here : AreSumsAt values limits row (i * m) sums =
    λ j low. subst (λ (b : ℕ). slice_index sums (b + j) ≡ sum_within values (slice_index limits j) row) v.here
    (c.write_found-begin.ensures.holds j (omega (arith, low, wide)) ∙ all j low) in
    let next = add-mul i 1 m in
    record {
      same = c.near_row.ensures.same ∙ v.same;
      long = c.write_found-begin.ensures.room ∙ v.long;
      wide = wide;
      here = omega (arith, c.write_found-begin.ensures.end, wide, v.here, next);
      behind = stays_more c.args.sums.now l.sums sums l.begin c.write_found-begin.result v.behind
          (omega (arith, c.write_found-begin.ensures.end))
          (λ k from. c.write_found-begin.ensures.behind k (omega (arith, from, c.write_found-begin.ensures.end)));
      summed = sums_more held sources values limits l.sums sums i v.summed
          (λ k low. c.write_found-begin.ensures.before k (omega (arith, low, v.here))) row kept here;
    }
