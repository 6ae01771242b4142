-- One more near row is behind those before it, with its end, its weights, its places and its sums.
use Rattle.std.proofs.Common.{◌≡◌, ◌∙◌, ◌+◌, ◌<◌, ◌≤◌, ℕ, List, length, set, slice_index, sym, subst, arith}
use Rattle.std.proofs.lemmas.List.{get_or-set_same, length-set}
use Rattle.ch_engine.specs.Held.{Held}
use Rattle.ch_engine.specs.NearRows.{IsKeptRow, StandsAt, StaysFrom}
use Rattle.ch_engine.specs.NearSums.{AreNearSums, AreNearSumsAt, IsNearSum, IsRowSumsEnd, pair_at}
use Rattle.ch_engine.specs.Routes.{HoldsFrom}
use Rattle.ch_engine.proofs.NearRows.{begin_next, ends_low, set_stays, stays_more}
use Rattle.ch_engine.proofs.NearSums.{rows_end_at, summed_rows_more}
use Rattle.ch_engine.proofs.engine.Engine.write_summed_rows.Goals as goal

pub loop-i-preserved : goal.loop-i-preserved
loop-i-preserved c =
    let l = c.loop-i in
    let v = l.invariant in
    let held = c.args.self.now in
    let sources = c.args.sources.now in
    let s = slice_index sources l.i in
    let row = c.near_row.new.row.items in
    let found = c.row_sums.new.found.items in
    let weights = c.write_row.new.weights in
    let places = c.write_row.new.places in
    let sums = c.write_found-begin.new.sums in
    let end = l.begin + length row in
    let inside : l.i < length l.ends = omega (arith, v.as_many, c.requires.lengths.0, c.loop-i-test.true) in
    let kept : IsKeptRow held s row = subst (λ (h : Held). IsKeptRow h s row) v.same c.in-Ok.ensures.row in
    let fits : end ≤ length l.weights = omega (arith, c.if-len-weights.false, c.len.ensures, c.near_row.new.row.ok, v.fits) in
    let stands : StandsAt l.begin row weights places =
    subst (λ (r : List (ℕ × ℕ)). StandsAt l.begin r weights places) c.deref-in-loop-i.ensures.value c.write_row.ensures.stands in
    let Behind : List (ℕ × ℕ) → Type 0 = λ r. StaysFrom (l.begin + length r) l.weights weights
    × StaysFrom (l.begin + length r) l.places places in
    let behind : Behind row = subst Behind c.deref-in-loop-i.ensures.value c.write_row.ensures.behind in
    let same = c.near_row.ensures.same ∙ v.same in
    let summed : AreNearSums held s row found = subst (λ (h : Held). AreNearSums h s row found) same
    (subst (λ (r : List (ℕ × ℕ)). AreNearSums c.near_row.new.self s r found) c.deref.ensures.value
    c.in_default-row_sums.ensures.sums) in
    let long : length found ≡ length row = subst (λ (r : List (ℕ × ℕ)). length found ≡ length r) c.deref.ensures.value
    c.in_default-row_sums.ensures.long in
    let holds : HoldsFrom l.begin found sums =
    subst (λ (list : List ℕ). HoldsFrom l.begin list sums) c.deref-in-loop-i-2.ensures.value c.write_found-begin.ensures.holds in
    let is : c.write_found-begin.result ≡ end = omega (arith, c.write_found-begin.ensures.end, c.deref-in-loop-i-2.ensures.len, long) in
    let own : AreNearSumsAt held s row l.begin sums = λ j low.
    subst (IsNearSum held s (pair_at row j).1 (pair_at row j).0) (sym (holds j (omega (arith, low, long)))) (summed j low) in
    rw is (record {
      same = c.row_sums.ensures.same ∙ same;
      as_many = length-set l.ends l.i end ∙ v.as_many;
      long = c.write_row.ensures.lengths.0 ∙ v.long;
      wide = c.write_row.ensures.lengths.1 ∙ v.wide;
      summed = c.write_found-begin.ensures.room ∙ v.summed;
      here = sym (begin_next (set l.ends l.i end) l.i ∙ get_or-set_same l.ends l.i end 0 inside);
      low = ends_low l.ends l.i l.begin end v.low (omega arith) inside;
      fits = omega (arith, fits, c.write_row.ensures.lengths.0);
      rest = set_stays c.args.ends.now l.ends l.i end v.rest;
      weights_behind = stays_more c.args.weights.now l.weights weights l.begin end v.weights_behind (omega arith) behind.0;
      places_behind = stays_more c.args.places.now l.places places l.begin end v.places_behind (omega arith) behind.1;
      sums_behind = stays_more c.args.sums.now l.sums sums l.begin end v.sums_behind (omega arith)
          (λ k from. c.write_found-begin.ensures.behind k (omega (arith, from, is, c.write_found-begin.ensures.end)));
      rows = summed_rows_more held sources l.ends l.weights l.places l.sums weights places sums l.i l.begin v.rows v.here v.low inside
          c.write_row.ensures.before c.write_found-begin.ensures.before c.write_row.ensures.lengths.0 row kept fits stands own;
    })

pub returns-in-Err-clause-written : goal.returns-in-Err-clause-written
returns-in-Err-clause-written c =
    let l = c.loop-i in
    let v = l.invariant in
    let held = c.args.self.now in
    let sources = c.args.sources.now in
    let s = slice_index sources l.i in
    let row = c.near_row.new.row.items in
    let end = c.in-Err.end in
    let kept : IsKeptRow held s row = subst (λ (h : Held). IsKeptRow h s row) v.same c.in-Ok.ensures.row in
    let refused : IsRowSumsEnd held s row end = subst (λ (h : Held). IsRowSumsEnd h s row end) (c.near_row.ensures.same ∙ v.same)
    (subst (λ (r : List (ℕ × ℕ)). IsRowSumsEnd c.near_row.new.self s r end) c.deref.ensures.value c.in-Err.ensures.refused) in
    (v.rows, rows_end_at held sources l.ends l.weights l.i row end c.loop-i-test.true kept refused)
