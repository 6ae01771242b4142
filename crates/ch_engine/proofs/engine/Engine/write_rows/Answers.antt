-- One more near row is behind those before it, with its end, its weights and its places.
use Rattle.std.proofs.Common.{◌≡◌, ◌∙◌, ◌+◌, ◌<◌, ◌≤◌, ℕ, List, length, set, slice_index, sym, subst, arith}
use Rattle.std.proofs.lemmas.List.{get_or-set_same, length-set}
use Rattle.ch_engine.specs.Held.{Held}
use Rattle.ch_engine.specs.NearRows.{IsKeptRow, StandsAt, StaysFrom}
use Rattle.ch_engine.proofs.NearRows.{begin_next, ends_low, rows_more, set_stays, stays_more}
use Rattle.ch_engine.proofs.engine.Engine.write_rows.Goals as goal

pub loop-i-preserved : goal.loop-i-preserved
loop-i-preserved c =
    let l = c.loop-i in
    let v = l.invariant in
    let held = c.args.self.now in
    let sources = c.args.sources.now in
    let row = c.near_row.new.row.items in
    let weights = c.write_row.new.weights in
    let places = c.write_row.new.places in
    let inside : l.i < length l.ends = omega (arith, v.as_many, c.requires.lengths.0, c.loop-i-test.true) in
    let kept : IsKeptRow held (slice_index sources l.i) row =
    subst (λ (h : Held). IsKeptRow h (slice_index sources l.i) row) v.same c.in-Ok.ensures.row in
    let count : c.len-begin.result ≡ length row = omega (arith, c.len-begin.ensures, c.near_row.new.row.ok) in
    let fits : l.begin + length row ≤ length l.weights =
    omega (arith, c.if-len-weights.false, c.len.ensures, c.near_row.new.row.ok, v.fits) in
    let stands : StandsAt l.begin row weights places =
    subst (λ (r : List (ℕ × ℕ)). StandsAt l.begin r weights places) c.deref.ensures.value c.write_row.ensures.stands in
    let end = l.begin + length row in
    let Behind : List (ℕ × ℕ) → Type 0 = λ r. StaysFrom (l.begin + length r) l.weights weights
    × StaysFrom (l.begin + length r) l.places places in
    let behind : Behind row = subst Behind c.deref.ensures.value c.write_row.ensures.behind in
    rw count (record {
      same = c.near_row.ensures.same ∙ v.same;
      as_many = length-set l.ends l.i end ∙ v.as_many;
      long = c.write_row.ensures.lengths.0 ∙ v.long;
      wide = c.write_row.ensures.lengths.1 ∙ v.wide;
      here = sym (begin_next (set l.ends l.i end) l.i ∙ get_or-set_same l.ends l.i end 0 inside);
      low = ends_low l.ends l.i l.begin end v.low (omega arith) inside;
      fits = omega (arith, fits, c.write_row.ensures.lengths.0);
      rest = set_stays c.args.ends.now l.ends l.i end v.rest;
      weights_behind = stays_more c.args.weights.now l.weights weights l.begin end v.weights_behind (omega arith) behind.0;
      places_behind = stays_more c.args.places.now l.places places l.begin end v.places_behind (omega arith) behind.1;
      rows = rows_more held sources l.ends l.weights l.places weights places l.i l.begin v.rows v.here v.low inside
          c.write_row.ensures.before c.write_row.ensures.lengths.0 row kept fits stands;
    })
