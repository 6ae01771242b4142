-- Each list moves within the array without losing a value, and in the end the lists are packed at its front.
use Rattle.std.proofs.Common.{◌≡◌, ◌+◌, ◌∙◌, length, arith, refl, subst}
use Rattle.std.specs.List.{SameBelow, SameFrom, CopiedTo}
use Rattle.std.proofs.lemmas.List.Elements.{Contains-get_or}
use Rattle.ch_lists.specs.Packing.{IsMovedUpTo}
use Rattle.ch_lists.proofs.Moved.{none_moved, next, next_place, next_here, next_at, next_stands, within_after, places_after}
use Rattle.ch_lists.proofs.Moved.{lists_after, moved_after, all_moved}
use Rattle.ch_lists.proofs.packing.move_together.Goals as goal

pub loop-entry-init : goal.loop-entry-init
loop-entry-init g c = record {
  within = omega arith;
  numbers = λ j d low. (c.requires.ready.order.listed.entry _ (Contains-get_or c.args.order.now j d low)).1;
  placed = c.requires.ready.placed;
  same = refl;
  moved = none_moved _ _ _ c.requires.ready;
}

pub copy_within-requires-clause-in_bounds : goal.copy_within-requires-clause-in_bounds
copy_within-requires-clause-in_bounds g c =
    let w = next_stands c.loop-entry.places c.args.order.now c.loop-entry.entry-index c.loop-entry.end c.loop-entry.invariant.moved
    c.loop-entry-test.true (length c.loop-entry.values.items) c.loop-entry.invariant.placed in
    let within = w.1 in
    omega arith

pub copy_within-requires-clause-dest_in_bounds : goal.copy_within-requires-clause-dest_in_bounds
copy_within-requires-clause-dest_in_bounds g c =
    let w = next_stands c.loop-entry.places c.args.order.now c.loop-entry.entry-index c.loop-entry.end c.loop-entry.invariant.moved
    c.loop-entry-test.true (length c.loop-entry.values.items) c.loop-entry.invariant.placed in
    let from = w.0 in
    let within = w.1 in
    omega arith

pub loop-entry-preserved : goal.loop-entry-preserved
loop-entry-preserved g c =
    let i = c.loop-entry.invariant in
    let low = c.loop-entry-test.true in
    let order = c.requires.ready.order in
    let entries = c.args.order.now in
    let places = c.loop-entry.places in
    let k = c.loop-entry.entry-index in
    let end = c.loop-entry.end in
    let old = c.loop-entry.values.items in
    let new = c.copy_within.new.self.items in
    let e = next places entries k end i.moved low in
    let p = next_place places entries k end i.moved low in
    let here = next_here places entries k end i.moved low in
    let at = next_at places entries k end i.moved low in
    let by = c.copy_within.ensures.by_index in
    let long : length new ≡ length old = omega (arith, c.copy_within.ensures.len) in
    let copied : CopiedTo old new p.start end p.len = (λ j d from to. by.0 j d from (omega arith)) in
    let below : SameBelow old new end = by.1 in
    let above : SameFrom old new (end + p.len) = (λ j d from. by.2 j d (omega arith)) in
    record {
      within = within_after old new places entries k end e p i.placed i.moved order.listed.once order.rising here at long copied
          below above;
      numbers = i.numbers;
      placed = places_after old new places entries k end e p i.placed i.moved order.listed.once order.rising here at long copied
          below above;
      same = lists_after old new places entries k end e p i.placed i.moved order.listed.once order.rising here at long copied below
          above ∙ i.same;
      moved = moved_after old new places entries k end e p i.placed i.moved order.listed.once order.rising here at long copied below above;
    }

pub returns-clause-packed : goal.returns-clause-packed
returns-clause-packed g c =
    let i = c.loop-entry.invariant in
    let last : c.loop-entry.entry-index ≡ length c.args.order.now =
    omega (arith, c.loop-entry-test.false, c.loop-entry.auto.entry-index-end) in
    let moved = subst (λ k. IsMovedUpTo c.loop-entry.places c.args.order.now k c.loop-entry.end) last i.moved in
    all_moved _ _ _ _ _ _ i.placed i.same moved i.within
