-- One more cell of the row is counted.
use Rattle.std.proofs.Common.{◌≡◌, ◌+◌, ◌<◌, ℕ, List, length, sym, subst, ◌∙◌, arith}
use Rattle.std.proofs.lemmas.List.{get_or_default}
use Rattle.ch_hierarchy.specs.declared.side.Side.TheVariants.{Up as UpSide}
use Rattle.ch_flows.specs.declared.meeting.Meeting.{Meeting as AnyMeeting}
use Rattle.ch_flows.specs.declared.tree.Mark.{Mark as AnyMark}
use Rattle.ch_flows.specs.Cells.{summed_with}
use Rattle.ch_flows.specs.Found.{is_way, legs_of}
use Rattle.ch_flows.specs.Plans.{AreCountedBy}
use Rattle.ch_flows.specs.Trees.{mark_at, no_mark}
use Rattle.ch_flows.proofs.CellMeetings.{cell_found, stops_within}
use Rattle.ch_flows.proofs.CellPairs.{cell_pair}
use Rattle.ch_flows.proofs.Trees.{kept_low}
use Rattle.ch_flows.proofs.table.add_cells.Goals as goal

pub meetings-requires-clause-nodes : goal.meetings-requires-clause-nodes
meetings-requires-clause-nodes c =
    let args = c.args in
    let stops = args.columns.now.stops in
    let row = args.row.now in
    let all = kept_low args.hierarchy.now c.requires.plan.is.levelled UpSide row.branches.items row.tree c.requires.row.source
    c.requires.row.tree in
    subst (λ (es : List (ℕ × AnyMark)). (k : ℕ) → k < length es → (mark_at es k).0 < length stops) (sym c.deref.ensures.value)
    (λ k low. omega (arith, all k (0, no_mark) low, c.requires.columns.count))

pub meetings-requires-clause-trees : goal.meetings-requires-clause-trees
meetings-requires-clause-trees c =
    stops_within c.args.hierarchy.now c.args.plan.now.layout.links.items c.args.columns.now c.requires.columns c.len.result
    (c.len.ensures ∙ c.args.columns.now.trees.ok.0)

pub count-requires-clause-within : goal.count-requires-clause-within
count-requires-clause-within c =
    let args = c.args in
    let l = c.loop-c in
    let inv = l.invariant in
    let H = args.hierarchy.now in
    let links = args.plan.now.layout.links.items in
    let columns = args.columns.now in
    let trees = columns.trees.items in
    let made = c.in-Ok.ensures {u = tt} in
    let wide : c.len.result ≡ length trees = c.len.ensures ∙ columns.trees.ok.0 in
    let low : l.c < length trees = omega (arith, c.loop-c-test.true, c.requires.width) in
    let meetings = c.in-Ok.meetings.items in
    let meeting = c.index-in-loop-c.result.now in
    let inside : l.c < length meetings = omega (arith, low, made.long, wide) in
    let way = c.find_in.new.self.places.items in
    let cell = cell_found H links columns c.requires.columns args.row.now c.requires.row c.deref.result.now c.deref.ensures.value meetings
    (λ lists size. made.meetings lists (size ∙ sym wide)) l.c low c.index.result.now c.index.ensures meeting
    (c.index-in-loop-c.ensures ∙ get_or_default meetings l.c meeting AnyMeeting.Unknown inside) way c.in-Ok-find_in.found
    (c.in-Ok-find_in.ensures {u = tt}).found in
    cell.within

pub returns-in-Err-clause-refused : goal.returns-in-Err-clause-refused
returns-in-Err-clause-refused c = λ sources targets demands first missed room at counted.
    let args = c.args in
    let l = c.loop-c in
    let inv = l.invariant in
    let H = args.hierarchy.now in
    let links = args.plan.now.layout.links.items in
    let columns = args.columns.now in
    let trees = columns.trees.items in
    let made = c.in-Ok.ensures {u = tt} in
    let wide : c.len.result ≡ length trees = c.len.ensures ∙ columns.trees.ok.0 in
    let low : l.c < length trees = omega (arith, c.loop-c-test.true, c.requires.width) in
    let meetings = c.in-Ok.meetings.items in
    let meeting = c.index-in-loop-c.result.now in
    let inside : l.c < length meetings = omega (arith, low, made.long, wide) in
    let way = c.find_in.new.self.places.items in
    let cell = cell_found H links columns c.requires.columns args.row.now c.requires.row c.deref.result.now c.deref.ensures.value meetings
    (λ lists size. made.meetings lists (size ∙ sym wide)) l.c low c.index.result.now c.index.ensures meeting
    (c.index-in-loop-c.ensures ∙ get_or_default meetings l.c meeting AnyMeeting.Unknown inside) way c.in-Ok-find_in.found
    (c.in-Ok-find_in.ensures {u = tt}).found in
    let pair = cell_pair H links sources targets demands first args.row.now.tree.source trees args.cells.now at l.c c.loop-c-test.true
    c.index.result.now c.index.ensures (legs_of args.row.now.branches.items columns.branches.items way c.in-Ok-find_in.found)
    (is_way c.in-Ok-find_in.found) cell.way in
    (c.in-Err.ensures {u = tt}).refused H args.plan.now sources targets demands (first + l.c) (missed + l.missed) c.requires.plan inv.long
    (omega (arith, room, c.loop-c-test.true)) pair (inv.counted sources targets demands first missed at counted)

pub loop-c-preserved : goal.loop-c-preserved
loop-c-preserved c =
    let args = c.args in
    let l = c.loop-c in
    let inv = l.invariant in
    let H = args.hierarchy.now in
    let links = args.plan.now.layout.links.items in
    let columns = args.columns.now in
    let trees = columns.trees.items in
    let made = c.in-Ok.ensures {u = tt} in
    let wide : c.len.result ≡ length trees = c.len.ensures ∙ columns.trees.ok.0 in
    let low : l.c < length trees = omega (arith, c.loop-c-test.true, c.requires.width) in
    let meetings = c.in-Ok.meetings.items in
    let meeting = c.index-in-loop-c.result.now in
    let inside : l.c < length meetings = omega (arith, low, made.long, wide) in
    let way = c.find_in.new.self.places.items in
    let cell = cell_found H links columns c.requires.columns args.row.now c.requires.row c.deref.result.now c.deref.ensures.value meetings
    (λ lists size. made.meetings lists (size ∙ sym wide)) l.c low c.index.result.now c.index.ensures meeting
    (c.index-in-loop-c.ensures ∙ get_or_default meetings l.c meeting AnyMeeting.Unknown inside) way c.in-Ok-find_in.found
    (c.in-Ok-find_in.ensures {u = tt}).found in
    let row = args.row.now.branches.items in
    let more = c.in-Ok-count.more in
    let h = c.in-Ok-count.ensures {u = tt} in
    let total = summed_with row columns.branches.items c.count.new.sums in
    record {
      scratch = (c.in-Ok-find_in.ensures {u = tt}).scratch ∙ inv.scratch;
      long = h.legs ∙ inv.long;
      sums = h.sums;
      few = omega (arith, inv.few, h.few);
      counted = λ sources targets demands first missed at counted.
          let pair = cell_pair H links sources targets demands first args.row.now.tree.source trees args.cells.now at l.c
          c.loop-c-test.true c.index.result.now c.index.ensures (legs_of row columns.branches.items way c.in-Ok-find_in.found)
          (is_way c.in-Ok-find_in.found) cell.way in
          let now = h.counted H args.plan.now sources targets demands (first + l.c) (missed + l.missed) c.requires.plan pair
          (inv.counted sources targets demands first missed at counted) in
          let next : first + l.c + 1 ≡ first + (l.c + 1) = omega arith in
          let count : missed + l.missed + more ≡ missed + (l.missed + more) = omega arith in
          subst (λ (n : ℕ). AreCountedBy H links sources targets demands n total (missed + (l.missed + more))) next
          (subst (AreCountedBy H links sources targets demands (first + l.c + 1) total) count now);
    }

pub returns-clause-counted : goal.returns-clause-counted
returns-clause-counted c = λ sources targets demands first missed at counted.
    let args = c.args in
    let l = c.loop-c in
    let all : l.c ≡ length args.cells.now = omega (arith, c.loop-c-test.false, l.auto.c-end) in
    subst (λ (n : ℕ). AreCountedBy args.hierarchy.now args.plan.now.layout.links.items sources targets demands (first + n)
    (summed_with args.row.now.branches.items args.columns.now.branches.items l.sums) (missed + l.missed)) all
    (l.invariant.counted sources targets demands first missed at counted)
