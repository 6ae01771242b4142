-- One more entry is marked.
use Rattle.std.proofs.Common.{ℕ, refl}
use Rattle.ch_flows.specs.declared.tree.Mark.{Mark as AnyMark}
use Rattle.ch_flows.specs.Trees.{entry_at}
use Rattle.ch_flows.proofs.Branches.{marks_more, more_trans, spots_more, spots_stay}
use Rattle.ch_flows.proofs.tree.Reach.marks.Goals as goal

pub loop-k-preserved : goal.loop-k-preserved
loop-k-preserved c =
    let l = c.loop-k in
    let inv = l.invariant in
    let kept = c.args.kept.now in
    let source = c.args.self.now.source in
    let h = c.in_ok-spot.ensures {u = tt} in
    let old = l.marks.items in
    let new = c.push.new.self.items in
    let grown = c.spot.new.branches.items in
    let here = entry_at kept l.k in
    let entry : ℕ × AnyMark = (here.0, record { cost = here.1; spot = c.in_ok-spot.spot }) in
    let pushed = (c.in_ok-push.ensures {u = tt}).items in
    record {
      marked = marks_more kept l.k old new entry c.loop-k-test.true refl pushed inv.marked;
      spots = spots_more grown source old new entry pushed h.spot
          (spots_stay l.branches.items grown h.more source old inv.spots);
      branches = λ side H links reach are. h.branches side H links reach (inv.branches side H links reach are);
      more = more_trans c.args.branches.now.items l.branches.items grown inv.more h.more;
    }
