-- One more entry has its branch.
use Rattle.std.proofs.Common.{◌∙◌, refl}
use Rattle.ch_flows.proofs.Branches.{more_none, more_trans}
use Rattle.ch_flows.proofs.tree.Reach.append_all.Goals as goal

pub loop-place-init : goal.loop-place-init
loop-place-init c = record {
  long = refl;
  branches = λ side H links reach are. are;
  more = more_none c.args.branches.now.items;
}

pub loop-place-preserved : goal.loop-place-preserved
loop-place-preserved c =
    let inv = c.loop-place.invariant in
    let h = c.in_ok-append.ensures {u = tt} in
    record {
      long = h.long ∙ inv.long;
      branches = λ side H links reach are. h.branches side H links reach (inv.branches side H links reach are);
      more = more_trans c.args.branches.now.items c.loop-place.branches.items c.append.new.branches.items inv.more h.more;
    }
