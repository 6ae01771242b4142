-- One more branch is met at all stops of its node.
use Rattle.std.proofs.Common.{◌≡◌, ℕ, get_or, length, refl, sym, ◌∙◌, subst, arith}
use Rattle.std.proofs.lemmas.List.{get_or_default}
use Rattle.std.proofs.lemmas.List.Elements.{Contains-get_or}
use Rattle.ch_engine.specs.declared.sum_trees.Branch.{Branch}
use Rattle.ch_engine.specs.TableSums.{AreWithin, CoverBranches, CoverSlots}
use Rattle.ch_engine.proofs.SumMeets.{branches_more}
use Rattle.ch_engine.proofs.sum_meets.meet_branches.Goals as goal

pub loop-i-init : goal.loop-i-init
loop-i-init c = record {
  long = refl;
  covers = λ k d low. absurd (omega (arith, low));
  offers = λ H lines values targets s size made at are. are;
}

pub meet_branch-requires-clause-branch : goal.meet_branch-requires-clause-branch
meet_branch-requires-clause-branch c =
    let none : Branch = record { node = 0; cost = record { weight = 0; arcs = 0 }; sum = 0 } in
    c.requires.branches c.loop-i.i none c.loop-i-test.true

pub meet_branch-requires-clause-stops : goal.meet_branch-requires-clause-stops
meet_branch-requires-clause-stops c =
    subst (λ (n : ℕ). AreWithin n c.args.stops.now.rows) (sym c.loop-i.invariant.long) c.requires.stops

pub loop-i-preserved : goal.loop-i-preserved
loop-i-preserved c =
    let l = c.loop-i in
    let inv = l.invariant in
    let branches = c.args.branches.now in
    let names = c.args.stops.now.slots.now.names in
    let stops = c.args.stops.now.rows in
    let none : Branch = record { node = 0; cost = record { weight = 0; arcs = 0 }; sum = 0 } in
    let branch = get_or branches l.i none in
    let met = c.meet_branch.ensures in
    let new = c.meet_branch.new.row in
    record {
      long = met.long ∙ inv.long;
      covers = branches_more branches l.i names stops l.row new inv.covers met.keeps
          (λ d. subst (λ (x : Branch). CoverSlots x.node x.cost names stops new)
          (get_or_default branches l.i none d c.loop-i-test.true) met.covers);
      offers = λ H lines values targets s size made at are.
          met.offers H lines values targets s (size ∙ sym inv.long)
          (made.sound branch (Contains-get_or branches l.i none c.loop-i-test.true)) at
          (inv.offers H lines values targets s size made at are);
    }

pub returns-clause-covers : goal.returns-clause-covers
returns-clause-covers c =
    let l = c.loop-i in
    let end : l.i ≡ length c.args.branches.now = omega (arith, c.loop-i-test.false, l.auto.i-end) in
    subst (λ (n : ℕ). CoverBranches c.args.branches.now n c.args.stops.now.slots.now.names c.args.stops.now.rows l.row) end
    l.invariant.covers
