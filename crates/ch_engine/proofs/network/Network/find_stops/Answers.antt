-- The stops of one more target, and the rows that all make.
use Rattle.std.proofs.Common.{◌≡◌, ◌<◌, ℕ, List, get_or, length, All, sym, subst, ◌∙◌, arith}
use Rattle.std.proofs.lemmas.Result.{IfOk-weaker}
use Rattle.ch_graph.specs.Rows.{AreRowsOf}
use Rattle.ch_hierarchy.specs.declared.side.Side.TheVariants.{Down}
use Rattle.ch_engine.specs.declared.sum_meets.Stop.{Stop}
use Rattle.ch_engine.specs.declared.sum_trees.Branch.{Branch}
use Rattle.ch_engine.specs.Slots.{named}
use Rattle.ch_engine.specs.TableSums.{AddsStops, AreBranches, AreStopPairs}
use Rattle.ch_engine.proofs.SumMeets.{branches_low, pairs_more, stops_are}
use Rattle.ch_engine.proofs.network.Network.find_stops.Goals as goal

pub push_stops-requires-clause-nodes : goal.push_stops-requires-clause-nodes
push_stops-requires-clause-nodes c =
    let v = c.args.self.now in
    let values = c.args.kept.now.values.items in
    let made = subst (λ (es : List Branch). AreBranches Down v.0 v.1 values (get_or c.args.targets.now c.loop-c.c 0) es)
    (sym c.deref.ensures.value) c.in_ok-find_branches.ensures.branches in
    branches_low v.0 v.1 values c.args.targets.now Down (get_or c.args.targets.now c.loop-c.c 0) c.deref.result.now made
    c.loop-c.slots.numbers (c.loop-c.invariant.numbers ∙ c.requires.slots)

pub loop-c-preserved : goal.loop-c-preserved
loop-c-preserved c =
    let l = c.loop-c in
    let v = c.args.self.now in
    let values = c.args.kept.now.values.items in
    let new = c.push_stops.new in
    let made = c.in_ok-find_branches.ensures.branches in
    let added = subst (λ (es : List Branch). AddsStops l.c es (named l.slots.names l.pairs.items) (named new.slots.names new.pairs.items))
    c.deref.ensures.value c.in_ok-push_stops.ensures.adds in
    record {
      scratch = c.find_branches.ensures.scratch ∙ l.invariant.scratch;
      numbers = c.push_stops.ensures.slots ∙ l.invariant.numbers;
      low = c.in_ok-push_stops.ensures.pairs;
      pairs = pairs_more v.0 v.1 values c.args.targets.now l.c (named l.slots.names l.pairs.items) (named new.slots.names new.pairs.items) _
          made added l.invariant.pairs;
    }

pub returns-clause-stops : goal.returns-clause-stops
returns-clause-stops c =
    let l = c.loop-c in
    let v = c.args.self.now in
    let values = c.args.kept.now.values.items in
    let targets = c.args.targets.now in
    let names = l.slots.names in
    let pairs = c.deref-2.result.now in
    let end : l.c ≡ length targets = omega (arith, c.loop-c-test.false, l.auto.c-end) in
    let lent : l.pairs.items ≡ pairs = sym c.deref-2.ensures.value in
    let are : AreStopPairs v.0 v.1 values targets (length targets) (named names pairs) =
    subst (λ (n : ℕ). AreStopPairs v.0 v.1 values targets n (named names pairs)) end
    (subst (λ (ps : List (ℕ × Stop)). AreStopPairs v.0 v.1 values targets l.c (named names ps)) lent l.invariant.pairs) in
    let low : All (λ (p : ℕ × Stop). p.0 < length names) pairs =
    subst (All (λ (p : ℕ × Stop). p.0 < length names)) lent l.invariant.low in
    IfOk-weaker c.build.result _ _
    (λ stops made. stops_are v.0 v.1 values targets names pairs low are stops
    (subst (λ (n : ℕ). AreRowsOf n pairs stops) c.count.ensures made)) c.build.ensures
