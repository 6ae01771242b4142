-- The search space of one more target, and the rows that all make.
use Rattle.std.proofs.Common.{◌≡◌, ◌<◌, ◌≤◌, ◌++◌, ℕ, List, length, All, sym, subst, ◌∙◌, arith}
use Rattle.std.proofs.lemmas.Result.{IfOk-weaker}
use Rattle.ch_graph.specs.Rows.{AreRowsOf, pairs_at}
use Rattle.ch_graph.specs.declared.limits.TheConstants.{MOST_WEIGHT}
use Rattle.ch_hierarchy.specs.Hierarchy.{nodes_of}
use Rattle.ch_engine.specs.Slots.{named}
use Rattle.ch_engine.proofs.TableWords.{HaveSpaces, spaces_hold, spaces_more}
use Rattle.ch_engine.proofs.network.Network.find_entries.Goals as goal

pub push_entries-requires-clause-ranks : goal.push_entries-requires-clause-ranks
push_entries-requires-clause-ranks c = λ k d low.
    let v = c.args.self.now in
    let among = subst (All (λ (e : ℕ × ℕ). (e.0 < nodes_of v.0) × (e.1 ≤ MOST_WEIGHT))) (sym c.deref.ensures.value)
    c.in_ok-space.ensures.among in
    let own = (among k d low).0 in
    let numbers = c.loop-c.invariant.numbers in
    let size = c.requires.slots in
    omega (arith, own, numbers, size)

pub loop-c-preserved : goal.loop-c-preserved
loop-c-preserved c =
    let l = c.loop-c in
    let v = c.args.self.now in
    let new = c.push_entries.new in
    let made = c.in_ok-space.ensures.space in
    let old = named l.slots.names l.pairs.items in
    let added = subst (λ (es : List (ℕ × ℕ)). named new.slots.names new.pairs.items ≡ old ++ pairs_at l.c es)
    c.deref.ensures.value c.in_ok-push_entries.ensures.adds in
    record {
      scratch = c.space.ensures.scratch ∙ l.invariant.scratch;
      tree = c.space.ensures.tree;
      numbers = c.push_entries.ensures.slots ∙ l.invariant.numbers;
      low = c.in_ok-push_entries.ensures.pairs;
      pairs = spaces_more v.0 c.args.within c.args.targets.now l.c old (named new.slots.names new.pairs.items) _ made added
          l.invariant.pairs;
    }

pub returns-clause-spaces : goal.returns-clause-spaces
returns-clause-spaces c =
    let l = c.loop-c in
    let v = c.args.self.now in
    let targets = c.args.targets.now in
    let names = l.slots.names in
    let pairs = c.deref-2.result.now in
    let end : l.c ≡ length targets = omega (arith, c.loop-c-test.false, l.auto.c-end) in
    let lent : l.pairs.items ≡ pairs = sym c.deref-2.ensures.value in
    let are : HaveSpaces v.0 c.args.within targets (length targets) (named names pairs) =
    subst (λ (n : ℕ). HaveSpaces v.0 c.args.within targets n (named names pairs)) end
    (subst (λ (ps : List (ℕ × (ℕ × ℕ))). HaveSpaces v.0 c.args.within targets l.c (named names ps)) lent l.invariant.pairs) in
    let low : All (λ (p : ℕ × (ℕ × ℕ)). p.0 < length names) pairs =
    subst (All (λ (p : ℕ × (ℕ × ℕ)). p.0 < length names)) lent l.invariant.low in
    IfOk-weaker c.build.result _ _
    (λ rows made. spaces_hold v.0 c.args.within targets names pairs low are rows
    (subst (λ (n : ℕ). AreRowsOf n pairs rows) c.count.ensures made)) c.build.ensures
