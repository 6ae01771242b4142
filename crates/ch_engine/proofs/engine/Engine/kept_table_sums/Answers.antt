-- What is written is so for the values that are kept. Where a number is no node, values are kept and the lengths fit.
use Rattle.std.proofs.Common.{rules, ◌≡◌, ◌*◌, List, ℕ, Option, length, refl, sym, ap, ◌∙◌, subst}
use Rattle.std.specs.Prelude.{IsSome, MatchOption, Some, option_map}
use Rattle.std.specs.Arc.{arc_value}
use Rattle.ch_hierarchy.specs.Hierarchy.{nodes_of}
use Rattle.ch_engine.specs.Held.{Held}
use Rattle.ch_engine.specs.LegSums.{values_of}
use Rattle.ch_engine.specs.Refusals.{AreNodes}
use Rattle.ch_engine.specs.TableSums.{AreTableSumsWritten}
use Rattle.ch_engine.proofs.engine.Engine.kept_table_sums.Goals as goal

pub returns-then-not-are_both_nodes-clause-refused : goal.returns-then-not-are_both_nodes-clause-refused
returns-then-not-are_both_nodes-clause-refused c =
    let nodes = nodes_of c.args.self.now.hierarchy in
    let known : c.args.self.now.values ≡ Some (values_of (arc_value c.in-Some.kept)) =
    sym (ap (λ (h : Held). h.values) c.self.view_is) ∙ ap (option_map (λ kept. values_of (arc_value kept))) c.in-Some.is in
    let some : IsSome c.args.self.now.values = subst (λ (o : Option (List ℕ)). IsSome o) (sym known) refl in
    let weighs : length c.args.weights.now ≡ length c.args.sources.now * length c.args.targets.now = search rules in
    let long : length c.args.sums.now ≡ length c.args.sources.now * length c.args.targets.now = search rules in
    let strange : AreNodes nodes c.args.sources.now × AreNodes nodes c.args.targets.now → ⊥ = search rules in
    (refl, refl, (some, (weighs, long), strange))

pub returns-clause-written : goal.returns-clause-written
returns-clause-written c =
    let held = c.args.self.now in
    let sources = c.args.sources.now in
    let targets = c.args.targets.now in
    let new = c.write_table_sums.new in
    let known : held.values ≡ Some (values_of (arc_value c.in-Some.kept)) =
    sym (ap (λ (h : Held). h.values) c.self.view_is) ∙ ap (option_map (λ kept. values_of (arc_value kept))) c.in-Some.is in
    let same : values_of c.deref.result.now ≡ values_of (arc_value c.in-Some.kept) = ap values_of (c.deref.ensures ∙ c.in-Ok.ensures) in
    let written = subst (λ (v : List ℕ). AreTableSumsWritten held sources targets v new.weights new.sums c.write_table_sums.result) same
    c.write_table_sums.ensures.written in
    subst (λ (o : Option (List ℕ)). MatchOption o ⊥ (λ values. AreTableSumsWritten held sources targets values new.weights new.sums
    c.write_table_sums.result)) (sym known) written
