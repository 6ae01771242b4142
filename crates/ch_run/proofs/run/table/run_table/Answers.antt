-- The run goes as its story says at each end, so the output takes the table, or its first bytes.
use Rattle.std.proofs.Common.{◌∙◌, inl, inr, refl, arith, rules}
use Rattle.ch_run.proofs.Owed.{err_as}
use Rattle.ch_run.proofs.Stories.{table_told}
use Rattle.ch_run.proofs.Story.{ended, loads_serving, loads_stops, writes_none, writes_weaker}
use Rattle.ch_run.specs.Run.{reading}
use Rattle.ch_run.proofs.run.table.run_table.Goals as goal

pub returns-in_err-loaded : goal.returns-in_err-loaded
returns-in_err-loaded g c = ended (λ went. (table_told c.args.options.now went).later.1.1.1.written)
    (loads_stops _ _ _ _ _ _ c.from_residual.ensures.1 (refl, refl, refl) c.in_err-loaded.ensures.went) (search rules)

pub returns-in_err-sources : goal.returns-in_err-sources
returns-in_err-sources g c =
    let ends = rw c.graph.ensures.graph at c.in_err-sources.ensures.read in
    ended (λ went. (table_told c.args.options.now went).later.1.1.1.written)
    (loads_serving _ _ _ _ _ _ _ (λ h place. inl (err_as _ _ _ c.from_residual-in_err-sources.ensures.1 ends, (refl, refl)))
    c.in_ok-loaded.ensures.went) (search rules)

pub returns-in_err-targets : goal.returns-in_err-targets
returns-in_err-targets g c =
    let from = rw c.graph.ensures.graph at c.in_ok-sources.ensures.read in
    let ends = err_as _ _ _ c.from_residual-in_err-targets.ensures.1 (rw c.graph-2.ensures.graph at c.in_err-targets.ensures.read) in
    ended (λ went. (table_told c.args.options.now went).later.1.1.1.written)
    (loads_serving _ _ _ _ _ _ _ (λ h place. inr (from.0, _, from.1, from.2, inl (ends, refl))) c.in_ok-loaded.ensures.went) (search rules)

pub returns-then-len : goal.returns-then-len
returns-then-len g c =
    let from = rw c.graph.ensures.graph at c.in_ok-sources.ensures.read in
    let to = rw c.graph-2.ensures.graph at c.in_ok-targets.ensures.read in
    let many = rw (c.len.ensures ∙ c.in_ok-sources.sources.ok.0, c.len-2.ensures ∙ c.in_ok-targets.targets.ok.0) at c.if-len.true in
    let graph = reading g.I.Input.read_gives c.args.graph.now c.loaded_from.new.graph in
    record {
      went = loads_serving graph _ _ _ _ _ _ (λ h place.
          inr (from.0, _, from.1, from.2, inr (to.0, _, to.1, to.2, inl (many, refl, refl)))) c.in_ok-loaded.ensures.went;
      written = λ count is. absurd (let none : ⊥ = cc in none);
      same = search rules;
    }

pub returns-in_err-parts : goal.returns-in_err-parts
returns-in_err-parts g c =
    let from = rw c.graph.ensures.graph at c.in_ok-sources.ensures.read in
    let to = rw c.graph-2.ensures.graph at c.in_ok-targets.ensures.read in
    let few = rw (c.len.ensures ∙ c.in_ok-sources.sources.ok.0, c.len-2.ensures ∙ c.in_ok-targets.targets.ok.0) at c.if-len.false in
    let none = writes_none _ _ _ _ c.from_residual-in_err-parts.ensures.1 in
    ended (λ went. (table_told c.args.options.now went).later.1.1.1.written)
    (loads_serving _ _ _ _ _ _ _ (λ h place.
    inr (from.0, _, from.1, from.2, inr (to.0, _, to.1, to.2, inr (λ many. absurd (omega arith), none)))) c.in_ok-loaded.ensures.went)
    (search rules)

pub returns : goal.returns
returns g c =
    let from = rw c.graph.ensures.graph at c.in_ok-sources.ensures.read in
    let to = rw c.graph-2.ensures.graph at c.in_ok-targets.ensures.read in
    let few = rw (c.len.ensures ∙ c.in_ok-sources.sources.ok.0, c.len-2.ensures ∙ c.in_ok-targets.targets.ok.0) at c.if-len.false in
    let text = rw (c.deref-2.ensures.value, c.deref.ensures.value) at c.in_ok-parts.ensures.text in
    let wrote = writes_weaker _ _ _ _ _ c.write_parts.result (rw c.deref-3.ensures.value text) c.write_parts.ensures.wrote in
    ended (λ went. (table_told c.args.options.now went).later.1.1.1.written)
    (loads_serving _ _ _ _ _ _ _ (λ h place.
    inr (from.0, _, from.1, from.2, inr (to.0, _, to.1, to.2, inr (λ many. absurd (omega arith), wrote)))) c.in_ok-loaded.ensures.went)
    (search rules)
