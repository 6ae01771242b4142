-- One more pair has its distance as a word, and the words before it stay as they are.
use Rattle.std.proofs.Common.{◌∙◌, ℕ, ◌<◌, None, slice_index, sym, subst}
use Rattle.std.proofs.lemmas.List.{length-set}
use Rattle.ch_engine.specs.Held.{Held}
use Rattle.ch_engine.specs.Cells.{IsCell}
use Rattle.ch_engine.proofs.Filled.{one_more}
use Rattle.ch_engine.proofs.engine.Engine.write_distances.Goals as goal

pub loop-i-preserved : goal.loop-i-preserved
loop-i-preserved c =
    let sources = c.args.sources.now in
    let targets = c.args.targets.now in
    let out = c.loop-i.out in
    let i = c.loop-i.i in
    let word = c.cell.result in
    let Cell : ℕ → ℕ → Type 0 = λ k cell. IsCell c.args.self.now.hierarchy None (slice_index sources k) (slice_index targets k) cell in
    let here = subst (λ (held : Held). IsCell held.hierarchy None (slice_index sources i) (slice_index targets i) word)
    c.loop-i.invariant.0 c.cell.ensures.cell in (
      c.cell.ensures.same ∙ c.loop-i.invariant.0,
      length-set out i word ∙ c.loop-i.invariant.1,
      one_more Cell out i word (subst (λ n. i < n) (sym c.loop-i.invariant.1) c.loop-i-test.true) c.loop-i.invariant.2 here,
    )
