-- The words of the vector are those of the slice that is lowered.
use Rattle.std.proofs.Common.{◌∙◌, List, ℕ, sym, subst}
use Rattle.std.proofs.lemmas.List.{with_items_is}
use Rattle.ch_query.specs.Lowered.{AreLowered}
use Rattle.ch_rows.specs.Sums.{IsSumAt}
use Rattle.ch_rows.proofs.sums.WordsLowering.lower.Goals as goal

pub returns : goal.returns
returns c =
    let low = c.lower.new.row in
    let sums = IsSumAt c.args.weight c.args.bucket.now in
    subst (AreLowered sums c.args.row.now.items)
    (sym (with_items_is c.args.row.now low (c.lower.auto.row ∙ c.deref_mut.ensures.len)))
    (subst (λ (l : List ℕ). AreLowered sums l low) c.deref_mut.ensures.value c.lower.ensures)
