-- The lists that are lent are those of the topology.
use Rattle.std.proofs.Common.{ℕ, List, length, sym, subst}
use Rattle.ch_custom.specs.Customizing.{AreClosed}
use Rattle.std.proofs.lemmas.Result.{IfOk-weaker}
use Rattle.ch_tree.proofs.theory.Fitting.{tree_fits, tree_fits_pruned}
use Rattle.ch_tree.proofs.parents.tree_of.Goals as goal

pub places_above-requires-clause-closed : goal.places_above-requires-clause-closed
places_above-requires-clause-closed c =
    subst (λ (z : List (List ℕ)). AreClosed (length z) c.order.result.now z) (sym c.rows.ensures)
    (subst (λ (z : List ℕ). AreClosed (length c.args.topology.now.pairs) z c.args.topology.now.pairs)
    (sym c.order.ensures.order) c.requires.closed)

pub returns-clause-fits : goal.returns-clause-fits
returns-clause-fits c = IfOk-weaker c.places_above.result _ _
    (λ parents are. tree_fits c.args.topology.now c.order.result.now c.rows.result.now parents.items c.order.ensures.order c.rows.ensures
    are) c.places_above.ensures

pub returns-clause-pruned : goal.returns-clause-pruned
returns-clause-pruned c = IfOk-weaker c.places_above.result _ _
    (λ parents are. tree_fits_pruned c.args.topology.now c.order.result.now c.rows.result.now parents.items c.order.ensures.order
    c.rows.ensures are) c.places_above.ensures
