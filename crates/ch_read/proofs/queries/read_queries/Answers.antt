-- Both nodes of each query are nodes of the graph, and an error is the fault of the bytes.
use Rattle.std.proofs.Common.{◌≡◌, ◌<◌, ℕ, sym, subst}
use Rattle.std.specs.Prelude.{All}
use Rattle.ch_read.specs.declared.form.Form.TheVariants.{Queries}
use Rattle.ch_read.proofs.Limits.{fault_both_ways, error_of_items, pairs_within}
use Rattle.ch_read.proofs.queries.read_queries.Goals as goal

pub returns-in_err-pairs-clause-fault : goal.returns-in_err-pairs-clause-fault
returns-in_err-pairs-clause-fault c =
    fault_both_ways (Queries c.args.n) c.args.bytes.now _ c.in_err-pairs.field-0.0
    (error_of_items (λ e. e ≡ c.in_err-pairs.field-0.0) c.from_residual.result c.from_residual.ensures.1) c.in_err-pairs.ensures

pub returns-clause-range : goal.returns-clause-range
returns-clause-range c =
    subst (All (λ (p : ℕ × ℕ). (p.0 < c.args.n) × (p.1 < c.args.n))) (sym c.in_ok-pairs.ensures.1)
    (pairs_within c.args.n c.args.bytes.now c.in_ok-pairs.field-0-0 c.in_ok-pairs.ensures.0)
