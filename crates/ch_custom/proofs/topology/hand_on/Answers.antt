-- A row is handed on to the first of its nodes.
use Rattle.std.proofs.Common.{ℕ, ◌≤◌, sym, ◌∙◌, subst}
use Rattle.std.specs.Prelude.{Contains, slice_index}
use Rattle.std.proofs.lemmas.Result.{IfOk-weaker}
use Rattle.ch_custom.specs.Pairs.{nodes_row, IsMerged}
use Rattle.ch_custom.proofs.theory.Growing.{row_within, handed_more, handed_empty, empty_of}
use Rattle.ch_custom.proofs.theory.Triangles.{needed_more, count_stays}
use Rattle.ch_custom.proofs.topology.hand_on.Goals as goal

pub returns-then-is_empty-clause-handed : goal.returns-then-is_empty-clause-handed
returns-then-is_empty-clause-handed c =
    handed_empty _ _ _ _ _ c.requires.handed (sym c.requires.row ∙ empty_of c.args.row.now (sym c.is_empty.ensures ∙ c.if-is_empty.true))

pub first_of-parent-requires-clause-within : goal.first_of-parent-requires-clause-within
first_of-parent-requires-clause-within c y has =
    (row_within _ _ _ _ _ c.requires.handed.rows_for c.args.place y c.requires.place (subst (λ z. Contains z y) c.requires.row has)).0

pub merge-requires-clause-node : goal.merge-requires-clause-node
merge-requires-clause-node c =
    (row_within _ _ _ _ _ c.requires.handed.rows_for c.args.place _ c.requires.place
    (subst (λ z. Contains z c.first_of-parent.result) c.requires.row c.first_of-parent.ensures.within)).1

pub returns : goal.returns
returns c =
    let r = c.requires.row in
    let f = c.first_of-parent.ensures in
    let has = subst (λ z. Contains z c.first_of-parent.result) r f.within in
    let lt = (row_within _ _ _ _ _ c.requires.handed.rows_for c.args.place _ c.requires.place has).2 in
    let own = nodes_row c.args.pairs.now (slice_index c.args.order.now c.args.place) in
    let first : (y : ℕ) → Contains own y → slice_index c.args.levels.now c.first_of-parent.result ≤ slice_index c.args.levels.now y =
    λ y c0. f.least y (subst (λ z. Contains z y) (sym r) c0) in
    let merged : IsMerged c.first_of-parent.result c.args.row.now c.first_of-parent.result c.args.pairs.now c.merge.new.self →
    IsMerged c.first_of-parent.result own c.first_of-parent.result c.args.pairs.now c.merge.new.self =
    subst (λ z. IsMerged c.first_of-parent.result z c.first_of-parent.result c.args.pairs.now c.merge.new.self) r in
    record {
      handed = IfOk-weaker c.merge.result _ _
          (λ _ m. handed_more c.args._graph.now c.args.order.now c.args.levels.now c.args.place c.args.pairs.now c.merge.new.self
          c.first_of-parent.result c.requires.handed lt has first (merged m)) c.merge.ensures;
      needed = IfOk-weaker c.merge.result _ _
          (λ _ m. needed_more c.args._graph.now c.args.order.now c.args.levels.now c.args.place c.args.pairs.now c.merge.new.self
          c.first_of-parent.result c.requires.handed lt has first (merged m) c.requires.needed) c.merge.ensures;
      count = IfOk-weaker c.merge.result _ _
          (λ _ m. count_stays c.args._graph.now c.args.order.now c.args.levels.now c.args.place c.args.pairs.now c.merge.new.self
          c.first_of-parent.result c.requires.handed lt has first (merged m)) c.merge.ensures;
    }
