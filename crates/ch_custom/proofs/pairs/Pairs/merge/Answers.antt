-- The row that is lent grows to a union, and the others stay.
use Rattle.std.proofs.Common.{◌<◌, ℕ, List, refl, sym, ◌∙◌, ap, subst, Vec, Global, set}
use Rattle.std.specs.Prelude.{AllPairs}
use Rattle.std.proofs.lemmas.Result.{IfOk-weaker}
use Rattle.ch_custom.specs.Pairs.{IsUnion, nodes_row}
use Rattle.ch_custom.proofs.theory.Written.{written_list, read_list}
use Rattle.ch_custom.proofs.pairs.Pairs.merge.Goals as goal

-- the nodes of a row
abbrev items_of : Vec ℕ Global → List ℕ
items_of r = r.items

pub merge_into-requires-clause-row : goal.merge_into-requires-clause-row
merge_into-requires-clause-row c =
    subst (AllPairs ◌<◌)
    (read_list items_of c.self.inside.rows.items c.args.self.now c.args.node c.index_mut.result.now c.index_mut.result.now.items
    c.self.view_is c.requires.node (ap items_of (sym c.index_mut.ensures.value))) c.requires.row

pub returns : goal.returns
returns c = IfOk-weaker c.merge_into.result _ _ (λ _ u.
    let w = written_list items_of c.self.inside.rows.items c.args.self.now c.args.node c.merge_into.new.row c.merge_into.new.row.items
    c.self.view_is c.requires.node refl in
    let lent = read_list items_of c.self.inside.rows.items c.args.self.now c.args.node c.index_mut.result.now c.index_mut.result.now.items
    c.self.view_is c.requires.node (ap items_of (sym c.index_mut.ensures.value)) in
    record {
      edited = w.0 ∙ ap (set c.args.self.now c.args.node) (sym w.1);
      union = subst (IsUnion (nodes_row c.args.self.now c.args.node) c.args.others.now c.args.without) (sym w.1)
          (subst (λ z. IsUnion z c.args.others.now c.args.without c.merge_into.new.row.items) (sym lent) u);
    }) c.merge_into.ensures
