-- The problem line, the order and the legs of its nodes are the text of the hierarchy.
use Rattle.std.proofs.Common.{◌≡◌, ◌∙◌, arith, length, flat_map}
use Rattle.std.specs.Prelude.{vec_len}
use Rattle.ch_hierarchy.specs.Written.{legs_at}
use Rattle.ch_text.proofs.Saving.{all_nodes, whole_text}
use Rattle.ch_text.proofs.hierarchy_text.save_text.Goals as goal

pub count_legs-legs-requires-clause-count : goal.count_legs-legs-requires-clause-count
count_legs-legs-requires-clause-count c =
    let order = c.in_ok-order.ensures.order.nodes.count in
    let most = c.nodes_by_level.ensures.levelled.count in
    rw c.deref.ensures.value (omega arith)

pub count_legs-legs-requires-clause-within : goal.count_legs-legs-requires-clause-within
count_legs-legs-requires-clause-within c =
    rw c.deref.ensures.value (all_nodes c.args.hierarchy.now c.in_ok-order.order.items c.in_ok-order.ensures.order)

pub push_rows-requires : goal.push_rows-requires
push_rows-requires c = rw c.deref-3.ensures.value (all_nodes c.args.hierarchy.now c.in_ok-order.order.items c.in_ok-order.ensures.order)

pub returns : goal.returns
returns c =
    let order = c.in_ok-order.order.items in
    let nodes : vec_len c.in_ok-order.order ≡ length order = let ok = c.in_ok-order.order.ok in omega arith in
    let legs = rw c.deref.ensures.value at c.count_legs-legs.ensures in
    let ordered = rw c.deref-2.ensures.value at c.in_ok-push_order.ensures in
    let rows = rw c.deref-3.ensures.value at c.in_ok-push_rows.ensures in (
      order,
      c.in_ok-order.ensures.order,
      whole_text order (flat_map (legs_at c.args.hierarchy.now) order) _ _ _ _ _
          (c.len.ensures ∙ nodes) legs c.in_ok-text.ensures ordered rows,
    )
