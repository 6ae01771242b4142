-- The entries are nodes in order, and have no steps at first.
use Rattle.std.proofs.Common.{rules, ◌≡◌, List, ℕ, ◌<◌, length, ◌∙◌, ap, sym, subst}
use Rattle.std.specs.Vec.{with_items}
use Rattle.std.proofs.lemmas.List.{with_items_is}
use Rattle.ch_graph.specs.declared.cost.Cost.{Cost}
use Rattle.ch_hierarchy.specs.Hierarchy.{nodes_of}
use Rattle.ch_flows.specs.Trees.{AreInOrder, AreSlots, entry_at}
use Rattle.ch_flows.proofs.Trees.{entry_low}
use Rattle.ch_flows.proofs.tree.Reach.find.Goals as goal

pub write_places-requires-clause-nodes : goal.write_places-requires-clause-nodes
write_places-requires-clause-nodes c =
    let H = c.args.hierarchy.now in
    let entries = c.in_ok-entries.entries.items in
    subst (λ (es : List (ℕ × Cost)). (k : ℕ) → k < length es → (entry_at es k).0 < length c.args.places.now) (sym c.deref.ensures.value)
    (subst (λ (n : ℕ). (k : ℕ) → k < length entries → (entry_at entries k).0 < n) (sym c.requires.places)
    (entry_low H c.in_ok-entries.ensures.levelled c.args.root.side c.args.root.source entries c.requires.source
    c.in_ok-entries.ensures.spread))

pub take_all-requires-clause-order : goal.take_all-requires-clause-order
take_all-requires-clause-order c =
    subst (λ (es : List (ℕ × Cost)). AreInOrder es) (sym c.deref-2.ensures.value) c.in_ok-entries.ensures.spread.order

pub take_all-requires-clause-nodes : goal.take_all-requires-clause-nodes
take_all-requires-clause-nodes c =
    let H = c.args.hierarchy.now in
    subst (λ (es : List (ℕ × Cost)). (k : ℕ) → k < length es → (entry_at es k).0 < nodes_of H) (sym c.deref-2.ensures.value)
    (entry_low H c.in_ok-entries.ensures.levelled c.args.root.side c.args.root.source c.in_ok-entries.entries.items c.requires.source
    c.in_ok-entries.ensures.spread)

pub returns-clause-nodes : goal.returns-clause-nodes
returns-clause-nodes c =
    entry_low c.args.hierarchy.now c.in_ok-entries.ensures.levelled c.args.root.side c.args.root.source c.in_ok-entries.entries.items
    c.requires.source c.in_ok-entries.ensures.spread

pub returns-clause-reach : goal.returns-clause-reach
returns-clause-reach c =
    let H = c.args.hierarchy.now in
    let links = c.args.layout.now.links.items in
    let entries = c.in_ok-entries.entries.items in
    let steps = c.in_ok-steps.steps in
    let new = c.take_all.new.steps in
    let size : length steps.items ≡ length entries = search rules in
    let even : length new ≡ length steps.items = c.take_all.ensures.long ∙ ap length c.as_mut_slice.ensures.value in
    let written : (with_items steps new).items ≡ new = with_items_is steps new (even ∙ sym steps.ok.0) in
    record {
      spread = c.in_ok-entries.ensures.spread;
      long = ap length written ∙ even ∙ size;
      steps = subst (AreSlots c.args.root.side H links entries (length entries)) (sym written)
          (subst (λ (es : List (ℕ × Cost)). AreSlots c.args.root.side H links es (length es) new) c.deref-2.ensures.value
          c.take_all.ensures.slots);
    }
