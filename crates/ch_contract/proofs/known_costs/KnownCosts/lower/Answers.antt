-- The cost of the node falls to the given one exactly if that is wanted and less, and all other costs stay.
use Rattle.std.proofs.Common.{sym, ◌∙◌, ap, subst, inl, inr, map, set}
use Rattle.std.specs.Prelude.{IsTrue}
use Rattle.std.proofs.lemmas.Bool.{and_parts, and_cases, not-true, not-false, both_ways}
use Rattle.ch_graph.specs.Cost.{IsAtMost}
use Rattle.ch_contract.specs.KnownCosts.{known_at, known_of, chain_start_of, IsOnly, IsOnlyWhere, Lowers}
use Rattle.ch_contract.proofs.code.Lowering.{dearer, lowers_as}
use Rattle.ch_contract.proofs.code.KnownViews.{known_cost_of, pushed, not_pushed, lowers_one, lowers_nothing}
use Rattle.ch_contract.proofs.known_costs.KnownCosts.lower.Goals.{then-is_less, else-is_less}
use Rattle.ch_contract.proofs.known_costs.KnownCosts.lower.Goals as goal

pub returns-clause-lowers : goal.returns-clause-lowers
returns-clause-lowers g c =
    let cost = g.K.HeldCost.cost in
    let h = c.args.self.now in
    let node = c.args.node in
    let held_cost = c.args.cost in
    let wanted = c.args.is_wanted in
    let here = ap cost c.index-known.ensures ∙ sym (known_cost_of cost h node c.index-known.result.now c.requires.node) in
    elim c.if-is_less.branch [
      | then-is_less w ↦
          let both = and_parts wanted _ w.if-is_less.true in
          let less = subst (IsAtMost (cost held_cost)) here (dearer _ _ _ c.is_at_most.ensures (not-true _ both.1)) in
          let touched = pushed _ c.push_where.new.list.items h.touched.items node c.push_where.ensures.items w.if-is_less.true in
          let next = pushed _ c.push_where-2.new.list.items h.next.items (record { node = node; cost = held_cost })
          c.push_where-2.ensures.items w.if-is_less.true in
          lowers_as (IsOnly node (cost held_cost)) (IsOnlyWhere wanted node (cost held_cost)) (known_of cost h) _
          (λ x d m. (both.0, m)) (λ x d m. m.1)
          (subst (λ z. Lowers (IsOnly node (cost held_cost)) (known_of cost h)
          (record {
            costs = map cost (set h.costs.items node z);
            touched = c.push_where.new.list.items;
            next =
                map (chain_start_of cost) c.push_where-2.new.list.items;
          })) (sym w.t-28-is)
          (lowers_one cost h node held_cost _ _ c.requires.node less touched next))
      | else-is_less w ↦
          let touched = not_pushed _ c.push_where.new.list.items h.touched.items node c.push_where.ensures.items w.if-is_less.false in
          let next = not_pushed _ c.push_where-2.new.list.items h.next.items (record { node = node; cost = held_cost })
          c.push_where-2.ensures.items w.if-is_less.false in
          let known : IsTrue wanted → IsAtMost (known_at (known_of cost h) node) (cost held_cost) =
          λ yes. elim (and_cases wanted _ w.if-is_less.false) [
            | inl off ↦ absurd (both_ways wanted off yes)
            | inr is ↦ subst (λ z. IsAtMost z (cost held_cost)) here (c.is_at_most.ensures.0 (not-false _ is))
          ] in
          lowers_nothing cost h node _ c.index-known.result.now _ _ (IsOnlyWhere wanted node (cost held_cost))
          (w.t-28-is ∙ c.index-known.ensures) touched next
          (λ x d m. subst (λ z. IsAtMost (known_at (known_of cost h) z) d) (sym m.1.0)
          (subst (IsAtMost (known_at (known_of cost h) node)) (sym m.1.1) (known m.0)))
    ]
