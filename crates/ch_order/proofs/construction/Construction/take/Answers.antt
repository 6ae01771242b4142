-- The contracted node keeps its level and legs, its neighbours are those in its rows, and only their depths are raised.
use Rattle.std.proofs.Common.{◌≡◌, ◌+◌, ◌<◌, ℕ, List, refl, sym, ◌∙◌, ap, subst}
use Rattle.std.specs.Prelude.{All, length, slice_index}
use Rattle.std.proofs.lemmas.List.{with_items_is}
use Rattle.ch_hierarchy.specs.declared.leg.Leg.{Leg}
use Rattle.ch_contract.specs.Measures.{AreDeepened}
use Rattle.ch_contract.specs.Neighbours.{neighbours_in}
use Rattle.ch_contract.proofs.code.NodeBounds.{neighbours_within}
use Rattle.ch_order.proofs.ConstructionCalls.{sized_taken}
use Rattle.ch_order.proofs.construction.Construction.take.Goals as goal

-- the neighbours are those in the node's rows
listed : (ups downs up down : List Leg) (items : List ℕ) → ups ≡ up → downs ≡ down → items ≡ neighbours_in ups downs →
    items ≡ neighbours_in up down
listed ups downs up down items a b c = c ∙ ap (λ l. neighbours_in l downs) a ∙ ap (neighbours_in up) b

pub deepen-requires-clause-nodes : goal.deepen-requires-clause-nodes
deepen-requires-clause-nodes c =
    let list = c.as_slice.ensures ∙ listed _ _ _ _ _ c.up_legs.ensures c.down_legs.ensures c.in_ok-neighbours.ensures in
    let size : c.args.self.remaining.nodes ≡ length c.deref_mut.result.now =
    sym (ap length c.deref_mut.ensures.value ∙ c.requires.next.sizes.depths) in
    subst (λ n. All (λ x. x < n) c.as_slice.result.now) size
    (neighbours_within _ _ _ _ _ _ c.in_ok-self.ensures.up.legs c.in_ok-self.ensures.down.legs c.requires.next.limits list)

-- the neighbours lie deeper
deepened : (v : ℕ) (nodes lent old before after written : List ℕ) → lent ≡ nodes → before ≡ old → written ≡ after →
    AreDeepened lent (slice_index before v + 1) before after → AreDeepened nodes (slice_index old v + 1) old written
deepened v nodes lent old before after written a b e d =
    subst (AreDeepened nodes (slice_index old v + 1) old) (sym e) (subst (λ l. AreDeepened l (slice_index old v + 1) old after) a
    (subst (λ o. AreDeepened lent (slice_index o v + 1) o after) b d))

pub returns-clause-taken : goal.returns-clause-taken
returns-clause-taken c =
    let written = with_items_is c.args.self.depths c.deepen.new.depths (c.deepen.ensures.size ∙ c.deref_mut.ensures.len) in
    record {
      nodes = c.in_ok-self.ensures.nodes;
      legs = c.in_ok-self.ensures.legs;
      up = c.in_ok-self.ensures.up;
      down = c.in_ok-self.ensures.down;
      listed = listed _ _ _ _ _ c.up_legs.ensures c.down_legs.ensures c.in_ok-neighbours.ensures;
      deeper = deepened _ _ _ _ _ _ _ c.as_slice.ensures c.deref_mut.ensures.value written c.deepen.ensures;
      waiting = c.leave.ensures;
      levels = refl;
      contracted = refl;
      ready = (c.in_ok-self.ensures.ready, c.requires.next.ready.1);
    }

pub returns-clause-sizes : goal.returns-clause-sizes
returns-clause-sizes c = sized_taken _ _ _ _ _ c.requires.next.sizes (returns-clause-taken c)
