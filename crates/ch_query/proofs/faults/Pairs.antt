-- Pairs of legs through a lower node.
use Rattle.std.proofs.Common.{get_or, ◌≡◌, ℕ, ◌<◌, ◌≤◌, List, [], length, Contains, refl, sym, subst, arith, inl, inr}
use Rattle.std.specs.Prelude.{◌≢◌}
use Rattle.std.proofs.lemmas.List.Elements.{Contains-get_or}
use Rattle.ch_graph.specs.declared.cost.Cost.{Cost}
use Rattle.ch_graph.specs.Cost.{IsAtMost, cost_sum, no_cost}
use Rattle.ch_graph.proofs.CostSums.{cost_sum-no_cost}
use Rattle.ch_hierarchy.specs.declared.leg.Leg.{Leg}
use Rattle.ch_hierarchy.specs.Hierarchy.{LevelsAndLegs, IsLevelled, IsLegUp}
use Rattle.ch_hierarchy.specs.Rows.{row}
use Rattle.ch_hierarchy.specs.Turned.{turned_hierarchy}
use Rattle.ch_hierarchy.proofs.theory.Turned.{turned_levelled, turned_meeting}
use Rattle.ch_query.specs.Search.{IsUpwardCost}
use Rattle.ch_hierarchy.specs.Kept.{MeetsWithin, IsCovered}
use Rattle.ch_hierarchy.specs.declared.side.Side.{Side}
use Rattle.ch_hierarchy.specs.declared.side.Side.TheVariants.{Up}
use Rattle.ch_hierarchy.specs.Side.{rows_of}
use Rattle.ch_query.specs.Checking.{HasLeg}
use Rattle.ch_query.specs.Covering.{IsCoveredFrom}
use Rattle.ch_query.proofs.one_side.Expanding.{leg_up, reached_by_leg}
use Rattle.ch_query.proofs.faults.FirstFailing.{all_read}
use Rattle.ch_query.proofs.two_sides.ConnectedSearches.{meeting_within}

-- a node is reached from itself
reached_itself : (rows : List (List Leg)) (v : ℕ) → IsUpwardCost rows v v no_cost
reached_itself rows v = record { path = ([], refl, refl); weight = omega arith }

-- a leg up within the bound gives a way within the bound
pub leg_up_covers : (H : LevelsAndLegs) → IsLevelled H → (s t : ℕ) (most : Cost) → (l : Leg) → Contains (row H.up s) l → l.node ≡ t →
    IsAtMost l.cost most → MeetsWithin H s t most
leg_up_covers H k s t most l h e le =
    meeting_within H k s t t l.cost no_cost most (subst (λ q. IsUpwardCost H.up s q l.cost) e (reached_by_leg H k Up s l h))
    (reached_itself H.down t)
    (subst (λ q. IsAtMost q most) (sym (cost_sum-no_cost l.cost)) le)

-- a leg down within the bound gives a way within the bound
pub leg_down_covers : (H : LevelsAndLegs) → IsLevelled H → (s t : ℕ) (most : Cost) → (l : Leg) → Contains (row H.down t) l → l.node ≡ s →
    IsAtMost l.cost most → MeetsWithin H s t most
leg_down_covers H k s t most l h e le =
    let back = leg_up_covers (turned_hierarchy H) (turned_levelled H k) t s most l h e le in
    (back.0, back.1, turned_meeting (turned_hierarchy H) t s back.0 back.1 back.2, back.3)

-- the pair of the leg a and this leg is covered
abbrev pub IsPairCovered : LevelsAndLegs → Leg → Leg → Type 0
IsPairCovered H a b = a.node ≢ b.node → MeetsWithin H a.node b.node (cost_sum a.cost b.cost)

-- once each leg down to v was read, v is covered
pub all_covered : (H : LevelsAndLegs) (v : ℕ) (items : List Leg) (i : ℕ) (d : Leg) → items ≡ row H.down v → length items ≤ i →
    ((j : ℕ) (d : Leg) → j < i → IsCoveredFrom H v (get_or items j d)) → IsCovered H v
all_covered H v items i d e past each a b ha hb ne =
    all_read (IsCoveredFrom H v) items d (λ j lt. each j d (omega arith)) a (subst (λ xs. Contains xs a) (sym e) ha) b hb ne

-- a leg within the bound gives a way within the bound
pub leg_covers : (H : LevelsAndLegs) → IsLevelled H → (s t : ℕ) (most : Cost) → HasLeg H s t most → MeetsWithin H s t most
leg_covers H k s t most (c, m, (l, cost, middle, inl (has, node)), le) =
    leg_up_covers H k s t most l has node (subst (λ q. IsAtMost q most) (sym cost) le)
leg_covers H k s t most (c, m, (l, cost, middle, inr (has, node)), le) =
    leg_down_covers H k s t most l has node (subst (λ q. IsAtMost q most) (sym cost) le)

-- a leg read from a row is a leg of that row
pub row_leg_up : (H : LevelsAndLegs) → IsLevelled H → (side : Side) (v : ℕ) (legs : List Leg) (i : ℕ) (d : Leg) →
    legs ≡ row (rows_of H side) v → i < length legs →
    Contains (row (rows_of H side) v) (get_or legs i d) × IsLegUp H v (get_or legs i d)
row_leg_up H k side v legs i d e lt =
    let has = subst (λ xs. Contains xs (get_or legs i d)) e (Contains-get_or legs i d lt) in
    (has, leg_up H k side v (get_or legs i d) has)
