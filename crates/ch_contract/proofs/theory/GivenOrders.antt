-- Hierarchies with given nodes: where none is given, where all are, and that they are kept.
use Rattle.std.proofs.Common.{◌≡◌, ℕ, ◌+◌, ◌*◌, ◌/◌, max, List, [], length, take, refl, sym, ◌∙◌, ap, subst, arith, lit<}
use Rattle.std.specs.Prelude.{slice_index, ℤ}
use Rattle.std.proofs.Math.Nat.{mul-div_cancel, mul-zero}
use Rattle.std.proofs.lemmas.List.{take_all}
use Rattle.std.proofs.lemmas.Grind.{same_number_lists}
use Rattle.ch_graph.specs.Graph.{Network}
use Rattle.ch_hierarchy.specs.Hierarchy.{LevelsAndLegs}
use Rattle.ch_contract.specs.declared.measure.OrderBy.{OrderBy}
use Rattle.ch_contract.specs.declared.measure.OrderBy.TheVariants.{Depth}
use Rattle.ch_contract.specs.Legs.{Legs}
use Rattle.ch_contract.specs.Contraction.{IsPriorityBy}
use Rattle.ch_contract.specs.Order.{depth_after, IsPriorityAfter}
use Rattle.ch_contract.specs.Built.{IsHierarchyInTurn}
use Rattle.ch_contract.specs.Like.{IsPriorityFrom, IsHierarchyFrom, IsHierarchyInOrder, given_count}
use Rattle.ch_contract.specs.LikeLaws.{HierarchiesFromGivenNodesAreKept, AllAfreshIsByDepth, NoneAfreshIsAsGiven}
use Rattle.ch_contract.specs.LikeLaws.{HierarchiesAreInTheirOrder}
use Rattle.ch_contract.proofs.theory.OneInTurn.{taken_at}
use Rattle.ch_contract.proofs.theory.Enough.{hierarchy_with_enough}
use Rattle.ch_contract.proofs.theory.EnoughKept.{hierarchies_with_enough_kept}

-- a priority with no given nodes is the priority
from_none : (by : OrderBy) (n h : ℕ) (order : List ℕ) (L : ℕ → Legs) (i x : ℕ) (p : ℤ) → IsPriorityAfter by n h order L i x p →
    IsPriorityFrom 0 by n h order L i x p
from_none by n h order L i x p r =
    let same : r.0 ≡ max 0 r.0 = omega arith in
    (r.0, r.1, subst (λ z. IsPriorityBy by n h (L z) (depth_after order L z) x p) same r.2)

none_from : (by : OrderBy) (n h : ℕ) (order : List ℕ) (L : ℕ → Legs) (i x : ℕ) (p : ℤ) → IsPriorityFrom 0 by n h order L i x p →
    IsPriorityAfter by n h order L i x p
none_from by n h order L i x p r =
    let same : max 0 r.0 ≡ r.0 = omega arith in
    (r.0, r.1, subst (λ z. IsPriorityBy by n h (L z) (depth_after order L z) x p) same r.2)

-- a hierarchy of nodes in turn has no given nodes
pub from_in_turn : (by : OrderBy) (g : Network) (h : ℕ) (H : LevelsAndLegs) → IsHierarchyInTurn by g h H → IsHierarchyFrom by g h [] H
from_in_turn by g h H is = (
  is.0,
  is.1,
  is.2,
  refl,
  λ i x ge lt inside away. let r = is.3 i x lt inside away in
      (r.0, r.1, from_none by g.nodes h is.0 is.1 i _ r.0 r.2, from_none by g.nodes h is.0 is.1 i x r.1 r.3, r.4),
)

pub in_turn_from : (by : OrderBy) (g : Network) (h : ℕ) (H : LevelsAndLegs) → IsHierarchyFrom by g h [] H → IsHierarchyInTurn by g h H
in_turn_from by g h H is = (
  is.0,
  is.1,
  is.2,
  λ i x lt inside away. let r = is.4 i x (omega arith) lt inside away in
      (r.0, r.1, none_from by g.nodes h is.0 is.1 i _ r.0 r.2, none_from by g.nodes h is.0 is.1 i x r.1 r.3, r.4),
)

-- a hierarchy with given nodes is kept
pub from_kept : HierarchiesFromGivenNodesAreKept
from_kept by g h given H limits hops is =
    hierarchies_with_enough_kept g h H is.0 is.1 limits (hierarchy_with_enough g h H is.0 is.1 limits hops is.2)

-- if all are ordered afresh, no node is given
none_given : (n : ℕ) (given : List ℕ) → take (given_count n 100) given ≡ []
none_given n given =
    let whole : n * 100 / 100 ≡ n = mul-div_cancel n (lit< tt) in
    let none : given_count n 100 ≡ 0 = omega (arith, whole) in
    ap (λ k. take k given) none

pub all_afresh : AllAfreshIsByDepth
all_afresh g h given H =
    let none = none_given g.nodes given in (
      λ is. in_turn_from Depth g h H (subst (λ l. IsHierarchyFrom Depth g h l H) none is),
      λ is. subst (λ l. IsHierarchyFrom Depth g h l H) (sym none) (from_in_turn Depth g h H is),
    )

-- if none is ordered afresh, all nodes are given
all_given : (n : ℕ) (given : List ℕ) → length given ≡ n → take (given_count n 0) given ≡ given
all_given n given size =
    let none : n * 0 / 100 ≡ 0 = ap (λ z. z / 100) (mul-zero n) in
    take_all (given_count n 0) given (omega (arith, none))

pub none_afresh : NoneAfreshIsAsGiven
none_afresh g h given H order =
    let size = order.count in
    let all = all_given g.nodes given size in (
      λ is.
          let f = subst (λ l. IsHierarchyFrom Depth g h l H) all is in
          let count = f.2.contracted.nodes.0 in
          let same : f.0 ≡ given = sym (take_all (length given) f.0 (omega arith)) ∙ f.3 in
          subst (λ o. IsHierarchyInOrder g h o H) same (f.1, f.2),
      λ is.
          let from : IsHierarchyFrom Depth g h given H =
          (given, is.0, is.1, take_all (length given) given (omega arith), λ i x ge lt inside away. absurd (omega arith)) in
          subst (λ l. IsHierarchyFrom Depth g h l H) (sym all) from,
    )

-- a hierarchy of nodes in turn is the one in the order of its levels
pub in_their_order : HierarchiesAreInTheirOrder
in_their_order by g h order H is nodes levels =
    let p = is.2 in
    let size = p.contracted.nodes.0 in
    let count = nodes.count in
    let same : is.0 ≡ order = same_number_lists is.0 order (size ∙ sym count) (λ i lt.
    let at = taken_at g.nodes is.0 (slice_index order i) p.contracted.nodes (nodes.within i (omega arith)) in
    let mine : slice_index H.level (slice_index order i) ≡ at.0 + 1 = ap (slice_index H.level) (sym at.2) ∙ p.level at.0 at.1 in
    let its = levels.each i (omega arith) in
    let place : at.0 ≡ i = omega arith in
    subst (λ k. slice_index is.0 k ≡ slice_index order i) place at.2)
    in
    subst (λ o. IsHierarchyInOrder g h o H) same (is.1, p)
