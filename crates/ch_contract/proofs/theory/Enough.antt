-- Contraction is a case of contraction with enough shortcuts.
use Rattle.std.proofs.Common.{◌≡◌, ℕ, ◌+◌, ◌<◌, ◌≤◌, List, [], ◌∷◌, Some, refl, sym, subst, arith, inl, inr}
use Rattle.std.specs.Prelude.{◌≢◌, slice_index}
use Rattle.ch_graph.specs.declared.cost.Cost.{Cost}
use Rattle.ch_graph.specs.Cost.{IsAtMost}
use Rattle.ch_graph.specs.Graph.{Network, IsWithinLimits}
use Rattle.ch_graph.proofs.CostOrder.{IsAtMost_or_IsBelow, IsBelow-IsAtMost}
use Rattle.ch_hierarchy.specs.Hierarchy.{LevelsAndLegs}
use Rattle.ch_contract.specs.declared.shortcut.Shortcut.{Shortcut}
use Rattle.ch_contract.specs.Legs.{Label, Legs, HasWitness, IsHopBound, AreLegsWithin, opening}
use Rattle.ch_contract.specs.Contraction.{IsShortcut, AreShortcuts, Contracts}
use Rattle.ch_contract.specs.Enough.{AreEnough, ContractsWithEnough, ContractsWithin}
use Rattle.ch_contract.specs.Order.{AreTaken, AreContracted}
use Rattle.ch_contract.specs.Built.{IsHierarchyIn, IsHierarchyOf}
use Rattle.ch_contract.proofs.theory.OpeningLegs.{opening_within}
use Rattle.ch_contract.proofs.theory.OneInTurn.{one_map}
use Rattle.ch_contract.proofs.theory.Chains.{chain_cost-one}
use Rattle.ch_contract.proofs.theory.Contracting.{ContractsWithPairs, pairs_of_shortcuts, pairs_by_needed, off}
use Rattle.ch_contract.proofs.theory.Levelled.{within_steps}

-- a leg is a witness if the shortcut costs at least as much
pub own_witness : (h : ℕ) (L : Legs) (v x y : ℕ) (l : Label) (c : Cost) → 1 ≤ h → x ≢ v → y ≢ v → L x y ≡ Some l → IsAtMost l.cost c →
    HasWitness L v x y c h
own_witness h L v x y l c most p q e le = (
  y ∷ [],
  record {
    chain = (rw e refl, refl);
    hops = (omega arith, omega arith);
    away = (p, (q, tt));
    cheap =
        subst (λ z. IsAtMost z c) (sym (chain_cost-one L x y l e)) le;
  },
)

-- the shortcuts of a node are enough
needed_are_enough : (n h : ℕ) (L : Legs) (v : ℕ) (list : List Shortcut) → 1 ≤ h → AreLegsWithin n L → AreShortcuts n h L v list →
    AreEnough n h L v list
needed_are_enough n h L v list most limits are = record {
  pairs = pairs_of_shortcuts n h L v list are;
  no_dearer = λ s l c e. elim (IsAtMost_or_IsBelow l.cost s.cost) [
    | inl le ↦
        let away = off n L v list limits (pairs_of_shortcuts n h L v list are) s c in
        absurd ((are.sound s c).needed (own_witness h L v s.from s.to l s.cost most away.0 away.1 e le))
    | inr lt ↦ IsBelow-IsAtMost s.cost l.cost lt
  ];
  needed = are.whole;
}

-- contraction is contraction with enough shortcuts
pub enough_by_needed : (n h : ℕ) (L : Legs) (v : ℕ) (M : Legs) → 1 ≤ h → AreLegsWithin n L → Contracts n h L v M →
    ContractsWithEnough n h L v M
enough_by_needed n h L v M most limits c = (c.0, needed_are_enough n h L v c.0 most limits c.1, c.2)

-- if each step of one kind is one of another kind, so is the hierarchy
pub hierarchy_by : (IsStep IsOther : Legs → ℕ → Legs → Type 0) (g : Network) (H : LevelsAndLegs) (order : List ℕ) (L : ℕ → Legs) →
    IsHierarchyIn IsStep g H order L →
    ((i : ℕ) → i < g.nodes → IsStep (L i) (slice_index order i) (L (i + 1)) → IsOther (L i) (slice_index order i) (L (i + 1))) →
    IsHierarchyIn IsOther g H order L
hierarchy_by IsStep IsOther g H order L p f = record {
  contracted = record { nodes = p.contracted.nodes; start = p.contracted.start; step = λ i lt. f i lt (p.contracted.step i lt) };
  sizes = p.sizes;
  level = p.level;
  up = p.up;
  down = p.down;
}

-- for a graph within the limits, the legs before each contraction are within the limits
contracted_limits : (g : Network) (h : ℕ) (order : List ℕ) (L : ℕ → Legs) → IsWithinLimits g → AreContracted g h order L → (i : ℕ) →
    i ≤ g.nodes → AreLegsWithin g.nodes (L i)
contracted_limits g h order L limits p =
    let start = subst (AreLegsWithin g.nodes) (sym (one_map (L 0) (opening g) p.start)) (opening_within g limits) in
    within_steps g.nodes g.nodes order L start (λ i lt. pairs_by_needed g.nodes h _ _ _ (p.step i lt))

-- each step is a contraction with enough shortcuts
enough_at : (g : Network) (h : ℕ) (order : List ℕ) (L : ℕ → Legs) → IsWithinLimits g → IsHopBound h → AreContracted g h order L → (i : ℕ) →
    i < g.nodes → ContractsWithEnough g.nodes h (L i) (slice_index order i) (L (i + 1))
enough_at g h order L limits hops p i lt = enough_by_needed g.nodes h (L i) (slice_index order i) (L (i + 1)) hops.0
    (contracted_limits g h order L limits p i (omega arith)) (p.step i lt)

-- the contraction of all nodes is one with enough shortcuts
pub taken_with_enough : (g : Network) (h : ℕ) (order : List ℕ) (L : ℕ → Legs) → IsWithinLimits g → IsHopBound h →
    AreContracted g h order L → AreTaken (ContractsWithEnough g.nodes h) g order L
taken_with_enough g h order L limits hops p = record { nodes = p.nodes; start = p.start; step = enough_at g h order L limits hops p }

-- the hierarchy of all nodes is one with enough shortcuts
pub hierarchy_with_enough : (g : Network) (h : ℕ) (H : LevelsAndLegs) (order : List ℕ) (L : ℕ → Legs) → IsWithinLimits g → IsHopBound h →
    IsHierarchyOf g h H order L → IsHierarchyIn (ContractsWithEnough g.nodes h) g H order L
hierarchy_with_enough g h H order L limits hops p = hierarchy_by (Contracts g.nodes h) (ContractsWithEnough g.nodes h) g H order L p
    (λ i lt c. enough_at g h order L limits hops p.contracted i lt)

-- a witness of at most k legs is one of at most h legs
longer_witness : (L : Legs) (v u w : ℕ) (c : Cost) (k h : ℕ) → k ≤ h → HasWitness L v u w c k → HasWitness L v u w c h
longer_witness L v u w c k h le found = (
  found.0,
  record {
    chain = found.1.chain;
    hops = (found.1.hops.0, omega (arith, found.1.hops.1));
    away = found.1.away;
    cheap =
        found.1.cheap;
  },
)

-- what is a shortcut for a greater bound is one for a lesser bound
needed_by_fewer : (n k h : ℕ) (L : Legs) (v : ℕ) (s : Shortcut) → k ≤ h → IsShortcut n h L v s → IsShortcut n k L v s
needed_by_fewer n k h L v s le is = record {
  apart = is.apart;
  legs = is.legs;
  weight = is.weight;
  arcs = is.arcs;
  needed = λ found. is.needed (longer_witness L v s.from s.to s.cost k h le found);
}

-- the shortcuts for a lesser bound are enough for a greater one
pub fewer_are_enough : (n k h : ℕ) (L : Legs) (v : ℕ) (list : List Shortcut) → 1 ≤ k → k ≤ h → AreLegsWithin n L →
    AreShortcuts n k L v list → AreEnough n h L v list
fewer_are_enough n k h L v list most le limits are =
    let own = needed_are_enough n k L v list most limits are in
    record {
      pairs = own.pairs;
      no_dearer = own.no_dearer;
      needed = λ s is. are.whole s (needed_by_fewer n k h L v s le is);
    }

-- contraction with a lesser bound puts in sums of two legs
pub pairs_within : (n h : ℕ) (L : Legs) (v : ℕ) (M : Legs) → ContractsWithin n h L v M → ContractsWithPairs n L v M
pairs_within n h L v M c = pairs_by_needed n c.0 L v M c.3

-- contraction with a lesser bound is contraction with enough shortcuts
pub enough_within : (n h : ℕ) (L : Legs) (v : ℕ) (M : Legs) → AreLegsWithin n L → ContractsWithin n h L v M →
    ContractsWithEnough n h L v M
enough_within n h L v M limits c = (c.3.0, fewer_are_enough n c.0 h L v c.3.0 c.1 c.2 limits c.3.1, c.3.2)

-- for a graph within the limits, a hierarchy of nodes that are contracted with lesser bounds is one with enough shortcuts
pub hierarchy_within : (g : Network) (h : ℕ) (H : LevelsAndLegs) (order : List ℕ) (L : ℕ → Legs) → IsWithinLimits g →
    IsHierarchyIn (ContractsWithin g.nodes h) g H order L → IsHierarchyIn (ContractsWithEnough g.nodes h) g H order L
hierarchy_within g h H order L limits p =
    let start = subst (AreLegsWithin g.nodes) (sym (one_map (L 0) (opening g) p.contracted.start)) (opening_within g limits) in
    let within = within_steps g.nodes g.nodes order L start (λ i lt. pairs_within g.nodes h _ _ _ (p.contracted.step i lt)) in
    hierarchy_by (ContractsWithin g.nodes h) (ContractsWithEnough g.nodes h) g H order L p
    (λ i lt c. enough_within g.nodes h _ _ _ (within i (omega arith)) c)
