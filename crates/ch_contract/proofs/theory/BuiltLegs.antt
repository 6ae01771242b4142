-- The legs of a built hierarchy are the legs that each node had when it was contracted.
use Rattle.std.proofs.Common.{◌≡◌, ℕ, ◌<◌, ◌≤◌, List, Some, Contains, slice_index, sym, ◌∙◌, subst, arith, inl, inr}
use Rattle.std.proofs.lemmas.Bool.{cases_lt}
use Rattle.ch_graph.specs.Graph.{Network, IsWithinLimits}
use Rattle.ch_graph.specs.WalkLaws.{IsWalkCost}
use Rattle.ch_hierarchy.specs.declared.leg.Leg.{Leg}
use Rattle.ch_contract.specs.Legs.{Label, Legs}
use Rattle.ch_hierarchy.specs.Rows.{row}
use Rattle.ch_contract.specs.LegRows.{label_of}
use Rattle.ch_hierarchy.specs.Hierarchy.{LevelsAndLegs}
use Rattle.ch_contract.specs.Enough.{ContractsWithEnough}
use Rattle.ch_contract.specs.Built.{IsHierarchyIn}
use Rattle.ch_contract.proofs.theory.OneInTurn.{taken_at}
use Rattle.ch_hierarchy.proofs.theory.SavedLevels.{in_row_below}
use Rattle.ch_contract.proofs.theory.RowLegs.{leg_at, row_has, row_member}
use Rattle.ch_contract.proofs.theory.StepLegs.{IsContraction, IsStepLeg, step_leg}
use Rattle.ch_contract.proofs.theory.KeptCosts.{IsAfter}

-- a hierarchy of a graph within the limits, built with enough shortcuts
pub record IsBuilt (g : Network) (h : ℕ) (H : LevelsAndLegs) (order : List ℕ) (L : ℕ → Legs) : Type 0 where
  pub limits : IsWithinLimits g
  pub hierarchy : IsHierarchyIn (ContractsWithEnough g.nodes h) g H order L

module _ {g : Network} {h : ℕ} {H : LevelsAndLegs} {order : List ℕ} {L : ℕ → Legs} (built : IsBuilt g h H order L) where
  -- all nodes are contracted
  pub contraction : IsContraction g h order L g.nodes
  contraction = record { limits = built.limits; start = built.hierarchy.contracted.start; step = built.hierarchy.contracted.step }

  -- each node is contracted in some step
  pub step_of : (x : ℕ) → x < g.nodes → (i : ℕ) × (i < g.nodes) × (slice_index order i ≡ x)
  step_of x lt = taken_at g.nodes order x built.hierarchy.contracted.nodes lt

  -- each node is contracted in only one step
  step_once : (i j : ℕ) → i < g.nodes → j < g.nodes → slice_index order i ≡ slice_index order j → i ≡ j
  step_once i j li lj e =
      let nodes = built.hierarchy.contracted.nodes in
      let size = nodes.0 in
      elim (cases_lt i j) [
        | inl before ↦ absurd (nodes.2 i j 0 before (omega arith) e)
        | inr no_before ↦ elim (cases_lt j i) [
          | inl after ↦ absurd (nodes.2 j i 0 after (omega arith) (sym e))
          | inr no_after ↦ omega arith
        ]
      ]

  -- the node of a step is not contracted in an earlier one
  pub after_earlier : (i k : ℕ) → i ≤ k → k < g.nodes → IsAfter order i (slice_index order k)
  after_earlier i k le lt j below e = let same : j ≡ k = step_once j k (omega arith) lt e in absurd (omega arith)

  -- each leg from a node when it is contracted is one of its up legs
  pub up_leg : (i x : ℕ) (m : Label) → i < g.nodes → L i (slice_index order i) x ≡ Some m →
      Contains (row H.up (slice_index order i)) (leg_at x m)
  up_leg i x m lt e = row_member (row H.up (slice_index order i)) x m ((built.hierarchy.up i lt).1 x ∙ e)

  -- each leg to a node when it is contracted is one of its down legs
  pub down_leg : (i x : ℕ) (m : Label) → i < g.nodes → L i x (slice_index order i) ≡ Some m →
      Contains (row H.down (slice_index order i)) (leg_at x m)
  down_leg i x m lt e = row_member (row H.down (slice_index order i)) x m ((built.hierarchy.down i lt).1 x ∙ e)

  -- each up leg was a leg from the node when it was contracted
  up_leg_was : (i : ℕ) (l : Leg) → i < g.nodes → Contains (row H.up (slice_index order i)) l →
      L i (slice_index order i) l.node ≡ Some (label_of l)
  up_leg_was i l lt has =
      sym ((built.hierarchy.up i lt).1 l.node) ∙ row_has (row H.up (slice_index order i)) l (built.hierarchy.up i lt).0 has

  -- each down leg was a leg to the node when it was contracted
  down_leg_was : (i : ℕ) (l : Leg) → i < g.nodes → Contains (row H.down (slice_index order i)) l →
      L i l.node (slice_index order i) ≡ Some (label_of l)
  down_leg_was i l lt has =
      sym ((built.hierarchy.down i lt).1 l.node) ∙ row_has (row H.down (slice_index order i)) l (built.hierarchy.down i lt).0 has

  -- an up leg of the node of step i is a leg before that step
  pub up_step_leg : (i : ℕ) (l : Leg) → i < g.nodes → Contains (row H.up (slice_index order i)) l →
      IsStepLeg g order L i (slice_index order i) l.node (label_of l)
  up_step_leg i l lt has = step_leg contraction i (omega arith) (slice_index order i) l.node (label_of l) (up_leg_was i l lt has)

  -- a down leg of the node of step i is a leg before that step
  pub down_step_leg : (i : ℕ) (l : Leg) → i < g.nodes → Contains (row H.down (slice_index order i)) l →
      IsStepLeg g order L i l.node (slice_index order i) (label_of l)
  down_step_leg i l lt has = step_leg contraction i (omega arith) l.node (slice_index order i) (label_of l) (down_leg_was i l lt has)

  -- a node with an up leg is the node of a step
  pub up_step : (v : ℕ) (l : Leg) → Contains (row H.up v) l → (i : ℕ) × (i < g.nodes) × (slice_index order i ≡ v)
  up_step v l has = step_of v (in_row_below H.up g.nodes v l built.hierarchy.sizes.1 has)

  -- a node with a down leg is the node of a step
  pub down_step : (v : ℕ) (l : Leg) → Contains (row H.down v) l → (i : ℕ) × (i < g.nodes) × (slice_index order i ≡ v)
  down_step v l has = step_of v (in_row_below H.down g.nodes v l built.hierarchy.sizes.2 has)

  -- for each up leg there is a walk of its cost
  pub up_walk : (v : ℕ) (l : Leg) → Contains (row H.up v) l → IsWalkCost g v l.node l.cost
  up_walk v l has = let s = up_step v l has in subst (λ x. IsWalkCost g x l.node l.cost) s.2
      (up_step_leg s.0 l s.1 (subst (λ x. Contains (row H.up x) l) (sym s.2) has)).walk

  -- for each down leg there is a walk of its cost
  pub down_walk : (v : ℕ) (l : Leg) → Contains (row H.down v) l → IsWalkCost g l.node v l.cost
  down_walk v l has = let s = down_step v l has in subst (λ x. IsWalkCost g l.node x l.cost) s.2
      (down_step_leg s.0 l s.1 (subst (λ x. Contains (row H.down x) l) (sym s.2) has)).walk
