-- Each hierarchy of contracted nodes has each level from 1 to the number of nodes once, and legs to higher nodes within
-- the limits.
use Rattle.std.proofs.Common.{◌≡◌, ℕ, suc, zero, ◌+◌, ◌<◌, ◌≤◌, Bool, true, false, cond, List, [], length, get_or, Option, Some}
use Rattle.std.proofs.Common.{None, refl, sym, ◌∙◌, ap, subst, arith, inl, inr, Contains}
use Rattle.std.specs.Prelude.{◌⊎◌, ◌≢◌, ◌==◌, ◌||◌, All, slice_index}
use Rattle.std.proofs.lemmas.Bool.{cases_eq, cases_lt}
use Rattle.std.proofs.lemmas.Bool.Decides.{nat_tests}
use Rattle.std.proofs.lemmas.Option.{same_Some, none-some}
use Rattle.std.proofs.lemmas.List.{get_or_past}
use Rattle.std.proofs.lemmas.List.Elements.{All-nil}
use Rattle.ch_graph.specs.declared.limits.TheConstants.{MOST_NODES, MOST_WEIGHT}
use Rattle.ch_graph.specs.Graph.{Network}
use Rattle.ch_hierarchy.specs.declared.leg.Leg.{Leg}
use Rattle.ch_contract.specs.declared.shortcut.Shortcut.{Shortcut}
use Rattle.ch_contract.specs.Legs.{Label, Legs, AreLegsWithin, opening, turned_legs}
use Rattle.ch_contract.specs.Contraction.{shortcut_label, leg_after_shortcuts, legs_after_contraction}
use Rattle.ch_hierarchy.specs.Rows.{row, IsRow}
use Rattle.ch_contract.specs.LegRows.{label_of, AreLegsFrom}
use Rattle.ch_hierarchy.specs.Hierarchy.{LevelsAndLegs, IsLegUp, AreLegsUp, IsLevelled}
use Rattle.ch_contract.specs.Built.{IsHierarchyIn}
use Rattle.ch_contract.proofs.theory.Contracting.{ContractsWithPairs, override_cases, contracted_within}
use Rattle.ch_contract.proofs.theory.OneInTurn.{taken_at, one_map}
use Rattle.ch_hierarchy.specs.Saved.{IsOrderOf, AreLevelsOf}
use Rattle.ch_contract.proofs.theory.RowLegs.{none_unless}
use Rattle.ch_contract.proofs.theory.RowLemmas.{leg_from_at}
use Rattle.ch_hierarchy.proofs.theory.SavedLevels.{levels_are}

-- the leg from u to w is that of a shortcut
abbrev pub IsMade : ℕ → List Shortcut → ℕ → ℕ → Label → Type 0
IsMade v list u w l = (s : Shortcut) × Contains list s × (s.from ≡ u) × (s.to ≡ w) × (shortcut_label v s ≡ l)

-- a leg after a contraction was there before, or is that of a shortcut
pub contracted_cases : (L : Legs) (v : ℕ) (list : List Shortcut) (u w : ℕ) (l : Label) → legs_after_contraction L v list u w ≡ Some l →
    (L u w ≡ Some l) ⊎ IsMade v list u w l
contracted_cases L v list u w l e = at (u == v || w == v) e
  where
    at : (b : Bool) → cond b None (leg_after_shortcuts v list u w (L u w)) ≡ Some l → (L u w ≡ Some l) ⊎ IsMade v list u w l
    at true f = absurd (none-some _ f)
    at false f = elim (override_cases v list u w (L u w)) [
      | inl stays ↦ inl (sym stays ∙ f)
      | inr s ↦ inr (s.0, s.1, s.2, s.3, same_Some _ _ (sym s.4 ∙ f))
    ]

-- a contraction keeps the limits
pub within_more : (n : ℕ) (L : Legs) (v : ℕ) (M : Legs) → AreLegsWithin n L → ContractsWithPairs n L v M → AreLegsWithin n M
within_more n L v M within step u w l e = contracted_within n L v step.0 within step.1 u w l (sym (step.2 u w) ∙ e)

-- no leg touches z
abbrev pub IsGone : Legs → ℕ → Type 0
IsGone L z = (x : ℕ) → (L z x ≡ None) × (L x z ≡ None)

-- no leg touches a contracted node
pub gone_next : (n : ℕ) (L : Legs) (v : ℕ) (M : Legs) → ContractsWithPairs n L v M → IsGone M v
gone_next n L v M step x =
    let same : (v == v) ≡ true = grind (arith, nat_tests) in
    (step.2 v x ∙ rw same refl, step.2 x v ∙ last (x == v) _ same)
  where
    last : (a : Bool) (o : Option Label) → (v == v) ≡ true → cond (a || (v == v)) None o ≡ None
    last true o e = refl
    last false o e = rw e refl

-- a node without legs stays without legs
pub gone_more : (n : ℕ) (L : Legs) (v : ℕ) (M : Legs) (z : ℕ) → IsGone L z → ContractsWithPairs n L v M → IsGone M z
gone_more n L v M z gone step x = (
  none_unless (M z x) (λ l e. elim (contracted_cases L v step.0 z x l (sym (step.2 z x) ∙ e)) [
    | inl old ↦ none-some _ (sym (gone x).0 ∙ old)
    | inr made ↦ let is = step.1 made.0 made.1 in none-some _ (sym (gone v).0 ∙ ap (λ q. L q v) (sym made.2) ∙ is.legs.2)
  ]),
  none_unless (M x z) (λ l e. elim (contracted_cases L v step.0 x z l (sym (step.2 x z) ∙ e)) [
    | inl old ↦ none-some _ (sym (gone x).1 ∙ old)
    | inr made ↦ let is = step.1 made.0 made.1 in none-some _ (sym (gone v).1 ∙ ap (L v) (sym made.3) ∙ is.legs.3)
  ]),
)

-- the legs after each step are within the limits
pub within_steps : (n m : ℕ) (order : List ℕ) (L : ℕ → Legs) → AreLegsWithin n (L 0) →
    ((i : ℕ) → i < m → ContractsWithPairs n (L i) (slice_index order i) (L (i + 1))) → (k : ℕ) → k ≤ m → AreLegsWithin n (L k)
within_steps n m order L start step zero le = start
within_steps n m order L start step (suc k) le =
    let e : k + 1 ≡ suc k = omega arith in
    subst (λ z. AreLegsWithin n (L z)) e
    (within_more n (L k) (slice_index order k) (L (k + 1)) (within_steps n m order L start step k (omega arith)) (step k (omega arith)))

-- no leg touches a node after the step that contracted it
pub gone_steps : (n m : ℕ) (order : List ℕ) (L : ℕ → Legs) →
    ((i : ℕ) → i < m → ContractsWithPairs n (L i) (slice_index order i) (L (i + 1))) → (j k : ℕ) → j < k → k ≤ m →
    IsGone (L k) (slice_index order j)
gone_steps n m order L step j zero lt le = absurd (omega arith)
gone_steps n m order L step j (suc k) lt le =
    let e : k + 1 ≡ suc k = omega arith in
    subst (λ z. IsGone (L z) (slice_index order j)) e (at (gone_steps n m order L step j k))
  where
    at : (j < k → k ≤ m → IsGone (L k) (slice_index order j)) → IsGone (L (k + 1)) (slice_index order j)
    at before = elim (cases_eq j k) [
      | inl same ↦ subst (λ z. IsGone (L (k + 1)) (slice_index order z)) (sym same)
          (gone_next n (L k) (slice_index order k) (L (k + 1)) (step k (omega arith)))
      | inr ne ↦ gone_more n (L k) (slice_index order k) (L (k + 1)) (slice_index order j) (before (omega arith) (omega arith))
          (step k (omega arith))
    ]

-- legs within the limits are within the limits in the other direction
pub turned_within : (n : ℕ) (L : Legs) → AreLegsWithin n L → AreLegsWithin n (turned_legs L)
turned_within n L within u w l e =
    let is = within w u l e in
    record { ends = (is.ends.1, is.ends.0, λ same. is.ends.2 (sym same)); weight = is.weight; arcs = is.arcs; middle = is.middle }

module _ (g : Network) (H : LevelsAndLegs) (order : List ℕ) (L : ℕ → Legs)
    (p : IsHierarchyIn (ContractsWithPairs g.nodes) g H order L) (small : g.nodes ≤ MOST_NODES)
    (start : AreLegsWithin g.nodes (opening g)) where
  -- the legs before each step are within the limits
  within : (k : ℕ) → k ≤ g.nodes → AreLegsWithin g.nodes (L k)
  within = within_steps g.nodes g.nodes order L
      (subst (AreLegsWithin g.nodes) (sym (one_map (L 0) (opening g) p.contracted.start)) start) p.contracted.step

  -- no leg touches the nodes of earlier steps
  gone : (j k : ℕ) → j < k → k ≤ g.nodes → IsGone (L k) (slice_index order j)
  gone = gone_steps g.nodes g.nodes order L p.contracted.step

  -- each node has the level of its step
  level_of : (x : ℕ) → x < g.nodes → (i : ℕ) × (i < g.nodes) × (slice_index order i ≡ x) × (slice_index H.level x ≡ i + 1)
  level_of x lt =
      let at = taken_at g.nodes order x p.contracted.nodes lt in (at.0, at.1, at.2, ap (slice_index H.level) (sym at.2) ∙ p.level at.0 at.1)

  -- a leg of the node of step i leads to a node that is contracted later
  leg_up : (i : ℕ) (l : Leg) → i < g.nodes → l.node < g.nodes → l.node ≢ slice_index order i →
      ((j : ℕ) → j < i → slice_index order j ≡ l.node → ⊥) → l.cost.weight ≤ MOST_WEIGHT → l.cost.arcs < g.nodes →
      IsLegUp H (slice_index order i) l
  leg_up i l lt node apart later weight arcs =
      let size = p.sizes.0 in
      let at = level_of l.node node in
      let mine = p.level i lt in
      let its = at.3 in
      let after : i < at.0 = elim (cases_lt i at.0) [
        | inl past ↦ past
        | inr le ↦ elim (cases_eq at.0 i) [
          | inl same ↦ absurd (apart (sym at.2 ∙ ap (slice_index order) same))
          | inr ne ↦ absurd (later at.0 (omega arith) at.2)
        ]
      ] in
      record { node = omega arith; higher = omega arith; weight = weight; arcs = omega arith }

  -- the row of the node of a step leads up, for the legs before the step in either direction
  row_up : (N : Legs) (i : ℕ) (legs : List Leg) → i < g.nodes → AreLegsWithin g.nodes N →
      ((j : ℕ) → j < i → IsGone N (slice_index order j)) → AreLegsFrom N (slice_index order i) legs →
      IsRow legs × All (IsLegUp H (slice_index order i)) legs
  row_up N i legs lt limits earlier r = (
    r.0,
    λ k d inside.
        let v : ℕ = slice_index order i in
        let l : Leg = get_or legs k d in
        let leg : N v l.node ≡ Some (label_of l) = leg_from_at N v legs k d r inside in
        let w = limits v l.node (label_of l) leg in
        leg_up i l lt w.ends.1 (λ e. w.ends.2 (sym e)) (λ j before e. none-some _ (sym (earlier j before v).1 ∙ ap (N v) e ∙ leg))
        w.weight w.arcs,
  )

  -- the legs from the node of a step lead to higher nodes
  up_row : (i : ℕ) → i < g.nodes →
      IsRow (row H.up (slice_index order i)) × All (IsLegUp H (slice_index order i)) (row H.up (slice_index order i))
  up_row i lt = row_up (L i) i _ lt (within i (omega arith)) (λ j before. gone j i before (omega arith)) (p.up i lt)

  -- the legs to the node of a step come from higher nodes
  down_row : (i : ℕ) → i < g.nodes →
      IsRow (row H.down (slice_index order i)) × All (IsLegUp H (slice_index order i)) (row H.down (slice_index order i))
  down_row i lt = row_up (turned_legs (L i)) i _ lt (turned_within g.nodes (L i) (within i (omega arith)))
      (λ j before x. let none = gone j i before (omega arith) x in (none.1, none.0)) (p.down i lt)

  -- if the row of each step leads up, all rows do
  legs_up : (rows : List (List Leg)) → length rows ≡ g.nodes →
      ((i : ℕ) → i < g.nodes → IsRow (row rows (slice_index order i))
      × All (IsLegUp H (slice_index order i)) (row rows (slice_index order i))) →
      AreLegsUp H rows
  legs_up rows size each = (
    size ∙ sym p.sizes.0,
    λ v. elim (cases_lt v g.nodes) [
      | inl lt ↦ let at = taken_at g.nodes order v p.contracted.nodes lt in
          subst (λ z. IsRow (row rows z) × All (IsLegUp H z) (row rows z)) at.2 (each at.0 at.1)
      | inr past ↦
          let none : row rows v ≡ [] = get_or_past rows v [] (omega arith) in
          subst (λ z. IsRow z × All (IsLegUp H v) z) (sym none) ((λ i j d lt inside. absurd (omega arith)), All-nil (IsLegUp H v))
    ],
  )

  -- the order has each node once
  is_order : IsOrderOf g.nodes order
  is_order = let nodes = p.contracted.nodes in
      record { count = nodes.0; within = λ i lt. nodes.1 i 0 lt; distinct = λ i j before lt. nodes.2 i j 0 before lt }

  -- the levels are those of the order
  are_levels : AreLevelsOf order H.level
  are_levels = let size = p.contracted.nodes.0 in record { count = p.sizes.0 ∙ sym size; each = λ i lt. p.level i (omega arith) }

  -- the hierarchy is levelled
  pub levelled : IsLevelled H
  levelled = record {
    count = let size = p.sizes.0 in omega arith;
    levels = levels_are g.nodes order H.level is_order are_levels;
    up = legs_up H.up p.sizes.1 up_row;
    down = legs_up H.down p.sizes.2 down_row;
  }
