-- Trees of least paths: what one more leg changes, and the step to an entry.
use Rattle.std.proofs.Common.{◌≡◌, ℕ, ◌+◌, ◌*◌, ◌<◌, ◌≤◌, List, [], ◌∷◌, length, map, get_or, Contains, Option, Some, None}
use Rattle.std.proofs.Common.{inl, inr, refl, sym, ◌∙◌, ap, subst, arith}
use Rattle.std.specs.Prelude.{All, is_some}
use Rattle.std.proofs.lemmas.Bool.{cases_lt, false≢true}
use Rattle.std.proofs.lemmas.List.{get_or-map, get_or_default, length-map}
use Rattle.ch_graph.specs.declared.cost.Cost.{Cost}
use Rattle.ch_graph.specs.Cost.{cost_sum, no_cost}
use Rattle.ch_graph.proofs.Lists.{contains_map}
use Rattle.ch_hierarchy.specs.declared.leg.Leg.{Leg}
use Rattle.std.proofs.lemmas.List.Elements.{All-contains, Contains-get_or}
use Rattle.ch_hierarchy.specs.Hierarchy.{AreLegsUp, IsLegUp, IsLevelled, LevelsAndLegs, nodes_of}
use Rattle.ch_hierarchy.specs.Paths.{IsLeastUpwardPath, IsUpwardPath}
use Rattle.ch_hierarchy.specs.Rows.{row}
use Rattle.ch_hierarchy.specs.declared.side.Side.{Side}
use Rattle.ch_hierarchy.specs.declared.side.Side.TheVariants.{Up, Down}
use Rattle.ch_hierarchy.specs.Side.{rows_of}
use Rattle.ch_hierarchy.proofs.theory.NoLeg.{no_leg}
use Rattle.ch_query.specs.Parents.{IsChosen}
use Rattle.ch_query.specs.Spread.{IsSpread}
use Rattle.ch_query.proofs.one_side.Parents.{least_same}
use Rattle.ch_flows.specs.declared.plan.Link.{Link}
use Rattle.ch_flows.specs.declared.gathering.Branch.{Branch}
use Rattle.ch_flows.specs.declared.gathering.Step.{Step}
use Rattle.ch_flows.specs.declared.tree.Mark.{Mark}
use Rattle.ch_flows.specs.declared.tree.Tree.{Tree}
use Rattle.ch_flows.specs.Layouts.{IsLaid, IsSpot, leg_on, place_of}
use Rattle.ch_flows.specs.Trees.{AreInOrder, AreMarksInOrder, IsLegAt, IsSlot, IsSlotWithin, IsStep, IsTaken, IsTree}
use Rattle.ch_flows.specs.Trees.{Reaches, entry_at, plain}
use Rattle.ch_flows.proofs.Parts.{leg_in}

module _ (side : Side) (H : LevelsAndLegs) (links : List Link) (entries : List (ℕ × Cost)) (j i : ℕ) where
  abbrev pub legs : List Leg
  legs = row (rows_of H side) (entry_at entries j).0

  -- before the first entry
  pub slot_none : (slot : Option Step) → slot ≡ None → IsSlot side H links entries 0 i slot
  slot_none slot none = subst (IsSlot side H links entries 0 i) (sym none) (λ n leg low. absurd (omega (arith, low)))

  -- one more leg
  pub slot_goes_on : (k word : ℕ) (old new : Option Step) → k < length legs →
      IsLegAt side links (entry_at entries j).0 (leg_on legs k) word →
      IsSlotWithin side H links entries j k i old → IsTaken entries j (leg_on legs k) word i old new →
      IsSlotWithin side H links entries j (k + 1) i new
  slot_goes_on k word None new low is before (inl same) =
      subst (IsSlotWithin side H links entries j (k + 1) i) (sym same.0) (
        before.0,
        λ m less. elim (cases_lt m k) [
          | inl fewer ↦ before.1 m fewer
          | inr more ↦ (let at : m ≡ k = omega (arith, less, more) in
              λ reaches. same.1 (subst (λ (n : ℕ). Reaches entries j (leg_on legs n) i) at reaches) refl)
        ],
      )
  slot_goes_on k word None new low is before (inr taken) =
      subst (IsSlotWithin side H links entries j (k + 1) i) (sym taken.2) (
        omega arith,
        record {
          leg = leg_on legs k;
          has = leg_in legs k low;
          reaches = taken.1;
          place = is;
          first = before.0;
        },
      )
  slot_goes_on k word (Some step) new low is before (inl same) =
      subst (IsSlotWithin side H links entries j (k + 1) i) (sym same.0) before
  slot_goes_on k word (Some step) new low is before (inr taken) = absurd (false≢true (sym (ap is_some taken.0)))

  -- behind the last leg
  pub slot_ends : (slot : Option Step) → IsSlotWithin side H links entries j (length legs) i slot →
      IsSlot side H links entries (j + 1) i slot
  slot_ends None is = λ n leg low has reaches. elim (cases_lt n j) [
    | inl less ↦ is.0 n leg less has reaches
    | inr more ↦ (
        let at : n ≡ j = omega (arith, low, more) in
        let here : Contains legs leg = subst (λ (m : ℕ). Contains (row (rows_of H side) (entry_at entries m).0) leg) at has in
        let same : leg_on legs here.0 ≡ leg = get_or_default legs here.0 no_leg leg here.1 ∙ here.2 in
        is.1 here.0 here.1 (subst (λ (l : Leg). Reaches entries j l i) (sym same)
        (subst (λ (m : ℕ). Reaches entries m leg i) at reaches)))
  ]
  slot_ends (Some step) is = (omega (arith, is.0), is.1)

-- an entry by its place
entry_in : (entries : List (ℕ × Cost)) (i : ℕ) → i < length entries → Contains entries ((entry_at entries i).0, (entry_at entries i).1)
entry_in entries i low = (i, low, get_or_default entries i (get_or entries i (0, no_cost)) (0, no_cost) low)

-- entries in order have nodes in order
nodes_rise : (entries : List (ℕ × Cost)) → AreInOrder entries → (i j : ℕ) → i ≤ j → j < length entries →
    (entry_at entries i).0 ≤ (entry_at entries j).0
nodes_rise entries order i j le low = elim (cases_lt i j) [
  | inl less ↦ (let rise = order i j (0, no_cost) less low in omega arith)
  | inr more ↦ (let same : i ≡ j = omega (arith, le, more) in let node = ap (λ (n : ℕ). (entry_at entries n).0) same in omega arith)
]

-- the step to an entry is the one that a route goes
pub step_chosen : (side : Side) (H : LevelsAndLegs) (links : List Link) (entries : List (ℕ × Cost)) (s : ℕ) →
    IsSpread (rows_of H side) None s entries → (i : ℕ) (step : Step) → i < length entries → step.before < length entries →
    (is : IsStep side H links entries i step) →
    IsChosen (rows_of H side) s (entry_at entries i).0 (entry_at entries step.before).0 is.leg
step_chosen side H links entries s spread i step low inside is =
    let rows = rows_of H side in
    let x = (entry_at entries i).0 in
    let at = (spread.sound x (entry_at entries i).1 (entry_in entries i low)).0 in
    let from = (spread.sound (entry_at entries step.before).0 (entry_at entries step.before).1 (entry_in entries step.before inside)).0 in
    record {
      last = (is.has, is.reaches.0, (entry_at entries step.before).1, from, subst (IsLeastUpwardPath rows s x) (sym is.reaches.1) at);
      least = λ w k last.
          let has = spread.whole w last.2 last.3 tt in
          let entry : entry_at entries has.0 ≡ (w, last.2) = get_or_default entries has.0 (0, no_cost) (w, last.2) has.1 ∙ has.2 in
          let cost = least_same rows s x (cost_sum last.2 k.cost) (entry_at entries i).1 last.4 at in
          elim (cases_lt has.0 step.before) [
            | inl less ↦ absurd (is.first has.0 k less
                (subst (λ (e : ℕ × Cost). Contains (row rows e.0) k) (sym entry) last.0)
                (subst (λ (e : ℕ × Cost). (k.node ≡ x) × (cost_sum e.1 k.cost ≡ (entry_at entries i).1)) (sym entry) (last.1, cost)))
            | inr more ↦ (
                let rise = nodes_rise entries spread.order step.before has.0 more has.1 in
                let node = ap (λ (e : ℕ × Cost). e.0) entry in
                omega (arith, rise, node))
          ];
    }

-- an upward path from a node ends at a node
path_end : (H : LevelsAndLegs) (rows : List (List Leg)) → AreLegsUp H rows → (a b : ℕ) (legs : List Leg) → a < nodes_of H →
    IsUpwardPath rows a b legs → b < nodes_of H
path_end H rows are a b [] low path = subst (λ (n : ℕ). n < nodes_of H) path low
path_end H rows are a b (l ∷ legs) low path =
    path_end H rows are l.node b legs (All-contains (IsLegUp H a) (row rows a) l (are.1 a).1 path.0).node path.1

legs_up : (H : LevelsAndLegs) → IsLevelled H → (side : Side) → AreLegsUp H (rows_of H side)
legs_up H levelled Up = levelled.up
legs_up H levelled Down = levelled.down

-- the entries of a spread are nodes
pub entry_low : (H : LevelsAndLegs) → IsLevelled H → (side : Side) (s : ℕ) (entries : List (ℕ × Cost)) → s < nodes_of H →
    IsSpread (rows_of H side) None s entries → (i : ℕ) → i < length entries → (entry_at entries i).0 < nodes_of H
entry_low H levelled side s entries low spread i inside =
    let path = (spread.sound (entry_at entries i).0 (entry_at entries i).1 (entry_in entries i inside)).0.path in
    path_end H (rows_of H side) (legs_up H levelled side) s (entry_at entries i).0 path.0 low path.1

-- the place of leg k of a row
pub leg_spot : (side : Side) (H : LevelsAndLegs) (starts : List ℕ) (links : List Link) → IsLaid H starts links (2 * nodes_of H) →
    (v k p : ℕ) → IsSpot H (2 * nodes_of H) side v k → p ≡ place_of H starts side v k →
    IsLegAt side links v (leg_on (row (rows_of H side) v) k) p
leg_spot side H starts links laid v k p spot e =
    subst (IsLegAt side links v (leg_on (row (rows_of H side) v) k)) (sym e) (laid.within side v k spot, laid.each side v k spot)

-- the entries of a tree that are kept are nodes
pub kept_low : (H : LevelsAndLegs) → IsLevelled H → (side : Side) (branches : List Branch) (tree : Tree) → tree.source < nodes_of H →
    IsTree side H branches tree → All (λ (e : ℕ × Mark). e.0 < nodes_of H) tree.kept.items
kept_low H levelled side branches tree low is k d inside =
    let e = get_or tree.kept.items k d in
    let has = contains_map plain tree.kept.items e (Contains-get_or tree.kept.items k d inside) in
    let path = (is.kept.sound e.0 e.1.cost has).path in
    path_end H (rows_of H side) (legs_up H levelled side) tree.source e.0 path.0 low path.1

-- they are in order
pub marks_ordered : (kept : List (ℕ × Mark)) → AreInOrder (map plain kept) → AreMarksInOrder kept
marks_ordered kept order i j d less inside =
    let size = length-map kept plain in
    let rise : (get_or (map plain kept) i (plain d)).0 < (get_or (map plain kept) j (plain d)).0 =
    order i j (plain d) less (omega (arith, inside, size)) in
    let first = ap (λ (e : ℕ × Cost). e.0) (get_or-map plain kept i d (plain d) (omega (arith, less, inside))) in
    let second = ap (λ (e : ℕ × Cost). e.0) (get_or-map plain kept j d (plain d) inside) in
    omega (arith, rise, first, second)
