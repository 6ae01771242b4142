-- Trees of least paths from a node to higher ones: before each node the one that a route comes from, and the place of the leg
-- between both. The ways back from nodes where routes may meet are branches.
use Rattle.std.specs.Prelude.{◌≡◌, ◌≢◌, ℕ, ◌<◌, ◌≤◌, ◌++◌, ◌⊎◌, List, [], ◌∷◌, length, map, slice_index, slice_index_or, AllPairs, Contains}
use Rattle.std.specs.Prelude.{Option, None, Some, MatchOption}
use Rattle.ch_graph.specs.declared.cost.Cost.{Cost}
use Rattle.ch_graph.specs.Cost.{cost_sum, no_cost}
use Rattle.ch_hierarchy.specs.declared.leg.Leg.{Leg}
use Rattle.ch_hierarchy.specs.Rows.{row}
use Rattle.ch_hierarchy.specs.Hierarchy.{LevelsAndLegs}
use Rattle.ch_hierarchy.specs.declared.side.Side.{Side}
use Rattle.ch_hierarchy.specs.Side.{other, rows_of}
use Rattle.ch_hierarchy.specs.Paths.{IsLeastUpwardPath}
use Rattle.ch_query.specs.Search.{IsStalled}
use Rattle.ch_query.specs.Parents.{IsChosen}
use Rattle.ch_query.specs.Routes.{DescentStep, IsDescent}
use Rattle.ch_query.specs.Spread.{IsSpread}
use Rattle.ch_flows.specs.declared.plan.Link.{Link}
use Rattle.ch_flows.specs.declared.tree.Reach.{Reach}
use Rattle.ch_flows.specs.declared.gathering.Branch.{Branch}
use Rattle.ch_flows.specs.declared.gathering.Step.{Step}
use Rattle.ch_flows.specs.declared.tree.Mark.{Mark}
use Rattle.ch_flows.specs.declared.tree.Tree.{Tree}
use Rattle.ch_flows.specs.Gathering.{branch_at}
use Rattle.ch_flows.specs.Layouts.{leg_on, link_of}
use Rattle.ch_flows.specs.Links.{link_at}

-- entry i: a node, and the least cost of a path to it
abbrev pub entry_at : List (ℕ × Cost) → ℕ → ℕ × Cost
entry_at entries i = slice_index_or entries i (0, no_cost)

-- entries are in order of node, and each node occurs once
abbrev pub AreInOrder : List (ℕ × Cost) → Type 0
AreInOrder entries = AllPairs (λ a b. a.0 < b.0) entries

-- step i, if there is one
abbrev pub step_at : List (Option Step) → ℕ → Option Step
step_at steps i = slice_index_or steps i None

-- the cost of entry j and a leg is that of entry i, where the leg leads
abbrev pub Reaches : List (ℕ × Cost) → ℕ → Leg → ℕ → Type 0
Reaches entries j leg i = (leg.node ≡ (entry_at entries i).0) × (cost_sum (entry_at entries j).1 leg.cost ≡ (entry_at entries i).1)

-- no leg of the first n entries is the last one of a least path to entry i
abbrev pub IsReachedByNone : List (List Leg) → List (ℕ × Cost) → ℕ → ℕ → Type 0
IsReachedByNone rows entries i n =
    (j : ℕ) (leg : Leg) → j < n → Contains (row rows (entry_at entries j).0) leg → Reaches entries j leg i → ⊥

-- a leg of v stands at a place
abbrev pub IsLegAt : Side → List Link → ℕ → Leg → ℕ → Type 0
IsLegAt side links v leg p = (p < length links) × (link_at links p ≡ link_of side v leg)

-- a step to entry i comes from the first entry that has such a leg, with the place of this leg
pub record IsStep (side : Side) (H : LevelsAndLegs) (links : List Link) (entries : List (ℕ × Cost)) (i : ℕ) (step : Step) : Type 0 where
  pub leg : Leg
  pub has : Contains (row (rows_of H side) (entry_at entries step.before).0) leg
  pub reaches : Reaches entries step.before leg i
  pub place : IsLegAt side links (entry_at entries step.before).0 leg step.leg_place
  pub first : IsReachedByNone (rows_of H side) entries i step.before

-- the step to entry i once the legs of the first n entries were taken
abbrev pub IsSlot : Side → LevelsAndLegs → List Link → List (ℕ × Cost) → ℕ → ℕ → Option Step → Type 0
IsSlot side H links entries n i None = IsReachedByNone (rows_of H side) entries i n
IsSlot side H links entries n i (Some step) = (step.before < n) × IsStep side H links entries i step

abbrev pub AreSlots : Side → LevelsAndLegs → List Link → List (ℕ × Cost) → ℕ → List (Option Step) → Type 0
AreSlots side H links entries n steps = (i : ℕ) → i < length entries → IsSlot side H links entries n i (step_at steps i)

-- the same once the first k legs of entry j were taken too
abbrev pub IsSlotWithin : Side → LevelsAndLegs → List Link → List (ℕ × Cost) → ℕ → ℕ → ℕ → Option Step → Type 0
IsSlotWithin side H links entries j k i None = IsReachedByNone (rows_of H side) entries i j
    × ((m : ℕ) → m < k → Reaches entries j (leg_on (row (rows_of H side) (entry_at entries j).0) m) i → ⊥)
IsSlotWithin side H links entries j k i (Some step) = (step.before ≤ j) × IsStep side H links entries i step

abbrev pub AreSlotsWithin : Side → LevelsAndLegs → List Link → List (ℕ × Cost) → ℕ → ℕ → List (Option Step) → Type 0
AreSlotsWithin side H links entries j k steps =
    (i : ℕ) → i < length entries → IsSlotWithin side H links entries j k i (step_at steps i)

-- a leg of entry j was taken: it gives the step to the entry that it reaches, if there is none yet
abbrev pub IsTaken : List (ℕ × Cost) → ℕ → Leg → ℕ → ℕ → Option Step → Option Step → Type 0
IsTaken entries j leg p i old new =
    ((new ≡ old) × (Reaches entries j leg i → old ≢ None))
    ⊎ ((old ≡ None) × Reaches entries j leg i × (new ≡ Some (record { before = j; leg_place = p })))

-- these are nodes that s reaches, in order, with least costs: all but those to which a leg back shows a way that costs less
pub record IsOpenSpread (rows back : List (List Leg)) (s : ℕ) (list : List (ℕ × Cost)) : Type 0 where
  pub order : AreInOrder list
  pub sound : (v : ℕ) (c : Cost) → Contains list (v, c) → IsLeastUpwardPath rows s v c
  pub whole : (v : ℕ) (c : Cost) → IsLeastUpwardPath rows s v c → Contains list (v, c) ⊎ IsStalled rows back s v c

-- all that a source reaches on a side, and the last step of a least path to each entry
pub record IsReach (side : Side) (H : LevelsAndLegs) (links : List Link) (reach : Reach) : Type 0 where
  pub spread : IsSpread (rows_of H side) None reach.source reach.entries.items
  pub long : length reach.steps.items ≡ length reach.entries.items
  pub steps : AreSlots side H links reach.entries.items (length reach.entries.items) reach.steps.items

-- the places of the legs of a descent
abbrev pub AreLegsAt : Side → List Link → List DescentStep → List ℕ → Type 0
AreLegsAt side links [] places = places ≡ []
AreLegsAt side links (step ∷ steps) [] = ⊥
AreLegsAt side links (step ∷ steps) (p ∷ places) = IsLegAt side links step.low step.leg p × AreLegsAt side links steps places

-- the places of the legs of the way that a route goes between x and s were appended
abbrev pub IsWayBack : Side → LevelsAndLegs → List Link → ℕ → ℕ → List ℕ → List ℕ → Type 0
IsWayBack side H links s x old new = (steps : List DescentStep) × (added : List ℕ) × IsDescent (rows_of H side) s x steps
    × AreLegsAt side links steps added × (new ≡ old ++ added)

-- the place of each of the first n entries is written at its node
abbrev pub ArePlaced : List (ℕ × Cost) → ℕ → List ℕ → Type 0
ArePlaced entries n places = (k : ℕ) → k < n →
    ((entry_at entries k).0 < length places) × (slice_index places (entry_at entries k).0 ≡ k)

-- an entry is kept of the first n, or a leg back shows a way to it that costs less
pub record AreKept (rows back : List (List Leg)) (entries kept : List (ℕ × Cost)) (n : ℕ) : Type 0 where
  pub order : AreInOrder kept
  pub sound : (k : ℕ) → k < length kept → (j : ℕ) × (j < n) × (entry_at kept k ≡ entry_at entries j)
  pub whole : (j : ℕ) → j < n → Contains kept (entry_at entries j)
      ⊎ ((s : ℕ) → IsSpread rows None s entries → IsStalled rows back s (entry_at entries j).0 (entry_at entries j).1)

-- a route goes from one branch to another one of the same source, over the leg at a place
pub record IsStepTo (side : Side) (H : LevelsAndLegs) (links : List Link) (from to : Branch) (p : ℕ) : Type 0 where
  pub source : from.source ≡ to.source
  pub differs : to.node ≢ to.source
  pub leg : Leg
  pub chosen : IsChosen (rows_of H side) to.source to.node from.node leg
  pub place : IsLegAt side links from.node leg p

-- a branch is the way to its source, or goes on from one of the first n branches
abbrev pub GoesOn : Side → LevelsAndLegs → List Link → List Branch → ℕ → Branch → Type 0
GoesOn side H links branches n branch = MatchOption branch.step (branch.node ≡ branch.source)
    (λ step. (step.before < n) × IsStepTo side H links (branch_at branches step.before) branch step.leg_place)

-- each branch goes on from an earlier one
abbrev pub AreBranches : Side → LevelsAndLegs → List Link → List Branch → Type 0
AreBranches side H links branches = (k : ℕ) → k < length branches → GoesOn side H links branches k (branch_at branches k)

-- branch k is the way from v back to s
abbrev pub IsBranchAt : List Branch → ℕ → ℕ → ℕ → Type 0
IsBranchAt branches s v k =
    (k < length branches) × ((branch_at branches k).source ≡ s) × ((branch_at branches k).node ≡ v)

-- further branches may come after the old ones
pub record AreMoreBranches (old new : List Branch) : Type 0 where
  pub long : length old ≤ length new
  pub same : (k : ℕ) → k < length old → branch_at new k ≡ branch_at old k

-- an entry that is kept, without its branch
abbrev pub plain : ℕ × Mark → ℕ × Cost
plain entry = (entry.0, entry.1.cost)

-- nothing is known of an entry
abbrev pub no_mark : Mark
no_mark = record { cost = no_cost; spot = None }

-- entry i of those that are kept
abbrev pub mark_at : List (ℕ × Mark) → ℕ → ℕ × Mark
mark_at kept i = slice_index_or kept i (0, no_mark)

-- these entries are in order of node
abbrev pub AreMarksInOrder : List (ℕ × Mark) → Type 0
AreMarksInOrder kept = AllPairs (λ a b. a.0 < b.0) kept

-- where the branch of an entry is known, it is the way from its node back to s
abbrev pub AreSpots : List Branch → ℕ → List (ℕ × Mark) → Type 0
AreSpots branches s kept = (k spot : ℕ) → k < length kept → (mark_at kept k).1.spot ≡ Some spot →
    IsBranchAt branches s (mark_at kept k).0 spot

-- where routes from or to the source may meet others, with the branches there
pub record IsTree (side : Side) (H : LevelsAndLegs) (branches : List Branch) (tree : Tree) : Type 0 where
  pub kept : IsOpenSpread (rows_of H side) (rows_of H (other side)) tree.source (map plain tree.kept.items)
  pub spots : AreSpots branches tree.source tree.kept.items
