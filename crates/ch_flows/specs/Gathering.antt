-- Demands that are held at branches, each of which is a way back to a source, and how they are handed on along these ways.
use Rattle.std.specs.Prelude.{◌≡◌, ℕ, zero, suc, ◌+◌, ◌*◌, ◌<◌, ◌≤◌, List, [], ◌∷◌, length, slice_index, slice_index_or}
use Rattle.std.specs.Prelude.{None, Some}
use Rattle.std.specs.Option.{option_map_or}
use Rattle.ch_flows.specs.declared.gathering.Branch.{Branch}
use Rattle.ch_flows.specs.declared.gathering.Step.{Step}
use Rattle.ch_flows.specs.Handing.{IsPassed, most_flow, shares_of, weighed}

-- branch k
abbrev pub branch_at : List Branch → ℕ → Branch
branch_at branches k = slice_index_or branches k (record { node = 0; source = 0; step = None })

-- each step comes from an earlier branch, over one of these legs
abbrev pub AreStepsBack : ℕ → List Branch → Type 0
AreStepsBack legs branches = (k : ℕ) (step : Step) → k < length branches → (branch_at branches k).step ≡ Some step →
    (step.before < k) × (step.leg_place < legs)

-- the places of the legs of the last n steps of the way to a branch, the last one first
abbrev pub way_within : List Branch → ℕ → ℕ → List ℕ
way_within branches zero k = []
way_within branches (suc n) k =
    option_map_or (λ step. step.leg_place ∷ way_within branches n step.before) (branch_at branches k).step []

-- those of all steps, of which there are fewer than branches
abbrev pub way_of : List Branch → ℕ → List ℕ
way_of branches k = way_within branches (length branches) k

-- the sum of the numbers of the legs of a way
abbrev pub worth : (ℕ → ℕ) → List Branch → ℕ → ℕ
worth share branches k = shares_of share (way_of branches k)

-- what is held at all branches, each times what its way counts
abbrev pub gathered : (ℕ → ℕ) → List Branch → List ℕ → ℕ
gathered share branches held = weighed (worth share branches) held

-- nothing is held
abbrev pub IsNothing : List ℕ → Type 0
IsNothing held = (k : ℕ) → k < length held → slice_index held k ≡ 0

-- a branch has a step, and what is held there and a demand are more than the greatest flow together
abbrev pub IsFull : List Branch → List ℕ → ℕ → ℕ → Type 0
IsFull branches held place demand =
    (step : Step) × ((branch_at branches place).step ≡ Some step) × IsPassed held place demand

-- one of these legs has more than the greatest flow of a total
abbrev pub IsOver : ℕ → ((ℕ → ℕ) → ℕ) → Type 0
IsOver legs total = (i flow : ℕ) × (i < legs) × (most_flow < flow) × ((share : ℕ → ℕ) → flow * share i ≤ total share)

-- a branch has handed on what was held there: nothing is lost, none is held there, and what later branches hold is the same
pub record IsHandedOn (branches : List Branch) (place : ℕ) (held flows new now : List ℕ) : Type 0 where
  pub kept : (share : ℕ → ℕ) → weighed share now + gathered share branches new ≡ weighed share flows + gathered share branches held
  pub none : slice_index new place ≡ 0
  pub later : (k : ℕ) → place < k → slice_index new k ≡ slice_index held k
