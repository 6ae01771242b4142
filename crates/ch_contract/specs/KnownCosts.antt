-- The costs that a search for witnesses knows of each node.
use Rattle.std.specs.Prelude.{◌≡◌, ◌≢◌, ℕ, ◌+◌, ◌<◌, ◌≤◌, Bool, IsTrue, vec_len, vec_capacity, List, [], length, map}
use Rattle.std.specs.Prelude.{slice_index_or, Contains, All, ◌⊎◌, Some}
use Rattle.std.specs.List.{AllByRecursion}
use Rattle.ch_graph.specs.declared.cost.Cost.{Cost}
use Rattle.ch_graph.specs.Cost.{IsAtMost, cost_sum}
use Rattle.ch_hierarchy.specs.declared.leg.Leg.{Leg}
use Rattle.ch_contract.specs.declared.witness_search.Wanted.{Wanted}
use Rattle.ch_contract.specs.declared.known_costs.KnownCosts.{KnownCosts}
use Rattle.ch_contract.specs.declared.known_costs.Step.{Step}
use Rattle.ch_contract.specs.HeldCosts.{never, IsLight, IsHeld}
use Rattle.ch_contract.specs.Legs.{Label, Legs, IsChain, chain_cost}
use Rattle.ch_hierarchy.specs.Rows.{row}

-- a node, and the cost of a chain from it
pub record ChainStart : Type 0 where
  pub node : ℕ
  pub cost : Cost

-- the knowledge of a search: the least cost of each node, the nodes whose cost was lowered, and the next front,
-- which has nodes with their costs
pub record Known : Type 0 where
  pub costs : List Cost
  pub touched : List ℕ
  pub next : List ChainStart

-- a step of the code with its held cost as a cost
abbrev pub chain_start_of : {K : Type 0} → (K → Cost) → Step K → ChainStart
chain_start_of cost s = record { node = s.node; cost = cost s.cost }

abbrev pub known_of : {K : Type 0} → (K → Cost) → KnownCosts K → Known
known_of cost h = record { costs = map cost h.costs.items; touched = h.touched.items; next = map (chain_start_of cost) h.next.items }

-- the cost known at a node
abbrev pub known_in : List Cost → ℕ → Cost
known_in costs x = slice_index_or costs x never

abbrev pub known_at : Known → ℕ → Cost
known_at h x = known_in h.costs x

-- there is a chain of at most k legs from x to the wanted end that costs d and avoids the avoided node
pub record IsReached (L : Legs) (s : Wanted) (k x : ℕ) (d : Cost) : Type 0 where
  pub nodes : List ℕ
  pub chain : IsChain L x s.end nodes
  pub short : length nodes ≤ k
  pub away : (x ≢ s.avoided) × AllByRecursion (λ y. y ≢ s.avoided) nodes
  pub cost : chain_cost L x nodes ≡ d

-- there is such a chain, and it costs at most the wanted cost
abbrev pub IsWanted : Legs → Wanted → ℕ → ℕ → Cost → Type 0
IsWanted L s k x d = IsReached L s k x d × IsAtMost d s.most

-- each known cost is `never` or that of a wanted chain of at most k legs, and is at most the cost of each such
-- chain
pub record AreLeastCosts (L : Legs) (s : Wanted) (k : ℕ) (h : Known) : Type 0 where
  pub sound : (x : ℕ) → (known_at h x ≡ never) ⊎ IsWanted L s k x (known_at h x)
  pub whole : (x : ℕ) (d : Cost) → IsWanted L s k x d → IsAtMost (known_at h x) d

-- a leg of the list in front of a chain that begins with this step makes a wanted chain from x that costs d
abbrev pub IsOneMore : List Leg → ChainStart → Wanted → ℕ → Cost → Type 0
IsOneMore legs f s x d = (l : Leg) × Contains legs l × (l.node ≡ x) × (x ≢ s.avoided) × (d ≡ cost_sum l.cost f.cost) × IsAtMost d s.most

-- the same for any step of a front
abbrev pub IsOneMoreOf : List (List Leg) → List ChainStart → Wanted → ℕ → Cost → Type 0
IsOneMoreOf lists front s x d = (f : ChainStart) × Contains front f × IsOneMore (row lists f.node) f s x d

abbrev pub IsOnly : ℕ → Cost → ℕ → Cost → Type 0
IsOnly node cost x d = (x ≡ node) × (d ≡ cost)

-- x is this node and d is this cost, and the cost is wanted
abbrev pub IsOnlyWhere : Bool → ℕ → Cost → ℕ → Cost → Type 0
IsOnlyWhere is_wanted node cost x d = IsTrue is_wanted × IsOnly node cost x d

abbrev pub step_to : ℕ → Cost → ChainStart
step_to x e = record { node = x; cost = e }

-- the known costs are lowered to the costs with P, and each node with a lowered cost is in the next front and among the
-- touched nodes
pub record Lowers (P : ℕ → Cost → Type 0) (old new : Known) : Type 0 where
  pub size : length new.costs ≡ length old.costs
  pub sound : (x : ℕ) → (known_at new x ≡ known_at old x) ⊎ P x (known_at new x)
  pub lower : (x : ℕ) → IsAtMost (known_at new x) (known_at old x)
  pub whole : (x : ℕ) (d : Cost) → P x d → IsAtMost (known_at new x) d
  pub fresh : (x : ℕ) → (known_at new x ≡ known_at old x) ⊎ (Contains new.next (step_to x (known_at new x)) × Contains new.touched x)
  pub next : (f : ChainStart) → Contains new.next f → Contains old.next f ⊎ P f.node f.cost
  pub next_kept : (f : ChainStart) → Contains old.next f → Contains new.next f
  pub touched_kept : (x : ℕ) → Contains old.touched x → Contains new.touched x
  pub touched : (x : ℕ) → Contains new.touched x → Contains old.touched x ⊎ (x < length old.costs)

-- the known costs take into account each leg to x in front of a chain from x that costs e
abbrev pub IsSpread : Legs → Wanted → Known → ℕ → Cost → Type 0
IsSpread L s h x e =
    (y : ℕ) (l : Label) → L y x ≡ Some l → y ≢ s.avoided → IsAtMost (cost_sum l.cost e) s.most → IsAtMost (known_at h y) (cost_sum l.cost e)

-- each step begins a wanted chain of at most k legs
abbrev pub AreSteps : Legs → Wanted → ℕ → List ChainStart → Type 0
AreSteps L s k steps = (f : ChainStart) → Contains steps f → IsWanted L s k f.node f.cost

-- each reached node is in the front with its cost, or its legs have been spread at that cost
abbrev pub IsFront : Legs → Wanted → Known → List ChainStart → Type 0
IsFront L s h front = (x : ℕ) → IsAtMost (known_at h x) s.most → Contains front (step_to x (known_at h x)) ⊎ IsSpread L s h x (known_at h x)

-- there is room for `more` nodes to be lowered
abbrev pub HasRoom : {K : Type 0} → ℕ → KnownCosts K → Type 0
HasRoom more h = (vec_len h.touched + more ≤ vec_capacity h.touched) × (vec_len h.next + more ≤ vec_capacity h.next)

-- a node that is not among the touched nodes is at rest: no chain from it is known
pub record AreTouched (h : Known) : Type 0 where
  pub each : (x : ℕ) → (known_at h x ≡ never) ⊎ Contains h.touched x
  pub within : All (λ x. x < length h.costs) h.touched

-- all n nodes are at rest
pub record IsClean (n : ℕ) (h : Known) : Type 0 where
  pub size : length h.costs ≡ n
  pub rest : (x : ℕ) → known_at h x ≡ never
  pub touched : h.touched ≡ []

-- all nodes are at rest, for any number of nodes
abbrev pub IsIdle : Known → Type 0
IsIdle h = IsClean (length h.costs) h

-- the state after k rounds among n nodes: the known costs, the next front, and the nodes that have to be cleaned
pub record IsAfterRounds (n : ℕ) (L : Legs) (s : Wanted) (k : ℕ) (h : Known) : Type 0 where
  pub size : length h.costs ≡ n
  pub least : AreLeastCosts L s k h
  pub steps : AreSteps L s k h.next
  pub front : IsFront L s h h.next
  pub touched : AreTouched h

-- no leg weighs more than the limit
abbrev pub AreLegsUpTo : ℕ → Legs → Type 0
AreLegsUpTo limit L = (u w : ℕ) (l : Label) → L u w ≡ Some l → l.cost.weight ≤ limit

-- a leg at one of n nodes whose cost may be added to a known cost
pub record IsLegLight (limit n : ℕ) (l : Leg) : Type 0 where
  pub node : l.node < n
  pub cost : IsLight limit l.cost

-- legs that may be put in front of a step among n nodes: no sum wraps
pub record IsRoomFor (limit n : ℕ) (legs : List Leg) (f : ChainStart) : Type 0 where
  pub within : All (IsLegLight limit n) legs
  pub held : IsHeld limit f.cost
