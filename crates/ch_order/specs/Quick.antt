-- Orders of contraction that begin with given nodes and go on in any way, for hierarchies that are built in little time.
use Rattle.std.specs.Prelude.{◌≡◌, ◌≢◌, ◌⊎◌, ◌+◌, ◌<◌, ◌≤◌, ℕ, List, [], ◌∷◌, length, take, is_some, Contains, Option, Some, None, ℤ}
use Rattle.ch_graph.specs.Graph.{Network}
use Rattle.ch_queue.specs.Queue.{key_of}
use Rattle.ch_hierarchy.specs.Hierarchy.{LevelsAndLegs}
use Rattle.ch_contract.specs.Legs.{Legs}
use Rattle.ch_contract.specs.Contraction.{count_touching}
use Rattle.ch_contract.specs.Enough.{ContractsWithin}
use Rattle.ch_contract.specs.Built.{IsHierarchyIn}
use Rattle.ch_order.specs.Progress.{Progress, IsContractionBy}
use Rattle.ch_order.specs.declared.construction.Construction.{Construction}
use Rattle.ch_order.specs.declared.construction.steps.TheConstants.{MOST_GIVEN_LEGS}
use Rattle.ch_order.specs.Construction.{IsSized, IsJudging, progress_of}
use Rattle.ch_order.specs.Steps.{IsAfterStepsBy}
use Rattle.ch_order.specs.Priorities.{AreRefreshed}

-- a hierarchy of a graph whose given nodes are contracted first, as given, and then the others in any order. The witnesses of each
-- node have at most h legs, or at most some lesser number
abbrev pub IsHierarchyAfter : Network → ℕ → List ℕ → LevelsAndLegs → Type 0
IsHierarchyAfter g h given H =
    (order : List ℕ) × (L : ℕ → Legs) × IsHierarchyIn (ContractsWithin g.nodes h) g H order L × (take (length given) order ≡ given)

-- the given nodes have their turns after i steps, and `taken` are those of them that are contracted. A node is contracted in its turn
-- exactly if no more legs touch it then than this constant says. L k are the legs after k steps
abbrev pub AreTakenIfSmall : ℕ → (ℕ → Legs) → ℕ → List ℕ → List ℕ → Type 0
AreTakenIfSmall n L i [] taken = taken ≡ []
AreTakenIfSmall n L i (v ∷ given) taken =
    ((count_touching n (L i) v ≤ MOST_GIVEN_LEGS) × (rest : List ℕ) × (taken ≡ v ∷ rest) × AreTakenIfSmall n L (i + 1) given rest)
    ⊎ ((MOST_GIVEN_LEGS < count_touching n (L i) v) × AreTakenIfSmall n L i given taken)

-- a hierarchy of a graph whose given nodes are contracted first, as given, but for those that too many legs touch when their turn
-- comes. These are contracted later, with the others, in any order
abbrev pub IsHierarchyAfterSmall : Network → ℕ → List ℕ → LevelsAndLegs → Type 0
IsHierarchyAfterSmall g h given H =
    (taken : List ℕ) × (order : List ℕ) × (L : ℕ → Legs) × IsHierarchyIn (ContractsWithin g.nodes h) g H order L
    × (take (length taken) order ≡ taken) × AreTakenIfSmall g.nodes L 0 given taken

-- the node has a key in the queue
abbrev pub HasKey : List (Option ℤ) → ℕ → Type 0
HasKey keys x = (p : ℤ) × (key_of keys x ≡ Some p)

-- each remaining node has a key, and no contracted node has one
pub record IsWaiting (n : ℕ) (order : List ℕ) (keys : List (Option ℤ)) : Type 0 where
  pub size : length keys ≡ n
  pub left : (x : ℕ) → x < n → (Contains order x → ⊥) → HasKey keys x
  pub taken : (x : ℕ) → Contains order x → key_of keys x ≡ None

-- the state after some steps, whatever the keys of the remaining nodes are. The first steps contract the given nodes, but for those
-- that too many legs touched when their turn came
pub record IsAfterAny (g : Network) (h : ℕ) (given : List ℕ) (p : Progress) : Type 0 where
  pub order : List ℕ
  pub L : ℕ → Legs
  pub small : List ℕ
  pub steps : IsAfterStepsBy (ContractsWithin g.nodes h) g order L p
  pub from : length small ≤ length order
  pub first : take (length small) order ≡ small
  pub part : AreTakenIfSmall g.nodes L 0 given small
  pub waiting : IsWaiting g.nodes order p.keys

-- the construction of a hierarchy of this graph, whose first nodes are given, is under way, and each remaining node waits
pub record IsUnderWay (g : Network) (h : ℕ) (given : List ℕ) (c : Construction) : Type 0 where
  pub sizes : IsSized c
  pub nodes : c.remaining.nodes ≡ g.nodes
  pub after : IsAfterAny g h given (progress_of c)
  pub ready : IsJudging h c

-- the given nodes had their turns, and no others are contracted
abbrev pub IsBegunWith : Network → ℕ → List ℕ → Construction → Type 0
IsBegunWith g h given c = (u : IsUnderWay g h given c) × (c.contracted ≡ length u.after.small)

-- v is contracted and out of the queue. Its witnesses have at most h legs, or at most some lesser number
pub record IsTakenWithin (h : ℕ) (before : Construction) (v : ℕ) (after : Construction) : Type 0 where
  pub sizes : IsSized after
  pub nodes : after.remaining.nodes ≡ before.remaining.nodes
  pub step : IsContractionBy (ContractsWithin before.remaining.nodes h) (progress_of before) v (progress_of after)
  pub size : length after.waiting ≡ length before.waiting
  pub gone : key_of after.waiting v ≡ None
  pub same : (x : ℕ) → x ≢ v → is_some (key_of after.waiting x) ≡ is_some (key_of before.waiting x)
  pub ready : IsJudging h after

-- these nodes have keys, whatever these are, and the keys of the others stay
abbrev pub HaveKeys : List ℕ → List (Option ℤ) → List (Option ℤ) → Type 0
HaveKeys = AreRefreshed (λ x p. Unit {0})

-- these nodes are in the queue, and all else stays
pub record AreQueued (nodes : List ℕ) (before after : Progress) : Type 0 where
  pub rest : after ≡ record before { keys = after.keys }
  pub keys : HaveKeys nodes before.keys after.keys

-- the same nodes have keys, whatever these are, and all else stays
pub record IsRekeyed (before after : Progress) : Type 0 where
  pub rest : after ≡ record before { keys = after.keys }
  pub size : length after.keys ≡ length before.keys
  pub same : (x : ℕ) → is_some (key_of after.keys x) ≡ is_some (key_of before.keys x)
