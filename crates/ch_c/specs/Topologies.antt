-- The results of the calls for C on topologies, and the state after them.
use Rattle.std.specs.Prelude.{◌≡◌, ◌≢◌, ◌⊎◌, ℕ, List, length, Option, Some, None}
use Rattle.ch_hierarchy.specs.Hierarchy.{LevelsAndLegs}
use Rattle.ch_engine.specs.declared.fault.OpenError.{OpenError}
use Rattle.ch_engine.specs.declared.topology_error.TopologyError.{TopologyError}
use Rattle.ch_engine.specs.Held.{Held, only}
use Rattle.ch_engine.specs.Lines.{Lines}
use Rattle.ch_engine.specs.Topologies.{EndsAndPairs, IsArraysTopologyError, IsOpenedWith, IsTopologyError, IsTopologyOfArrays}
use Rattle.ch_engine.specs.Topologies.{IsTopologyOpened, IsWeightsError}
use Rattle.ch_c.specs.Calls.{arrays_fault, error_status, fault_of, kind_number}
use Rattle.ch_c.specs.declared.faults.Fault.{Fault}
use Rattle.ch_c.specs.declared.status.TheConstants.{OK, NO_MEMORY, CLOSED, IS_OPEN, LENGTHS, BAD_GRAPH, BAD_SAVED, WRONG_SAVED, TRIANGLES}

-- the status of an error of opening a topology
abbrev pub topology_status : TopologyError → ℕ
topology_status TopologyError.NoMemory = NO_MEMORY
topology_status (TopologyError.BadGraph f) = BAD_GRAPH
topology_status TopologyError.Lengths = LENGTHS
topology_status (TopologyError.BadArrays f) = BAD_GRAPH
topology_status (TopologyError.BadOrder f) = BAD_SAVED
topology_status TopologyError.WrongOrder = WRONG_SAVED
topology_status TopologyError.Triangles = TRIANGLES

-- the fault of such an error, as C sees it. An order that does not have each node once is told as that of a hierarchy
abbrev pub topology_fault : TopologyError → Fault
topology_fault TopologyError.NoMemory = record { line = 0; place = 0; kind = 0 }
topology_fault (TopologyError.BadGraph f) = record { line = f.line; place = 0; kind = kind_number f.kind }
topology_fault TopologyError.Lengths = record { line = 0; place = 0; kind = 0 }
topology_fault (TopologyError.BadArrays f) = arrays_fault f
topology_fault (TopologyError.BadOrder f) = record { line = f.line; place = 0; kind = kind_number f.kind }
topology_fault TopologyError.WrongOrder = record { line = 0; place = 0; kind = 11 }
topology_fault TopologyError.Triangles = record { line = 0; place = 0; kind = 0 }

-- an open handle stays; a closed one opens with a topology, or stays closed with an error that is true of what it was given
abbrev pub IsOpeningOfTopology : (EndsAndPairs → Type 0) → (TopologyError → Type 0) → Option EndsAndPairs → Option EndsAndPairs → Fault
    → Fault → ℕ → Type 0
IsOpeningOfTopology Is IsError (Some t) after fault_before fault status = (status ≡ IS_OPEN) × (after ≡ Some t) × (fault ≡ fault_before)
IsOpeningOfTopology Is IsError None after fault_before fault status =
    ((status ≡ OK) × ((t : EndsAndPairs) × (after ≡ Some t) × Is t) × (fault ≡ fault_before))
    ⊎ ((error : TopologyError) × (status ≡ topology_status error) × (after ≡ None) × (fault ≡ topology_fault error) × IsError error)

-- the topology of the graph that bytes name, in the order that bytes name
abbrev pub IsTopologyOpening : List ℕ → List ℕ → Option EndsAndPairs → Option EndsAndPairs → Fault → Fault → ℕ → Type 0
IsTopologyOpening graph order =
    IsOpeningOfTopology (IsTopologyOpened graph order) (IsTopologyError graph order)

-- the topology of arcs from tails[k] to heads[k] between n nodes
abbrev pub IsTopologyOpeningOfArrays : ℕ → List ℕ → List ℕ → List ℕ → Option EndsAndPairs → Option EndsAndPairs → Fault → Fault → ℕ →
    Type 0
IsTopologyOpeningOfArrays n tails heads order =
    IsOpeningOfTopology (IsTopologyOfArrays n tails heads order) (IsArraysTopologyError n tails heads order)

-- an open handle is not opened again; a closed one gets the topology of an open one, or there is no memory
abbrev pub IsTopologySharing : Option EndsAndPairs → Option EndsAndPairs → Option EndsAndPairs → ℕ → Type 0
IsTopologySharing topology (Some t) after status = (status ≡ IS_OPEN) × (after ≡ Some t)
IsTopologySharing None None after status = (status ≡ CLOSED) × (after ≡ None)
IsTopologySharing (Some t) None after status = ((status ≡ OK) × (after ≡ Some t)) ⊎ ((status ≡ NO_MEMORY) × (after ≡ None))

-- the nodes are written in the order of the topology, if there is room for just them
abbrev pub IsOrderWritten : Option EndsAndPairs → List ℕ → List ℕ → ℕ → Type 0
IsOrderWritten None before after status = (status ≡ CLOSED) × (after ≡ before)
IsOrderWritten (Some t) before after status = ((status ≡ OK) × (after ≡ t.order))
    ⊎ ((status ≡ LENGTHS) × (length before ≢ length t.order) × (after ≡ before))

-- an open handle stays, and so does a closed one if the topology is closed. Otherwise it opens with a hierarchy that is right for
-- the graph with these weights, or stays closed with an error that is true of the weights
abbrev pub IsCustomizing : Option EndsAndPairs → List ℕ → Option Held → Option Held → Fault → Fault → ℕ → Type 0
IsCustomizing topology weights (Some held) after fault_before fault status = (status ≡ IS_OPEN) × (after ≡ Some held)
    × (fault ≡ fault_before)
IsCustomizing None weights None after fault_before fault status = (status ≡ CLOSED) × (after ≡ None) × (fault ≡ fault_before)
IsCustomizing (Some t) weights None after fault_before fault status =
    ((status ≡ OK) × ((H : LevelsAndLegs) × (lines : Lines) × (after ≡ Some (only H lines)) × IsOpenedWith t weights H lines)
    × (fault ≡ fault_before))
    ⊎ ((error : OpenError) × (status ≡ error_status error) × (after ≡ None) × (fault ≡ fault_of error) × IsWeightsError t weights error)
