-- Orders of nodes that bytes name.
use Rattle.std.proofs.Common.{◌≢◌, ℕ, List, [], ◌∷◌, length, refl}
use Rattle.ch_graph.specs.Saved.{OrderAndLegs}
use Rattle.ch_read.specs.Names.{NamesSaved}
use Rattle.ch_engine.specs.Topologies.{IsNamedOrder}

-- the order of a saved hierarchy is the one that its bytes name
pub named_by : (bytes : List ℕ) (n : ℕ) (saved : OrderAndLegs) → length bytes ≢ 0 → NamesSaved bytes n saved →
    IsNamedOrder bytes n saved.order
named_by [] n saved some named = absurd (some refl)
named_by (byte ∷ bytes) n saved some named = (saved.legs, named)
