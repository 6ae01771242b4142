-- Each state with a weight is still listed as touched, no state has a key, and each turn takes one state off the list.
use Rattle.std.proofs.Common.{◌≡◌, ℕ, Some, vec_len}
use Rattle.std.specs.Prelude.{slice_index_or, None}
use Rattle.ch_query.specs.Weights.{IsSizedFor}
use Rattle.ch_query.proofs.weights.search.WeightSearch.clean.Given as goal

abbrev pub invariant-loop-state : goal.invariant-loop-state
invariant-loop-state l = record {
  sized : (n : ℕ) × IsSizedFor n l.self;
  sizes : (n : ℕ) → IsSizedFor n l.fn.self → IsSizedFor n l.self;
  queue : (state weight : ℕ) → slice_index_or l.self.queue state None ≡ Some weight → ⊥;
}

abbrev pub decreases-loop-state : goal.decreases-loop-state
decreases-loop-state l = vec_len l.self.touched
