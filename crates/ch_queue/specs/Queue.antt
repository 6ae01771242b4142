-- A queue: a key for each of some ids, and the least entry.
use Rattle.std.specs.Prelude.{◌≡◌, false, ℕ, ◌≤◌, List, slice_index_or, Option, Some, None}
use Rattle.std.specs.Ordering.{is_gt}
use Rattle.std.specs.declared.cmp.Ordering.{Ordering}
use Rattle.std.specs.declared.cmp.Ordering.TheVariants.{Equal}

-- the key of an id, from a list of the optional keys of the ids 0, 1, ...
abbrev pub key_of : {K : Type 0} → List (Option K) → ℕ → Option K
key_of keys id = slice_index_or keys id None

-- no id has a key
abbrev pub HasNone : {K : Type 0} → List (Option K) → Type 0
HasNone keys = (id : ℕ) → key_of keys id ≡ None

-- the entry a is not after b: its key is no greater, and at equal keys its id is no greater
abbrev pub ComesFirst : {K : Type 0} → (K → K → Ordering) → K × ℕ → K × ℕ → Type 0
ComesFirst cmp a b = (is_gt (cmp a.0 b.0) ≡ false) × (cmp a.0 b.0 ≡ Equal → a.1 ≤ b.1)

-- e is an entry, and no entry comes before it
pub record IsLeastEntry {K : Type 0} (cmp : K → K → Ordering) (keys : List (Option K)) (e : K × ℕ) : Type 0 where
  pub has : key_of keys e.1 ≡ Some e.0
  pub least : (id : ℕ) (k : K) → key_of keys id ≡ Some k → ComesFirst cmp e (k, id)
