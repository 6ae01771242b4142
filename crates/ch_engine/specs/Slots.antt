-- Sparse sets (Briggs and Torczon 1993): numbers with a slot each, and for each number a hint where its slot may be.
use Rattle.std.specs.Prelude.{◌≡◌, ℕ, ◌^◌, ◌<◌, ◌⊎◌, ◌↔◌, ◌++◌, List, [], ◌∷◌, length, map, slice_index, Option, Some}

-- how many numbers may have slots, and by slot those that have one
pub record Slotted : Type 0 where
  pub numbers : ℕ
  pub names : List ℕ

-- the hint of each name is its slot
pub record AreHinted (hints names : List ℕ) : Type 0 where
  pub few : length hints < 2 ^ 32
  pub low : (s : ℕ) → s < length names → slice_index names s < length hints
  pub hinted : (s : ℕ) → s < length names → slice_index hints (slice_index names s) ≡ s

-- the number has this slot
abbrev pub IsSlotOf : List ℕ → ℕ → ℕ → Type 0
IsSlotOf names number s = (s < length names) × (slice_index names s ≡ number)

-- the slot that was found is the one of the number, and none was found if it has none
abbrev pub IsSlotFound : List ℕ → ℕ → Option ℕ → Type 0
IsSlotFound names number found = (s : ℕ) → IsSlotOf names number s ↔ (found ≡ Some s)

-- all names have the slots that they had, and no other number has one than this
abbrev pub IsNamedMore : ℕ → List ℕ → List ℕ → Type 0
IsNamedMore number old new = (new ≡ old) ⊎ (new ≡ old ++ number ∷ [])

-- pairs of a slot and a value, with its name before each value
abbrev pub named : {T : Type 0} → List ℕ → List (ℕ × T) → List (ℕ × T)
named names pairs = map (λ p. (slice_index names p.0, p.1)) pairs
