-- Lists moved together in their array.
use Rattle.std.specs.Prelude.{◌≡◌, ◌≢◌, ℕ, ◌+◌, ◌<◌, ◌≤◌, ◌⊎◌, ◌==◌, if◌then◌else◌, List, length, slice_get, Some, Contains, AllPairs}
use Rattle.std.specs.List.Sorted.{IsNonDecreasingBy}
use Rattle.ch_lists.specs.declared.place.Place.{Place}
use Rattle.ch_lists.specs.Places.{lists_at, ArePlaces}

-- the place of an empty list that has no room
abbrev pub nowhere : Place
nowhere = record { start = 0; len = 0; room = 0 }

-- the place, or the place without room if the list is empty
abbrev pub closed : Place → Place
closed p = if p.len == 0 then nowhere else p

-- an entry is the start of a list that is not empty, and the number of that list
abbrev pub IsEntry : List Place → ℕ × ℕ → Type 0
IsEntry places entry = (p : Place) × (slice_get places entry.1 ≡ Some p) × (p.start ≡ entry.0) × (0 < p.len)

-- the entries are those of the lists below `count` that are not empty, and each list occurs once
pub record AreListed (places : List Place) (count : ℕ) (entries : List (ℕ × ℕ)) : Type 0 where
  pub entry : (e : ℕ × ℕ) → Contains entries e → IsEntry places e × (e.1 < count)
  pub each : (i : ℕ) (p : Place) → i < count → slice_get places i ≡ Some p → 0 < p.len → Contains entries (p.start, i)
  pub once : AllPairs (λ a b. a.1 ≢ b.1) entries

-- the entries are those of all lists that are not empty, in the order of their places
pub record AreInOrder (places : List Place) (entries : List (ℕ × ℕ)) : Type 0 where
  pub listed : AreListed places (length places) entries
  pub rising : IsNonDecreasingBy (λ e. e.0) entries

-- the lists at these places can be moved together in this order, and each empty list has the place without room
pub record IsReady (places : List Place) (size : ℕ) (entries : List (ℕ × ℕ)) : Type 0 where
  pub placed : ArePlaces places size
  pub order : AreInOrder places entries
  pub empty : (i : ℕ) (p : Place) → slice_get places i ≡ Some p → p.len ≡ 0 → p ≡ nowhere

-- a list has a value at this place of the array
abbrev pub IsUsed : List Place → ℕ → Type 0
IsUsed places x = (i : ℕ) × (p : Place) × (slice_get places i ≡ Some p) × (p.start ≤ x) × (x < p.start + p.len)

-- each list is below `end`, where every place is used, or it comes in the order from k on; those lists start at `end`
-- or after it
pub record IsMovedUpTo (places : List Place) (entries : List (ℕ × ℕ)) (k end : ℕ) : Type 0 where
  pub ahead : (j : ℕ) (e : ℕ × ℕ) → k ≤ j → slice_get entries j ≡ Some e → IsEntry places e × (end ≤ e.0)
  pub each : (i : ℕ) (p : Place) → slice_get places i ≡ Some p →
      (p.start + p.room ≤ end) ⊎ ((j : ℕ) × (e : ℕ × ℕ) × (k ≤ j) × (slice_get entries j ≡ Some e) × (e.1 ≡ i))
  pub filled : (x : ℕ) → x < end → IsUsed places x

-- the lists are the same in the new array, and each place of the array is used
pub record ArePacked {T : Type 0} (old new : List T) (was now : List Place) : Type 0 where
  pub placed : ArePlaces now (length new)
  pub same : lists_at new now ≡ lists_at old was
  pub filled : (x : ℕ) → x < length new → IsUsed now x
