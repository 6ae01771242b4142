-- Where lists are in an array that holds the values of all lists.
use Rattle.std.specs.Prelude.{◌≡◌, ◌≢◌, ℕ, ◌+◌, ◌^◌, ◌<◌, ◌≤◌, ◌⊎◌, List, length, map, take, drop, slice_get, slice_index_or, Some}
use Rattle.ch_lists.specs.declared.place.Place.{Place}

-- the values of the list at a place
abbrev pub values_at : {T : Type 0} → List T → Place → List T
values_at values place = take place.len (drop place.start values)

-- the lists at these places
abbrev pub lists_at : {T : Type 0} → List T → List Place → List (List T)
lists_at values places = map (values_at values) places

-- the rooms of two places do not overlap: one room ends at or before the start of the other
abbrev pub AreApart : Place → Place → Type 0
AreApart p q = (p.start + p.room ≤ q.start) ⊎ (q.start + q.room ≤ p.start)

-- lists have these places in an array of `size` values
pub record ArePlaces (places : List Place) (size : ℕ) : Type 0 where
  pub few : length places < 2 ^ 32
  pub small : size < 2 ^ 32
  -- a list is at most as long as its room
  pub fits : (i : ℕ) (p : Place) → slice_get places i ≡ Some p → p.len ≤ p.room
  -- each room is within the array
  pub within : (i : ℕ) (p : Place) → slice_get places i ≡ Some p → p.start + p.room ≤ size
  -- no two rooms overlap
  pub apart : (i j : ℕ) (p q : Place) → slice_get places i ≡ Some p → slice_get places j ≡ Some q → i ≢ j → AreApart p q

-- these are the places of `count` empty lists
pub record AreEmptyPlaces (count size : ℕ) (places : List Place) : Type 0 where
  pub counted : length places ≡ count
  pub placed : ArePlaces places size
  pub empty : (i : ℕ) (p : Place) → slice_get places i ≡ Some p → p.len ≡ 0

-- a value was written at `at`, and the values from there up to `end` moved on by one
pub record HasInserted {T : Type 0} (old new : List T) (at end : ℕ) (value : T) : Type 0 where
  pub size : length new ≡ length old
  pub here : (d : T) → slice_index_or new at d ≡ value
  pub moved : (k : ℕ) (d : T) → at ≤ k → k < end → slice_index_or new (k + 1) d ≡ slice_index_or old k d
  pub below : (k : ℕ) (d : T) → k < at → slice_index_or new k d ≡ slice_index_or old k d
  pub above : (k : ℕ) (d : T) → end < k → slice_index_or new k d ≡ slice_index_or old k d

-- the values after `at` and below `end` moved back by one
pub record HasRemoved {T : Type 0} (old new : List T) (at end : ℕ) : Type 0 where
  pub size : length new ≡ length old
  pub moved : (k : ℕ) (d : T) → at ≤ k → k + 1 < end → slice_index_or new k d ≡ slice_index_or old (k + 1) d
  pub below : (k : ℕ) (d : T) → k < at → slice_index_or new k d ≡ slice_index_or old k d
  pub above : (k : ℕ) (d : T) → end ≤ k → slice_index_or new k d ≡ slice_index_or old k d

-- the list at `was` is also at `now`, in the same room or behind all values, with room for one more; no value changed
pub record HasRoom {T : Type 0} (old new : List T) (was now : Place) : Type 0 where
  pub size : length old ≤ length new
  pub small : length new < 2 ^ 32
  pub counted : now.len ≡ was.len
  pub spare : now.len < now.room
  pub within : now.start + now.room ≤ length new
  pub room : ((now.start ≡ was.start) × (now.room ≡ was.room)) ⊎ (length old ≤ now.start)
  pub copied : (k : ℕ) (d : T) → k < was.len → slice_index_or new (now.start + k) d ≡ slice_index_or old (was.start + k) d
  pub kept : (k : ℕ) (d : T) → k < length old → slice_index_or new k d ≡ slice_index_or old k d

-- the list at `was` is now at `now`, in the same room or behind all values, and has these values; no value outside
-- its old room changed
pub record HasEdited {T : Type 0} (old new : List T) (was now : Place) (values : List T) : Type 0 where
  pub size : length old ≤ length new
  pub small : length new < 2 ^ 32
  pub fits : now.len ≤ now.room
  pub within : now.start + now.room ≤ length new
  pub room : ((now.start ≡ was.start) × (now.room ≡ was.room)) ⊎ (length old ≤ now.start)
  pub edited : values_at new now ≡ values
  pub below : (k : ℕ) (d : T) → k < was.start → slice_index_or new k d ≡ slice_index_or old k d
  pub above : (k : ℕ) (d : T) → was.start + was.room ≤ k → k < length old → slice_index_or new k d ≡ slice_index_or old k d
