-- The bytes that devices give and take, and the counts of their faults.
use Rattle.std.specs.Prelude.{◌≡◌, ℕ, zero, suc, ◌+◌, ◌-◌, ◌^◌, ◌<◌, ◌++◌, ◌==◌, ◌&&◌, ◌⊎◌, if◌then◌else◌, nat_lt, List}
use Rattle.std.specs.Prelude.{[], Option, Some, None, ⊤, Result, Ok, Err, length, take, MatchResult}

-- a count of 64 bits can be raised by one more
abbrev pub CanCountOneMore : ℕ → Type 0
CanCountOneMore count = count < 2 ^ 64 - 1

-- how much an answer raises the count of failures: an error raises it by one
abbrev pub failures_in : {T E : Type 0} → Result T E → ℕ
failures_in (Ok _) = 0
failures_in (Err _) = 1

-- how much a write of these bytes raises the count of writes that took none of some bytes
abbrev pub idle_writes : {E : Type 0} → Result ℕ E → List ℕ → ℕ
idle_writes (Ok n) bytes = if (n == 0) && nat_lt 0 (length bytes) then 1 else 0
idle_writes (Err _) bytes = 0

-- at most one more was counted
abbrev pub CountsAtMostOne : ℕ → ℕ → Type 0
CountsAtMostOne count count' = (count' ≡ count) ⊎ (count' ≡ count + 1)

-- at most one more was counted, of two counts together
abbrev pub CountsAtMostOneOf : (failed failed' idle idle' : ℕ) → Type 0
CountsAtMostOneOf failed failed' idle idle' =
    (CountsAtMostOne failed failed' × (idle' ≡ idle)) ⊎ ((failed' ≡ failed) × CountsAtMostOne idle idle')

-- known bytes of an input stay known, and nothing is said of unknown ones.
-- A read takes its bytes from the front of those left. It takes none only at the end, or into a buffer without room.
-- A failed read takes none
abbrev pub GivesBytes : {E : Type 0} → Option (List ℕ) → Option (List ℕ) → Result ℕ E → List ℕ → Type 0
GivesBytes None new result buffer = ⊤
GivesBytes (Some old) None result buffer = ⊥
GivesBytes (Some old) (Some new) result buffer =
    MatchResult result (λ n. (old ≡ take n buffer ++ new) × (n ≡ 0 → 0 < length buffer → old ≡ [])) (λ _. new ≡ old)

-- the same for an output: a write puts the front of these bytes after those that were taken
abbrev pub TakesBytes : {E : Type 0} → Option (List ℕ) → Option (List ℕ) → Result ℕ E → List ℕ → Type 0
TakesBytes None new result bytes = ⊤
TakesBytes (Some old) None result bytes = ⊥
TakesBytes (Some old) (Some new) result bytes = MatchResult result (λ n. new ≡ old ++ take n bytes) (λ _. new ≡ old)

-- the known bytes of an input were these, and now none are left
abbrev pub HasGiven : Option (List ℕ) → Option (List ℕ) → List ℕ → Type 0
HasGiven None new bytes = ⊤
HasGiven (Some old) new bytes = (old ≡ bytes) × (new ≡ Some [])

-- an output whose bytes are known has taken these after the earlier ones
abbrev pub HasTaken : Option (List ℕ) → Option (List ℕ) → List ℕ → Type 0
HasTaken None new bytes = ⊤
HasTaken (Some old) new bytes = new ≡ Some (old ++ bytes)

-- both counts stay at an `Ok`. At an error exactly one of them grows, by one
abbrev pub CountsFault : {T E : Type 0} → (failed failed' idle idle' : ℕ) → Result T E → Type 0
CountsFault failed failed' idle idle' (Ok _) = (failed' ≡ failed) × (idle' ≡ idle)
CountsFault failed failed' idle idle' (Err _) = ((failed' ≡ failed + 1) × (idle' ≡ idle)) ⊎ ((failed' ≡ failed) × (idle' ≡ idle + 1))

-- the turns that are left after one: none after the last
abbrev pub turns_after : Option ℕ → Option ℕ
turns_after None = None
turns_after (Some zero) = None
turns_after (Some (suc turns)) = Some turns
