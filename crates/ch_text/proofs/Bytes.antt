-- Bytes that are read into the front of a buffer, and writes that are not idle.
use Rattle.std.proofs.Common.{◌≡◌, ℕ, ◌<◌, ◌≤◌, ◌++◌, List, Ok, length, take, ◌∙◌, arith}
use Rattle.std.proofs.lemmas.Bool.Decides.{nat_tests}
use Rattle.std.proofs.lemmas.List.{take-append-le, take-take}
use Rattle.ch_text.specs.Device.{idle_writes}

-- a write that takes some bytes is not idle
pub idle_writes-some : (E : Type 0) (n : ℕ) (bytes : List ℕ) → 0 < n → idle_writes {E = E} (Ok n) bytes ≡ 0
idle_writes-some E n bytes some = grind (arith, nat_tests)

-- the front of a buffer whose bytes were written over
pub front-of-written : (n size : ℕ) (new old : List ℕ) → n ≤ length new → n ≤ size → take n (take size (new ++ old)) ≡ take n new
front-of-written n size new old fits within = take-take n size (new ++ old) within ∙ take-append-le n new old fits
