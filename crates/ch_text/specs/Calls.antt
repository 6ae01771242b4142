-- Calls of std that are made again if they are interrupted.
use Rattle.std.specs.Prelude.{◌≡◌, ◌≢◌, ◌⊎◌, ℕ, zero, suc, ◌-◌, ◌^◌, List, Result, Ok, Err, IfErr}
use Rattle.std.specs.IoError.{error_kind}
use Rattle.std.specs.declared.io.Error.{Error}
use Rattle.std.specs.declared.io.ErrorKind.TheVariants.{Interrupted}
use Rattle.ch_text.specs.declared.device.DeviceFault.{DeviceFault}

-- this many calls in a row were interrupted
abbrev pub AreInterrupted : {S T : Type 0} → (gives : S → Result T Error → S → Type 0) → ℕ → (old new : S) → Type 0
AreInterrupted gives zero old new = new ≡ old
AreInterrupted {S} gives (suc calls) old new =
    (mid : S) × AreInterrupted gives calls old mid × (error : Error) × gives mid (Err error) new × (error_kind error ≡ Interrupted)

-- after some interrupted calls, one call gave this answer. It is no error, or an error that is no interruption, or the answer of
-- the call after 2^64 - 1 others
pub record IsMadeUntilDone {S T : Type 0} (gives : S → Result T Error → S → Type 0) (old : S) (result : Result T Error)
    (new : S) : Type 0 where
  pub calls : ℕ
  pub last : S
  pub before : AreInterrupted gives calls old last
  pub answer : gives last result new
  pub done : IfErr result (λ error. error_kind error ≢ Interrupted) ⊎ (calls ≡ 2 ^ 64 - 1)

-- one read of a source into a buffer
abbrev pub IsOneRead : {S : Type 0} → (gives : S → List ℕ → Result ℕ Error → S → Type 0) → S × List ℕ → Result ℕ Error → S × List ℕ → Type 0
IsOneRead gives before answer after = gives before.0 after.1 answer after.0

-- one write of these bytes
abbrev pub IsOneWrite : {S : Type 0} → (gives : S → List ℕ → Result ℕ Error → S → Type 0) → List ℕ → S → Result ℕ Error → S → Type 0
IsOneWrite gives bytes before answer after = gives before bytes answer after

-- reads of a source until one is done, where `gives` says what a read may do
abbrev pub IsReadOf : {S : Type 0} → (gives : S → List ℕ → Result ℕ Error → S → Type 0) → (old : S) → (buffer : List ℕ) → Result ℕ Error →
    (new : S) → (buffer' : List ℕ) → Type 0
IsReadOf gives old buffer result new buffer' = IsMadeUntilDone (IsOneRead gives) (old, buffer) result (new, buffer')

-- writes to a sink until one is done, where `gives` says what a write may do
abbrev pub IsWriteOf : {S : Type 0} → (gives : S → List ℕ → Result ℕ Error → S → Type 0) → (old : S) → (bytes : List ℕ) → Result ℕ Error →
    (new : S) → Type 0
IsWriteOf gives old bytes result new = IsMadeUntilDone (IsOneWrite gives bytes) old result new

-- the answer of a device for this answer of std
abbrev pub device_answer : Result ℕ Error → Result ℕ DeviceFault
device_answer (Ok count) = Ok count
device_answer (Err error) = Err (record {})

-- a read of a device is reads of its source until one is done
pub record IsDeviceRead {S : Type 0} (gives : S → List ℕ → Result ℕ Error → S → Type 0) (old : S) (buffer : List ℕ)
    (result : Result ℕ DeviceFault) (new : S) : Type 0 where
  pub before : List ℕ
  pub answer : Result ℕ Error
  pub reads : IsReadOf gives old before answer new buffer
  pub is : result ≡ device_answer answer

-- a write of a device is writes to its sink until one is done
pub record IsDeviceWrite {S : Type 0} (gives : S → List ℕ → Result ℕ Error → S → Type 0) (old : S) (bytes : List ℕ)
    (result : Result ℕ DeviceFault) (new : S) : Type 0 where
  pub answer : Result ℕ Error
  pub writes : IsWriteOf gives old bytes answer new
  pub is : result ≡ device_answer answer
