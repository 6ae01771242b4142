-- What the calls of a device did, one after the other. `gives` says what one call may do: the device before, the bytes of the
-- call, its answer, and the device after.
use Rattle.std.specs.Prelude.{◌≡◌, ℕ, ◌<◌, ◌≤◌, List, [], ◌++◌, length, take, drop, Result, Ok, Err, IfOk}
use Rattle.ch_text.specs.Steps.{Leads}
use Rattle.ch_text.specs.declared.device.DeviceFault.{DeviceFault}
use Rattle.ch_text.specs.declared.device.ReadAllFault.{ReadAllFault}
use Rattle.ch_text.specs.declared.device.ReadAllFault.TheVariants.{Device, Memory}

-- one more read gave some bytes, which come behind those of the earlier reads
pub record ReadsMore {S : Type 0} (gives : S → List ℕ → Result ℕ DeviceFault → S → Type 0) (old new : S × List ℕ) : Type 0 where
  pub buffer : List ℕ
  pub count : ℕ
  pub some : 0 < count
  pub fits : count ≤ length buffer
  pub call : gives old.0 buffer (Ok count) new.0
  pub more : new.1 ≡ old.1 ++ take count buffer

-- reads gave these bytes, one after the other
abbrev pub Gave : {S : Type 0} → (gives : S → List ℕ → Result ℕ DeviceFault → S → Type 0) → (old : S) → List ℕ → (new : S) → Type 0
Gave gives old bytes new = Leads (ReadsMore gives) (old, []) (new, bytes)

-- reads gave these bytes, and then a read into a buffer with room gave none: the input is at its end
pub record GaveAll {S : Type 0} (gives : S → List ℕ → Result ℕ DeviceFault → S → Type 0) (old : S) (bytes : List ℕ) (new : S) : Type 0 where
  pub last : S
  pub reads : Gave gives old bytes last
  pub buffer : List ℕ
  pub room : 0 < length buffer
  pub call : gives last buffer (Ok 0) new

-- reads gave these bytes, and then a read failed
pub record GaveUntilFault {S : Type 0} (gives : S → List ℕ → Result ℕ DeviceFault → S → Type 0) (old : S) (bytes : List ℕ)
    (new : S) : Type 0 where
  pub last : S
  pub reads : Gave gives old bytes last
  pub buffer : List ℕ
  pub fault : DeviceFault
  pub call : gives last buffer (Err fault) new

-- an input was not read to its end: a read failed, or there was no memory for more bytes
abbrev pub GaveSome : {S : Type 0} → (gives : S → List ℕ → Result ℕ DeviceFault → S → Type 0) → (old new : S) → ReadAllFault → Type 0
GaveSome gives old new Device = (bytes : List ℕ) × GaveUntilFault gives old bytes new
GaveSome gives old new Memory = (bytes : List ℕ) × Gave gives old bytes new

-- a write was offered some bytes from the front of those that are left
pub record Offers {S : Type 0} (gives : S → List ℕ → Result ℕ DeviceFault → S → Type 0) (old : S) (left : List ℕ)
    (answer : Result ℕ DeviceFault) (new : S) : Type 0 where
  pub offered : List ℕ
  pub behind : List ℕ
  pub front : left ≡ offered ++ behind
  pub tried : 0 < length offered
  pub fits : IfOk answer (λ count. count ≤ length offered)
  pub call : gives old offered answer new

-- one more write took some bytes from the front of those that are left
pub record WritesMore {S : Type 0} (gives : S → List ℕ → Result ℕ DeviceFault → S → Type 0) (old new : S × List ℕ) : Type 0 where
  pub count : ℕ
  pub some : 0 < count
  pub write : Offers gives old.0 old.1 (Ok count) new.0
  pub less : new.1 ≡ drop count old.1

-- writes took bytes from the front of the text, one after the other, and these are left of it
abbrev pub TookBefore : {S : Type 0} → (gives : S → List ℕ → Result ℕ DeviceFault → S → Type 0) → (old : S) → (text left : List ℕ) →
    (new : S) → Type 0
TookBefore gives old text left new = Leads (WritesMore gives) (old, text) (new, left)

-- writes took the whole text
abbrev pub Took : {S : Type 0} → (gives : S → List ℕ → Result ℕ DeviceFault → S → Type 0) → (old : S) → (text : List ℕ) → (new : S) → Type 0
Took gives old text new = TookBefore gives old text [] new

-- writes took this many bytes of the text and no more: then a write of some bytes failed, or took none of them
pub record TookUntilFault {S : Type 0} (gives : S → List ℕ → Result ℕ DeviceFault → S → Type 0) (old : S) (text : List ℕ)
    (count : ℕ) (new : S) : Type 0 where
  pub last : S
  pub within : count < length text
  pub writes : TookBefore gives old text (drop count text) last
  pub answer : Result ℕ DeviceFault
  pub none : IfOk answer (λ taken. taken ≡ 0)
  pub write : Offers gives last (drop count text) answer new
