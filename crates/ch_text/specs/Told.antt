-- What the calls of a device tell of its bytes, where those are known.
use Rattle.std.specs.Prelude.{◌≡◌, ℕ, zero, suc, List, [], ◌++◌, Option, Some, None, Result, Ok, Err, take}
use Rattle.std.proofs.Common.{refl, sym, ap, ◌∙◌}
use Rattle.std.specs.Io.KnownBytes.{Keeps, ReadConsumes, WriteAppends}
use Rattle.std.specs.declared.io.Error.{Error}
use Rattle.ch_text.specs.Calls.{AreInterrupted, IsDeviceRead, IsDeviceWrite, IsOneRead, IsOneWrite, device_answer}
use Rattle.ch_text.specs.Device.{GivesBytes, TakesBytes}
use Rattle.ch_text.specs.declared.device.DeviceFault.{DeviceFault}

pub keeps_refl : (known : Option (List ℕ)) → Keeps known known
keeps_refl None = tt
keeps_refl (Some xs) = refl

pub keeps_trans : (a b c : Option (List ℕ)) → Keeps a b → Keeps b c → Keeps a c
keeps_trans None b c first second = tt
keeps_trans (Some xs) None c first second = absurd first
keeps_trans (Some xs) (Some ys) None first second = absurd second
keeps_trans (Some xs) (Some ys) (Some zs) first second = second ∙ first

-- interrupted calls keep the known bytes
pub interrupted_keeps : {S T : Type 0} (gives : S → Result T Error → S → Type 0) (known : S → Option (List ℕ)) →
    ((old : S) (error : Error) (new : S) → gives old (Err error) new → Keeps (known old) (known new))
    → (calls : ℕ) (old new : S) → AreInterrupted gives calls old new → Keeps (known old) (known new)
interrupted_keeps gives known law zero old new same = rw same (keeps_refl (known old))
interrupted_keeps gives known law (suc calls) old new (mid, before, error, call, kind) =
    keeps_trans _ _ _ (interrupted_keeps gives known law calls old mid before) (law mid error new call)

pub reading : (known mid known' : Option (List ℕ)) (buffer : List ℕ) (answer : Result ℕ Error) → Keeps known mid →
    ReadConsumes mid known' answer buffer → GivesBytes known known' (device_answer answer) buffer
reading None mid known' buffer answer kept read = tt
reading (Some xs) None known' buffer answer kept read = absurd kept
reading (Some xs) (Some ys) None buffer (Ok n) kept read = absurd read.0
reading (Some xs) (Some ys) (Some zs) buffer (Ok n) kept read =
    let took : xs ≡ take n buffer ++ zs = sym kept ∙ read.0 in
    (took, λ none room. let end : zs ≡ [] = read.1 none room in rw end at (rw none at took))
reading (Some xs) (Some ys) None buffer (Err error) kept read = absurd read
reading (Some xs) (Some ys) (Some zs) buffer (Err error) kept read = read ∙ kept

pub writing : (known mid known' : Option (List ℕ)) (bytes : List ℕ) (answer : Result ℕ Error) → Keeps known mid →
    WriteAppends mid known' answer bytes → TakesBytes known known' (device_answer answer) bytes
writing None mid known' bytes answer kept write = tt
writing (Some xs) None known' bytes answer kept write = absurd kept
writing (Some xs) (Some ys) None bytes (Ok n) kept write = absurd write
writing (Some xs) (Some ys) (Some zs) bytes (Ok n) kept write = write ∙ ap (λ ks. ks ++ take n bytes) kept
writing (Some xs) (Some ys) None bytes (Err error) kept write = absurd write
writing (Some xs) (Some ys) (Some zs) bytes (Err error) kept write = write ∙ kept

-- a read of a device takes its bytes from the front of those that its source has left
pub reader_tells : {S : Type 0} (gives : S → List ℕ → Result ℕ Error → S → Type 0) (known : S → Option (List ℕ))
    → ((old : S) (buffer : List ℕ) (answer : Result ℕ Error) (new : S) → gives old buffer answer new →
    ReadConsumes (known old) (known new) answer buffer)
    → (old : S) (buffer : List ℕ) (result : Result ℕ DeviceFault) (new : S) → IsDeviceRead gives old buffer result new →
    GivesBytes (known old) (known new) result buffer
reader_tells {S} gives known law old buffer result new made =
    let done = made.reads in
    let kept = interrupted_keeps (IsOneRead gives) (λ (s : S × List ℕ). known s.0) (λ before error after call.
    law before.0 after.1 (Err error) after.0 call) done.calls (old, made.before) done.last done.before in
    rw made.is (reading (known old) (known done.last.0) (known new) buffer made.answer kept
    (law done.last.0 buffer made.answer new done.answer))

-- a write of a device puts its bytes behind those that its sink holds
pub writer_tells : {S : Type 0} (gives : S → List ℕ → Result ℕ Error → S → Type 0) (known : S → Option (List ℕ))
    → ((old : S) (bytes : List ℕ) (answer : Result ℕ Error) (new : S) → gives old bytes answer new →
    WriteAppends (known old) (known new) answer bytes)
    → (old : S) (bytes : List ℕ) (result : Result ℕ DeviceFault) (new : S) → IsDeviceWrite gives old bytes result new →
    TakesBytes (known old) (known new) result bytes
writer_tells gives known law old bytes result new made =
    let done = made.writes in
    let kept = interrupted_keeps (IsOneWrite gives bytes) known (λ before error after call. law before bytes (Err error) after call)
    done.calls old done.last done.before in
    rw made.is (writing (known old) (known done.last) (known new) bytes made.answer kept (law done.last bytes made.answer new done.answer))
