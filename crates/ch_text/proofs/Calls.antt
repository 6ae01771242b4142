-- Calls that are made again.
use Rattle.std.proofs.Common.{◌≡◌, ℕ, ◌+◌, suc, Result, Err, arith}
use Rattle.std.specs.IoError.{error_kind}
use Rattle.std.specs.declared.io.Error.{Error}
use Rattle.std.specs.declared.io.ErrorKind.TheVariants.{Interrupted}
use Rattle.ch_text.specs.Calls.{AreInterrupted}

-- one more call was interrupted
pub AreInterrupted-more : {S T : Type 0} (gives : S → Result T Error → S → Type 0) (calls : ℕ) (old mid new : S) (error : Error)
    → AreInterrupted gives calls old mid → gives mid (Err error) new → error_kind error ≡ Interrupted →
    AreInterrupted gives (calls + 1) old new
AreInterrupted-more gives calls old mid new error before call kind =
    let next : calls + 1 ≡ suc calls = omega arith in
    rw next (mid, before, error, call, kind)
