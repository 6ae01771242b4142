-- What is told of inputs and of the output, by the counts of their failed calls.
use Rattle.std.proofs.Common.{◌≡◌, ℕ, ◌+◌, List, [], inl, inr, ap, arith}
use Rattle.std.specs.Prelude.{◌⊎◌, Result}
use Rattle.ch_text.specs.Device.{failures_in, idle_writes}
use Rattle.ch_text.specs.Moves.{Took}
use Rattle.ch_text.specs.declared.device.DeviceFault.{DeviceFault}
use Rattle.ch_text.proofs.Moves.{all-counts, fault-counts, gave-counts, took-counts, until-counts}
use Rattle.ch_run.specs.declared.fault.RunFault.{RunFault}
use Rattle.ch_run.specs.declared.fault.Which.{Which}
use Rattle.ch_run.specs.Run.{ReadsOnce, WritesOnce, reading}
use Rattle.ch_run.specs.Told.{Calls, ReportsReads, ReportsWrites}

-- the law of an input that ties its calls to its count of failures
abbrev pub CountsReads : {I : Type 0} → Calls I → (I → ℕ) → Type 0
CountsReads {I} gives failed = (old : I) → (buffer : List ℕ) → (answer : Result ℕ DeviceFault) → (new : I) →
    gives old buffer answer new → failed new ≡ failed old + failures_in answer

-- the law of an output that ties its calls to its counts
abbrev pub CountsCalls : {O : Type 0} → Calls O → (failed idle : O → ℕ) → Type 0
CountsCalls {O} takes failed idle =
    (old : O) → (bytes : List ℕ) → (answer : Result ℕ DeviceFault) → (new : O) → takes old bytes answer new →
    (failed new ≡ failed old + failures_in answer) × (idle new ≡ idle old + idle_writes answer bytes)

module _ {T O : Type 0} {takes : Calls O} {failed idle : O → ℕ} (counts : CountsCalls takes failed idle) {old new : O}
    {r : Result T RunFault} where
  -- a failed write is reported exactly if there was one
  pub writes_once : ReportsWrites takes old new r → WritesOnce r failed idle old new
  writes_once (inl (is, (text, count, took))) = elim (fault-counts takes failed idle counts old text count new took) [
    | inl more ↦ record { device = (λ met. inl (omega arith), λ any. is); once = inl (inr more.0, more.1) }
    | inr more ↦ record { device = (λ met. inr (omega arith), λ any. is); once = inr (more.0, inr more.1) }
  ]
  writes_once (inr (none, kept)) =
      let still = same kept in
      record {
        device = (λ is. absurd (none is), λ any. elim any [ inl less ↦ absurd (omega arith) | inr less ↦ absurd (omega arith) ]);
        once = inl (inl still.0, still.1);
      }
    where
      same : (new ≡ old) ⊎ ((text : List ℕ) × Took takes old text new) → (failed new ≡ failed old) × (idle new ≡ idle old)
      same (inl at) = (ap failed at, ap idle at)
      same (inr (text, took)) = took-counts takes failed idle counts old text [] new took

module _ {T I : Type 0} {gives : Calls I} {failed : I → ℕ} (counts : CountsReads gives failed) {old new : I} {same : Type 0}
    (still : same → new ≡ old) {r : Result T RunFault} {which : Which} where
  -- a failed read is reported exactly if there was one
  pub reads_once : ReportsReads which (reading gives old new) same r → ReadsOnce which r failed old new
  reads_once (inl (is, (bytes, until))) =
      let more = until-counts gives failed counts old bytes new until in
      record { device = (λ stopped. omega arith, λ less. is); once = inr more }
  reads_once (inr (other, read)) =
      let none = kept read in
      record { device = (λ is. absurd (other is), λ less. absurd (omega arith)); once = inl none }
    where
      kept : same ⊎ ((bytes : List ℕ) × ((reading gives old new).some bytes ⊎ (reading gives old new).all bytes)) → failed new ≡ failed old
      kept (inl at) = ap failed (still at)
      kept (inr (bytes, inl some)) = gave-counts gives failed counts old bytes new some
      kept (inr (bytes, inr all)) = all-counts gives failed counts old bytes new all
