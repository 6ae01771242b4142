-- A text that is written in parts.
use Rattle.std.proofs.Common.{◌≡◌, ℕ, ◌+◌, ◌<◌, ◌^◌, ◌-◌, min, vec_len, List, [], ◌++◌, length, take, drop, get_or, Vec, Ok}
use Rattle.std.proofs.Common.{Err, refl, sym, ◌∙◌, ap, subst, arith, inl, inr}
use Rattle.std.specs.Prelude.{Result, IfErr, OnOk}
use Rattle.std.specs.List.{flat_map, sum_by}
use Rattle.std.specs.declared.alloc.Global.{Global}
use Rattle.std.proofs.lemmas.Grind.{flat_map-append}
use Rattle.std.proofs.lemmas.List.Concat.{length-flat_map}
use Rattle.std.proofs.lemmas.Bool.{cases_lt}
use Rattle.ch_read.specs.Reading.{capped_number}
use Rattle.std.proofs.lemmas.List.{length-append, take-append-drop, flat_map_more, take_more}
use Rattle.ch_text.specs.Moves.{Took, TookUntilFault}
use Rattle.ch_text.specs.declared.device.DeviceFault.{DeviceFault}
use Rattle.ch_text.proofs.Moves.{took-fault-longer, took-fault-then, took-then}
use Rattle.ch_run.specs.declared.fault.RunFault.{RunFault}
use Rattle.ch_run.specs.Ask.{TookUpTo, failed_write}
use Rattle.ch_run.specs.Run.{IsWrite}
use Rattle.ch_run.specs.Serving.{WritesMore}
use Rattle.ch_run.specs.Story.{Writes}

-- the bytes of all parts, in order
abbrev pub bytes_of : List (Vec ℕ Global) → List ℕ
bytes_of parts = flat_map (λ (part : Vec ℕ Global). part.items) parts

-- parts with a number of bytes below 2^64 - 1, as a capped sum gives it, have fewer than 2^64
pub fewer : (parts : List (Vec ℕ Global)) (count : ℕ) → count ≡ min (sum_by vec_len parts) (2 ^ 64 - 1) → (count ≡ 2 ^ 64 - 1 → ⊥) →
    length (bytes_of parts) < 2 ^ 64
fewer parts count is other =
    let long = length-flat_map (λ (part : Vec ℕ Global). part.items) parts in
    let same : sum_by vec_len parts ≡ sum_by (λ (part : Vec ℕ Global). length part.items) parts =
    λ i. sum_by (λ (part : Vec ℕ Global). part.ok.0 i) parts in
    let few = cases_lt (sum_by vec_len parts) (2 ^ 64 - 1) in
    elim few [ inl low ↦ omega arith | inr high ↦ absurd (other (omega arith)) ]

module _ {S : Type 0} (gives : S → List ℕ → Result ℕ DeviceFault → S → Type 0) (old : S) where
  -- after a text that was written, another one was written, or its beginning, up to a write that failed
  pub written_then : (mid new : S) (before after : ℕ) (first second : List ℕ) (r : Result Unit RunFault) → IfErr r IsWrite →
      Took gives old first mid → before ≡ capped_number (length first) → WritesMore gives mid new before after second r →
      TookUpTo gives old new (first ++ second) (failed_write r) × OnOk r (after ≡ capped_number (length (first ++ second)))
  written_then mid new before after first second (Ok done) own took count more =
      (took-then gives old mid new first second [] took more.0, (let k = more.1 in omega (arith, length-append first second)))
  written_then mid new before after first second (Err (RunFault.Write total)) own took count more =
      let sum = more.2 in
      ((length first + more.0, took-fault-then gives old mid new first second more.0 took more.1, omega arith), tt)
  written_then mid new before after first second (Err _) own took count more = absurd own

  module _ (parts : List (Vec ℕ Global)) (i : ℕ) where
    -- the bytes of the first parts, with those of one more
    pub one_more : (d : Vec ℕ Global) → i < length parts →
        bytes_of (take i parts) ++ (get_or parts i d).items ≡ bytes_of (take (i + 1) parts)
    one_more d within = flat_map_more (λ (part : Vec ℕ Global). part.items) [] (take i parts) (get_or parts i d)
        ∙ ap bytes_of (sym (take_more parts i d within))

    -- a write of the first parts failed, and so the write of all parts did
    pub part_failed : (new : S) (e : RunFault) → IsWrite e → length (bytes_of parts) < 2 ^ 64 →
        TookUpTo gives old new (bytes_of (take i parts)) (failed_write {T = Unit} (Err e)) →
        Writes {T = Unit} gives old new (λ bytes. bytes ≡ bytes_of parts) (Err e)
    part_failed new (RunFault.Write count) own fits (bytes, taken, is) =
        let all : bytes_of parts ≡ bytes_of (take i parts) ++ bytes_of (drop i parts) = ap bytes_of (sym (take-append-drop i parts))
        ∙ flat_map-append (λ (part : Vec ℕ Global). part.items) (take i parts) (drop i parts) in
        let fault : TookUntilFault gives old (bytes_of parts) bytes new =
        rw all (took-fault-longer gives old new (bytes_of (take i parts)) (bytes_of (drop i parts)) bytes taken) in
        let few = fault.within in
        let exact : count ≡ bytes = omega arith in
        (bytes_of parts, refl, subst (λ k. TookUntilFault gives old (bytes_of parts) k new) (sym exact) fault)
    part_failed new _ own fits took = absurd own
