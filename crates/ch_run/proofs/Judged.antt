-- What a run makes of an input that it read to its end: the value that the bytes name, or the end at their first fault.
use Rattle.std.proofs.Common.{◌≡◌, ℕ, List, ap, inl, inr, refl}
use Rattle.std.specs.Prelude.{Err, IsErrAnd, MatchResult, Ok, Result, Vec}
use Rattle.std.specs.declared.alloc.Global.{Global}
use Rattle.ch_read.specs.Answers.{AnswersWhere, seen_by_items}
use Rattle.ch_read.specs.declared.fault.ReadError.{ReadError}
use Rattle.ch_read.specs.declared.fault.ReadError.TheVariants.{Fault, NoMemory}
use Rattle.ch_read.specs.declared.fault.ReadFault.{ReadFault}
use Rattle.ch_run.specs.Fault.{judged}
use Rattle.ch_run.specs.Run.{IsUnread, Reading, ReadsAll}
use Rattle.ch_run.specs.Story.{EndsAt}
use Rattle.ch_run.specs.declared.fault.RunFault.{RunFault}
use Rattle.ch_run.specs.declared.fault.Which.{Which}

-- an input that was not read to its end ends the run
unread_ends : (which : Which) (input : Reading) (refuses : List ℕ → RunFault → Type 0) (fault : RunFault) →
    IsUnread which input fault → EndsAt which input refuses fault
unread_ends which input refuses (RunFault.Device other) unread = unread
unread_ends which input refuses RunFault.Memory unread = (tt, (unread.0, inl unread.1))
unread_ends which input refuses _ unread = absurd unread

pub unread_judged : {V : Type 0} (which : Which) (input : Reading) (refuses : List ℕ → RunFault → Type 0) (Q : V → Type 0)
    (r : Result V RunFault) (e : RunFault) → IsErrAnd r (λ other. other ≡ e) → IsUnread which input e →
    MatchResult r Q (EndsAt which input refuses)
unread_judged which input refuses Q (Ok value) e is unread = absurd is
unread_judged which input refuses Q (Err fault) e is unread = unread_ends which input refuses fault (rw is unread)

module _ (which : Which) (input : Reading) (refuses : List ℕ → RunFault → Type 0) (bytes : List ℕ) (all : input.all bytes) where
  -- a value that the reader made is named by the bytes, and they are refused for a fault that it found
  pub value_judged : {V : Type 0} (names : List ℕ → V → Type 0) (read : Result V ReadError) →
      ((value : V) → read ≡ Ok value → names bytes value) →
      ((fault : ReadFault) → read ≡ Err (Fault fault) → refuses bytes (RunFault.Read which fault)) →
      MatchResult (judged which read) (λ value. ReadsAll input (λ given. names given value)) (EndsAt which input refuses)
  value_judged names (Ok value) named refused = (bytes, all, named value refl)
  value_judged names (Err (Fault fault)) named refused = (refl, (bytes, all, refused fault refl))
  value_judged names (Err NoMemory) named refused = (tt, (bytes, inr all))

  -- the same of a list
  pub list_judged : {A : Type 0} (names : List ℕ → List A → Type 0) (read : Result (Vec A Global) ReadError) →
      ((items : List A) → AnswersWhere (seen_by_items read) (Ok items) (names bytes items)) →
      ((fault : ReadFault) → seen_by_items read ≡ Err (Fault fault) → refuses bytes (RunFault.Read which fault)) →
      MatchResult (judged which read) (λ list. ReadsAll input (λ given. names given list.items)) (EndsAt which input refuses)
  list_judged {A} names read named refused = value_judged (λ given (list : Vec A Global). names given list.items) read
      (λ list is. (named list.items).0 (ap seen_by_items is)) (λ fault is. refused fault (ap seen_by_items is))
