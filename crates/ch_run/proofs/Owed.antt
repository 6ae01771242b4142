-- The fault that ends a run, and the input that it belongs to.
use Rattle.std.proofs.Common.{◌≡◌, refl, sym, ap, ◌∙◌, subst}
use Rattle.std.specs.Prelude.{Result, Ok, Err, IfErr, IsErrAnd}
use Rattle.std.proofs.lemmas.Result.{IfErr-at_err}
use Rattle.ch_run.specs.declared.fault.RunFault.{RunFault}
use Rattle.ch_run.specs.declared.fault.Which.{Which}
use Rattle.ch_run.specs.Run.{GoesPast, IsOf, IsWrite, StopsAt}

-- a run that ends in a fault with P ends in one with Q, if P implies Q
pub err_weaker : {T : Type 0} (r : Result T RunFault) (P Q : RunFault → Type 0) → IsErrAnd r P → ((e : RunFault) → P e → Q e) → IsErrAnd r Q
err_weaker (Ok x) P Q is so = is
err_weaker (Err e) P Q is so = so e is

-- so all faults that it ends in have Q
pub err_own : {T : Type 0} (r : Result T RunFault) (P Q : RunFault → Type 0) → IsErrAnd r P → ((e : RunFault) → P e → Q e) → IfErr r Q
err_own (Ok x) P Q is so = absurd is
err_own (Err e) P Q is so = so e is

-- a fault that is passed on has P, if it had P before
pub err_as : {T : Type 0} (r : Result T RunFault) (e : RunFault) (P : RunFault → Type 0) → IsErrAnd r (λ y. y ≡ e) → P e → IsErrAnd r P
err_as r e P is own = err_weaker r _ P is (λ y same. subst P (sym same) own)

pub own_as : {T : Type 0} (r : Result T RunFault) (e : RunFault) (Own : RunFault → Type 0) → IsErrAnd r (λ y. y ≡ e) → Own e → IfErr r Own
own_as r e Own is own = err_own r _ Own is (λ y same. subst Own (sym same) own)

-- if a fault is passed on, the run ends in it
pub ends_as : {T : Type 0} (r : Result T RunFault) (e : RunFault) → IsErrAnd r (λ y. y ≡ e) → r ≡ Err e
ends_as (Ok x) e is = absurd is
ends_as (Err y) e is = ap (λ (f : RunFault). Err f) is

-- the fault of a run that ends in one with P has P
pub err_is : {T : Type 0} (r : Result T RunFault) (P : RunFault → Type 0) (fault : RunFault) → IsErrAnd r P → r ≡ Err fault → P fault
err_is {T} r P fault is same = subst (λ (s : Result T RunFault). IsErrAnd s P) same is

-- a fault that stops a run belongs to one input
pub of_one : (which other : Which) (fault : RunFault) → IsOf which fault → StopsAt other fault → other ≡ which
of_one which other RunFault.Memory h k = absurd (k.1 refl)
of_one which other RunFault.Cells h k = absurd h
of_one which other (RunFault.Write count) h k = absurd h
of_one which other _ h k = k.0 ∙ sym h

-- a fault of an input is no failed write
pub of_no_write : (which : Which) (e : RunFault) → IsOf which e → IsWrite e → ⊥
of_no_write which (RunFault.Write count) own write = own
of_no_write which _ own write = write

-- a run that goes past an input does not end in a fault that stops there
pub no_end : {T : Type 0} (which : Which) (r : Result T RunFault) (fault : RunFault) → GoesPast which r → StopsAt which fault →
    r ≡ Err fault → ⊥
no_end which r fault past stops same = IfErr-at_err (λ f. StopsAt which f → ⊥) same past stops
