-- Chains of reads and writes.
use Rattle.std.proofs.Common.{◌≡◌, ◌⊎◌, inl, inr, refl, ℕ, zero, suc, ◌<◌, ◌≤◌, ◌+◌, ◌-◌, ◌++◌, List, [], Option, Some, None}
use Rattle.std.proofs.Common.{Result, Ok, Err, IfOk, IfErr, IsErrAnd, length, take, drop, sym, ap, ◌∙◌, append_assoc, arith}
use Rattle.std.proofs.lemmas.Bool.Decides.{nat_tests}
use Rattle.std.proofs.lemmas.List.{append-nil, append_cancel_right, drop-append-le, drop-drop, length-append, length-drop}
use Rattle.std.proofs.lemmas.List.{take-append-drop, take-append-le, take_rest}
use Rattle.std.proofs.Math.Seq.{drop-append-add}
use Rattle.std.specs.Prelude.{⊤}
use Rattle.ch_text.specs.Steps.{AreSteps, Leads}
use Rattle.ch_text.specs.Device.{CountsFault, GivesBytes, HasGiven, HasTaken, TakesBytes, failures_in, idle_writes}
use Rattle.ch_text.specs.Moves.{Gave, GaveAll, GaveSome, GaveUntilFault, ReadsMore, Took, TookBefore, TookUntilFault, WritesMore}
use Rattle.ch_text.specs.declared.device.DeviceFault.{DeviceFault}
use Rattle.ch_text.specs.declared.device.ReadAllFault.{ReadAllFault}
use Rattle.ch_text.specs.declared.device.ReadAllFault.TheVariants.{Memory}
use Rattle.ch_text.proofs.Bytes.{idle_writes-some}

-- one more step
pub leads-more : {A : Type 0} (Step : A → A → Type 0) (old mid new : A) → Leads Step old mid → Step mid new → Leads Step old new
leads-more Step old mid new (steps, before) step = (suc steps, (mid, before, step))

-- steps, and then more steps
pub leads-then : {A : Type 0} (Step : A → A → Type 0) (old mid new : A) → Leads Step old mid → (steps : ℕ) → AreSteps Step steps mid new →
    Leads Step old new
leads-then Step old mid new before zero same = rw same before
leads-then Step old mid new before (suc steps) (last, after, step) =
    leads-more Step old last new (leads-then Step old mid last before steps after) step

-- steps that are seen in another way
pub leads-map : {A B : Type 0} (f : A → B) (Step : A → A → Type 0) (Step' : B → B → Type 0) →
    ((old new : A) → Step old new → Step' (f old) (f new)) → (old new : A) → (steps : ℕ) → AreSteps Step steps old new →
    AreSteps Step' steps (f old) (f new)
leads-map f Step Step' seen old new zero same = ap f same
leads-map f Step Step' seen old new (suc steps) (mid, before, step) =
    (f mid, leads-map f Step Step' seen old mid steps before, seen mid new step)

-- what each step keeps, all of them keep
pub leads-keep : {A : Type 0} (Step : A → A → Type 0) (P : A → Type 0) → ((old new : A) → Step old new → P old → P new) → (old new : A) →
    P old → (steps : ℕ) → AreSteps Step steps old new → P new
leads-keep Step P kept old new at zero same = rw same at
leads-keep Step P kept old new at (suc steps) (mid, before, step) = kept mid new step (leads-keep Step P kept old mid at steps before)

module _ {S : Type 0} (gives : S → List ℕ → Result ℕ DeviceFault → S → Type 0) where
  -- one more read gave some bytes
  pub gave-more : (old mid new : S) (bytes bytes' buffer : List ℕ) (n : ℕ)
      → Gave gives old bytes mid → gives mid buffer (Ok n) new → 0 < n → n ≤ length buffer → bytes' ≡ bytes ++ take n buffer →
      Gave gives old bytes' new
  gave-more old mid new bytes bytes' buffer n before call some fits is =
      leads-more (ReadsMore gives) _ (mid, bytes) _ before
      (record { buffer = buffer; count = n; some = some; fits = fits; call = call; more = is })

  -- there was no memory for more bytes
  pub gave-memory : {T : Type 0} (result : Result T ReadAllFault) (old new : S) (bytes : List ℕ) →
      IsErrAnd result (λ fault. fault ≡ Memory) → Gave gives old bytes new → IfErr result (GaveSome gives old new)
  gave-memory (Ok value) old new bytes is gave = tt
  gave-memory (Err fault) old new bytes is gave = rw is (bytes, gave)

  -- one more write took some bytes
  pub took-more : (old mid new : S) (text : List ℕ) (count n : ℕ)
      → TookBefore gives old text (drop count text) mid → gives mid (take (length text - count) (drop count text)) (Ok n) new →
      0 < n → n ≤ length (take (length text - count) (drop count text)) → TookBefore gives old text (drop (count + n) text) new
  took-more old mid new text count n before call some fits =
      let rest : take (length text - count) (drop count text) ≡ drop count text = take_rest text count in
      let within : n ≤ length (drop count text) = rw rest at fits in
      leads-more (WritesMore gives) _ (mid, drop count text) _ before
      (record {
        count = n;
        some = some;
        write =
            record {
              offered = drop count text;
              behind = [];
              front = sym (append-nil (drop count text));
              tried = omega arith;
              fits =
                  within;
              call = rw rest at call;
            };
        less = sym (drop-drop n count text);
      })

  -- a write with another text behind the one that it writes
  pub writes-behind : (old new : S) (text left more : List ℕ) (steps : ℕ) → AreSteps (WritesMore gives) steps (old, text) (new, left) →
      AreSteps (WritesMore gives) steps (old, text ++ more) (new, left ++ more)
  writes-behind old new text left more steps writes =
      leads-map (λ (s : S × List ℕ). (s.0, s.1 ++ more)) (WritesMore gives) (WritesMore gives)
      (λ a b write.
      let w = write.write in
      let fits : write.count ≤ length a.1 = let front = w.front in let sum = length-append w.offered w.behind in let at = w.fits in
      rw front (omega (arith, sum, at)) in
      record {
        count = write.count;
        some = write.some;
        write = record {
          offered = w.offered;
          behind = w.behind ++ more;
          front = ap (λ bs. bs ++ more) w.front
              ∙ append_assoc w.offered w.behind more;
          tried = w.tried;
          fits = w.fits;
          call = w.call;
        };
        less = ap (λ bs. bs ++ more) write.less ∙ sym (drop-append-le write.count a.1 more fits);
      })
      (old, text) (new, left) steps writes

  -- one more write failed, or took none of some bytes
  pub took-fault : (old mid new : S) (text : List ℕ) (count : ℕ) (answer : Result ℕ DeviceFault) →
      TookBefore gives old text (drop count text) mid → gives mid (take (length text - count) (drop count text)) answer new →
      count < length text → IfOk answer (λ n. n ≡ 0)
      → TookUntilFault gives old text count new
  took-fault old mid new text count answer before call within none =
      let rest : take (length text - count) (drop count text) ≡ drop count text = take_rest text count in
      let long = length-drop count text in
      record {
        last = mid;
        within = within;
        writes = before;
        answer = answer;
        none = none;
        write = record {
          offered = drop count text;
          behind = [];
          front = sym (append-nil (drop count text));
          tried =
              omega arith;
          fits = at answer none;
          call = rw rest at call;
        };
      }
    where
      at : (answer : Result ℕ DeviceFault) → IfOk answer (λ n. n ≡ 0) → IfOk answer (λ n. n ≤ length (drop count text))
      at (Ok n) none = omega arith
      at (Err fault) none = tt

  -- no write was made
  pub took-none : (old : S) → Took gives old [] old
  took-none old = (0, refl)

  -- a text, and then another text
  pub took-then : (old mid new : S) (first second left : List ℕ) → Took gives old first mid → TookBefore gives mid second left new →
      TookBefore gives old (first ++ second) left new
  took-then old mid new first second left (steps, before) (steps', after) =
      leads-then (WritesMore gives) (old, first ++ second) (mid, second) (new, left)
      (steps, writes-behind old mid first [] second steps before) steps' after

  -- a text, and then the beginning of another one
  pub took-fault-then : (old mid new : S) (first second : List ℕ) (count : ℕ) → Took gives old first mid →
      TookUntilFault gives mid second count new → TookUntilFault gives old (first ++ second) (length first + count) new
  took-fault-then old mid new first second count before fault =
      let same : drop (length first + count) (first ++ second) ≡ drop count second = drop-append-add first second count in
      let sum = length-append first second in
      let within = fault.within in
      record {
        last = fault.last;
        within = omega (arith, sum, within);
        writes = rw same (took-then old mid fault.last first second (drop count second) before fault.writes);
        answer = fault.answer;
        none = fault.none;
        write = rw same fault.write;
      }

  -- the beginning of a text is the beginning of a longer one
  pub took-fault-longer : (old new : S) (first more : List ℕ) (count : ℕ) → TookUntilFault gives old first count new →
      TookUntilFault gives old (first ++ more) count new
  took-fault-longer old new first more count fault =
      let within = fault.within in
      let sum = length-append first more in
      let same : drop count (first ++ more) ≡ drop count first ++ more = drop-append-le count first more (omega arith) in
      let w = fault.write in
      record {
        last = fault.last;
        within = omega (arith, sum, within);
        writes = rw same (fault.writes.0, writes-behind old fault.last first (drop count first) more fault.writes.0 fault.writes.1);
        answer = fault.answer;
        none = fault.none;
        write = rw same (record {
          offered = w.offered;
          behind = w.behind ++ more;
          front = ap (λ bs. bs ++ more) w.front
              ∙ append_assoc w.offered w.behind more;
          tried = w.tried;
          fits = w.fits;
          call = w.call;
        });
      }

-- of the known bytes of an input, these were given so far, and the others are left
abbrev pub GivenSoFar : Option (List ℕ) → Option (List ℕ) → List ℕ → Type 0
GivenSoFar None left bytes = ⊤
GivenSoFar (Some told) None bytes = ⊥
GivenSoFar (Some told) (Some left) bytes = told ≡ bytes ++ left

given-none : (left : Option (List ℕ)) → GivenSoFar left left []
given-none None = tt
given-none (Some left) = refl

given-more : (told left left' : Option (List ℕ)) (bytes bytes' buffer : List ℕ) (n : ℕ) → GivenSoFar told left bytes →
    GivesBytes {E = DeviceFault} left left' (Ok n) buffer → bytes' ≡ bytes ++ take n buffer → GivenSoFar told left' bytes'
given-more None left left' bytes bytes' buffer n before read is = tt
given-more (Some told) None left' bytes bytes' buffer n before read is = absurd before
given-more (Some told) (Some left) None bytes bytes' buffer n before read is = absurd read
given-more (Some told) (Some left) (Some left') bytes bytes' buffer n before read is =
    before ∙ (ap (λ ls. bytes ++ ls) read.0 ∙ (sym (append_assoc bytes (take n buffer) left') ∙ ap (λ bs. bs ++ left') (sym is)))

given-all : (told left left' : Option (List ℕ)) (bytes buffer : List ℕ) → 0 < length buffer → GivenSoFar told left bytes →
    GivesBytes {E = DeviceFault} left left' (Ok 0) buffer → HasGiven told left' bytes
given-all None left left' bytes buffer room before read = tt
given-all (Some told) None left' bytes buffer room before read = absurd before
given-all (Some told) (Some left) None bytes buffer room before read = absurd read
given-all (Some told) (Some left) (Some left') bytes buffer room before read =
    let at_end : left ≡ [] = read.1 refl room in
    let none_taken : left ≡ left' = read.0 in
    (before ∙ (ap (λ rest. bytes ++ rest) at_end ∙ append-nil bytes), ap (λ (rest : List ℕ). Some rest) (sym none_taken ∙ at_end))

-- an input whose bytes are known had exactly the bytes that it gave
pub gave-told : {S : Type 0} (gives : S → List ℕ → Result ℕ DeviceFault → S → Type 0) (left : S → Option (List ℕ))
    → ((old : S) (buffer : List ℕ) (answer : Result ℕ DeviceFault) (new : S) → gives old buffer answer new →
    GivesBytes (left old) (left new) answer buffer)
    → (old : S) (bytes : List ℕ) (new : S) → GaveAll gives old bytes new → HasGiven (left old) (left new) bytes
gave-told {S} gives left tells old bytes new all =
    let so_far : GivenSoFar (left old) (left all.last) bytes =
    leads-keep (ReadsMore gives) (λ (s : S × List ℕ). GivenSoFar (left old) (left s.0) s.1)
    (λ a b read at. given-more (left old) (left a.0) (left b.0) a.1 b.1 read.buffer read.count at
    (tells a.0 read.buffer (Ok read.count) b.0 read.call) read.more)
    (old, []) (all.last, bytes) (given-none (left old)) all.reads.0 all.reads.1 in
    given-all (left old) (left all.last) (left new) bytes all.buffer all.room so_far (tells all.last all.buffer (Ok 0) new all.call)

taken-none : (taken : Option (List ℕ)) → HasTaken taken taken []
taken-none None = tt
taken-none (Some taken) = ap (λ (ts : List ℕ). Some ts) (sym (append-nil taken))

taken-more : (old taken taken' : Option (List ℕ)) (took more offered : List ℕ) (n : ℕ) → HasTaken old taken took →
    TakesBytes {E = DeviceFault} taken taken' (Ok n) offered → take n offered ≡ more → HasTaken old taken' (took ++ more)
taken-more None taken taken' took more offered n before write is = tt
taken-more (Some old) None taken' took more offered n before write is = cc
taken-more (Some old) (Some taken) None took more offered n before write is = absurd write
taken-more (Some old) (Some taken) (Some taken') took more offered n before write is =
    let joined : (old ++ took) ++ more ≡ old ++ (took ++ more) = append_assoc old took more in
    let wrote : taken' ≡ taken ++ more = rw is at write in
    cc

-- an output whose bytes are known has taken exactly what the writes took
pub took-told : {S : Type 0} (gives : S → List ℕ → Result ℕ DeviceFault → S → Type 0) (taken : S → Option (List ℕ))
    → ((old : S) (bytes : List ℕ) (answer : Result ℕ DeviceFault) (new : S) → gives old bytes answer new →
    TakesBytes (taken old) (taken new) answer bytes)
    → (old : S) (text left : List ℕ) (new : S) → TookBefore gives old text left new →
    (took : List ℕ) × (text ≡ took ++ left) × HasTaken (taken old) (taken new) took
took-told {S} gives taken tells old text left new (steps, writes) =
    leads-keep (WritesMore gives) (λ (s : S × List ℕ). (took : List ℕ) × (text ≡ took ++ s.1) × HasTaken (taken old) (taken s.0) took)
    (λ a b write at.
    let w = write.write in
    let front : take write.count w.offered ≡ take write.count a.1 =
    rw w.front (sym (take-append-le write.count w.offered w.behind w.fits)) in
    let parts : a.1 ≡ take write.count a.1 ++ b.1 = rw write.less (sym (take-append-drop write.count a.1)) in (
      at.0 ++ take write.count a.1,
      at.1 ∙ (ap (λ ls. at.0 ++ ls) parts ∙ sym (append_assoc at.0 (take write.count a.1) b.1)),
      taken-more (taken old) (taken a.0) (taken b.0) at.0 (take write.count a.1) w.offered write.count at.2
          (tells a.0 w.offered (Ok write.count) b.0 w.call) front,
    ))
    (old, text) (new, left) ([], refl, taken-none (taken old)) steps writes

-- an output whose bytes are known has taken the whole text
pub whole-told : {S : Type 0} (gives : S → List ℕ → Result ℕ DeviceFault → S → Type 0) (taken : S → Option (List ℕ))
    → ((old : S) (bytes : List ℕ) (answer : Result ℕ DeviceFault) (new : S) → gives old bytes answer new →
    TakesBytes (taken old) (taken new) answer bytes)
    → (old : S) (text : List ℕ) (new : S) → Took gives old text new → HasTaken (taken old) (taken new) text
whole-told gives taken tells old text new took =
    let told = took-told gives taken tells old text [] new took in
    let whole : text ≡ told.0 = told.1 ∙ append-nil told.0 in
    rw whole told.2

taken-kept : (old taken taken' : Option (List ℕ)) (took offered : List ℕ) (answer : Result ℕ DeviceFault) → HasTaken old taken took →
    IfOk answer (λ n. n ≡ 0) → TakesBytes taken taken' answer offered → HasTaken old taken' took
taken-kept None taken taken' took offered answer before none write = tt
taken-kept (Some old) None taken' took offered answer before none write = cc
taken-kept (Some old) (Some taken) None took offered answer before none write = absurd write
taken-kept (Some old) (Some taken) (Some taken') took offered (Ok n) before none write =
    let same : taken' ≡ taken = rw none at write ∙ append-nil taken in
    cc
taken-kept (Some old) (Some taken) (Some taken') took offered (Err fault) before none write =
    let same : taken' ≡ taken = write in
    cc

-- an output whose bytes are known has taken this many bytes of a text and no more, if a write failed after them
pub fault-told : {S : Type 0} (gives : S → List ℕ → Result ℕ DeviceFault → S → Type 0) (taken : S → Option (List ℕ))
    → ((old : S) (bytes : List ℕ) (answer : Result ℕ DeviceFault) (new : S) → gives old bytes answer new →
    TakesBytes (taken old) (taken new) answer bytes)
    → (old : S) (text : List ℕ) (count : ℕ) (new : S) → TookUntilFault gives old text count new →
    (count < length text) × HasTaken (taken old) (taken new) (take count text)
fault-told gives taken tells old text count new fault =
    let told = took-told gives taken tells old text (drop count text) fault.last fault.writes in
    let front : take count text ≡ told.0 =
    append_cancel_right (take count text) told.0 (drop count text) (take-append-drop count text ∙ told.1) in
    let kept : HasTaken (taken old) (taken new) told.0 =
    taken-kept (taken old) (taken fault.last) (taken new) told.0 fault.write.offered fault.answer told.2 fault.none
    (tells fault.last fault.write.offered fault.answer new fault.write.call) in
    (fault.within, rw front kept)

-- the count of an input
module _ {S : Type 0} (gives : S → List ℕ → Result ℕ DeviceFault → S → Type 0) (failed : S → ℕ)
    (counts : (old : S) (buffer : List ℕ) (answer : Result ℕ DeviceFault) (new : S) → gives old buffer answer new →
    failed new ≡ failed old + failures_in answer) where
  -- a read that gave some bytes raises it by none
  pub counted-none : (old : S) (buffer : List ℕ) (n : ℕ) (new : S) → gives old buffer (Ok n) new → failed new ≡ failed old
  counted-none old buffer n new call = let count : failed new ≡ failed old + 0 = counts old buffer (Ok n) new call in omega arith

  -- nor do more of them
  pub gave-counts : (old : S) (bytes : List ℕ) (new : S) → Gave gives old bytes new → failed new ≡ failed old
  gave-counts old bytes new gave =
      leads-keep (ReadsMore gives) (λ (s : S × List ℕ). failed s.0 ≡ failed old) (λ a b read at.
      counted-none a.0 read.buffer read.count b.0 read.call ∙ at) (old, []) (new, bytes) refl gave.0 gave.1

  -- reads up to the end raise it by none
  pub all-counts : (old : S) (bytes : List ℕ) (new : S) → GaveAll gives old bytes new → failed new ≡ failed old
  all-counts old bytes new all = counted-none all.last all.buffer 0 new all.call ∙ gave-counts old bytes all.last all.reads

  -- a failed read raises it by one
  pub until-counts : (old : S) (bytes : List ℕ) (new : S) → GaveUntilFault gives old bytes new → failed new ≡ failed old + 1
  until-counts old bytes new until =
      let before = gave-counts old bytes until.last until.reads in
      let count : failed new ≡ failed until.last + 1 = counts until.last until.buffer (Err until.fault) new until.call in
      omega arith

-- the counts of an output
module _ {S : Type 0} (gives : S → List ℕ → Result ℕ DeviceFault → S → Type 0) (failed idle : S → ℕ)
    (counts : (old : S) (bytes : List ℕ) (answer : Result ℕ DeviceFault) (new : S) → gives old bytes answer new →
    (failed new ≡ failed old + failures_in answer) × (idle new ≡ idle old + idle_writes answer bytes)) where
  -- a write that took some bytes raises none
  pub counted-some : (old : S) (bytes : List ℕ) (n : ℕ) (new : S) → 0 < n → gives old bytes (Ok n) new →
      (failed new ≡ failed old) × (idle new ≡ idle old)
  counted-some old bytes n new some call =
      let count = counts old bytes (Ok n) new call in
      let none : failed new ≡ failed old + 0 = count.0 in
      let busy : idle_writes {E = DeviceFault} (Ok n) bytes ≡ 0 = idle_writes-some DeviceFault n bytes some in
      let more : idle new ≡ idle old + 0 = rw busy at count.1 in
      (omega arith, omega arith)

  -- nor do more of them
  pub took-counts : (old : S) (text left : List ℕ) (new : S) → TookBefore gives old text left new →
      (failed new ≡ failed old) × (idle new ≡ idle old)
  took-counts old text left new took =
      leads-keep (WritesMore gives) (λ (s : S × List ℕ). (failed s.0 ≡ failed old) × (idle s.0 ≡ idle old))
      (λ a b write at. let count = counted-some a.0 write.write.offered write.count b.0 write.some write.write.call in
      (count.0 ∙ at.0, count.1 ∙ at.1))
      (old, text) (new, left) (refl, refl) took.0 took.1

  -- a failed write raises one of them, by one
  pub fault-counts : (old : S) (text : List ℕ) (count : ℕ) (new : S) → TookUntilFault gives old text count new →
      CountsFault {T = Unit} {E = ℕ} (failed old) (failed new) (idle old) (idle new) (Err count)
  fault-counts old text count new fault =
      let before = took-counts old text (drop count text) fault.last fault.writes in
      one fault.answer fault.write.offered (failed fault.last) (idle fault.last) before.0 before.1 fault.none fault.write.tried
      (counts fault.last fault.write.offered fault.answer new fault.write.call)
    where
      one : (answer : Result ℕ DeviceFault) (bytes : List ℕ) (f i : ℕ) → f ≡ failed old → i ≡ idle old → IfOk answer (λ n. n ≡ 0) →
          0 < length bytes → (failed new ≡ f + failures_in answer) × (idle new ≡ i + idle_writes answer bytes)
          → ((failed new ≡ failed old + 1) × (idle new ≡ idle old)) ⊎ ((failed new ≡ failed old) × (idle new ≡ idle old + 1))
      one (Ok n) bytes f i same same' none long count =
          let raised : idle_writes {E = DeviceFault} (Ok n) bytes ≡ 1 = grind (arith, nat_tests) in
          let still : failed new ≡ f + 0 = count.0 in
          let more : idle new ≡ i + 1 = rw raised at count.1 in
          inr (omega arith, omega arith)
      one (Err e) bytes f i same same' none long count =
          let more : failed new ≡ f + 1 = count.0 in
          let still : idle new ≡ i + 0 = count.1 in
          inl (omega arith, omega arith)
