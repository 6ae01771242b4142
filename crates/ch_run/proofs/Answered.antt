-- Requests that are answered one after the other.
use Rattle.std.proofs.Common.{◌≡◌, ℕ, ◌||◌, Bool, true, false, List, [], ◌∷◌, ◌++◌, map, take, drop, Result, Ok, Err}
use Rattle.std.proofs.Common.{None, refl, sym, ap, ◌∙◌, subst, append_assoc}
use Rattle.std.specs.Prelude.{MatchResult}
use Rattle.std.proofs.lemmas.List.{append-nil, map-append, take-append-drop}
use Rattle.std.specs.List.{AllZip, flat_map}
use Rattle.ch_graph.specs.Graph.{Network}
use Rattle.ch_hierarchy.specs.Hierarchy.{LevelsAndLegs}
use Rattle.ch_query.specs.declared.answer.Answer.{Answer}
use Rattle.ch_read.specs.declared.request.Asked.{Asked}
use Rattle.ch_read.specs.declared.request.Asked.TheVariants.{Request as Asks}
use Rattle.ch_read.specs.declared.request.Request.{Request}
use Rattle.ch_read.specs.declared.request_fault.RequestError.{RequestError}
use Rattle.ch_read.specs.declared.request_fault.RequestError.TheVariants.{Fault, NoMemory}
use Rattle.ch_read.specs.declared.request_fault.RequestFault.TheVariants.{Line, Cells}
use Rattle.ch_read.specs.RequestLists.{PlaceList}
use Rattle.ch_read.specs.Requests.{Gives, IsErrorAhead, IsUsedUp, MayCome, Standing, after_these, ahead, stopping, told, told_by}
use Rattle.ch_read.specs.Words.{lines}
use Rattle.ch_run.specs.declared.fault.RunFault.{RunFault}
use Rattle.ch_job.specs.declared.options.Options.{Options}
use Rattle.ch_text.specs.declared.device.DeviceFault.{DeviceFault}
use Rattle.ch_text.specs.Distances.{AnswersShortly, HasText, distance_text}
use Rattle.ch_text.specs.Routes.{AnswersWithRoute, answer_text}
use Rattle.ch_run.specs.Text.{IsTextBy, writes_routes}
use Rattle.ch_run.specs.Ask.{AreAnswered, AreServed, IsRequestText, IsTextOfRequest, MayFollow, Rules, Situation, TextOf, failed_write}
use Rattle.ch_run.specs.Ask.{places_after, places_then, rules_of}
use Rattle.ch_run.proofs.Parts.{written_then}
use Rattle.ch_run.specs.Serving.{AnswersFirst, Ends, HasAnswered, WritesMore, asked_for, request_refusal}

-- if no request of these values gives places, the lines of their answers, joined, answer the requests one by one
module _ {A B : Type 0} (IsTextOf : TextOf) (from : A → Request) (places : PlaceList)
    (stay : (x : A) → places_then places (from x) ≡ places) (P : A → B → Type 0) (line : A → B → List ℕ)
    (so : (x : A) (y : B) → P x y → IsTextOf places (from x) (line x y)) (joined : List A → List B → List ℕ) (none : joined [] [] ≡ [])
    (more : (x : A) (y : B) (xs : List A) (ys : List B) → joined (x ∷ xs) (y ∷ ys) ≡ line x y ++ joined xs ys) where
  pub each_answered : (xs : List A) (ys : List B) (text : List ℕ) → AllZip P xs ys → text ≡ joined xs ys →
      AreAnswered IsTextOf places (map from xs) text
  each_answered [] [] text h is = is ∙ none
  each_answered (x ∷ xs) (y ∷ ys) text h is = (
    line x y,
    joined xs ys,
    is ∙ more x y xs ys,
    so x y h.0,
    subst (λ (p : PlaceList). AreAnswered IsTextOf p (map from xs) (joined xs ys)) (sym (stay x)) (each_answered xs ys _ h.1 refl),
  )
  each_answered _ _ text h is = absurd h

-- no query gives places
pub asked_stay : (routed : Bool) (places : PlaceList) (query : ℕ × ℕ) → places_then places (asked_for routed query) ≡ places
asked_stay true places query = refl
asked_stay false places query = refl

-- a text that answers queries answers them one by one
module _ (IsTextOf : TextOf) (routed : Bool) (places : PlaceList) (g : Network) (From : LevelsAndLegs → Type 0) (queries : List (ℕ × ℕ))
    (text : List ℕ) where
  split : (P : ℕ × ℕ → Answer → Type 0) (written : Answer → List ℕ) →
      ((query : ℕ × ℕ) (a : Answer) → P query a → IsTextOf places (asked_for routed query) (written a)) → HasText written P queries text →
      AreAnswered IsTextOf places (map (asked_for routed) queries) text
  split P written so h = each_answered IsTextOf (asked_for routed) places (asked_stay routed places) P (λ query a. written a) so
      (λ queries answers. flat_map written answers) refl (λ query a queries answers. refl) queries h.0 text h.1 h.2

  split_by : (routes : Bool) →
      ((query : ℕ × ℕ) (one : List ℕ) → IsTextBy routes g From (query ∷ []) one → IsTextOf places (asked_for routed query) one) →
      IsTextBy routes g From queries text → AreAnswered IsTextOf places (map (asked_for routed) queries) text
  split_by false so h = split (AnswersShortly g) distance_text
      (λ query a is. so query (distance_text a) (a ∷ [], (is, tt), sym (append-nil (distance_text a)))) h
  split_by true so h = split (AnswersWithRoute g h.0) answer_text
      (λ query a is. so query (answer_text a) (h.0, h.1, (a ∷ [], (is, tt), sym (append-nil (answer_text a))))) h.2

pub split_answers : (options : Options) (routed : Bool) (g : Network) (From : LevelsAndLegs → Type 0) (places : PlaceList)
    (queries : List (ℕ × ℕ)) (text : List ℕ) → IsTextBy (routed || writes_routes options) g From queries text →
    AreAnswered (IsRequestText options g From) places (map (asked_for routed) queries) text
split_answers options true g From places queries text h =
    split_by (IsRequestText options g From) true places g From queries text true (λ query one is. is) h
split_answers options false g From places queries text h =
    split_by (IsRequestText options g From) false places g From queries text (writes_routes options) (λ query one is. is) h

-- what was given and then more
served_append : (rules : Rules) (now mid last : Situation) (xs ys : List Asked) (text more : List ℕ) → AreServed rules now xs text mid →
    AreServed rules mid ys more last → AreServed rules now (xs ++ ys) (text ++ more) last
served_append rules now mid last [] ys text more (none, same) k =
    subst (λ (s : Situation). AreServed rules s ys (text ++ more) last) same
    (subst (λ (t : List ℕ). AreServed rules mid ys (t ++ more) last) (sym none) k)
served_append rules now mid last (x ∷ xs) ys text more h k = (
  h.0,
  h.1 ++ more,
  h.2,
  ap (λ t. t ++ more) h.3 ∙ append_assoc h.0 h.1 more,
  h.4,
  served_append rules h.2 mid last xs ys h.1 more h.5 k,
)

-- the situation with this graph and hierarchy, and these places
abbrev at_places : Network → LevelsAndLegs → PlaceList → Situation
at_places g H places = record { graph = g; hierarchy = H; places = places }

-- requests that are answered by one graph and hierarchy are served
requests_served : (options : Options) (customized : Bool) (C : Network → LevelsAndLegs → Type 0) (g : Network) (H : LevelsAndLegs)
    (places : PlaceList) (requests : List Request) (text : List ℕ) → AreAnswered (IsTextOfRequest options g H) places requests text →
    AreServed (rules_of options customized C) (at_places g H places) (map Asks requests) text
    (at_places g H (places_after places requests))
requests_served options customized C g H places [] text none = (none, refl)
requests_served options customized C g H places (r ∷ requests) text h = (
  h.0,
  h.1,
  at_places g H (places_then places r),
  h.2,
  (h.3, refl),
  requests_served options customized C g H (places_then places r) requests h.1 h.4,
)

-- after the end, nothing is ahead of a reader that is used up
pub none_ahead : (reader : Standing) → IsUsedUp true reader → ahead reader [] ≡ stopping None
none_ahead reader up = ap (λ xs. told reader.nodes reader.line reader.begun (lines (xs ++ []))) up.0 ∙ ap stopping up.1

module _ {rules : Rules} {S : Type 0} {gives : S → List ℕ → Result ℕ DeviceFault → S → Type 0} {n : ℕ} {ended : Bool} {read : List ℕ}
    {reader : Standing} {first : Situation} {old output : S} {held : Situation} {written : ℕ} where
  -- the run may end for want of memory
  pub ends_memory : {waiting : List Asked} → HasAnswered rules gives n ended read reader waiting first old output held written →
      Ends rules gives n ended read first old output RunFault.Memory
  ends_memory h = record { answered = h.answered; last = held; told = λ left may. (_, h.told left may, tt); output = h.is.output }

  -- what waits is answered by this text, and what is later waits then. The text was written, or the run ends in a fault
  pub next_written : (now later : List Asked) → HasAnswered rules gives n ended read reader (now ++ later) first old output held written →
      (held' : Situation) (text : List ℕ) → AreServed rules held now text held' → (output' : S) (written' : ℕ) (r : Result Unit RunFault) →
      WritesMore gives output output' written written' text r → MatchResult r
      (λ _. HasAnswered rules gives n ended read reader later first old output' held' written')
      (λ fault. Ends rules gives n ended read first old output' fault)
  next_written now later h held' text served output' written' r wrote = at r wrote
    where
      all : List Asked
      all = h.answered ++ now

      all_told : (left : List ℕ) → MayCome ended left → told_by n (read ++ left) ≡ after_these all (after_these later (ahead reader left))
      all_told left may =
          let more = (ahead reader left).given in
          let parts : h.answered ++ ((now ++ later) ++ more) ≡ all ++ (later ++ more) =
          rw (append_assoc now later more) (sym (append_assoc h.answered now (later ++ more))) in
          h.told left may ∙ ap (λ (given : List Asked). record { given = given; fault = (ahead reader left).fault }) parts

      all_served : AreServed rules first all (h.is.output.text ++ text) held'
      all_served = served_append rules first held held' h.answered now h.is.output.text text h.is.output.answers served

      at : (r : Result Unit RunFault) → WritesMore gives output output' written written' text r → MatchResult r
          (λ _. HasAnswered rules gives n ended read reader later first old output' held' written')
          (λ fault. Ends rules gives n ended read first old output' fault)
      at (Ok done) wrote =
          let more = written_then gives old output output' written written' _ text (Ok done) tt h.is.output.took h.is.count wrote in
          record {
            answered = all;
            told = all_told;
            is = record { output = record { text = h.is.output.text ++ text; answers = all_served; took = more.0 }; count = more.1 };
          }
      at (Err (RunFault.Write total)) wrote =
          let fault = RunFault.Write total in
          let more = written_then gives old output output' written written' _ text (Err fault) tt h.is.output.took h.is.count wrote in
          record {
            answered = all;
            last = held';
            told = λ left may. (after_these later (ahead reader left), all_told left may, tt);
            output = record { text = h.is.output.text ++ text; answers = all_served; took = more.0 };
          }
      at (Err RunFault.Memory) wrote = rw wrote (ends_memory h)
      at (Err _) wrote = absurd wrote

  -- what waits has no text, and leaves this situation
  pub next_holds : (now later : List Asked) → HasAnswered rules gives n ended read reader (now ++ later) first old output held written →
      (held' : Situation) → AreServed rules held now [] held' →
      HasAnswered rules gives n ended read reader later first old output held' written
  next_holds now later h held' served =
      let text = h.is.output.text in
      record {
        answered = h.answered ++ now;
        told = λ left may.
            let more = (ahead reader left).given in
            let parts : h.answered ++ ((now ++ later) ++ more) ≡ (h.answered ++ now) ++ (later ++ more) =
            rw (append_assoc now later more) (sym (append_assoc h.answered now (later ++ more))) in
            h.told left may ∙ ap (λ (given : List Asked). record { given = given; fault = (ahead reader left).fault }) parts;
        is = record {
          output = record {
            text = text;
            answers = subst (λ (t : List ℕ). AreServed rules first (h.answered ++ now) t held') (append-nil text)
                (served_append rules first held held' h.answered now text [] h.is.output.answers served);
            took = h.is.output.took;
          };
          count = h.is.count;
        };
      }

  -- new weights that wait are refused
  pub ends_refused : {asked : Asked} → HasAnswered rules gives n ended read reader (asked ∷ []) first old output held written →
      (fault : RunFault) → ((left : List ℕ) → MayFollow {T = Unit} rules held (Err fault) (after_these (asked ∷ []) (ahead reader left))) →
      failed_write {T = Unit} (Err fault) ≡ None → Ends rules gives n ended read first old output fault
  ends_refused h fault follows none = record {
    answered = h.answered;
    last = held;
    told = λ left may. (_, h.told left may, follows left);
    output = rw none h.is.output;
  }

  module _ (h : HasAnswered rules gives n ended read reader [] first old output held written) where
    -- a batch of requests that the reader gave waits
    pub batch_waits : {gave : Standing} {batch : List Asked} → Gives ended reader gave batch →
        HasAnswered rules gives n ended read gave batch first old output held written
    batch_waits given =
        record { answered = h.answered; told = λ left may. h.told left may ∙ ap (after_these h.answered) (given left may); is = h.is }

    -- the run ends in the error that the reader returned
    pub ends_stopped : (error : RequestError) → IsErrorAhead ended reader error →
        Ends rules gives n ended read first old output (request_refusal error)
    ends_stopped (Fault (Line fault)) stop = record {
      answered = h.answered;
      last = held;
      told = λ left may. (_, h.told left may, (refl, stop left may));
      output = h.is.output;
    }
    ends_stopped (Fault (Cells line)) stop =
        record { answered = h.answered; last = held; told = λ left may. (_, h.told left may, stop left may); output = h.is.output }
    ends_stopped NoMemory stop = ends_memory h

-- the first of the requests that wait are answered by this text. It was written, or the run ends in a fault
module _ (options : Options) (customized : Bool) (C : Network → LevelsAndLegs → Type 0) (later : List Asked) where
  abbrev Goes : Rules
  Goes = rules_of options customized C

  pub first_written : {S : Type 0} {gives : S → List ℕ → Result ℕ DeviceFault → S → Type 0} {n : ℕ} {ended : Bool} {read : List ℕ}
      {reader : Standing} {start : Situation} {old output : S} {g : Network} {H : LevelsAndLegs} {before after : PlaceList} {written : ℕ}
      {waiting : List Request} →
      HasAnswered Goes gives n ended read reader (map Asks waiting ++ later) start old output (at_places g H before) written →
      {count : ℕ} {text : List ℕ} → AnswersFirst (IsTextOfRequest options g H) before after waiting text count →
      (output' : S) (written' : ℕ) (r : Result Unit RunFault) → WritesMore gives output output' written written' text r → MatchResult r
      (λ _. HasAnswered Goes gives n ended read reader (map Asks (drop count waiting) ++ later) start old output' (at_places g H after)
      written') (λ fault. Ends Goes gives n ended read start old output' fault)
  first_written {gives = gives} {n} {ended} {read} {reader} {start} {old} {output} {g} {H} {before} {after} {written} {waiting} h {count}
      {text} first output' written' r wrote =
      let front = map Asks (take count waiting) in
      let back = map Asks (drop count waiting) ++ later in
      let parts : map Asks waiting ++ later ≡ front ++ back =
      ap (λ (l : List Request). map Asks l ++ later) (sym (take-append-drop count waiting))
      ∙ ap (λ (l : List Asked). l ++ later) (map-append Asks (take count waiting) (drop count waiting))
      ∙ append_assoc front (map Asks (drop count waiting)) later in
      let apart = subst (λ (l : List Asked). HasAnswered Goes gives n ended read reader l start old output (at_places g H before) written)
      parts h in
      let served : AreServed Goes (at_places g H before) front text (at_places g H after) =
      rw first.places (requests_served options customized C g H before (take count waiting) text first.answers) in
      next_written front back apart (at_places g H after) text served output' written' r wrote
