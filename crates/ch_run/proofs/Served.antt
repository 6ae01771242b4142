-- Requests that are read and answered as they come.
use Rattle.std.proofs.Common.{◌≡◌, ℕ, ◌<◌, ◌≤◌, Bool, true, false, List, [], ◌∷◌, ◌++◌, length, take, Option, None, Result, Ok, Err, subst}
use Rattle.std.proofs.Common.{Some, inl, inr, refl, sym, ap, ◌∙◌, append_assoc, arith}
use Rattle.std.proofs.lemmas.List.{append-nil}
use Rattle.ch_read.specs.declared.request.Asked.{Asked}
use Rattle.ch_read.specs.declared.request.Asked.TheVariants.{Request as Asks, Weights}
use Rattle.ch_read.specs.RequestLists.{PlaceList, WeightList}
use Rattle.ch_read.specs.Words.{lines}
use Rattle.ch_read.specs.Requests.{IsUsedUp, MayCome, Standing, Told, after_these, fed, starting, told, told_by}
use Rattle.ch_read.proofs.RequestsHeldBack.{not_held_back}
use Rattle.ch_run.specs.declared.fault.RunFault.{RunFault}
use Rattle.ch_run.specs.declared.fault.Which.{Which}
use Rattle.ch_text.specs.declared.device.DeviceFault.{DeviceFault}
use Rattle.ch_text.proofs.Moves.{gave-more, took-none}
use Rattle.ch_graph.specs.Graph.{Network}
use Rattle.ch_job.specs.declared.options.Options.{Options}
use Rattle.ch_run.specs.Ask.{AreServed, IsNextRefused, MayFollow, ReadsAndAnswers, ReadsSome, Refuses, Rules, Serves, Situation, TellsFirst}
use Rattle.ch_run.specs.Ask.{rules_from, whole_in}
use Rattle.ch_run.specs.Frames.{IsCustomizedBy, IsFrameFrom, OrderAndTopology}
use Rattle.ch_run.specs.Loaded.{GraphAndHierarchy, IsWeighed, IsWeighingFault}
use Rattle.ch_run.specs.Run.{Reading, SourceReading, reading}
use Rattle.ch_run.specs.Serving.{Ends, GaveSoFar, HasAnswered, HasServed, rules_in, situation_of}
use Rattle.ch_run.proofs.Answered.{ends_memory, ends_refused, next_holds, none_ahead}
use Rattle.ch_run.proofs.Frames.{customized_from, framed_is}

-- a run that ends in a fault, and in no failed read, has read some bytes
reads_some : (rules : Rules) (n : ℕ) (last : Situation) (requests : Reading) (answered : List Asked) (fault : RunFault) (rest : Told) →
    MayFollow {T = Unit} rules last (Err fault) rest →
    ReadsSome requests (λ read left. TellsFirst {T = Unit} rules last answered (Err fault) (told_by n (read ++ left))) →
    ReadsAndAnswers {T = Unit} rules n last requests answered (Err fault)
reads_some rules n last requests answered (RunFault.Device which) rest follows some = absurd follows
reads_some rules n last requests answered fault rest follows some = some

-- there are no new weights if they are none of any
pub no_weights : (given : Option WeightList) → ((weights : WeightList) → given ≡ Some weights → ⊥) → given ≡ None
no_weights None none = refl
no_weights (Some weights) none = absurd (none weights refl)

-- at the start, nothing was read and nothing is answered
pub served_none : {J : Type 0} {reads : J → List ℕ → Result ℕ DeviceFault → J → Type 0} {start : J} {S : Type 0} {rules : Rules}
    {gives : S → List ℕ → Result ℕ DeviceFault → S → Type 0} {n : ℕ} {first : Situation} {output : S} →
    HasServed rules reads start start gives n false (starting n) [] first output output first 0
served_none {gives = gives} {output = output} = record {
  read = [];
  gave = (0, refl);
  has = record {
    answered = [];
    told = λ left may. refl;
    is = record { output = record { text = []; answers = (refl, refl); took = took-none gives output }; count = omega arith };
  };
}

module _ {J : Type 0} {reads : J → List ℕ → Result ℕ DeviceFault → J → Type 0} {start now : J} {S : Type 0} {rules : Rules}
    {gives : S → List ℕ → Result ℕ DeviceFault → S → Type 0} {n : ℕ} {first : Situation} {old : S} where
  module _ {ended : Bool} {reader : Standing} {waiting : List Asked} {output : S} {held : Situation} {written : ℕ}
      (h : HasServed rules reads start now gives n ended reader waiting first old output held written) where
    -- the run ends in a fault that answering ends in
    pub serves_stopped : {new : S} {fault : RunFault} → Ends rules gives n ended h.read first old new fault →
        Serves {T = Unit} rules gives n first (reading reads start now) old new (Err fault)
    serves_stopped {fault = fault} ends = record {
      answered = ends.answered;
      last = ends.last;
      read = reads_some rules n ends.last _ _ fault _ (ends.told [] (λ e. refl)).2 (at ended h.gave ends.told);
      output = ends.output;
    }
      where
        at : (e : Bool) → GaveSoFar e reads start h.read now →
            ((left : List ℕ) → MayCome e left →
            TellsFirst {T = Unit} rules ends.last ends.answered (Err fault) (told_by n (h.read ++ left))) →
            ReadsSome (reading reads start now)
            (λ read left. TellsFirst {T = Unit} rules ends.last ends.answered (Err fault) (told_by n (read ++ left)))
        at false gave told = (h.read, inl (gave, λ left. told left (λ e. cc)))
        at true all told = (h.read, inr (all, told [] (λ e. refl)))

    -- a call answered what was whole, and this waits after it
    pub answered_on : {reader' : Standing} {waiting' : List Asked} {output' : S} {held' : Situation} {written' : ℕ} →
        ((read : List ℕ) (first : Situation) (old : S) →
        HasAnswered rules gives n ended read reader waiting first old output held written →
        HasAnswered rules gives n ended read reader' waiting' first old output' held' written') →
        HasServed rules reads start now gives n ended reader' waiting' first old output' held' written'
    answered_on answered = record { read = h.read; gave = h.gave; has = answered h.read first old h.has }

    -- the run ends for want of memory
    pub serves_memory : Serves {T = Unit} rules gives n first (reading reads start now) old output (Err RunFault.Memory)
    serves_memory = serves_stopped (ends_memory h.has)

  -- at the end of the input, all is answered
  pub serves_all : {reader : Standing} {output : S} {held : Situation} {written : ℕ} →
      HasServed rules reads start now gives n true reader [] first old output held written → IsUsedUp true reader →
      Serves {T = Unit} rules gives n first (reading reads start now) old output (Ok tt)
  serves_all {reader} {held = held} h up = record {
    answered = h.has.answered;
    last = held;
    read = (h.read, h.gave, (_, ap (told_by n) (sym (append-nil h.read)) ∙ h.has.told [] (λ e. refl), none_ahead reader up));
    output = h.has.is.output;
  }

  module _ {reader : Standing} {output : S} {held : Situation} {written : ℕ}
      (h : HasServed rules reads start now gives n false reader [] first old output held written) where
    -- one more read found the end
    pub end_read : {end : J} (buffer : List ℕ) → 0 < length buffer → reads now buffer (Ok 0) end →
        HasServed rules reads start end gives n true reader [] first old output held written
    end_read {end} buffer room call = let k = h.has in record {
      read = h.read;
      gave = record { last = now; reads = h.gave; buffer = buffer; room = room; call = call };
      has = record { answered = k.answered; told = λ left may. k.told left (λ e. cc); is = k.is };
    }

    -- one more read gave bytes, and these were fed to the reader
    pub one_read : {next : J} {buffer : List ℕ} {count : ℕ} → reads now buffer (Ok count) next → 0 < count → count ≤ length buffer →
        HasServed rules reads start next gives n false (fed reader (take count buffer)) [] first old output held written
    one_read {next} {buffer} {count} call some fits =
        let bytes = take count buffer in
        let k = h.has in
        record {
          read = h.read ++ bytes;
          gave = gave-more reads start now next h.read (h.read ++ bytes) buffer count h.gave call some fits refl;
          has = record {
            answered = k.answered;
            told = λ left may.
                ap (told_by n) (append_assoc h.read bytes left) ∙ k.told (bytes ++ left) (λ e. cc)
                ∙ ap (λ xs. after_these k.answered (told reader.nodes reader.line reader.begun (lines xs)))
                (sym (append_assoc reader.pending bytes left));
            is = k.is;
          };
        }

    -- at a failed read, all requests that were whole before it are answered
    pub serves_refused : {end : J} (buffer : List ℕ) (e : DeviceFault) → IsUsedUp false reader → reads now buffer (Err e) end →
        Serves {T = Unit} rules gives n first (reading reads start end) old output (Err (RunFault.Device Which.Requests))
    serves_refused buffer e up call =
        let k = h.has in
        let whole : k.answered ≡ whole_in n h.read =
        sym (append-nil k.answered) ∙ not_held_back n ((h.read, k.answered) ∷ []) reader (reader, k.told, refl) up
        ∙ ap (whole_in n) (append-nil h.read) in
        record {
          answered = k.answered;
          last = held;
          read = (refl, h.read, record { last = now; reads = h.gave; buffer = buffer; fault = e; call = call }, whole);
          output = k.is.output;
        }

-- what is served by the rules over a frame is served by those over the same frame
pub served_as : (options : Options) {J : Type 0} {reads : J → List ℕ → Result ℕ DeviceFault → J → Type 0} {start now : J} {S : Type 0}
    {frame frame' : Option OrderAndTopology} {gives : S → List ℕ → Result ℕ DeviceFault → S → Type 0} {n n' : ℕ} {ended : Bool}
    {reader : Standing} {waiting : List Asked} {first held : Situation} {old output : S} {written : ℕ} → frame ≡ frame' → n ≡ n' →
    HasServed (rules_in options frame) reads start now gives n ended reader waiting first old output held written →
    HasServed (rules_in options frame') reads start now gives n' ended reader waiting first old output held written
served_as options {reads = reads} {start} {now} {frame = frame} {frame'} {gives} {n} {n'} {ended} {reader} {waiting} {first} {held} {old}
    {output} {written} same nodes h =
    subst (λ (m : ℕ). HasServed (rules_in options frame') reads start now gives m ended reader waiting first old output held written) nodes
    (subst (λ (f : Option OrderAndTopology). HasServed (rules_in options f) reads start now gives n ended reader waiting first old output
    held written) same h)

-- new weights that wait hold from now on, or the run refuses them
module _ {J : Type 0} {reads : J → List ℕ → Result ℕ DeviceFault → J → Type 0} {start now : J} {S : Type 0} (options : Options)
    (frame : Option OrderAndTopology) {gives : S → List ℕ → Result ℕ DeviceFault → S → Type 0} {n : ℕ} {ended : Bool} {reader : Standing}
    {weights : WeightList} {first : Situation} {old output : S} {checked : GraphAndHierarchy} {places : PlaceList} {written : ℕ}
    (h : HasServed (rules_in options frame) reads start now gives n ended reader (Weights weights ∷ []) first old output
    (situation_of checked places) written) (same : checked.frame ≡ frame) where
  pub weights_hold : (new : GraphAndHierarchy) → IsWeighed checked weights new →
      HasServed (rules_in options frame) reads start now gives n ended reader [] first old output (situation_of new places) written
  weights_hold new is = record {
    read = h.read;
    gave = h.gave;
    has = next_holds (Weights weights ∷ []) [] h.has (situation_of new places) (
      [],
      [],
      situation_of new places,
      refl,
      (
        refl,
        is.arcs,
        is.graph,
        subst (λ (o : Option OrderAndTopology). IsCustomizedBy o new.graph new.hierarchy) same is.customized,
        refl,
      ),
      (refl, refl),
    );
  }

  pub weights_refused : (fault : RunFault) → IsWeighingFault checked weights fault →
      Serves {T = Unit} (rules_in options frame) gives n first (reading reads start now) old output (Err fault)
  weights_refused (RunFault.FixedAt line) (none, is) = serves_stopped h (ends_refused h.has (RunFault.FixedAt line)
      (λ left. (Weights weights, _, refl, rw (← same) (rw none is))) refl)
  weights_refused (RunFault.NoArcAt line) (some, is) = serves_stopped h (ends_refused h.has (RunFault.NoArcAt line)
      (λ left. (Weights weights, _, refl, rw (← same) (rw some is))) refl)
  weights_refused RunFault.Memory is = serves_memory h
  weights_refused _ is = absurd is

-- a run that goes by the frame goes by the order that it read or found
module _ (options : Options) (source : SourceReading) (n : ℕ) (frame : Option OrderAndTopology) (is : IsFrameFrom source n frame) where
  abbrev Within : Situation → Type 0
  Within s = s.graph.nodes ≡ n

  answers_from : (now next : Situation) (asked : Asked) (text : List ℕ) → Within now →
      (rules_in options frame).answers now asked text next →
      (rules_from options source).answers now asked text next × Within next
  answers_from now next (Asks request) text within h = (h, ap (λ (s : Situation). s.graph.nodes) h.1 ∙ within)
  answers_from now next (Weights new) text within (none, arcs, graph, made, places) =
      let nodes : next.graph.nodes ≡ n = ap (λ (g : Network). g.nodes) graph ∙ within in
      ((none, arcs, graph, customized_from source n frame is next.graph next.hierarchy nodes made, places), nodes)

  served_from : (now last : Situation) (given : List Asked) (text : List ℕ) → Within now →
      AreServed (rules_in options frame) now given text last → AreServed (rules_from options source) now given text last
  served_from now last [] text within h = h
  served_from now last (asked ∷ given) text within (first, rest, next, parts, answers, more) =
      let one = answers_from now next asked first within answers in
      (first, rest, next, parts, one.0, served_from next last given rest one.1 more)

  refused_from : (last : Situation) (fault : RunFault) (rest : Told) → IsNextRefused (rules_in options frame) last fault rest →
      IsNextRefused (rules_from options source) last fault rest
  refused_from last fault rest (asked, more, told_is, refused) =
      (asked, more, told_is, subst (λ (b : Bool). Refuses b last asked fault) (framed_is source n frame is) refused)

  follows_from : (last : Situation) (r : Result Unit RunFault) (rest : Told) → MayFollow (rules_in options frame) last r rest →
      MayFollow (rules_from options source) last r rest
  follows_from last (Err (RunFault.NoArcAt line)) rest h = refused_from last (RunFault.NoArcAt line) rest h
  follows_from last (Err (RunFault.FixedAt line)) rest h = refused_from last (RunFault.FixedAt line) rest h
  follows_from last (Ok done) rest h = h
  follows_from last (Err _) rest h = h

  tells_from : (last : Situation) (answered : List Asked) (r : Result Unit RunFault) (t : Told) →
      TellsFirst (rules_in options frame) last answered r t → TellsFirst (rules_from options source) last answered r t
  tells_from last answered r t (rest, is_told, follows) = (rest, is_told, follows_from last r rest follows)

  reads_from : (last : Situation) (requests : Reading) (answered : List Asked) (r : Result Unit RunFault) →
      ReadsAndAnswers (rules_in options frame) n last requests answered r →
      ReadsAndAnswers (rules_from options source) n last requests answered r
  reads_from last requests answered (Ok done) (bytes, all, told_is) = (bytes, all, tells_from last answered (Ok done) _ told_is)
  reads_from last requests answered (Err (RunFault.Device which)) h = h
  reads_from last requests answered (Err fault) (read, inl (some, left)) =
      (read, inl (some, λ rest. tells_from last answered (Err fault) _ (left rest)))
  reads_from last requests answered (Err fault) (read, inr (all, none)) = (read, inr (all, tells_from last answered (Err fault) _ none))

  pub serves_from : {S : Type 0} {gives : S → List ℕ → Result ℕ DeviceFault → S → Type 0} {first : Situation} {requests : Reading}
      {old new : S} {r : Result Unit RunFault} → first.graph.nodes ≡ n → Serves (rules_in options frame) gives n first requests old new r →
      Serves (rules_from options source) gives n first requests old new r
  serves_from {first = first} {requests} {r = r} within h =
      let took = h.output in
      record {
        answered = h.answered;
        last = h.last;
        read = reads_from h.last requests h.answered r h.read;
        output = record { text = took.text; answers = served_from first h.last h.answered took.text within took.answers; took = took.took };
      }
