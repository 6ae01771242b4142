-- The requests that a reader gives in turn, as its caller sees them.
use Rattle.std.proofs.Common.{◌≡◌, ℕ, Bool, true, false, List, [], ◌∷◌, ◌++◌, Option, Some, None, refl, sym, ◌∙◌, ap, subst}
use Rattle.std.proofs.lemmas.List.{append-nil, append_assoc}
use Rattle.ch_read.specs.declared.request.Asked.{Asked}
use Rattle.ch_read.specs.declared.request_fault.RequestFault.{RequestFault}
use Rattle.ch_read.specs.Words.{lines}
use Rattle.ch_read.specs.Requests.{Standing, after_these, stopping, told, told_by, ahead, starting, fed, MayCome, Gives, HasGiven}
use Rattle.ch_read.specs.Requests.{IsUsedUp, IsStopped}
use Rattle.ch_read.specs.RequestLaws.{Turn, bytes_of, given_by, GoesBy, AreGivenInTurn, AreGivenToTheEnd, AreGivenToTheFault}
use Rattle.ch_read.proofs.RequestLaws.{after_both}

-- before the end any bytes may follow
pub may_come : (more : List ℕ) → MayCome false more
may_come more e = absurd (never e)
  where
    never : false ≡ true → ⊥
    never e = cc

-- a reader that was fed nothing has given nothing
pub starts_whole : (ended : Bool) (n : ℕ) → HasGiven ended n [] (starting n) []
starts_whole ended n more comes = refl

-- the requests stay right after more bytes are fed
pub feeds_whole : (n : ℕ) (bytes part : List ℕ) (s : Standing) (given : List Asked) → HasGiven false n bytes s given →
    HasGiven false n (bytes ++ part) (fed s part) given
feeds_whole n bytes part s given so_far more comes =
    ap (told_by n) (append_assoc bytes part more) ∙ so_far (part ++ more) (may_come (part ++ more))
    ∙ ap (λ (pending : List ℕ). after_these given (told s.nodes s.line s.begun (lines pending))) (sym (append_assoc s.pending part more))

-- the requests stay right after more requests are given
pub gives_more_whole : (ended : Bool) (n : ℕ) (bytes : List ℕ) (s new : Standing) (given more_given : List Asked) →
    HasGiven ended n bytes s given → Gives ended s new more_given →
    HasGiven ended n bytes new (given ++ more_given)
gives_more_whole ended n bytes s new given more_given so_far gives more comes =
    so_far more comes ∙ ap (after_these given) (gives more comes) ∙ sym (after_both given more_given (ahead new more))

-- the requests stay right when the input ends
pub ends_whole : (n : ℕ) (bytes : List ℕ) (s : Standing) (given : List Asked) → HasGiven false n bytes s given →
    HasGiven true n bytes s given
ends_whole n bytes s given so_far more comes = so_far more (may_come more)

-- at the end all requests were given
pub used_up_whole : (n : ℕ) (bytes : List ℕ) (s : Standing) (given : List Asked) → HasGiven true n bytes s given → IsUsedUp true s →
    told_by n bytes ≡ record { given = given; fault = None }
used_up_whole n bytes s given so_far none =
    ap (told_by n) (sym (append-nil bytes)) ∙ so_far [] (λ e. refl)
    ∙ ap (λ (pending : List ℕ). after_these given (told s.nodes s.line s.begun (lines (pending ++ [])))) none.0
    ∙ ap (λ (fault : Option RequestFault). after_these given (stopping fault)) none.1
    ∙ ap (λ (all : List Asked). record { given = all; fault = None }) (append-nil given)

-- at a fault all requests before it were given
pub stopped_whole : (ended : Bool) (n : ℕ) (bytes : List ℕ) (s : Standing) (given : List Asked) (fault : RequestFault) →
    HasGiven ended n bytes s given → IsStopped ended s fault →
    (more : List ℕ) → MayCome ended more → told_by n (bytes ++ more) ≡ record { given = given; fault = Some fault }
stopped_whole ended n bytes s given fault so_far stops more comes =
    so_far more comes ∙ ap (after_these given) (stops more comes)
    ∙ ap (λ (all : List Asked). record { given = all; fault = Some fault }) (append-nil given)

-- the requests stay right after all turns
goes_whole : (n : ℕ) (turns : List Turn) (bytes : List ℕ) (given : List Asked) (old new : Standing) →
    HasGiven false n bytes old given → GoesBy turns old new →
    HasGiven false n (bytes ++ bytes_of turns) new (given ++ given_by turns)
goes_whole n [] bytes given old new so_far same =
    rw (append-nil bytes, append-nil given) (subst (λ (s : Standing). HasGiven false n bytes s given) (sym same) so_far)
goes_whole n (turn ∷ turns) bytes given old new so_far goes =
    let here : HasGiven false n (bytes ++ turn.0) goes.0 (given ++ turn.1) =
    gives_more_whole false n (bytes ++ turn.0) (fed old turn.0) goes.0 given turn.1 (feeds_whole n bytes turn.0 old given so_far) goes.1 in
    let all = goes_whole n turns (bytes ++ turn.0) (given ++ turn.1) goes.0 new here goes.2 in
    rw (← append_assoc bytes turn.0 (bytes_of turns), ← append_assoc given turn.1 (given_by turns)) all

pub given_in_turn : AreGivenInTurn
given_in_turn n turns s goes = goes_whole n turns [] [] (starting n) s (starts_whole false n) goes

pub given_to_the_end : AreGivenToTheEnd
given_to_the_end n turns s goes new last gives none =
    used_up_whole n (bytes_of turns) new (given_by turns ++ last)
    (gives_more_whole true n (bytes_of turns) s new (given_by turns) last
    (ends_whole n (bytes_of turns) s (given_by turns) (given_in_turn n turns s goes)) gives) none

pub given_to_the_fault : AreGivenToTheFault
given_to_the_fault n turns s goes ended new last gives fault stops more comes =
    stopped_whole ended n (bytes_of turns) new (given_by turns ++ last) fault
    (gives_more_whole ended n (bytes_of turns) s new (given_by turns) last
    (λ more _. given_in_turn n turns s goes more (may_come more)) gives) stops more comes
