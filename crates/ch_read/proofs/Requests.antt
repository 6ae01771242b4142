-- Requests whose bytes come in parts.
use Rattle.std.proofs.Common.{subst, ◌≡◌, ℕ, suc, ◌+◌, ◌-◌, ◌<◌, ◌≤◌, Bool, true, false, eqb, leb, ltb, get_or, if◌then◌else◌, List}
use Rattle.std.proofs.Common.{[], ◌∷◌, ◌++◌, length, take, drop, Option, Some, None, refl, sym, ◌∙◌, ap, arith, length-take}
use Rattle.std.proofs.Common.{length-drop}
use Rattle.std.specs.Prelude.{IfErr, IsErrAnd, Result, Ok, Err, is_none}
use Rattle.std.specs.List.{position, position_or_len}
use Rattle.std.proofs.lemmas.Bool.{and_parts}
use Rattle.std.proofs.lemmas.Bool.Decides.{nat_tests}
use Rattle.std.proofs.lemmas.Option.{cond_some}
use Rattle.std.proofs.lemmas.List.{get_or_append_left, append-nil, length_push, length-append, take_rest}
use Rattle.std.proofs.lemmas.List.{take-append-le, drop-append-le, drop_all}
use Rattle.std.proofs.lemmas.List.Elements.{All-append, All-take, All-drop}
use Rattle.ch_read.specs.declared.begun.Purpose.{Purpose}
use Rattle.ch_read.specs.declared.begun.Purpose.TheVariants.{Table as ForTable, Places as ForPlaces, Weights as ForWeights}
use Rattle.ch_read.specs.declared.request.TheConstants.{MOST_LINE}
use Rattle.ch_read.specs.declared.request.Asked.{Asked}
use Rattle.ch_read.specs.declared.new_weights.NewWeight.{NewWeight}
use Rattle.ch_read.specs.declared.fault.FaultKind.TheVariants.{BadLine}
use Rattle.ch_read.specs.declared.request_fault.RequestFault.{RequestFault}
use Rattle.ch_read.specs.declared.request_fault.RequestError.{RequestError}
use Rattle.ch_read.specs.declared.request_fault.RequestError.TheVariants.{Fault, NoMemory}
use Rattle.ch_read.specs.Words.{lines, words}
use Rattle.ch_read.specs.Requests.{Begun, Made, Told, Standing, wanted, is_whole, nothing, settled, with_node, asked_by}
use Rattle.ch_read.specs.Requests.{asked_of, none_made, at_most_one, made, told, after_these, stopping, line_after}
use Rattle.ch_read.specs.Requests.{text_fault, Gives, IsErrorAhead, IsAsked, IsGiven, IsNewWeight, IsStopped, AreTwoLists, with_weight}
use Rattle.ch_read.specs.RequestSteps.{HasNoLine, IsBegun, IsOf, IsLineAhead, IsLineError, Makes, advanced}
use Rattle.std.proofs.lemmas.List.Sums.{fails_before_first}
use Rattle.ch_read.proofs.Splits.{line_to_feed, line_to_end, none_passes, split_at}
use Rattle.ch_read.proofs.Reading.{one}

-- a request that wants more nodes stays within its limits after one more
pub node_added : (n : ℕ) (begun : Begun) (node : ℕ) → IsBegun n begun → node < n → length begun.listed < wanted begun →
    IsBegun n (with_node begun node)
node_added n begun node is below room = record {
  listed = All-append (λ v. v < n) begun.listed (node ∷ []) is.listed (one (λ v. v < n) node below);
  few = omega (arith, length_push begun.listed node);
  sizes = is.sizes;
  cells = is.cells;
  purpose = is.purpose;
  weighed = is.weighed;
  few_weights = is.few_weights;
  most_weights = is.most_weights;
}

-- new weights that want more stay within their limit after one more
pub weight_added : (n : ℕ) (begun : Begun) (weight : NewWeight) → IsBegun n begun → IsNewWeight n weight →
    length begun.weighed < begun.weights → IsBegun n (with_weight begun weight)
weight_added n begun weight is new room = record {
  listed = is.listed;
  few = is.few;
  sizes = is.sizes;
  cells = is.cells;
  purpose = is.purpose;
  weighed = All-append (IsNewWeight n) begun.weighed (weight ∷ []) is.weighed (one (IsNewWeight n) weight new);
  few_weights = omega (arith, length_push begun.weighed weight);
  most_weights = is.most_weights;
}

nothing_begun : (n : ℕ) → IsBegun n nothing
nothing_begun n = record {
  listed = λ k d lt. absurd (omega arith);
  few = omega arith;
  sizes = (omega arith, omega arith);
  cells = omega arith;
  purpose = tt;
  weighed = λ k d lt. absurd (omega arith);
  few_weights = omega arith;
  most_weights = omega arith;
}

whole_lists : (n : ℕ) (begun : Begun) → IsBegun n begun → wanted begun ≤ length begun.listed → (within : Option ℕ) →
    AreTwoLists n (record { sources = take begun.sources begun.listed; targets = drop begun.sources begun.listed; within = within })
whole_lists n begun is whole within =
    let few = is.few in
    let sources : length (take begun.sources begun.listed) ≡ begun.sources = omega (arith, length-take begun.sources begun.listed) in
    let targets : length (drop begun.sources begun.listed) ≡ begun.targets = omega (arith, length-drop begun.sources begun.listed) in
    record {
      sources = All-take (λ v. v < n) begun.sources begun.listed is.listed;
      targets = All-drop (λ v. v < n) begun.sources begun.listed is.listed;
      sizes = (rw sources is.sizes.0, rw targets is.sizes.1);
      cells = rw (sources, targets) is.cells;
    }

-- a whole request is one on the graph, and so are new weights
whole_asked : (n : ℕ) (begun : Begun) → IsBegun n begun → wanted begun ≤ length begun.listed → IsAsked n (asked_of begun)
whole_asked n begun is whole = at begun.purpose is.purpose
  where
    at : (purpose : Purpose) → IsOf purpose begun.sources →
        IsAsked n (asked_by purpose begun.sources begun.listed begun.weighed)
    at (ForTable within) of = whole_lists n begun is whole within
    at (ForPlaces count) of = let few = is.few in let size = is.sizes.1 in record { each = is.listed; size = omega arith }
    at (ForWeights line) of =
        let few = is.few_weights in let most = is.most_weights in record { each = is.weighed; size = omega arith }

-- after a line, the request is given with its lists if it is whole, and otherwise it wants more nodes
pub settled_within : (n : ℕ) (begun new : Begun) (given : Option Asked) → IsBegun n begun →
    settled begun ≡ record { given = at_most_one given; begun = new } → IsGiven n given × IsBegun n new
settled_within n begun new given is e = at (is_whole begun) refl (sym e)
  where
    at : (t : Bool) → is_whole begun ≡ t → record { given = at_most_one given; begun = new } ≡ settled begun →
        IsGiven n given × IsBegun n new
    at true whole made_is =
        let first = (and_parts (leb (wanted begun) (length begun.listed)) (leb begun.weights (length begun.weighed)) whole).0 in
        let long : wanted begun ≤ length begun.listed = grind (arith, nat_tests) in
        let same : record { given = at_most_one given; begun = new } ≡ record { given = asked_of begun ∷ []; begun = nothing } =
        rw whole at made_is in (
          given_is given (ap (λ (m : Made). m.given) same) long,
          subst (IsBegun n) (sym (ap (λ (m : Made). m.begun) same)) (nothing_begun n),
        )
      where
        given_is : (o : Option Asked) → at_most_one o ≡ asked_of begun ∷ [] → wanted begun ≤ length begun.listed → IsGiven n o
        given_is None f long = absurd (omega (arith, ap length f))
        given_is (Some r) f long =
            subst (IsAsked n) (sym (ap (λ (rs : List Asked). Rattle.std.specs.Prelude.slice_index_or rs 0 r) f))
            (whole_asked n begun is long)
    at false short made_is =
        let same : record { given = at_most_one given; begun = new } ≡ none_made begun = rw short at made_is in (
          given_none given (ap (λ (m : Made). m.given) same),
          subst (IsBegun n) (sym (ap (λ (m : Made). m.begun) same)) is,
        )
      where
        given_none : (o : Option Asked) → at_most_one o ≡ [] → IsGiven n o
        given_none None f = tt
        given_none (Some r) f = absurd (omega (arith, ap length f))

-- the next line

module _ (p : ℕ → Bool) where
  found_before : (xs ys : List ℕ) → position_or_len p xs < length xs → position_or_len p (xs ++ ys) ≡ position_or_len p xs
  found_before [] ys lt = absurd (omega arith)
  found_before (x ∷ xs) ys lt = at (p x) refl lt (found_before xs ys)
    where
      at : (t : Bool) → p x ≡ t → position_or_len p (x ∷ xs) < suc (length xs) →
          (position_or_len p xs < length xs → position_or_len p (xs ++ ys) ≡ position_or_len p xs) →
          position_or_len p (x ∷ (xs ++ ys)) ≡ position_or_len p (x ∷ xs)
      at true e lt more = rw e refl
      at false e lt more =
          let less = rw e at lt in
          let inside : position_or_len p xs < length xs = omega arith in
          rw e (ap (λ n. 1 + n) (more inside))

  pub found_and_more : (xs ys : List ℕ) (i : ℕ) → position p xs ≡ Some i → (i < length xs) × (position p (xs ++ ys) ≡ Some i)
  found_and_more xs ys i e =
      let found = cond_some _ _ _ e in
      let at : position_or_len p xs ≡ i = found.1 in
      let within : position_or_len p xs < length xs = grind (arith, nat_tests) in
      let same : position_or_len p (xs ++ ys) ≡ position_or_len p xs = found_before xs ys within in
      let long : length (xs ++ ys) ≡ length xs + length ys = length-append xs ys in
      let inside : ltb (position_or_len p (xs ++ ys)) (length (xs ++ ys)) ≡ true = grind (arith, nat_tests) in
      (omega arith, rw inside (ap Some (same ∙ at)))

-- a line that ends with a line feed is the first line, for every continuation
pub feed_ahead : (xs more : List ℕ) (i : ℕ) → position (λ b. eqb b 10) xs ≡ Some i →
    lines (xs ++ more) ≡ take i xs ∷ lines (drop (i + 1) xs ++ more)
feed_ahead xs more i e =
    let found = found_and_more (λ b. eqb b 10) xs more i e in
    let within : i < length xs = found.0 in
    let before : take i (xs ++ more) ≡ take i xs = take-append-le i xs more (omega arith) in
    let after : take (length (xs ++ more) - (i + 1)) (drop (i + 1) (xs ++ more)) ≡ drop (i + 1) xs ++ more =
    take_rest (xs ++ more) (i + 1) ∙ drop-append-le (i + 1) xs more (omega arith) in
    line_to_feed (xs ++ more) i found.1
    ∙ ap (λ (t : List ℕ). t ∷ lines (take (length (xs ++ more) - (i + 1)) (drop (i + 1) (xs ++ more)))) before
    ∙ ap (λ (r : List ℕ). take i xs ∷ lines r) after

-- at the end the bytes without a line feed are the last line
pub last_ahead : (xs more : List ℕ) → position (λ b. eqb b 10) xs ≡ None → 0 < length xs → more ≡ [] →
    lines (xs ++ more) ≡ xs ∷ lines (drop (length xs) xs ++ more)
last_ahead xs more e some none =
    rw none (ap lines (append-nil xs) ∙ line_to_end xs e some
    ∙ ap (λ (r : List ℕ). xs ∷ lines (r ++ [])) (sym (drop_all (length xs) xs (omega arith))))

-- the requests and the fault of a line

module _ (n line : ℕ) (begun : Begun) (text : List ℕ) (more : List (List ℕ)) where
  abbrev after_line : Option RequestFault → Told
  after_line fault =
      if is_none fault then after_these (made n (line_after line) begun (words text)).given
      (told n (line_after line) (made n (line_after line) begun (words text)).begun more) else stopping fault

  pub line_made : (new : Begun) (given : Option Asked) → Makes n (line_after line) begun new text given →
      told n line begun (text ∷ more) ≡ after_these (at_most_one given) (told n (line_after line) new more)
  line_made new given makes = ap after_line makes.0 ∙ ap (λ (m : Made). after_these m.given (told n (line_after line) m.begun more)) makes.1

  pub line_faulty : (fault : RequestFault) → text_fault n (line_after line) begun text ≡ Some fault →
      told n line begun (text ∷ more) ≡ stopping (Some fault)
  line_faulty fault e = ap after_line e

pub feed_within : (xs : List ℕ) (i : ℕ) → position (λ b. eqb b 10) xs ≡ Some i → i < length xs
feed_within xs i e = (found_and_more (λ b. eqb b 10) xs [] i e).0

-- if the first bytes have no line feed, the first one comes after them
feed_past : (xs more : List ℕ) (i : ℕ) → position (λ b. eqb b 10) xs ≡ None → position (λ b. eqb b 10) (xs ++ more) ≡ Some i → length xs ≤ i
feed_past xs more i none e = at (ltb i (length xs)) refl
  where
    never : {X : Type 0} → i < length xs → X
    never within =
        let past = none_passes (λ b. eqb b 10) xs none in
        let inside : i < position_or_len (λ b. eqb b 10) xs = omega arith in
        let fails : eqb (get_or xs i 0) 10 ≡ false = fails_before_first (λ b. eqb b 10) xs i 0 inside in
        let passes : eqb (get_or (xs ++ more) i 0) 10 ≡ true = (split_at (λ b. eqb b 10) (xs ++ more) i e).1 in
        let same : get_or (xs ++ more) i 0 ≡ get_or xs i 0 = get_or_append_left xs more 0 i within in
        cc

    at : (t : Bool) → ltb i (length xs) ≡ t → length xs ≤ i
    at true lt = let within : i < length xs = grind (arith, nat_tests) in never within
    at false lt = grind (arith, nat_tests)

-- bytes without a line feed are the begin of the first line, for every continuation
begins_long : (xs more : List ℕ) → position (λ b. eqb b 10) xs ≡ None → 0 < length xs →
    (line : List ℕ) × (rest : List (List ℕ)) × (lines (xs ++ more) ≡ line ∷ rest) × (length xs ≤ length line)
begins_long xs more none some = at (position (λ b. eqb b 10) (xs ++ more)) refl
  where
    long : length (xs ++ more) ≡ length xs + length more
    long = length-append xs more

    at : (o : Option ℕ) → position (λ b. eqb b 10) (xs ++ more) ≡ o →
        (line : List ℕ) × (rest : List (List ℕ)) × (lines (xs ++ more) ≡ line ∷ rest) × (length xs ≤ length line)
    at None e = (xs ++ more, [], line_to_end (xs ++ more) e (let size = long in omega arith), let size = long in omega arith)
    at (Some i) e =
        let past = feed_past xs more i none e in
        let within : i < length (xs ++ more) = feed_within (xs ++ more) i e in
        (take i (xs ++ more), _, line_to_feed (xs ++ more) i e, omega (arith, length-take i (xs ++ more)))

-- the requests and the fault that are ahead, if the next line has no fault and if it has one
module _ (ended : Bool) (s : Standing) (text : List ℕ) (taken : ℕ) (is : IsLineAhead ended s.pending text taken) where
  pub step_given : (new : Begun) (given : Option Asked) → Makes s.nodes (line_after s.line) s.begun new text given →
      Gives ended s (advanced s new taken) (at_most_one given)
  step_given new given makes more comes =
      ap (told s.nodes s.line s.begun) (is.0 more comes)
      ∙ line_made s.nodes s.line s.begun text (lines (drop taken s.pending ++ more)) new given makes

  pub step_shorter : (new : Begun) → length (advanced s new taken).pending < length s.pending
  step_shorter new = let some = is.1 in let within = is.2 in omega (arith, length-drop taken s.pending)

  pub step_faulty : (error : RequestError) → IsLineError (text_fault s.nodes (line_after s.line) s.begun text) error →
      IsErrorAhead ended s error
  step_faulty (Fault fault) e = λ more comes. ap (told s.nodes s.line s.begun) (is.0 more comes)
      ∙ line_faulty s.nodes s.line s.begun text (lines (drop taken s.pending ++ more)) fault e
  step_faulty NoMemory e = tt

-- a line that is already too long has a fault, for every continuation
pub step_long : (ended : Bool) (s : Standing) → position (λ b. eqb b 10) s.pending ≡ None → MOST_LINE < length s.pending →
    IsStopped ended s (RequestFault.Line (record { line = line_after s.line; kind = BadLine }))
step_long ended s none long more comes =
    let begins = begins_long s.pending more none (omega arith) in
    let text = begins.0 in
    let size = begins.3 in
    let past : leb (length text) MOST_LINE ≡ false = grind (arith, nat_tests) in
    let bad : text_fault s.nodes (line_after s.line) s.begun text
    ≡ Some (RequestFault.Line (record { line = line_after s.line; kind = BadLine })) = rw past refl in
    ap (told s.nodes s.line s.begun) begins.2 ∙ line_faulty s.nodes s.line s.begun text begins.1
    (RequestFault.Line (record { line = line_after s.line; kind = BadLine })) bad

-- if no line is whole, there is no line feed
pub no_feed : (ended : Bool) (bytes : List ℕ) → HasNoLine ended bytes → position (λ b. eqb b 10) bytes ≡ None
no_feed false bytes none = none
no_feed true bytes none = rw none refl

-- an error that a call passes on
pub error_passed : {T : Type 0} (P : RequestError → Type 0) (r : Result T RequestError) (e : RequestError) → IsErrAnd r (λ y. y ≡ e) → P e →
    IfErr r P
error_passed P (Ok x) e is holds = tt
error_passed P (Err y) e is holds = subst P (sym is) holds
