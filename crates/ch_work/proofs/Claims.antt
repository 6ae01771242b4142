-- A worker's next piece, the pieces of all workers, and each value at its place.
use Rattle.std.proofs.Common.{◌≡◌, ℕ, ◌+◌, ◌-◌, ◌*◌, ◌<◌, ◌==◌, min, List, [], ◌∷◌, ◌++◌, map, length, set, slice_index_or, All}
use Rattle.std.proofs.Common.{Option, Some, None, MatchOption, IsSomeAnd, refl, sym, ap, ◌∙◌, subst, arith, length-set}
use Rattle.std.proofs.Common.{get_or-set_same, get_or-set_other}
use Rattle.std.proofs.lemmas.List.Elements.{All-push, All-append}
use mathlib.Core.Logic.{dite}
use native.Mathlib.Decide.{ℕ_discrete}
use Rattle.ch_work.specs.declared.board.known.Known.{Known}
use Rattle.ch_work.specs.declared.board.known.Size.{Size}
use Rattle.ch_work.specs.declared.board.Board.{Board}
use Rattle.ch_work.specs.declared.board.Pass.{Pass}
use Rattle.ch_work.specs.declared.done.Done.{Done}
use Rattle.ch_work.specs.Claims.{numbers, IsDone, Working, AreGathered}
use Rattle.ch_work.specs.Counts.{bit, total, times}
use Rattle.ch_work.specs.Passes.{view_of, IsPassOf, HasEnded}
use Rattle.ch_work.specs.Pieces.{pieces_of}
use Rattle.ch_work.specs.Rule.{Settled}
use Rattle.ch_work.specs.Steps.{with_claim}
use Rattle.ch_work.proofs.Items.{all_at, map_push, next_split, next_done}
use Rattle.ch_work.proofs.Totals.{total_push, one_same, one_other}

-- how often a number occurs in two lists of pieces together
times-append : {X : Type 0} (x : ℕ) (xs ys : List (Done X)) → times x (numbers (xs ++ ys)) ≡ times x (numbers xs) + times x (numbers ys)
times-append x [] ys = omega arith
times-append x (d ∷ xs) ys = let h = times-append x xs ys in omega arith

-- if all of at least one pass have ended, the total of ended passes is positive
pub some_ended : (passes : List Pass) → All HasEnded passes → 0 < length passes →
    0 < total (λ (view : Known). view.ended) (map view_of passes)
some_ended [] all some_pass = absurd (omega arith)
some_ended (pass ∷ passes) all some_pass =
    let same : pass.seat.me.0.ended ≡ bit pass.ended = pass.same_end in
    let one : bit pass.ended ≡ 1 = ap bit (all 0 pass (omega arith)) in omega arith

-- a place that is not empty has a value
full : {X : Type 0} (Q : X → Type 0) (o : Option X) (t : ℕ) → 0 < t → MatchOption o (t ≡ 0) Q → IsSomeAnd o Q
full Q None t positive h = absurd (omega arith)
full Q (Some x) t positive h = h

module _ {X : Type 0} (m : ℕ → ℕ → X → Type 0) (n p : ℕ) where
  -- after one more claim, and with its piece done
  pub goes_on : (v w : Known) (next k : ℕ) (ds : List (Done X)) (x : X) → Working m n p v next ds → k < pieces_of n p →
      w ≡ with_claim v k → m (k * p) (min (k * p + p) n) x →
      Working m n p w (k + 1) (ds ++ record { number = k; value = x } ∷ [])
  goes_on v w next k ds x h lt e means =
      let d : Done X = record { number = k; value = x } in record {
        pieces = ap (λ (u : Known). u.pieces) e ∙ h.pieces;
        next_in = omega arith;
        last = λ q. let s : k + 1 - 1 ≡ k = omega arith in
            let t = total_push (λ (y : ℕ). bit (y == k)) v.claims k in let o = one_same k in
            let c : times k w.claims ≡ times k (v.claims ++ k ∷ []) = ap (λ (u : Known). times k u.claims) e in
            rw s (omega arith);
        claims = ap (λ (u : Known). u.claims) e ∙ ap (λ (l : List ℕ). l ++ k ∷ []) h.claims
            ∙ sym (map_push (λ (y : Done X). y.number) ds d);
        each = All-push (IsDone m n p) ds d h.each (lt, means);
      }

  module _ (board : Board) where
    -- with no pass yet, nothing is gathered
    pub gathers_none : AreGathered m n p board [] []
    gathers_none = record {
      board_of = λ k d lt. absurd (omega arith);
      ended = λ k d lt. absurd (omega arith);
      claims =
          λ x. refl;
      each = λ k d lt. absurd (omega arith);
    }

    -- one more pass and the pieces that it did
    pub gathers_one : (passes : List Pass) (done : List (Done X)) (pass : Pass) (more : List (Done X)) →
        AreGathered m n p board passes done → IsPassOf board pass → HasEnded pass →
        (view_of pass).claims ≡ numbers more → All (IsDone m n p) more → AreGathered m n p board (passes ++ pass ∷ []) (done ++ more)
    gathers_one passes done pass more h mine ended claims each = record {
      board_of = All-push (IsPassOf board) passes pass h.board_of mine;
      ended = All-push HasEnded passes pass h.ended ended;
      claims = λ x.
          let f : Known → ℕ = λ (view : Known). times x view.claims in
          let views : total f (map view_of (passes ++ pass ∷ [])) ≡ total f (map view_of passes) + f (view_of pass)
          = ap (λ (l : List Known). total f l) (map_push view_of passes pass) ∙ total_push f (map view_of passes) (view_of pass) in
          let own : f (view_of pass) ≡ times x (numbers more) = ap (λ (l : List ℕ). times x l) claims in
          let both = times-append x done more in
          let so_far = h.claims x in
          omega arith;
      each = All-append (IsDone m n p) done more h.each each;
    }

    -- at the end every piece is done
    pub every_done : (k : Size) (passes : List Pass) (done : List (Done X)) (cells : List (Option ℕ)) →
        AreGathered m n p board passes done → 0 < length passes →
        Settled k (map view_of passes) cells → (x : ℕ) → x < k.pieces → 0 < times x (numbers done)
    every_done k passes done cells h some_pass settled x within =
        let once = settled.every (some_ended passes h.ended some_pass) x within in
        let same = h.claims x in
        omega arith

  -- each piece that is done has its value at its place, and the other places are empty
  abbrev pub ArePlaced : List (Option X) → List (Done X) → Type 0
  ArePlaced places done = (k : ℕ) (d : Option X) → k < pieces_of n p →
      MatchOption (slice_index_or places k d) (times k (numbers done) ≡ 0) (λ x. m (k * p) (min (k * p + p) n) x)

  -- one more piece at its place
  pub places_one : (places : List (Option X)) (done : List (Done X)) (number : ℕ) (value : X) → length places ≡ pieces_of n p →
      IsDone m n p record { number = number; value = value } →
      ArePlaced places done → ArePlaced (set places number (Some value)) (done ++ record { number = number; value = value } ∷ [])
  places_one places done number value len is h k d lt =
      let one : Done X = record { number = number; value = value } in
      let Q : ℕ → Option X → Type 0 =
      λ j o. MatchOption o (times j (numbers (done ++ one ∷ [])) ≡ 0) (λ x. m (j * p) (min (j * p + p) n) x) in
      dite (ℕ_discrete k number)
      (λ same. subst (λ (j : ℕ). Q j (slice_index_or (set places number (Some value)) j d)) (sym same)
      (subst (λ (o : Option X). Q number o) (sym (get_or-set_same places number (Some value) d (omega (arith, is.0)))) is.1))
      (λ other.
      let there : slice_index_or (set places number (Some value)) k d ≡ slice_index_or places k d =
      get_or-set_other places number k (Some value) d other in
      let more = times-append k done (one ∷ []) in
      let none = one_other number k (λ e. other (sym e)) in
      let times_same : times k (numbers (done ++ one ∷ [])) ≡ times k (numbers done) = omega arith in
      subst (λ (o : Option X). Q k o) (sym there)
      (subst (λ (t : ℕ). MatchOption (slice_index_or places k d) (t ≡ 0) (λ x. m (k * p) (min (k * p + p) n) x)) (sym times_same)
      (h k d lt)))

  -- the next piece of those that are done goes to its place
  pub places_next : (done before left rest : List (Done X)) (one : Done X) (places : List (Option X)) → done ≡ before ++ left →
      left ≡ one ∷ rest → All (IsDone m n p) done → length places ≡ pieces_of n p → ArePlaced places before →
      (length (set places one.number (Some one.value)) ≡ pieces_of n p) × ArePlaced (set places one.number (Some one.value))
      (before ++ one ∷ []) × (done ≡ (before ++ one ∷ []) ++ rest)
  places_next done before left rest one places old next each len h =
      let now = next_split done before left one rest old next in (
        length-set places one.number (Some one.value) ∙ len,
        places_one places before one.number one.value len (all_at (IsDone m n p) done each before rest one now) h,
        next_done done before rest one now,
      )

  -- if every piece is done, every place has its value
  pub places_full : (places : List (Option X)) (done : List (Done X)) → ArePlaced places done →
      ((x : ℕ) → x < pieces_of n p → 0 < times x (numbers done)) →
      (k : ℕ) (d : Option X) → k < pieces_of n p → IsSomeAnd (slice_index_or places k d) (λ x. m (k * p) (min (k * p + p) n) x)
  places_full places done h every k d lt =
      full (λ x. m (k * p) (min (k * p + p) n) x) (slice_index_or places k d) (times k (numbers done)) (every k lt) (h k d lt)
