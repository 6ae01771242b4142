-- The first item that is not right, from the values of all pieces.
use Rattle.std.proofs.Common.{get_or, ◌≡◌, ℕ, ◌+◌, ◌*◌, ◌<◌, ◌≤◌, min, List, [], ◌∷◌, length, All, Option, Some, None, MatchOption}
use Rattle.std.proofs.Common.{subst, arith, inl, inr}
use Rattle.std.specs.Prelude.{◌↔◌, Bool, IsTrue, Result, Ok, Err, IfOk}
use Rattle.std.proofs.lemmas.Bool.{cases_lt}
use Rattle.std.proofs.lemmas.List.{get_or_default}
use Rattle.ch_hierarchy.specs.Assembling.{IsFirstFailing}
use Rattle.ch_hierarchy.specs.Hierarchy.{LevelsAndLegs, nodes_of}
use Rattle.ch_hierarchy.specs.Kept.{IsCovered}
use Rattle.ch_work.specs.Pieces.{pieces_of, MeanEach, AreValues}
use Rattle.ch_work.proofs.PieceLists.{covers}
use Rattle.ch_query.specs.Covering.{IsFirstUncovered}
use Rattle.ch_query.specs.Finding.{HoldsIn, IsFirstWithout, IsWithoutBelow, first_some}

-- P holds for one more number of the range
pub holds_more : (P : ℕ → Type 0) (from v : ℕ) → HoldsIn P from v → P v → HoldsIn P from (v + 1)
holds_more P from v before here u ge lt = elim (cases_lt u v) [
  | inl less ↦ before u ge less
  | inr more ↦ let same : v ≡ u = omega arith in subst P same here
]

-- a number that is known for the range from 0 is the first of it; memory may have run out
pub first_of_known : (P : ℕ → Type 0) (n : ℕ) {E : Type 0} (r : Result (Option ℕ) E) → IfOk r (IsWithoutBelow P 0 n) →
    IfOk r (IsFirstWithout P 0 n)
first_of_known P n (Ok None) h = h
first_of_known P n (Ok (Some v)) h = (omega arith, h.0, h.1, h.2)
first_of_known P n (Err e) h = tt

module _ (P : ℕ → Type 0) (n p : ℕ) where
  -- if P holds before piece k, the values of the pieces from k on give the first number of all
  first_from : (k : ℕ) (known : List (Option ℕ)) → n ≤ (k + length known) * p → HoldsIn P 0 (min (k * p) n) →
      MeanEach (IsWithoutBelow P) n p k known → IsFirstWithout P 0 n (first_some known)
  first_from k [] le before h = λ v from to. before v from (omega (arith, le))
  first_from k (None ∷ known) le before h =
      let next : (k + 1) * p ≡ k * p + p = omega arith in
      let now : HoldsIn P 0 (min ((k + 1) * p) n) = λ v from to. elim (cases_lt v (min (k * p) n)) [
        | inl less ↦ before v from less
        | inr more ↦ h.0 v (omega arith) (omega arith)
      ] in
      first_from (k + 1) known (omega (arith, le)) now h.1
  first_from k (Some u ∷ known) le before h = (
    omega arith,
    (let to = h.0.0 in omega arith),
    h.0.1,
    λ v from lt. elim (cases_lt v (min (k * p) n)) [
      | inl less ↦ before v from less
      | inr more ↦ let to = h.0.0 in h.0.2 v (omega arith) lt
    ],
  )

-- the values of pieces that cover all items give the first of all items
pub first_of_all : (P : ℕ → Type 0) (n p : ℕ) (known : List (Option ℕ)) → 0 < p → AreValues (IsWithoutBelow P) n p 0 (pieces_of n p) known →
    IsFirstWithout P 0 n (first_some known)
first_of_all P n p known positive h =
    let all : n ≤ (0 + length known) * p = rw h.0 (covers n p positive) in
    first_from P n p 0 known all (λ v from to. absurd (omega (arith, to))) h.1

-- the first of all nodes that is not covered
first_of_nodes : (H : LevelsAndLegs) (n : ℕ) (first : Option ℕ) → n ≡ nodes_of H → IsFirstWithout (IsCovered H) 0 n first →
    MatchOption first ((v : ℕ) → v < nodes_of H → IsCovered H v) (IsFirstUncovered H)
first_of_nodes H n None count h = λ v lt. h v (omega arith) (omega (arith, count))
first_of_nodes H n (Some u) count h =
    let to = h.1 in record { within = omega (arith, count); fails = h.2; first = λ v lt. h.3 v (omega arith) lt }

-- the same for a search that may run out of memory
pub nodes_named : (H : LevelsAndLegs) (n : ℕ) {E : Type 0} (r : Result (Option ℕ) E) → n ≡ nodes_of H →
    IfOk r (IsFirstWithout (IsCovered H) 0 n) →
    IfOk r (λ first. MatchOption first ((v : ℕ) → v < nodes_of H → IsCovered H v) (IsFirstUncovered H))
nodes_named H n (Ok first) count h = first_of_nodes H n first count h
nodes_named H n (Err e) count h = tt

module _ {X : Type 0} (P : X → Type 0) (xs : List X) where
  -- P holds for the element at this place
  abbrev pub HoldsAt : ℕ → Type 0
  HoldsAt i = (d : X) → P (get_or xs i d)

  -- a test of one element holds exactly if P holds at its place
  pub tells_at : (b : Bool) (i : ℕ) (e : X) → i < length xs → (IsTrue b ↔ P (get_or xs i e)) → (IsTrue b ↔ HoldsAt i)
  tells_at b i e lt tells = (λ yes d. subst P (get_or_default xs i e d lt) (tells.0 yes), λ h. tells.1 (h e))

  -- the first element of a list for which P does not hold
  pub listed : (first : Option ℕ) → IsFirstWithout HoldsAt 0 (length xs) first → MatchOption first (All P xs) (IsFirstFailing P xs)
  listed None h = λ i d lt. h i (omega arith) lt d
  listed (Some i) h = record {
    within = h.1;
    fails = λ d holds. h.2 (λ e. subst P (get_or_default xs i d e h.1) holds);
    before = λ j d lt. h.3 j (omega arith) lt d;
  }
