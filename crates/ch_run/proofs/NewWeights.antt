-- Graphs with new weights: the last new weight for a key is the one that an arc gets, and limits are kept.
use Rattle.std.proofs.Common.{◌≡◌, ℕ, zero, suc, ◌+◌, ◌^◌, ◌<◌, Bool, true, false, eqb, cond, ◌&&◌, if◌then◌else◌, List, [], ◌∷◌}
use Rattle.std.proofs.Common.{◌++◌, length, map, take, get_or, Contains, Option, Some, None, refl, sym, ap, ◌∙◌, subst, arith, inl, inr}
use Rattle.std.specs.Prelude.{All, IsSome, IsTrue, slice_get}
use Rattle.std.specs.Ordering.{is_eq, nat_cmp}
use Rattle.std.specs.BTreeMap.{BTreeMap, get}
use Rattle.std.specs.BTreeSet.{BTreeSet, contains}
use Rattle.std.proofs.lemmas.Bool.Decides.{nat_tests}
use Rattle.std.proofs.lemmas.List.{length-map, map_push, take_all}
use Rattle.std.proofs.lemmas.Option.{get_or_from_slice_get, slice_get_within}
use Rattle.std.proofs.lemmas.List.Elements.{All-map, All-tail, All-take, Contains-append_left, Contains-push, Contains-push_cases}
use Rattle.ch_graph.specs.declared.arc.InArc.{InArc}
use Rattle.ch_graph.specs.Graph.{IsArcWithin, IsWithinLimits, Network}
use Rattle.ch_read.specs.declared.new_weights.NewWeight.{NewWeight}
use Rattle.ch_read.specs.Requests.{IsNewWeight}
use Rattle.ch_run.specs.Weighing.{AreLatest, AreMet, HasArc, HasKey, IsFirstWithoutArc, is_for, key_of, latest, reweighed, weighed}
use Rattle.ch_run.specs.Weighing.{weighed_by, weighed_once, with_weight}

-- equal nodes have equal keys, and others do not
same_key : (from to from' to' : ℕ) → to < 2 ^ 32 → to' < 2 ^ 32 →
    (eqb from from' && eqb to to') ≡ eqb (key_of from' to') (key_of from to)
same_key from to from' to' low low' = at (eqb from from') (eqb to to') (eqb (key_of from' to') (key_of from to)) refl refl refl
  where
    at : (a b c : Bool) → eqb from from' ≡ a → eqb to to' ≡ b → eqb (key_of from' to') (key_of from to) ≡ c →
        (eqb from from' && eqb to to') ≡ eqb (key_of from' to') (key_of from to)
    at true true true e f k = rw (e, f, k) refl
    at true true false e f k =
        let one : from ≡ from' = grind (arith, nat_tests) in
        let two : to ≡ to' = grind (arith, nat_tests) in
        let same : eqb (key_of from' to') (key_of from to) ≡ true = rw (one, two) (grind (arith, nat_tests)) in cc
    at true false true e f k =
        let one : from ≡ from' = grind (arith, nat_tests) in
        let keys : key_of from' to' ≡ key_of from to = grind (arith, nat_tests) in
        let two : to ≡ to' = omega arith in
        let same : eqb to to' ≡ true = grind (arith, nat_tests) in cc
    at true false false e f k = rw (e, f, k) refl
    at false b true e f k =
        let keys : key_of from' to' ≡ key_of from to = grind (arith, nat_tests) in
        let one : from ≡ from' = omega arith in
        let same : eqb from from' ≡ true = grind (arith, nat_tests) in cc
    at false b false e f k = rw (e, k) refl

-- one more new weight is the last one for its key
pub latest_push : (key : ℕ) (before : Option ℕ) (xs : List NewWeight) (new : NewWeight) →
    latest key before (xs ++ new ∷ []) ≡ (if eqb (key_of new.from new.to) key then Some new.weight else latest key before xs)
latest_push key before [] new = refl
latest_push key before (x ∷ xs) new = latest_push key (if eqb (key_of x.from x.to) key then Some x.weight else before) xs new

-- a key that has a weight keeps one
latest_some : (key : ℕ) (before : Option ℕ) (xs : List NewWeight) → IsSome before → IsSome (latest key before xs)
latest_some key before [] some = some
latest_some key before (x ∷ xs) some =
    latest_some key (if eqb (key_of x.from x.to) key then Some x.weight else before) xs (at (eqb (key_of x.from x.to) key))
  where
    at : (t : Bool) → IsSome (if t then Some x.weight else before)
    at true = refl
    at false = some

-- each key of the list has a weight
pub latest_at : (before : Option ℕ) (xs : List NewWeight) (k : ℕ) (d : NewWeight) → k < length xs →
    IsSome (latest (key_of (get_or xs k d).from (get_or xs k d).to) before xs)
latest_at before [] k d lt = absurd (omega arith)
latest_at before (x ∷ xs) zero d lt =
    let key = key_of x.from x.to in
    let own : eqb key key ≡ true = grind (arith, nat_tests) in
    rw own (latest_some key (Some x.weight) xs refl)
latest_at before (x ∷ xs) (suc k) d lt =
    latest_at (if eqb (key_of x.from x.to) (key_of (get_or xs k d).from (get_or xs k d).to) then Some x.weight else before) xs k d
    (omega arith)

-- nodes of a graph have a number below 2^32
abbrev IsLow : NewWeight → Type 0
IsLow new = new.to < 2 ^ 32

-- one more new weight for an arc with a weight
once : (new : NewWeight) (a : InArc) (before : Option ℕ) → IsLow new → a.to < 2 ^ 32 →
    weighed_once new (with_weight before a)
    ≡ with_weight (if eqb (key_of new.from new.to) (key_of a.from a.to) then Some new.weight else before) a
once new a before low fits = at before (eqb (key_of new.from new.to) (key_of a.from a.to)) refl
  where
    test : (eqb a.from new.from && eqb a.to new.to) ≡ eqb (key_of new.from new.to) (key_of a.from a.to)
    test = same_key a.from a.to new.from new.to fits low

    at : (o : Option ℕ) (t : Bool) → eqb (key_of new.from new.to) (key_of a.from a.to) ≡ t →
        weighed_once new (with_weight o a)
        ≡ with_weight (if eqb (key_of new.from new.to) (key_of a.from a.to) then Some new.weight else o) a
    at None true e = rw (test, e) refl
    at None false e = rw (test, e) refl
    at (Some w) true e = rw (test, e) refl
    at (Some w) false e = rw (test, e) refl

weighed_from : (xs : List NewWeight) (a : InArc) (before : Option ℕ) → All IsLow xs → a.to < 2 ^ 32 →
    weighed xs (with_weight before a) ≡ with_weight (latest (key_of a.from a.to) before xs) a
weighed_from [] a before low fits = refl
weighed_from (x ∷ xs) a before low fits =
    ap (weighed xs) (once x a before (low 0 x (omega arith)) fits)
    ∙ weighed_from xs a (if eqb (key_of x.from x.to) (key_of a.from a.to) then Some x.weight else before)
    (All-tail IsLow x xs low) fits

-- the arcs with the weights that a map of the last ones has are the arcs after all new weights
pub weighed_all : (arcs : List InArc) (listed : List NewWeight) (found : BTreeMap ℕ ℕ) → AreLatest listed found →
    All IsLow listed → All (λ a. a.to < 2 ^ 32) arcs → map (weighed_by found) arcs ≡ map (weighed listed) arcs
weighed_all [] listed found latest_is low fits = refl
weighed_all (a ∷ arcs) listed found latest_is low fits =
    let first : weighed_by found a ≡ weighed listed a =
    ap (λ o. with_weight o a) (latest_is (key_of a.from a.to)) ∙ sym (weighed_from listed a None low (fits 0 a (omega arith))) in
    ap (λ (b : InArc). b ∷ map (weighed_by found) arcs) first
    ∙ ap (λ (bs : List InArc). weighed listed a ∷ bs)
    (weighed_all arcs listed found latest_is low (All-tail (λ (b : InArc). b.to < 2 ^ 32) a arcs fits))

once_within : (n : ℕ) (new : NewWeight) (a : InArc) → IsNewWeight n new → IsArcWithin n a → IsArcWithin n (weighed_once new a)
once_within n new a is within = at (is_for new a) refl
  where
    at : (t : Bool) → is_for new a ≡ t → IsArcWithin n (weighed_once new a)
    at true e = rw e (record { ends = within.ends; weight = is.weight })
    at false e = rw e within

weighed_within : (n : ℕ) (xs : List NewWeight) (a : InArc) → All (IsNewWeight n) xs → IsArcWithin n a → IsArcWithin n (weighed xs a)
weighed_within n [] a all within = within
weighed_within n (x ∷ xs) a all within =
    weighed_within n xs (weighed_once x a) (All-tail (IsNewWeight n) x xs all) (once_within n x a (all 0 x (omega arith)) within)

-- new weights within the limits keep the graph within them
pub reweighed_within : (g : Network) (listed : List NewWeight) → IsWithinLimits g → All (IsNewWeight g.nodes) listed →
    IsWithinLimits (reweighed g listed)
reweighed_within g listed limits all = record {
  size = (limits.size.0, rw (length-map g.arcs (weighed listed)) limits.size.1);
  each = All-map (IsArcWithin g.nodes) (weighed listed) g.arcs
      (λ k d lt. weighed_within g.nodes listed (get_or g.arcs k d) all (limits.each k d lt));
}

module _ (g : Network) (listed : List NewWeight) (limits : IsWithinLimits g) (each : All (IsNewWeight g.nodes) listed) where
  pub arcs_low : All (λ a. a.to < 2 ^ 32) g.arcs
  arcs_low k d lt = let to = (limits.each k d lt).ends.1 in let few = limits.size.0 in omega arith

  pub all_low : All IsLow listed
  all_low k d lt = let to = (each k d lt).ends.1 in let few = limits.size.0 in omega arith

  -- a new weight is for an arc, if an arc has its key
  key_arc : (new : NewWeight) → IsLow new → HasKey g.arcs (key_of new.from new.to) → HasArc g new
  key_arc new low (a, has, same) =
      let fits : a.to < 2 ^ 32 = subst (λ (b : InArc). b.to < 2 ^ 32) has.2 (arcs_low has.0 a has.1) in
      let test : eqb (key_of new.from new.to) (key_of a.from a.to) ≡ true = grind (arith, nat_tests) in
      (a, has, same_key a.from a.to new.from new.to fits low ∙ test)

  arc_key : (new : NewWeight) → IsLow new → HasArc g new → HasKey g.arcs (key_of new.from new.to)
  arc_key new low (a, has, is) =
      let fits : a.to < 2 ^ 32 = subst (λ (b : InArc). b.to < 2 ^ 32) has.2 (arcs_low has.0 a has.1) in
      let test : eqb (key_of new.from new.to) (key_of a.from a.to) ≡ true = sym (same_key a.from a.to new.from new.to fits low) ∙ is in
      (a, has, grind (arith, nat_tests))

  module _ (found : BTreeMap ℕ ℕ) (met : BTreeSet ℕ) (latest_is : AreLatest listed found) (met_is : AreMet found g.arcs met) where
    found_at : (k : ℕ) (d : NewWeight) → k < length listed →
        IsSome (get nat_cmp found (key_of (get_or listed k d).from (get_or listed k d).to))
    found_at k d lt = rw (latest_is (key_of (get_or listed k d).from (get_or listed k d).to)) (latest_at None listed k d lt)

    -- the first new weights are for arcs if the set has their keys
    pub have_arcs : (count : ℕ) → All (λ new. IsTrue (contains nat_cmp met (key_of new.from new.to))) (take count listed) →
        All (HasArc g) (take count listed)
    have_arcs count all k d lt =
        let new = get_or (take count listed) k d in
        let some = All-take (λ new. IsSome (get nat_cmp found (key_of new.from new.to))) count listed found_at k d lt in
        let low = All-take IsLow count listed all_low k d lt in
        key_arc new low ((met_is (key_of new.from new.to) some).0 (all k d lt))

    -- so all of them are
    pub have_all : All (λ new. IsTrue (contains nat_cmp met (key_of new.from new.to))) listed → All (HasArc g) listed
    have_all all =
        let whole : take (length listed) listed ≡ listed = take_all (length listed) listed (omega arith) in
        subst (All (HasArc g)) whole
        (have_arcs (length listed) (subst (All (λ new. IsTrue (contains nat_cmp met (key_of new.from new.to)))) (sym whole) all))

    -- a new weight is for no arc if the set does not have its key
    pub has_none : (place : ℕ) (new : NewWeight) → place < length listed → get_or listed place new ≡ new →
        contains nat_cmp met (key_of new.from new.to) ≡ false → HasArc g new → ⊥
    has_none place new lt stands none has =
        let some : IsSome (get nat_cmp found (key_of new.from new.to)) =
        subst (λ (x : NewWeight). IsSome (get nat_cmp found (key_of x.from x.to))) stands (found_at place new lt) in
        let low : IsLow new = subst IsLow stands (all_low place new lt) in
        let yes = (met_is (key_of new.from new.to) some).1 (arc_key new low has) in cc

    -- so the first such one is on its line
    pub first_without : (line place : ℕ) (new : NewWeight) → slice_get listed place ≡ Some new → line ≡ new.line →
        contains nat_cmp met (key_of new.from new.to) ≡ false →
        All (λ new. IsTrue (contains nat_cmp met (key_of new.from new.to))) (take place listed) → IsFirstWithoutArc g listed line
    first_without line place new stands line_is none before = record {
      place = place;
      new = new;
      stands = stands;
      before = have_arcs place before;
      none = has_none place new (slice_get_within listed place new stands) (get_or_from_slice_get listed place new new stands) none;
      line_is = line_is;
    }

-- an arc and a new weight that stand where there is none
abbrev pub no_arc : InArc
no_arc = record { from = 0; to = 0; weight = 0 }

abbrev pub no_weight : NewWeight
no_weight = record { from = 0; to = 0; weight = 0; line = 0 }

-- a comparison of numbers says that they are equal exactly if they are
cmp_eqb : (x y : ℕ) → is_eq (nat_cmp x y) ≡ eqb x y
cmp_eqb x y = grind (arith, nat_tests)

-- the map after one more new weight
pub one_latest : (xs : List NewWeight) (new : NewWeight) (old found : BTreeMap ℕ ℕ) → AreLatest xs old →
    ((key : ℕ) → get nat_cmp found key ≡ cond (is_eq (nat_cmp (key_of new.from new.to) key)) (Some new.weight) (get nat_cmp old key)) →
    AreLatest (xs ++ new ∷ []) found
one_latest xs new old found are more key =
    more key ∙ ap (λ (t : Bool). cond t (Some new.weight) (get nat_cmp old key)) (cmp_eqb (key_of new.from new.to) key)
    ∙ ap (λ (o : Option ℕ). cond (eqb (key_of new.from new.to) key) (Some new.weight) o) (are key) ∙ sym (latest_push key None xs new)

-- one arc more, with the weight of the map
pub arcs_more : (found : BTreeMap ℕ ℕ) (arcs : List InArc) (a : InArc) (weight : ℕ) (old new : List InArc) →
    old ≡ map (weighed_by found) arcs → new ≡ old ++ record { from = a.from; to = a.to; weight = weight } ∷ [] →
    record { from = a.from; to = a.to; weight = weight } ≡ weighed_by found a → new ≡ map (weighed_by found) (arcs ++ a ∷ [])
arcs_more found arcs a weight old new are pushed is =
    pushed ∙ ap (λ (l : List InArc). l ++ record { from = a.from; to = a.to; weight = weight } ∷ []) are
    ∙ ap (λ (b : InArc). map (weighed_by found) arcs ++ b ∷ []) is ∙ sym (map_push (weighed_by found) arcs a)

-- the keys of one arc more
key_more : (arcs : List InArc) (a : InArc) (key : ℕ) → HasKey arcs key → HasKey (arcs ++ a ∷ []) key
key_more arcs a key (b, has, same) = (b, Contains-append_left arcs (a ∷ []) b has, same)

key_last : (arcs : List InArc) (a : InArc) (key : ℕ) → HasKey (arcs ++ a ∷ []) key → (key_of a.from a.to ≡ key → ⊥) → HasKey arcs key
key_last arcs a key (b, has, same) other = elim (Contains-push_cases arcs a b has) [
  | inl before ↦ (b, before, same)
  | inr last ↦ absurd (other (ap (λ (x : InArc). key_of x.from x.to) last ∙ same))
]

-- one arc more whose key the map has
pub met_more : (found : BTreeMap ℕ ℕ) (arcs : List InArc) (a : InArc) (old met : BTreeSet ℕ) → AreMet found arcs old →
    ((key : ℕ) → contains nat_cmp met key ≡ cond (is_eq (nat_cmp (key_of a.from a.to) key)) true (contains nat_cmp old key)) →
    AreMet found (arcs ++ a ∷ []) met
met_more found arcs a old met are more key some = at (eqb (key_of a.from a.to) key) refl
  where
    test : contains nat_cmp met key ≡ cond (eqb (key_of a.from a.to) key) true (contains nat_cmp old key)
    test = more key ∙ ap (λ (t : Bool). cond t true (contains nat_cmp old key)) (cmp_eqb (key_of a.from a.to) key)

    at : (t : Bool) → eqb (key_of a.from a.to) key ≡ t →
        (IsTrue (contains nat_cmp met key) → HasKey (arcs ++ a ∷ []) key)
        × (HasKey (arcs ++ a ∷ []) key → IsTrue (contains nat_cmp met key))
    at true e = (λ yes. (a, Contains-push arcs a, grind (arith, nat_tests)), λ has. test ∙ rw e refl)
    at false e =
        let old_test : contains nat_cmp met key ≡ contains nat_cmp old key = test ∙ rw e refl in (
          λ yes. key_more arcs a key ((are key some).0 (sym old_test ∙ yes)),
          λ has. old_test ∙ (are key some).1 (key_last arcs a key has
              (λ same. let yes : eqb (key_of a.from a.to) key ≡ true = grind (arith, nat_tests) in cc)),
        )

-- one arc more whose key the map does not have
pub met_same : (found : BTreeMap ℕ ℕ) (arcs : List InArc) (a : InArc) (met : BTreeSet ℕ) → AreMet found arcs met →
    get nat_cmp found (key_of a.from a.to) ≡ None → AreMet found (arcs ++ a ∷ []) met
met_same found arcs a met are none key some = (
  λ yes. key_more arcs a key ((are key some).0 yes),
  λ has. (are key some).1 (key_last arcs a key has
      (λ same. let gone : get nat_cmp found key ≡ None = subst (λ k. get nat_cmp found k ≡ None) same none in cc)),
)
