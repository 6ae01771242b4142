-- The faults of a saved hierarchy. At most one comes first, and a saved hierarchy that names a right one has none.
use Rattle.std.proofs.Common.{◌≡◌, ℕ, zero, suc, ◌+◌, ◌<◌, inl, inr, List, get_or, Some, None, refl, sym, ◌∙◌, ap}
use Rattle.std.proofs.Common.{subst, arith}
use Rattle.std.specs.Prelude.{slice_get, Result, Ok, Err, IsErrAnd}
use Rattle.std.proofs.lemmas.Bool.{cases_eq, cases_lt}
use Rattle.std.proofs.lemmas.Option.{slice_get_within, slice_get-get_or, get_or_from_slice_get}
use Rattle.ch_graph.specs.declared.saved.SavedLeg.{SavedLeg}
use Rattle.ch_graph.specs.Graph.{Network}
use Rattle.ch_graph.specs.Saved.{OrderAndLegs}
use Rattle.ch_hierarchy.specs.declared.fault.CheckFault.{CheckFault}
use Rattle.ch_hierarchy.specs.declared.fault.CheckFault.TheVariants.{Order, Pair, Bound, Base, Middle, Arc, Lower}
use Rattle.ch_hierarchy.specs.declared.fault.CheckError.{CheckError}
use Rattle.ch_hierarchy.specs.declared.fault.CheckError.TheVariants.{Fault, NoMemory}
use Rattle.ch_hierarchy.specs.Hierarchy.{LevelsAndLegs}
use Rattle.ch_hierarchy.specs.Kept.{IsLeg, IsFounded, HasLegWithin, IsCovered}
use Rattle.ch_hierarchy.specs.Saved.{IsOrderOf, NamesHierarchy, NamesFor, NamesKept, JoinsNodes, IsWithinBounds, IsSamePair}
use Rattle.ch_hierarchy.specs.Saved.{HasFault, HasPairFault, IsUnfounded, kind, place, IsFirstFault, IsEarly, AnswersWhere}
use Rattle.ch_hierarchy.specs.Assembling.{IsFirstFailing, IsFirstPairFault}
use Rattle.ch_hierarchy.proofs.theory.SavedLevels.{order_of}
use Rattle.ch_hierarchy.proofs.theory.NamedLegs.{leg_bounds}
use Rattle.ch_hierarchy.proofs.theory.OneSaved.{one_saved}

-- the fault of a kind at a place
abbrev pub fault_of : ℕ → ℕ → CheckFault
fault_of zero p = Order
fault_of (suc zero) p = Pair p
fault_of (suc (suc zero)) p = Bound p
fault_of (suc (suc (suc zero))) p = Base p
fault_of (suc (suc (suc (suc zero)))) p = Middle p
fault_of (suc (suc (suc (suc (suc zero))))) p = Arc p
fault_of (suc (suc (suc (suc (suc (suc k)))))) p = Lower p

fault_is : (f : CheckFault) → fault_of (kind f) (place f) ≡ f
fault_is Order = refl
fault_is (Pair i) = refl
fault_is (Bound i) = refl
fault_is (Base i) = refl
fault_is (Middle i) = refl
fault_is (Arc i) = refl
fault_is (Lower v) = refl

module _ (g : Network) (s : OrderAndLegs) where
  -- there is no fault of an earlier kind
  abbrev pub HasNoneBelow : ℕ → Type 0
  HasNoneBelow k = (e : CheckFault) → kind e < k → HasFault g s e → ⊥

  pub none_below : HasNoneBelow 0
  none_below e lt h = absurd (omega arith)

  -- there is no fault of this kind either
  pub none_more : (k : ℕ) → HasNoneBelow k → ((p : ℕ) → HasFault g s (fault_of k p) → ⊥) → HasNoneBelow (k + 1)
  none_more k below here e lt h = elim (cases_lt (kind e) k) [
    | inl less ↦ below e less h
    | inr ge ↦
        let same : kind e ≡ k = omega arith in
        here (place e) (subst (λ q. HasFault g s (fault_of q (place e))) same (subst (HasFault g s) (sym (fault_is e)) h))
  ]

  -- the least place of the first kind that occurs is the first fault
  pub first_at : (f : CheckFault) → HasNoneBelow (kind f) → HasFault g s f →
      ((p : ℕ) → p < place f → HasFault g s (fault_of (kind f) p) → ⊥) → IsFirstFault g s f
  first_at f below has least = record {
    has = has;
    first = λ e before h. elim before [
      | inl less ↦ below e less h
      | inr same ↦ least (place e) same.1
          (subst (λ q. HasFault g s (fault_of q (place e))) same.0 (subst (HasFault g s) (sym (fault_is e)) h))
    ];
  }

  -- at most one fault is the first
  pub one_first : (e f : CheckFault) → IsFirstFault g s e → IsFirstFault g s f → e ≡ f
  one_first e f a b = elim (cases_eq (kind e) (kind f)) [
    | inl same ↦ elim (cases_eq (place e) (place f)) [
      | inl at ↦ sym (fault_is e) ∙ (λ i. fault_of (same i) (at i)) ∙ fault_is f
      | inr apart ↦ absurd (elim (cases_lt (place e) (place f)) [
        | inl less ↦ b.first e (inr (same, less)) a.has
        | inr ge ↦ a.first f (inr (sym same, omega arith)) b.has
      ])
    ]
    | inr apart ↦ absurd (elim (cases_lt (kind e) (kind f)) [
      | inl less ↦ b.first e (inl less) a.has
      | inr ge ↦ a.first f (inl (omega arith)) b.has
    ])
  ]

-- a leg at a place is a leg of the hierarchy
pub leg_stands : (s : OrderAndLegs) (H : LevelsAndLegs) → NamesHierarchy s H → (i : ℕ) (l : SavedLeg) → slice_get s.legs i ≡ Some l →
    IsLeg H l.from l.to l.cost l.middle
leg_stands s H names i l at =
    (names.legs l.from l.to l.cost l.middle).1 (i, slice_get_within s.legs i l at, get_or_from_slice_get s.legs i l l at)

-- what names a hierarchy among the graph's nodes has no early fault
module _ (g : Network) (s : OrderAndLegs) (H : LevelsAndLegs) (named : NamesFor g s H) where
  no_order : HasFault g s Order → ⊥
  no_order h = h (subst (λ n. IsOrderOf n s.order) named.1 (order_of s.order H.level named.0.levels))

  no_pair : (p : ℕ) → HasPairFault g.nodes s.legs p → ⊥
  no_pair p (l, at, inl bad) =
      bad (subst (λ n. JoinsNodes n l) named.1 (leg_bounds H named.0.levelled l (leg_stands s H named.0 p l at)).0)
  no_pair p (l, at, inr (j, k, less, there, same)) =
      named.0.once j p l less (slice_get_within s.legs p l at)
      (subst (λ (q : SavedLeg). IsSamePair q (get_or s.legs p l)) (sym (get_or_from_slice_get s.legs j k l there))
      (subst (IsSamePair k) (sym (get_or_from_slice_get s.legs p l l at)) same))

  no_bound : (p : ℕ) → HasFault g s (Bound p) → ⊥
  no_bound p (l, at, bad) =
      bad (subst (λ n. IsWithinBounds n l) named.1 (leg_bounds H named.0.levelled l (leg_stands s H named.0 p l at)).1)

  pub none_early : HasNoneBelow g s 3
  none_early = none_more g s 2 (none_more g s 1 (none_more g s 0 (none_below g s) (λ p h. no_order h)) no_pair) no_bound

-- what names a right hierarchy has no fault
module _ (g : Network) (s : OrderAndLegs) (H : LevelsAndLegs) (named : NamesKept g s H) where
  founded : (i : ℕ) (l : SavedLeg) → IsUnfounded g s i l → ⊥
  founded i l (at, (K, names, bad)) =
      bad (subst (λ q. IsFounded g q l.from l.to l.cost l.middle) (one_saved s H K named.0 names)
      (named.1.founded l.from l.to l.cost l.middle (leg_stands s H named.0 i l at)))

  pub no_fault : (f : CheckFault) → HasFault g s f → ⊥
  no_fault Order h = none_early g s H (named.0, named.1.nodes) Order (omega arith) h
  no_fault (Pair i) h = none_early g s H (named.0, named.1.nodes) (Pair i) (omega arith) h
  no_fault (Bound i) h = none_early g s H (named.0, named.1.nodes) (Bound i) (omega arith) h
  no_fault (Base i) (l, none, bad) = founded i l bad
  no_fault (Middle i) (l, v, some, bad) = founded i l bad
  no_fault (Arc i) (a, at, apart, (K, names, bad)) =
      bad (subst (λ q. HasLegWithin q a) (one_saved s H K named.0 names)
      (named.1.arcs a (i, slice_get_within g.arcs i a at, get_or_from_slice_get g.arcs i a a at) apart))
  no_fault (Lower v) (lt, (K, names, bad)) = bad (subst (λ q. IsCovered q v) (one_saved s H K named.0 names) (named.1.covered v))

-- an answer and a refusal
abbrev answer_of : (A : Type 0) → A → Result A CheckError
answer_of A x = Ok x

abbrev pub refusal_of : (A : Type 0) → CheckError → Result A CheckError
refusal_of A e = Err e

same_answer : (A : Type 0) (x y : A) → answer_of A x ≡ answer_of A y → x ≡ y
same_answer A x y e = cc

pub same_refusal : (A : Type 0) (e f : CheckFault) → refusal_of A (Fault e) ≡ refusal_of A (Fault f) → e ≡ f
same_refusal A e f is = cc

answer_or_refusal : (A : Type 0) (x : A) (e : CheckError) → answer_of A x ≡ refusal_of A e → ⊥
answer_or_refusal A x e is = cc

memory_or_fault : (A : Type 0) (f : CheckFault) → refusal_of A NoMemory ≡ refusal_of A (Fault f) → ⊥
memory_or_fault A f is = cc

-- the result answers whether there is a value, and whether there is a fault
abbrev pub AnswersBoth : {A : Type 0} → (A → Type 0) → (CheckFault → Type 0) → Result A CheckError → Type 0
AnswersBoth {A} P Q r = ((x : A) → AnswersWhere r (Ok x) (P x)) × ((f : CheckFault) → AnswersWhere r (Err (Fault f)) (Q f))

-- there is at most one value and at most one fault, and not both
module _ {A : Type 0} (P : A → Type 0) (Q : CheckFault → Type 0) (one : (x y : A) → P x → P y → x ≡ y)
    (single : (e f : CheckFault) → Q e → Q f → e ≡ f) (apart : (x : A) (f : CheckFault) → P x → Q f → ⊥) where
  pub answers_value : (x : A) → P x → AnswersBoth P Q (Ok x)
  answers_value x p = (
    λ y. (λ e. subst P (same_answer A x y e) p, λ q. inl (ap (answer_of A) (one x y p q))),
    λ f. (λ e. absurd (answer_or_refusal A x (Fault f) e), λ q. absurd (apart x f p q)),
  )

  pub answers_fault : (f : CheckFault) → Q f → AnswersBoth P Q (Err (Fault f))
  answers_fault f q = (
    λ x. (λ e. absurd (answer_or_refusal A x (Fault f) (sym e)), λ p. absurd (apart x f p q)),
    λ e. (λ is. subst Q (same_refusal A f e is) q, λ r. inl (ap (λ (h : CheckFault). refusal_of A (Fault h)) (single f e q r))),
  )

  pub answers_no_memory : AnswersBoth P Q (Err NoMemory)
  answers_no_memory = (
    λ x. (λ e. absurd (answer_or_refusal A x NoMemory (sym e)), λ p. inr refl),
    λ f. (λ e. absurd (memory_or_fault A f e), λ q. inr refl),
  )

-- the answer of `assemble`
module _ (g : Network) (s : OrderAndLegs) where
  abbrev pub IsEarlyFirst : CheckFault → Type 0
  IsEarlyFirst f = IsEarly f × IsFirstFault g s f

  abbrev pub Assembles : Result LevelsAndLegs CheckError → Type 0
  Assembles r = AnswersBoth (NamesFor g s) IsEarlyFirst r

  one_named : (H K : LevelsAndLegs) → NamesFor g s H → NamesFor g s K → H ≡ K
  one_named H K a b = one_saved s H K a.0 b.0

  one_early : (e f : CheckFault) → IsEarlyFirst e → IsEarlyFirst f → e ≡ f
  one_early e f a b = one_first g s e f a.1 b.1

  not_early : (H : LevelsAndLegs) (f : CheckFault) → NamesFor g s H → IsEarlyFirst f → ⊥
  not_early H f named bad = none_early g s H named f bad.0 bad.1.has

  pub assembles_value : (H : LevelsAndLegs) → NamesFor g s H → Assembles (Ok H)
  assembles_value H named = answers_value (NamesFor g s) IsEarlyFirst one_named one_early not_early H named

  pub assembles_fault : (f : CheckFault) → IsEarlyFirst f → Assembles (Err (Fault f))
  assembles_fault f bad = answers_fault (NamesFor g s) IsEarlyFirst one_named one_early not_early f bad

  pub assembles_no_memory : Assembles (Err NoMemory)
  assembles_no_memory = answers_no_memory (NamesFor g s) IsEarlyFirst one_named one_early not_early

  -- an error that `assemble` passes on
  pub assembles_refused : (r : Result LevelsAndLegs CheckError) (e : CheckError) → IsErrAnd r (λ x. x ≡ e) →
      ((f : CheckFault) → e ≡ Fault f → IsEarlyFirst f) → Assembles r
  assembles_refused (Ok x) e is h = absurd is
  assembles_refused (Err x) (Fault f) is h = subst (λ (q : CheckError). Assembles (Err q)) (sym is) (assembles_fault f (h f refl))
  assembles_refused (Err x) NoMemory is h = subst (λ (q : CheckError). Assembles (Err q)) (sym is) assembles_no_memory

  -- the answer of `check`
  abbrev pub Checks : Result LevelsAndLegs CheckError → Type 0
  Checks r = AnswersBoth (NamesKept g s) (IsFirstFault g s) r

  one_kept : (H K : LevelsAndLegs) → NamesKept g s H → NamesKept g s K → H ≡ K
  one_kept H K a b = one_saved s H K a.0 b.0

  not_first : (H : LevelsAndLegs) (f : CheckFault) → NamesKept g s H → IsFirstFault g s f → ⊥
  not_first H f named bad = no_fault g s H named f bad.has

  pub checks_value : (H : LevelsAndLegs) → NamesKept g s H → Checks (Ok H)
  checks_value H named = answers_value (NamesKept g s) (IsFirstFault g s) one_kept (one_first g s) not_first H named

  pub checks_fault : (f : CheckFault) → IsFirstFault g s f → Checks (Err (Fault f))
  checks_fault f bad = answers_fault (NamesKept g s) (IsFirstFault g s) one_kept (one_first g s) not_first f bad

  pub checks_no_memory : Checks (Err NoMemory)
  checks_no_memory = answers_no_memory (NamesKept g s) (IsFirstFault g s) one_kept (one_first g s) not_first

  -- an error that `check` passes on
  pub checks_refused : (r : Result LevelsAndLegs CheckError) (e : CheckError) → IsErrAnd r (λ x. x ≡ e) →
      ((f : CheckFault) → e ≡ Fault f → IsFirstFault g s f) → Checks r
  checks_refused (Ok x) e is h = absurd is
  checks_refused (Err x) (Fault f) is h = subst (λ (q : CheckError). Checks (Err q)) (sym is) (checks_fault f (h f refl))
  checks_refused (Err x) NoMemory is h = subst (λ (q : CheckError). Checks (Err q)) (sym is) checks_no_memory

-- the first fault of a kind, in the terms of `assemble`
module _ (g : Network) (s : OrderAndLegs) (n : ℕ) (order : List ℕ) (legs : List SavedLeg) (a : n ≡ g.nodes) (b : order ≡ s.order)
    (c : legs ≡ s.legs) where
  pub order_fault : (IsOrderOf n order → ⊥) → IsEarlyFirst g s Order
  order_fault bad = (
    omega arith,
    first_at g s Order (none_below g s) (λ h. bad (subst (λ m. IsOrderOf m order) (sym a) (subst (IsOrderOf g.nodes) (sym b) h)))
        (λ p lt h. absurd (omega arith)),
  )

  below_pairs : IsOrderOf n order → HasNoneBelow g s 1
  below_pairs is = none_more g s 0 (none_below g s) (λ p h. h (subst (λ m. IsOrderOf m s.order) a (subst (IsOrderOf n) b is)))

  pair_here : (i : ℕ) → HasPairFault n legs i → HasPairFault g.nodes s.legs i
  pair_here i h = subst (λ m. HasPairFault m s.legs i) a (subst (λ l. HasPairFault n l i) c h)

  pair_there : (i : ℕ) → HasPairFault g.nodes s.legs i → HasPairFault n legs i
  pair_there i h = subst (λ m. HasPairFault m legs i) (sym a) (subst (λ l. HasPairFault g.nodes l i) (sym c) h)

  pub pair_fault : IsOrderOf n order → (i : ℕ) → IsFirstPairFault n legs i → IsEarlyFirst g s (Pair i)
  pair_fault is i first =
      (omega arith, first_at g s (Pair i) (below_pairs is) (pair_here i first.has) (λ p lt h. first.first p lt (pair_there p h)))

  pub bound_fault : IsOrderOf n order → ((i : ℕ) → HasPairFault n legs i → ⊥) → (i : ℕ) → IsFirstFailing (IsWithinBounds n) legs i →
      IsEarlyFirst g s (Bound i)
  bound_fault is none i first = (
    omega arith,
    first_at g s (Bound i) (none_more g s 1 (below_pairs is) (λ p h. none p (pair_there p h)))
        (no_saved_leg_at i first)
        (λ p lt h. h.2 (subst (λ m. IsWithinBounds m h.0) a
        (subst (IsWithinBounds n) (get_or_from_slice_get legs p h.0 h.0 (subst (λ l. slice_get l p ≡ Some h.0) (sym c) h.1))
        (first.before p h.0 lt)))),
  )
    where
      no_saved_leg_at : (i : ℕ) → IsFirstFailing (IsWithinBounds n) legs i → HasFault g s (Bound i)
      no_saved_leg_at i first =
          let d : SavedLeg = record { from = 0; to = 0; cost = record { weight = 0; arcs = 0 }; middle = None } in (
            get_or legs i d,
            subst (λ l. slice_get l i ≡ Some (get_or legs i d)) c (slice_get-get_or legs i d first.within),
            λ h.
                first.fails d (subst (λ m. IsWithinBounds m (get_or legs i d)) (sym a) h),
          )
