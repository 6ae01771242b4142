-- The list of the nodes that have a cost.
use Rattle.std.proofs.Common.{◌≡◌, ℕ, ◌+◌, ◌<◌, ◌≤◌, Bool, true, false, cond, List, [], ◌∷◌, ◌++◌, length, Contains, Option, Some}
use Rattle.std.proofs.Common.{None, refl, sym, ◌∙◌, ap, subst, arith, get_or-set_same, get_or-set_other, set, length-set, inl, inr}
use Rattle.std.proofs.Common.{vec_len, Vec, length-append, replicate}
use Rattle.std.specs.Prelude.{◌≢◌, AllPairs, vec_capacity, is_some}
use Rattle.std.specs.declared.alloc.Global.{Global}
use Rattle.std.proofs.lemmas.Bool.{cases_eq, cases_lt, false≢true}
use Rattle.std.proofs.lemmas.List.{get_or_past, get_or-replicate, length-replicate, get_or_append_left, get_or_push}
use Rattle.std.proofs.lemmas.List.Elements.{Contains-append_left, Contains-push, Contains-push_cases, Contains-get_or}
use Rattle.std.proofs.lemmas.List.Quantifiers.{all_pairs_push}
use Rattle.std.proofs.lemmas.List.Sums.{sum_by-set, count_by-le-length}
use Rattle.std.proofs.lemmas.List.Folds.{sum_by-replicate}
use Rattle.std.specs.List.{count_by}
use Rattle.ch_graph.specs.declared.cost.Cost.{Cost}
use Rattle.ch_graph.specs.Cost.{cost_at}
use Rattle.ch_query.specs.Underway.{IsTouched}

-- a value that is never some is none
pub none_unless : {A : Type 0} (o : Option A) → ((a : A) → o ≡ Some a → ⊥) → o ≡ None
none_unless None never = refl
none_unless (Some a) never = absurd (never a refl)

module _ (best : List (Option Cost)) (touched : Vec ℕ Global) (t : IsTouched best touched) (w : ℕ) (within : w < length best)
    (d : Cost) where
  -- the number of nodes with a cost after the write
  counted : (b : Bool) → is_some (cost_at best w) ≡ b → count_by is_some (set best w (Some d)) + cond b 1 0 ≡ count_by is_some best + 1
  counted b e = subst (λ q. count_by is_some (set best w (Some d)) + cond q 1 0 ≡ count_by is_some best + 1) e
      (sum_by-set (λ x. cond (is_some x) 1 0) best w (Some d) None within)

  -- w has a cost
  here : is_some (cost_at (set best w (Some d)) w) ≡ true
  here = ap is_some (get_or-set_same best w (Some d) None within)

  -- the other nodes have a cost if they had one
  other : (v : ℕ) → (v ≡ w → ⊥) → is_some (cost_at (set best w (Some d)) v) ≡ is_some (cost_at best v)
  other v ne = ap is_some (get_or-set_other best w v (Some d) None ne)

  -- a node that had a cost has one
  keeps : (v : ℕ) → is_some (cost_at best v) ≡ true → is_some (cost_at (set best w (Some d)) v) ≡ true
  keeps v e = elim (cases_eq v w) [ inl is ↦ ap (λ q. is_some (cost_at (set best w (Some d)) q)) is ∙ here | inr away ↦ other v away ∙ e ]

  -- there is room for one more
  pub room_left : is_some (cost_at best w) ≡ false → vec_len touched < vec_capacity touched
  room_left e =
      let n = counted false e in
      let most = count_by-le-length is_some (set best w (Some d)) in
      let size = length-set best w (Some d) in
      let room = t.room in
      let count = t.count in
      omega arith

  -- w had no cost, and is in the list now
  pub touched_more : (touched' : Vec ℕ Global) → is_some (cost_at best w) ≡ false → touched'.items ≡ touched.items ++ w ∷ [] →
      vec_len touched' ≡ vec_len touched + 1 → vec_capacity touched' ≡ vec_capacity touched → IsTouched (set best w (Some d)) touched'
  touched_more touched' e items len capacity = record {
    room = (let size = length-set best w (Some d) in let room = t.room in omega arith);
    count = (let n = counted false e in let count = t.count in omega arith);
    reached = λ v h. elim (Contains-push_cases touched.items w v (subst (λ xs. Contains xs v) items h)) [
      | inl old ↦ keeps v (t.reached v old)
      | inr is ↦ ap (λ q. is_some (cost_at (set best w (Some d)) q)) (sym is) ∙ here
    ];
    listed = λ v k. subst (λ xs. Contains xs v) (sym items) (elim (cases_eq v w) [
      | inl is ↦ subst (Contains (touched.items ++ w ∷ [])) (sym is) (Contains-push touched.items w)
      | inr away ↦ Contains-append_left touched.items (w ∷ []) v (t.listed v (sym (other v away) ∙ k))
    ]);
    distinct = subst (AllPairs ◌≢◌) (sym items) (all_pairs_push ◌≢◌ touched.items w t.distinct
        (λ k x lt same. false≢true (sym e ∙ ap (λ q. is_some (cost_at best q)) (sym same)
        ∙ t.reached _ (Contains-get_or touched.items k x lt))));
  }

  -- w had a cost, and was in the list before
  pub touched_same : is_some (cost_at best w) ≡ true → IsTouched (set best w (Some d)) touched
  touched_same e = record {
    room = (let size = length-set best w (Some d) in let room = t.room in omega arith);
    count = (let n = counted true e in let count = t.count in omega arith);
    reached = λ v h. keeps v (t.reached v h);
    listed = λ v k. elim (cases_eq v w) [
      | inl is ↦ t.listed v (ap (λ q. is_some (cost_at best q)) is ∙ e)
      | inr away ↦ t.listed v (sym (other v away) ∙ k)
    ];
    distinct = t.distinct;
  }

-- a node with a cost is a node
pub some_within : (best : List (Option Cost)) (w : ℕ) → is_some (cost_at best w) ≡ true → w < length best
some_within best w e =
    elim (cases_lt w (length best)) [ inl lt ↦ lt | inr ge ↦ absurd (false≢true (sym (ap is_some (get_or_past best w None ge)) ∙ e)) ]

-- a list without costs has no cost at any node
pub none_known : (n v : ℕ) → cost_at (replicate n None) v ≡ None
none_known n v = elim (cases_lt v n) [
  | inl lt ↦ get_or-replicate {A = Option Cost} n v None None lt
  | inr ge ↦ get_or_past (replicate n None) v None (let size = length-replicate {A = Option Cost} n None in omega arith)
]

-- the cost of the last touched node is removed
module _ (best : List (Option Cost)) (touched touched' : Vec ℕ Global) (t : IsTouched best touched) (w : ℕ)
    (items : touched.items ≡ touched'.items ++ w ∷ [])
    (len : vec_len touched' + 1 ≡ vec_len touched) (capacity : vec_capacity touched' ≡ vec_capacity touched) where
  -- the last node has a cost
  was : is_some (cost_at best w) ≡ true
  was = t.reached w (subst (λ xs. Contains xs w) (sym items) (Contains-push touched'.items w))

  -- the last node is a node
  pub last_within : w < length best
  last_within = some_within best w was

  -- the last node is in the list once
  away : (v : ℕ) → Contains touched'.items v → v ≡ w → ⊥
  away v h same =
      let k = h.0 in
      let lt = h.1 in
      let n = length-append touched'.items (w ∷ []) in
      let pair = subst (AllPairs ◌≢◌) items t.distinct k (length touched'.items) v lt (omega arith) in
      pair (get_or_append_left touched'.items (w ∷ []) v k lt ∙ h.2 ∙ same
      ∙ sym (get_or_push touched'.items w v (length touched'.items) refl))

  -- the list is right without the last node, whose cost is removed
  pub touched_less : IsTouched (set best w None) touched'
  touched_less = record {
    room = (let size = length-set best w None in let room = t.room in omega arith);
    count =
        let before = sum_by-set (λ x. cond (is_some x) 1 0) best w None None last_within in
        let n = subst (λ q. count_by is_some (set best w None) + cond q 1 0 ≡ count_by is_some best + 0) was before in
        let count = t.count in
        omega arith;
    reached = λ v h. ap is_some (get_or-set_other best w v None None (away v h))
        ∙ t.reached v (subst (λ xs. Contains xs v) (sym items) (Contains-append_left touched'.items (w ∷ []) v h));
    listed = λ v k. elim (cases_eq v w) [
      | inl is ↦ absurd (false≢true
          (sym (ap is_some (ap (λ q. cost_at (set best w None) q) is ∙ get_or-set_same best w None None last_within)) ∙ k))
      | inr ne ↦ elim (Contains-push_cases touched'.items w v
          (subst (λ xs. Contains xs v) items (t.listed v (sym (ap is_some (get_or-set_other best w v None None ne)) ∙ k)))) [
            | inl old ↦ old
            | inr is ↦ absurd (ne (sym is))
          ]
    ];
    distinct = λ i j d lt within.
        let n = length-append touched'.items (w ∷ []) in
        let pair = subst (AllPairs ◌≢◌) items t.distinct i j d lt (omega arith) in
        λ same. pair (get_or_append_left touched'.items (w ∷ []) d i (omega arith) ∙ same
        ∙ sym (get_or_append_left touched'.items (w ∷ []) d j within));
  }

-- without costs no node is touched
pub untouched : (n : ℕ) (best : List (Option Cost)) (touched : Vec ℕ Global) → best ≡ replicate n None → touched.items ≡ [] →
    vec_len touched ≡ 0 →
    n ≤ vec_capacity touched → IsTouched best touched
untouched n best touched none items len capacity = record {
  room = (let size = ap length none in let same = length-replicate {A = Option Cost} n None in omega arith);
  count = len ∙ sym (ap (count_by is_some) none ∙ sum_by-replicate (λ (x : Option Cost). cond (is_some x) 1 0) n None ∙ omega arith);
  reached = λ v h. absurd (let lt = subst (λ xs. h.0 < length xs) items h.1 in omega arith);
  listed = λ v k. absurd (false≢true (sym (ap is_some (ap (λ xs. cost_at xs v) none ∙ none_known n v)) ∙ k));
  distinct = subst (AllPairs ◌≢◌) (sym items) (λ i j d lt within. absurd (omega arith));
}
