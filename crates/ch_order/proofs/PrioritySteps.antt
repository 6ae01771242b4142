-- The priorities of the remaining nodes, as an order of contraction grows.
use Rattle.std.proofs.Common.{◌≡◌, ℕ, ◌+◌, ◌<◌, ◌≤◌, max, Bool, true, false, List, [], ◌∷◌, ◌++◌, length, Option, Some, None, refl}
use Rattle.std.proofs.Common.{sym, ◌∙◌, subst, arith, inl, inr, Contains}
use Rattle.std.specs.Prelude.{◌≢◌, slice_index, ℤ, ◌≤ℤ◌}
use Rattle.std.proofs.lemmas.Bool.{cases_lt}
use Rattle.std.proofs.lemmas.List.{get_or_past, length_push}
use Rattle.std.proofs.lemmas.List.Elements.{Contains-append_left, Contains-push, Contains-push_cases}
use Rattle.std.proofs.lemmas.Option.{same_Some, none-some}
use Rattle.ch_queue.specs.Queue.{key_of, HasNone}
use Rattle.ch_order.specs.declared.keys.Keys.{Keys}
use Rattle.ch_contract.specs.Legs.{Legs}
use Rattle.ch_contract.specs.Contraction.{IsPriorityBy}
use Rattle.ch_contract.specs.Order.{are_neighbours, depth_after}
use Rattle.ch_contract.specs.Like.{IsPriorityFrom}
use Rattle.ch_order.specs.Progress.{HasPriority, IsNext, IsExactUpTo, IsKeyBy}
use Rattle.ch_order.specs.Priorities.{AreRefreshed}
use Rattle.ch_hierarchy.proofs.theory.Ordered.{contains_or_not}
use Rattle.ch_order.proofs.KeyBounds.{exact_first}
use Rattle.ch_contract.proofs.theory.OneInTurn.{from_along}
use Rattle.ch_contract.proofs.theory.OrderSteps.{ComesBefore, then_legs, last_touch, untouched_more, touched_more, more, legs_more}
use Rattle.ch_contract.proofs.theory.OrderSteps.{here, agree, now, next}

-- p is the key of a node after these steps: its priority, or if it is above the greatest exact key, at most its priority
abbrev pub IsKeyFrom : ℕ → Keys → ℕ → ℕ → List ℕ → (ℕ → Legs) → ℕ → ℕ → ℤ → Type 0
IsKeyFrom k keys n h order L i x p = (q : ℤ) × IsPriorityFrom k keys.by n h order L i x q × IsExactUpTo keys.exact q p

-- each remaining node has its key after these steps, and no contracted node has a key
pub record AreKept (k : ℕ) (by : Keys) (n h : ℕ) (order : List ℕ) (L : ℕ → Legs) (keys : List (Option ℤ)) : Type 0 where
  pub size : length keys ≡ n
  pub left : (x : ℕ) → x < n → (Contains order x → ⊥) →
      (p : ℤ) × (key_of keys x ≡ Some p) × IsKeyFrom k by n h order L (length order) x p
  pub taken : (x : ℕ) → Contains order x → key_of keys x ≡ None

-- a node with a key is below the number of keys
pub key_within : (keys : List (Option ℤ)) (x : ℕ) (p : ℤ) → key_of keys x ≡ Some p → x < length keys
key_within keys x p e = elim (cases_lt x (length keys)) [
  | inl lt ↦ lt
  | inr past ↦ absurd (none-some p (sym (get_or_past keys x None past) ∙ e))
]

-- when the nodes that remain are judged after the given ones, each has its key
pub kept_ranked : (by : Keys) (n h : ℕ) (given : List ℕ) (L : ℕ → Legs) (depth : ℕ → ℕ) (others : List ℕ)
    (before after : List (Option ℤ)) → length before ≡ n → HasNone before → ((x : ℕ) → depth x ≡ depth_after given L (length given) x) →
    ((x : ℕ) → x < n → (Contains given x → ⊥) → Contains others x) → ((x : ℕ) → Contains given x → Contains others x → ⊥) →
    AreRefreshed (IsKeyBy by n h (L (length given)) depth) others before after → AreKept (length given) by n h given L after
kept_ranked by n h given L depth others before after size none deep whole apart r = record {
  size = r.size ∙ size;
  left = λ x lt away.
      let k : ℕ = length given in
      let p = r.anew x (whole x lt away) in
      let touch = last_touch given L k x in
      let within = touch.1.within in
      let here : k ≡ max k touch.0 = omega arith in
      let q = p.2 in
      let is = subst (λ (f : ℕ → ℕ). IsPriorityBy by.by n h (L k) f x q.0) (λ t y. deep y t) q.1 in
      (p.0, p.1, (q.0, (touch.0, touch.1, subst (λ z. IsPriorityBy by.by n h (L z) (depth_after given L z) x q.0) here is), q.2));
  taken = λ x has. r.kept x (apart x has) ∙ none x;
}

module _ (k : ℕ) (by : Keys) (n h : ℕ) (order : List ℕ) (L : ℕ → Legs) (keys : List (Option ℤ)) (a : AreKept k by n h order L keys) where
  -- if no node has a key, all are contracted
  pub all_taken : HasNone keys → (x : ℕ) → x < n → Contains order x
  all_taken none x lt = elim (contains_or_not order x) [
    | inl has ↦ has
    | inr away ↦ let r = a.left x lt away in absurd (none-some r.0 (sym (none x) ∙ r.1))
  ]

module _ (k : ℕ) (by : Keys) (n h : ℕ) (order : List ℕ) (L : ℕ → Legs) (keys : List (Option ℤ))
    (a : AreKept k by n h order L keys) (v : ℕ) (f : IsNext keys v) where
  -- the next node is below the number of nodes
  pub next_within : v < n
  next_within = let lt = key_within keys v f.priority f.has in let size = a.size in omega arith

  -- the next node is not contracted yet
  pub next_left : Contains order v → ⊥
  next_left has = none-some f.priority (sym (a.taken v has) ∙ f.has)

  -- if its key is exact, the next node comes before all remaining nodes
  pub next_first : f.priority ≤ℤ by.exact → (x : ℕ) → x < n → (Contains order x → ⊥) → ComesBefore k by.by n h order L (length order) v x
  next_first small x lt away =
      let mine = a.left v next_within next_left in
      let same : mine.0 ≡ f.priority = same_Some _ _ (sym mine.1 ∙ f.has) in
      let other = a.left x lt away in
      let own = subst (λ p. IsKeyFrom k by n h order L (length order) v p) same mine.2 in (
        own.0,
        other.2.0,
        own.1,
        other.2.1,
        exact_first by.exact f.priority own.0 other.0 other.2.0 v x small own.2 other.2.2 (f.first x other.0 other.1),
      )

module _ (k : ℕ) (by : Keys) (n h : ℕ) (order : List ℕ) (L : ℕ → Legs) (keys : List (Option ℤ))
    (a : AreKept k by n h order L keys) (from : k ≤ length order) (v : ℕ) (M : Legs) (after : List (Option ℤ))
    (size : length after ≡ length keys) (taken : key_of after v ≡ None) (v_left : Contains order v → ⊥) (depth : ℕ → ℕ)
    (deep : (x : ℕ) → depth x ≡ depth_after (more order L v M) (legs_more order L v M) (length order + 1) x)
    (anew : (x : ℕ) → are_neighbours (L (length order)) v x ≡ true → HasPriority (IsKeyBy by n h M depth) after x)
    (kept : (x : ℕ) → x ≢ v → are_neighbours (L (length order)) v x ≡ false → key_of after x ≡ key_of keys x)
    (gone : (x : ℕ) → Contains order x → are_neighbours (L (length order)) v x ≡ false) where
  -- a neighbour gets its key with the legs after the step, and the others keep theirs
  priority_of : (b : Bool) (x : ℕ) → are_neighbours (L (length order)) v x ≡ b → x < n → x ≢ v → (Contains order x → ⊥) →
      (p : ℤ) × (key_of after x ≡ Some p) × IsKeyFrom k by n h (more order L v M) (legs_more order L v M) (length order + 1) x p
  priority_of b x e lt ne away = at b e
    where
      same : are_neighbours (legs_more order L v M (length order)) (slice_index (more order L v M) (length order)) x
          ≡ are_neighbours (L (length order)) v x
      same = λ i. are_neighbours (now order L v M i) (here order L v M i) x

      at : (b : Bool) → are_neighbours (L (length order)) v x ≡ b →
          (p : ℤ) × (key_of after x ≡ Some p) × IsKeyFrom k by n h (more order L v M) (legs_more order L v M) (length order + 1) x p
      at true e =
          let r = anew x e in
          let q = r.2 in
          let deeper = subst (λ (f : ℕ → ℕ). IsPriorityBy by.by n h M f x q.0) (λ t y. deep y t) q.1 in
          let depths = depth_after (more order L v M) (legs_more order L v M) (length order + 1) in
          let last : length order + 1 ≡ max k (length order + 1) = omega arith in
          let is = subst (λ (N : Legs). IsPriorityBy by.by n h N depths x q.0) (sym (next order L v M)) deeper in (
            r.0,
            r.1,
            (
              q.0,
              (
                length order + 1,
                touched_more (more order L v M) (legs_more order L v M) (length order) x (same ∙ e),
                subst (λ z. IsPriorityBy by.by n h (legs_more order L v M z) (depth_after (more order L v M) (legs_more order L v M) z) x
                    q.0) last is,
              ),
              q.2,
            ),
          )
      at false e =
          let r = a.left x lt away in
          let q = r.2 in
          let along = from_along k by.by n h (length order) order L (more order L v M) (legs_more order L v M) x q.0 from
          (agree order L v M) q.1 in (
            r.0,
            kept x ne e ∙ r.1,
            (
              q.0,
              (along.0, untouched_more (more order L v M) (legs_more order L v M) (length order) x along.0 (same ∙ e) along.1, along.2),
              q.2,
            ),
          )

  -- the new keys are those for the longer order
  pub kept_more : AreKept k by n h (order ++ v ∷ []) (then_legs (length order) L M) after
  kept_more = record {
    size = size ∙ a.size;
    left = λ x lt away.
        let ne : x ≢ v = λ e. away (subst (Contains (order ++ v ∷ [])) (sym e) (Contains-push order v)) in
        let r = priority_of (are_neighbours (L (length order)) v x) x refl lt ne
        (λ has. away (Contains-append_left order (v ∷ []) x has)) in
        (r.0, r.1, subst (λ z. IsKeyFrom k by n h (more order L v M) (legs_more order L v M) z x r.0) (sym (length_push order v)) r.2);
    taken = λ x has. elim (Contains-push_cases order v x has) [
      | inl earlier ↦ kept x (λ e. v_left (subst (Contains order) e earlier)) (gone x earlier) ∙ a.taken x earlier
      | inr e ↦ subst (λ z. key_of after z ≡ None) e taken
    ];
  }
