-- The known costs while they are lowered one after the other.
use Rattle.std.proofs.Common.{◌≡◌, ℕ, ◌<◌, List, [], ◌∷◌, ◌++◌, length, set, Contains, refl, sym, ◌∙◌, ap, subst, arith, inl, inr}
use Rattle.std.specs.Prelude.{◌⊎◌, ◌≢◌, ◌↔◌, Bool, true, false, IsTrue}
use Rattle.std.proofs.lemmas.Bool.{cases_eq}
use Rattle.std.proofs.lemmas.List.{length-set, get_or-set_same, get_or-set_other}
use Rattle.std.proofs.lemmas.List.Elements.{Contains-append_left, Contains-append_right, Contains-push, Contains-push_cases}
use Rattle.ch_graph.specs.declared.cost.Cost.{Cost}
use Rattle.ch_graph.specs.Cost.{IsAtMost, cost_sum}
use Rattle.ch_hierarchy.specs.declared.leg.Leg.{Leg}
use Rattle.ch_contract.specs.declared.witness_search.Wanted.{Wanted}
use Rattle.ch_contract.specs.HeldCosts.{never}
use Rattle.ch_contract.specs.KnownCosts.{Known, ChainStart, known_in, known_at, Lowers, IsOnly, IsOnlyWhere, IsOneMore, IsOneMoreOf}
use Rattle.ch_contract.specs.KnownCosts.{step_to}
use Rattle.ch_hierarchy.specs.Rows.{row}
use Rattle.ch_graph.proofs.CostOrder.{IsAtMost_refl, IsAtMost_trans, IsAtMost_or_IsBelow, IsBelow-IsAtMost}

-- the known costs stay if each cost with P is at least the known one
pub lowers_none : (P : ℕ → Cost → Type 0) (h : Known) → ((x : ℕ) (d : Cost) → P x d → IsAtMost (known_at h x) d) → Lowers P h h
lowers_none P h whole = record {
  size = refl;
  sound = λ x. inl refl;
  lower = λ x. IsAtMost_refl (known_at h x);
  whole = whole;
  fresh = λ x. inl refl;
  next = λ f c. inl c;
  next_kept = λ f c. c;
  touched_kept = λ x c. c;
  touched = λ x c. inl c;
}

-- P may be replaced by a property that the same costs have
pub lowers_as : (P Q : ℕ → Cost → Type 0) (a b : Known) → ((x : ℕ) (d : Cost) → P x d → Q x d) → ((x : ℕ) (d : Cost) → Q x d → P x d) →
    Lowers P a b → Lowers Q a b
lowers_as P Q a b there back p = record {
  size = p.size;
  sound = λ x. sound x (p.sound x);
  lower = p.lower;
  whole = λ x d m. p.whole x d (back x d m);
  fresh = p.fresh;
  next = λ f m. next f (p.next f m);
  next_kept = p.next_kept;
  touched_kept = p.touched_kept;
  touched = p.touched;
}
  where
    sound : (x : ℕ) → (known_at b x ≡ known_at a x) ⊎ P x (known_at b x) → (known_at b x ≡ known_at a x) ⊎ Q x (known_at b x)
    sound x (inl e) = inl e
    sound x (inr m) = inr (there x _ m)

    next : (f : ChainStart) → Contains a.next f ⊎ P f.node f.cost → Contains a.next f ⊎ Q f.node f.cost
    next f (inl m) = inl m
    next f (inr m) = inr (there f.node f.cost m)

-- lowering to the costs with P and then to the costs with Q lowers to the costs with R, if R is their union
pub lowers_then : (P Q R : ℕ → Cost → Type 0) (a b c : Known) → ((x : ℕ) (d : Cost) → P x d → R x d) →
    ((x : ℕ) (d : Cost) → Q x d → R x d) →
    ((x : ℕ) (d : Cost) → R x d → P x d ⊎ Q x d) → Lowers P a b → Lowers Q b c → Lowers R a c
lowers_then P Q R a b c first second either p q = record {
  size = q.size ∙ p.size;
  sound = λ x. sound x (q.sound x) (p.sound x);
  lower = λ x. IsAtMost_trans (known_at c x) (known_at b x) (known_at a x) (q.lower x) (p.lower x);
  whole = λ x d r. whole x d (either x d r);
  fresh = λ x. fresh x (q.fresh x) (p.fresh x);
  next = λ f m. next f (q.next f m);
  next_kept = λ f m. q.next_kept f (p.next_kept f m);
  touched_kept = λ x m. q.touched_kept x (p.touched_kept x m);
  touched = λ x m. touched x (q.touched x m);
}
  where
    sound : (x : ℕ) → (known_at c x ≡ known_at b x) ⊎ Q x (known_at c x) → (known_at b x ≡ known_at a x) ⊎ P x (known_at b x) →
        (known_at c x ≡ known_at a x) ⊎ R x (known_at c x)
    sound x (inr m) _ = inr (second x _ m)
    sound x (inl e) (inl f) = inl (e ∙ f)
    sound x (inl e) (inr m) = inr (subst (R x) (sym e) (first x _ m))

    whole : (x : ℕ) (d : Cost) → P x d ⊎ Q x d → IsAtMost (known_at c x) d
    whole x d (inl m) = IsAtMost_trans (known_at c x) (known_at b x) d (q.lower x) (p.whole x d m)
    whole x d (inr m) = q.whole x d m

    fresh : (x : ℕ) → (known_at c x ≡ known_at b x) ⊎ (Contains c.next (step_to x (known_at c x)) × Contains c.touched x) →
        (known_at b x ≡ known_at a x) ⊎ (Contains b.next (step_to x (known_at b x)) × Contains b.touched x) →
        (known_at c x ≡ known_at a x) ⊎ (Contains c.next (step_to x (known_at c x)) × Contains c.touched x)
    fresh x (inr m) _ = inr m
    fresh x (inl e) (inl f) = inl (e ∙ f)
    fresh x (inl e) (inr m) = inr (subst (λ z. Contains c.next (step_to x z)) (sym e) (q.next_kept _ m.0), q.touched_kept x m.1)

    touched : (x : ℕ) → Contains b.touched x ⊎ (x < length b.costs) → Contains a.touched x ⊎ (x < length a.costs)
    touched x (inl m) = p.touched x m
    touched x (inr lt) = let size = p.size in inr (omega arith)

    next : (f : ChainStart) → Contains b.next f ⊎ Q f.node f.cost → Contains a.next f ⊎ R f.node f.cost
    next f (inr m) = inr (second f.node f.cost m)
    next f (inl m) = early f (p.next f m)
      where
        early : (g : ChainStart) → Contains a.next g ⊎ P g.node g.cost → Contains a.next g ⊎ R g.node g.cost
        early g (inl n) = inl n
        early g (inr n) = inr (first g.node g.cost n)

-- the known costs after one cost is stored at one node
pub lowers_here : (node : ℕ) (cost : Cost) (old new : Known) → node < length old.costs → IsAtMost cost (known_at old node) →
    new.costs ≡ set old.costs node cost → new.next ≡ old.next ++ step_to node cost ∷ [] →
    new.touched ≡ old.touched ++ node ∷ [] → Lowers (IsOnly node cost) old new
lowers_here node cost old new inside less costs next touched = record {
  size = ap length costs ∙ length-set old.costs node cost;
  sound = λ x. sound x (cases_eq x node);
  lower = λ x. lower x (cases_eq x node);
  whole = λ x d m. subst (λ z. IsAtMost (known_at new z) d) (sym m.0)
      (subst (λ z. IsAtMost z d) (sym here) (subst (IsAtMost cost) (sym m.1) (IsAtMost_refl cost)));
  fresh = λ x. fresh x (cases_eq x node);
  next = λ f m. from f (Contains-push_cases old.next (step_to node cost) f (subst (λ z. Contains z f) next m));
  next_kept = λ f m. subst (λ z. Contains z f) (sym next) (Contains-append_left old.next _ _ m);
  touched_kept = λ x m. subst (λ z. Contains z x) (sym touched) (Contains-append_left old.touched _ _ m);
  touched = λ x m. was x (Contains-push_cases old.touched node x (subst (λ z. Contains z x) touched m));
}
  where
    here : known_at new node ≡ cost
    here = ap (λ l. known_in l node) costs ∙ get_or-set_same old.costs node cost never inside

    there : (x : ℕ) → x ≢ node → known_at new x ≡ known_at old x
    there x ne = ap (λ l. known_in l x) costs ∙ get_or-set_other old.costs node x cost never ne

    sound : (x : ℕ) → (x ≡ node) ⊎ (x ≢ node) → (known_at new x ≡ known_at old x) ⊎ IsOnly node cost x (known_at new x)
    sound x (inl e) = inr (e, ap (known_at new) e ∙ here)
    sound x (inr ne) = inl (there x ne)

    lower : (x : ℕ) → (x ≡ node) ⊎ (x ≢ node) → IsAtMost (known_at new x) (known_at old x)
    lower x (inl e) = subst (λ z. IsAtMost (known_at new z) (known_at old z)) (sym e)
        (subst (λ z. IsAtMost z (known_at old node)) (sym here) less)
    lower x (inr ne) = subst (IsAtMost (known_at new x)) (there x ne) (IsAtMost_refl (known_at new x))

    stands : Contains new.next (step_to node (known_at new node)) × Contains new.touched node
    stands = (
      subst (λ z. Contains z (step_to node (known_at new node))) (sym next)
          (subst (λ z. Contains (old.next ++ step_to node cost ∷ []) (step_to node z)) (sym here)
          (Contains-push old.next (step_to node cost))),
      subst (λ z. Contains z node) (sym touched) (Contains-push old.touched node),
    )

    fresh : (x : ℕ) → (x ≡ node) ⊎ (x ≢ node) →
        (known_at new x ≡ known_at old x) ⊎ (Contains new.next (step_to x (known_at new x)) × Contains new.touched x)
    fresh x (inl e) = inr (subst (λ z. Contains new.next (step_to z (known_at new z)) × Contains new.touched z) (sym e) stands)
    fresh x (inr ne) = inl (there x ne)

    was : (x : ℕ) → Contains old.touched x ⊎ (node ≡ x) → Contains old.touched x ⊎ (x < length old.costs)
    was x (inl m) = inl m
    was x (inr e) = inr (omega arith)

    from : (f : ChainStart) → Contains old.next f ⊎ (step_to node cost ≡ f) → Contains old.next f ⊎ IsOnly node cost f.node f.cost
    from f (inl m) = inl m
    from f (inr e) = inr (ap (λ (z : ChainStart). z.node) (sym e), ap (λ (z : ChainStart). z.cost) (sym e))

-- without legs no leg is put in front of a chain
pub no_more : (f : ChainStart) (s : Wanted) (x : ℕ) (d : Cost) → IsOneMore [] f s x d → ⊥
no_more f s x d m = let at = m.1.1 in omega arith

-- one leg lowers the known costs if its chain is wanted
pub leg_where : (l : Leg) (f : ChainStart) (s : Wanted) (is_wanted : Bool) (a b : Known) →
    (IsTrue is_wanted ↔ (IsAtMost (cost_sum l.cost f.cost) s.most × (l.node ≢ s.avoided))) →
    Lowers (IsOnlyWhere is_wanted l.node (cost_sum l.cost f.cost)) a b → Lowers (IsOneMore (l ∷ []) f s) a b
leg_where l f s is_wanted a b tells =
    lowers_as (IsOnlyWhere is_wanted l.node (cost_sum l.cost f.cost)) (IsOneMore (l ∷ []) f s) a b there back
  where
    there : (x : ℕ) (d : Cost) → IsOnlyWhere is_wanted l.node (cost_sum l.cost f.cost) x d → IsOneMore (l ∷ []) f s x d
    there x d m = (
      l,
      Contains-push [] l,
      sym m.1.0,
      (λ e. (tells.0 m.0).1 (sym m.1.0 ∙ e)),
      m.1.1,
      subst (λ z. IsAtMost z s.most) (sym m.1.1) (tells.0 m.0).0,
    )

    back : (x : ℕ) (d : Cost) → IsOneMore (l ∷ []) f s x d → IsOnlyWhere is_wanted l.node (cost_sum l.cost f.cost) x d
    back x d m = elim (Contains-push_cases [] l m.0 m.1) [
      | inl early ↦ absurd (no_more f s x d (m.0, early, m.2, m.3, m.4, m.5))
      | inr same ↦
          let at : x ≡ l.node = sym m.2 ∙ ap (λ (z : Leg). z.node) (sym same) in
          let costs : d ≡ cost_sum l.cost f.cost = m.4 ∙ ap (λ (z : Leg). cost_sum z.cost f.cost) (sym same) in
          (tells.1 (subst (λ z. IsAtMost z s.most) costs m.5, λ e. m.3 (at ∙ e)), (at, costs))
    ]

-- the known costs after one more leg, wanted or not
pub legs_more : (taken : List Leg) (l : Leg) (f : ChainStart) (s : Wanted) (a b c : Known) → Lowers (IsOneMore taken f s) a b →
    Lowers (IsOneMore (l ∷ []) f s) b c → Lowers (IsOneMore (taken ++ l ∷ []) f s) a c
legs_more taken l f s a b c = lowers_then (IsOneMore taken f s) (IsOneMore (l ∷ []) f s) (IsOneMore (taken ++ l ∷ []) f s) a b c
    (λ x d m. (m.0, Contains-append_left taken _ _ m.1, m.2, m.3, m.4, m.5))
    (λ x d m. (m.0, Contains-append_right taken _ _ m.1, m.2, m.3, m.4, m.5)) either
  where
    either : (x : ℕ) (d : Cost) → IsOneMore (taken ++ l ∷ []) f s x d → IsOneMore taken f s x d ⊎ IsOneMore (l ∷ []) f s x d
    either x d m = elim (Contains-push_cases taken l m.0 m.1) [
      | inl early ↦ inl (m.0, early, m.2, m.3, m.4, m.5)
      | inr same ↦ inr (m.0, subst (Contains (l ∷ [])) same (Contains-push [] l), m.2, m.3, m.4, m.5)
    ]

-- the known costs after one more step
pub one_step_more : (lists : List (List Leg)) (taken : List ChainStart) (f : ChainStart) (s : Wanted) (a b c : Known) →
    Lowers (IsOneMoreOf lists taken s) a b → Lowers (IsOneMore (row lists f.node) f s) b c →
    Lowers (IsOneMoreOf lists (taken ++ f ∷ []) s) a c
one_step_more lists taken f s a b c =
    lowers_then (IsOneMoreOf lists taken s) (IsOneMore (row lists f.node) f s) (IsOneMoreOf lists (taken ++ f ∷ []) s) a b c
    (λ x d m. (m.0, Contains-append_left taken _ _ m.1, m.2)) (λ x d m. (f, Contains-push taken f, m)) either
  where
    either : (x : ℕ) (d : Cost) → IsOneMoreOf lists (taken ++ f ∷ []) s x d →
        IsOneMoreOf lists taken s x d ⊎ IsOneMore (row lists f.node) f s x d
    either x d m = elim (Contains-push_cases taken f m.0 m.1) [
      | inl early ↦ inl (m.0, early, m.2)
      | inr same ↦ inr (subst (λ z. IsOneMore (row lists z.node) z s x d) (sym same) m.2)
    ]

-- if a is not at most b, b is at most a
pub dearer : (a b : Cost) (r : Bool) → (IsTrue r ↔ IsAtMost a b) → r ≡ false → IsAtMost b a
dearer a b r tells failed = elim (IsAtMost_or_IsBelow a b) [
  | inl at_most ↦ let yes : r ≡ true = tells.1 at_most in cc
  | inr below ↦ IsBelow-IsAtMost b a below
]
