-- Whether a pair has a witness is decided: a plain search over chains finds exactly the witnesses.
use Rattle.std.proofs.Common.{◌≡◌, ℕ, suc, zero, ◌<◌, ◌≤◌, Bool, true, false, cond, List, [], ◌∷◌, length, Option, Some, None, refl}
use Rattle.std.proofs.Common.{sym, ◌∙◌, ap, subst, arith, inl, inr}
use Rattle.std.specs.Prelude.{◌⊎◌, ◌≢◌, ◌==◌, ◌&&◌, ◌||◌, nat_lt, nat_le, if◌then◌else◌, IsSome}
use Rattle.std.specs.List.{AllByRecursion}
use Rattle.std.proofs.lemmas.Bool.{cases_eq, eqb-true, eqb-false}
use Rattle.std.proofs.lemmas.Bool.Decides.{nat_tests}
use Rattle.std.proofs.lemmas.Option.{same_Some, none-some}
use Rattle.ch_graph.specs.declared.cost.Cost.{Cost}
use Rattle.ch_graph.specs.Cost.{IsAtMost, cost_sum, no_cost}
use Rattle.ch_contract.specs.Legs.{Label, Legs, IsChain, chain_cost, leg_cost, HasWitness, LeadsWithin}
use Rattle.ch_graph.proofs.CostOrder.{IsAtMost_refl, IsAtMost_trans, IsAtMost-no_cost}
use Rattle.ch_graph.proofs.CostSums.{IsAtMost-cost_sum}
use Rattle.ch_graph.proofs.Numbers.{not_eqb, eqb-refl}

-- whether a cost is at most another
abbrev is_at_most : Cost → Cost → Bool
is_at_most a b = nat_lt a.weight b.weight || (a.weight == b.weight && nat_le a.arcs b.arcs)

-- the less of two costs
abbrev cheaper : Option Cost → Option Cost → Option Cost
cheaper None b = b
cheaper (Some a) None = Some a
cheaper (Some a) (Some b) = if is_at_most a b then Some a else Some b

-- the least of the costs that f gives to the numbers below n
abbrev cheapest_below : ℕ → (ℕ → Option Cost) → Option Cost
cheapest_below zero f = None
cheapest_below (suc n) f = cheaper (f n) (cheapest_below n f)

-- the sum with a cost, if there is one
abbrev plus_cost : Cost → Option Cost → Option Cost
plus_cost c None = None
plus_cost c (Some d) = Some (cost_sum c d)

-- the least cost of a chain of at most k legs from u to w that visits no v after u
abbrev cheapest : ℕ → Legs → ℕ → ℕ → ℕ → ℕ → Option Cost
cheapest n L v w zero u = if u == w then Some no_cost else None
cheapest n L v w (suc k) u = if u == w then Some no_cost
    else cheapest_below n (λ x.
    elim (L u x) [ None ↦ None | Some l ↦ elim (x == v) [ true ↦ None | false ↦ plus_cost l.cost (cheapest n L v w k x) ] ])

-- whether there is a cost, and it is at most this one
abbrev costs_at_most : Option Cost → Cost → Bool
costs_at_most None c = false
costs_at_most (Some d) c = is_at_most d c

-- whether the search finds a witness
abbrev has_witness : ℕ → Legs → ℕ → ℕ → ℕ → Cost → ℕ → Bool
has_witness n L v u w c h = costs_at_most (cheapest n L v w h u) c

-- the test of two costs decides whether one is at most the other
is_at_most_true : (a b : Cost) → is_at_most a b ≡ true → IsAtMost a b
is_at_most_true a b h = (grind (arith, nat_tests), λ e. grind (arith, nat_tests))

is_at_most_false : (a b : Cost) → is_at_most a b ≡ false → IsAtMost b a
is_at_most_false a b h = (grind (arith, nat_tests), λ e. grind (arith, nat_tests))

at_most_is_true : (a b : Cost) → IsAtMost a b → is_at_most a b ≡ true
at_most_is_true a b h = grind (arith, nat_tests)

-- the cheaper of two costs is one of them
cheaper_one : (o p : Option Cost) (c : Cost) → cheaper o p ≡ Some c → (o ≡ Some c) ⊎ (p ≡ Some c)
cheaper_one None p c e = inr e
cheaper_one (Some a) None c e = inl e
cheaper_one (Some a) (Some b) c e = at (is_at_most a b) e
  where
    at : (t : Bool) → cond t (Some a) (Some b) ≡ Some c → (Some a ≡ Some c) ⊎ (Some b ≡ Some c)
    at true e' = inl e'
    at false e' = inr e'

-- o covers d: there is a cost, and it is at most d
abbrev Covers : Option Cost → Cost → Type 0
Covers o d = (c : Cost) × (o ≡ Some c) × IsAtMost c d

-- the cheaper of two costs covers each cost that one of them covers
cheaper_left : (o p : Option Cost) (d : Cost) → Covers o d → Covers (cheaper o p) d
cheaper_left None p d h = absurd (none-some _ h.1)
cheaper_left (Some a) None d h = h
cheaper_left (Some a) (Some b) d h = at (is_at_most a b) refl
  where
    at : (t : Bool) → is_at_most a b ≡ t → (c : Cost) × (cond t (Some a) (Some b) ≡ Some c) × IsAtMost c d
    at true e = h
    at false e = (b, refl, IsAtMost_trans b a d (is_at_most_false a b e) (subst (λ q. IsAtMost q d) (sym (same_Some _ _ h.1)) h.2))

cheaper_right : (o p : Option Cost) (d : Cost) → Covers p d → Covers (cheaper o p) d
cheaper_right None p d h = h
cheaper_right (Some a) None d h = absurd (none-some _ h.1)
cheaper_right (Some a) (Some b) d h = at (is_at_most a b) refl
  where
    at : (t : Bool) → is_at_most a b ≡ t → (c : Cost) × (cond t (Some a) (Some b) ≡ Some c) × IsAtMost c d
    at true e = (a, refl, IsAtMost_trans a b d (is_at_most_true a b e) (subst (λ q. IsAtMost q d) (sym (same_Some _ _ h.1)) h.2))
    at false e = h

-- the least cost of the numbers below n is the cost of one of them, and covers each cost that one covers
below_one : (n : ℕ) (f : ℕ → Option Cost) (c : Cost) → cheapest_below n f ≡ Some c → (x : ℕ) × (f x ≡ Some c)
below_one zero f c e = absurd (none-some _ e)
below_one (suc n) f c e = elim (cheaper_one (f n) (cheapest_below n f) c e) [ inl h ↦ (n, h) | inr h ↦ below_one n f c h ]

below_covers : (n : ℕ) (f : ℕ → Option Cost) (x : ℕ) (d : Cost) → x < n → Covers (f x) d → Covers (cheapest_below n f) d
below_covers zero f x d lt h = absurd (omega arith)
below_covers (suc n) f x d lt h = elim (cases_eq x n) [
  | inl here ↦ cheaper_left (f n) (cheapest_below n f) d (subst (λ q. Covers (f q) d) here h)
  | inr away ↦ cheaper_right (f n) (cheapest_below n f) d (below_covers n f x d (omega arith) h)
]

-- the sum of a cost and another, if there is another
plus_cost_one : (c : Cost) (o : Option Cost) (e : Cost) → plus_cost c o ≡ Some e → (d : Cost) × (o ≡ Some d) × (cost_sum c d ≡ e)
plus_cost_one c None e h = absurd (none-some _ h)
plus_cost_one c (Some d) e h = (d, refl, same_Some _ _ h)

plus_cost_covers : (c : Cost) (o : Option Cost) (d : Cost) → Covers o d → Covers (plus_cost c o) (cost_sum c d)
plus_cost_covers c None d h = absurd (none-some _ h.1)
plus_cost_covers c (Some a) d h =
    (cost_sum c a, refl, IsAtMost-cost_sum c c a d (IsAtMost_refl c) (subst (λ q. IsAtMost q d) (sym (same_Some _ _ h.1)) h.2))

-- the value of an option that has one
pub some_of : {A : Type 0} (o : Option A) → IsSome o → (x : A) × (o ≡ Some x)
some_of None h = cc
some_of (Some x) h = (x, refl)

module _ (n : ℕ) (L : Legs) (v w : ℕ) where
  -- the cost of one leg to x and then the cheapest rest
  abbrev step : ℕ → ℕ → Option Label → Bool → Option Cost
  step k x o b = elim o [ None ↦ None | Some l ↦ elim b [ true ↦ None | false ↦ plus_cost l.cost (cheapest n L v w k x) ] ]

  -- such a cost is that of a leg and a rest
  step_one : (k x : ℕ) (o : Option Label) (b : Bool) (c : Cost) → step k x o b ≡ Some c →
      (l : Label) × (o ≡ Some l) × (b ≡ false) × (d : Cost) × (cheapest n L v w k x ≡ Some d) × (cost_sum l.cost d ≡ c)
  step_one k x None b c e = absurd (none-some _ e)
  step_one k x (Some l) true c e = absurd (none-some _ e)
  step_one k x (Some l) false c e = let r = plus_cost_one l.cost (cheapest n L v w k x) c e in (l, refl, refl, r.0, r.1, r.2)

  step_covers : (k x : ℕ) (o : Option Label) (b : Bool) (l : Label) (d : Cost) → o ≡ Some l → b ≡ false →
      Covers (cheapest n L v w k x) d → Covers (step k x o b) (cost_sum l.cost d)
  step_covers k x o b l d e s h = rw (e, s) (plus_cost_covers l.cost (cheapest n L v w k x) d h)

  -- there is a chain from u to w of at most k legs and of cost c that visits no v after u
  abbrev Found : ℕ → ℕ → Cost → Type 0
  Found k u c = (xs : List ℕ) × IsChain L u w xs × (length xs ≤ k) × AllByRecursion (λ x. x ≢ v) xs × (chain_cost L u xs ≡ c)

  -- the empty chain, and a chain with one more leg in front
  at_end : (k u : ℕ) (c : Cost) → u ≡ w → no_cost ≡ c → Found k u c
  at_end k u c e f = ([], e, omega arith, tt, f)

  further : (k u x : ℕ) (c : Cost) (l : Label) (d : Cost) → L u x ≡ Some l → (x == v) ≡ false → cost_sum l.cost d ≡ c →
      Found k x d → Found (suc k) u c
  further k u x c l d e off sum rest =
      let short = rest.2 in (
        x ∷ rest.0,
        (rw e refl, rest.1),
        omega arith,
        (eqb-false x v off, rest.3),
        ap (λ o. cost_sum (leg_cost o) (chain_cost L x rest.0)) e ∙ ap (cost_sum l.cost) rest.4 ∙ sum,
      )

  -- the result of the search is the cost of such a chain
  found : (k u : ℕ) (c : Cost) → cheapest n L v w k u ≡ Some c → Found k u c
  found zero u c e = at (u == w) refl e
    where
      at : (b : Bool) → (u == w) ≡ b → cond b (Some no_cost) None ≡ Some c → Found zero u c
      at true s e' = at_end zero u c (eqb-true u w s) (same_Some _ _ e')
      at false s e' = absurd (none-some _ e')
  found (suc k) u c e = at (u == w) refl e (λ x d. found k x d)
    where
      at : (b : Bool) → (u == w) ≡ b → cond b (Some no_cost) (cheapest_below n (λ x. step k x (L u x) (x == v))) ≡ Some c →
          ((x : ℕ) (d : Cost) → cheapest n L v w k x ≡ Some d → Found k x d) → Found (suc k) u c
      at true s e' more = at_end (suc k) u c (eqb-true u w s) (same_Some _ _ e')
      at false s e' more =
          let one = below_one n (λ x. step k x (L u x) (x == v)) c e' in
          let r = step_one k one.0 (L u one.0) (one.0 == v) c one.1 in
          further k u one.0 c r.0 r.3 r.1 r.2 r.5 (more one.0 r.3 r.4)

  -- the result of the search is at most the cost of each such chain
  covered : (k u : ℕ) (xs : List ℕ) → IsChain L u w xs → length xs ≤ k → AllByRecursion (λ x. x ≢ v) xs →
      AllByRecursion (λ x. x < n) xs → Covers (cheapest n L v w k u) (chain_cost L u xs)
  covered zero u [] chain short away within = rw same_node (no_cost, refl, IsAtMost-no_cost _)
    where
      same_node : (u == w) ≡ true
      same_node = rw chain (eqb-refl w)
  covered zero u (x ∷ xs) chain short away within = absurd (omega arith)
  covered (suc k) u [] chain short away within = rw same_node (no_cost, refl, IsAtMost-no_cost _)
    where
      same_node : (u == w) ≡ true
      same_node = rw chain (eqb-refl w)
  covered (suc k) u (x ∷ xs) chain short away within = at (u == w) (covered k x xs chain.1 (omega arith) away.1 within.1)
    where
      at : (b : Bool) → Covers (cheapest n L v w k x) (chain_cost L x xs) →
          Covers (cond b (Some no_cost) (cheapest_below n (λ x. step k x (L u x) (x == v)))) (chain_cost L u (x ∷ xs))
      at true more = (no_cost, refl, IsAtMost-no_cost _)
      at false more =
          let l = some_of (L u x) chain.0 in
          let cost : chain_cost L u (x ∷ xs) ≡ cost_sum l.0.cost (chain_cost L x xs) =
          ap (λ o. cost_sum (leg_cost o) (chain_cost L x xs)) l.1 in
          below_covers n (λ x. step k x (L u x) (x == v)) x _ within.0
          (subst (Covers (step k x (L u x) (x == v))) (sym cost) (step_covers k x (L u x) (x == v) l.0 _ l.1 (not_eqb x v away.0) more))

-- the nodes of a chain are below n
chain_within : (n : ℕ) (L : Legs) (u w : ℕ) (xs : List ℕ) → LeadsWithin n L → IsChain L u w xs → AllByRecursion (λ x. x < n) xs
chain_within n L u w [] within chain = tt
chain_within n L u w (x ∷ xs) within chain = (within u x chain.0, chain_within n L x w xs within chain.1)

-- the test against a bound decides whether there is a cost within the bound
costs_at_most_one : (o : Option Cost) (c : Cost) → costs_at_most o c ≡ true → (d : Cost) × (o ≡ Some d) × IsAtMost d c
costs_at_most_one None c e = cc
costs_at_most_one (Some d) c e = (d, refl, is_at_most_true d c e)

costs_at_most_covered : (o : Option Cost) (c d : Cost) → Covers o d → IsAtMost d c → costs_at_most o c ≡ true
costs_at_most_covered None c d h le = absurd (none-some _ h.1)
costs_at_most_covered (Some a) c d h le =
    at_most_is_true a c (IsAtMost_trans a d c (subst (λ q. IsAtMost q d) (sym (same_Some _ _ h.1)) h.2) le)

-- a chain between different nodes has a leg
nonempty : (L : Legs) (u w : ℕ) (xs : List ℕ) → u ≢ w → IsChain L u w xs → 0 < length xs
nonempty L u w [] ne chain = absurd (ne chain)
nonempty L u w (x ∷ xs) ne chain = omega arith

-- the search returns true only if there is a witness, and it returns true if there is one
witness_found : (n : ℕ) (L : Legs) (v u w : ℕ) (c : Cost) (h : ℕ) → u ≢ w → u ≢ v → has_witness n L v u w c h ≡ true →
    HasWitness L v u w c h
witness_found n L v u w c h ne off e =
    let r = costs_at_most_one (cheapest n L v w h u) c e in
    let f = found n L v w h u r.0 r.1 in (
      f.0,
      record {
        chain = f.1;
        hops = (nonempty L u w f.0 ne f.1, f.2);
        away = (off, f.3);
        cheap =
            subst (λ q. IsAtMost q c) (sym f.4) r.2;
      },
    )

witness_covered : (n : ℕ) (L : Legs) (v u w : ℕ) (c : Cost) (h : ℕ) → LeadsWithin n L → HasWitness L v u w c h →
    has_witness n L v u w c h ≡ true
witness_covered n L v u w c h within x =
    let one = x.1 in
    costs_at_most_covered (cheapest n L v w h u) c (chain_cost L u x.0)
    (covered n L v w h u x.0 one.chain one.hops.1 one.away.1 (chain_within n L u w x.0 within one.chain)) one.cheap

-- whether a pair has a witness is decided
pub witness_or_none : (n : ℕ) (L : Legs) (v u w : ℕ) (c : Cost) (h : ℕ) → u ≢ w → u ≢ v → LeadsWithin n L →
    HasWitness L v u w c h ⊎ (HasWitness L v u w c h → ⊥)
witness_or_none n L v u w c h ne off within = at (has_witness n L v u w c h) refl
  where
    at : (b : Bool) → has_witness n L v u w c h ≡ b → HasWitness L v u w c h ⊎ (HasWitness L v u w c h → ⊥)
    at true e = inl (witness_found n L v u w c h ne off e)
    at false e = inr (λ x. let t = witness_covered n L v u w c h within x in cc)
