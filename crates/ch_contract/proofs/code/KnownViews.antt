-- The costs of held costs, in each form.
use Rattle.std.proofs.Common.{◌≡◌, ℕ, ◌<◌, Bool, true, false, List, [], ◌∷◌, ◌++◌, length, map, set, get_or, All, Contains, sym}
use Rattle.std.proofs.Common.{◌∙◌, ap, subst, arith, inl, inr}
use Rattle.std.specs.Prelude.{◌⊎◌, ◌≢◌, if◌then◌else◌}
use Rattle.std.proofs.lemmas.Bool.{cases_eq}
use Rattle.std.proofs.Math.Seq.{map-set_same}
use Rattle.std.proofs.lemmas.List.{get_or-map, length-map, length-set, map-set, map-append, get_or-set_same, get_or-set_other}
use Rattle.std.proofs.lemmas.List.Elements.{All-contains, All-from_get_or, Contains-get_or, Contains-append_left, Contains-push}
use Rattle.std.proofs.lemmas.List.Elements.{Contains-push_cases}
use Rattle.ch_graph.specs.declared.cost.Cost.{Cost}
use Rattle.ch_graph.specs.Cost.{IsAtMost}
use Rattle.ch_contract.specs.declared.known_costs.KnownCosts.{KnownCosts}
use Rattle.ch_contract.specs.declared.known_costs.Step.{Step}
use Rattle.ch_contract.specs.HeldCosts.{never}
use Rattle.ch_contract.specs.KnownCosts.{known_in, known_at, AreTouched, known_of, chain_start_of, Lowers, IsOnly}
use Rattle.ch_contract.proofs.code.Lowering.{lowers_here, lowers_none}

-- the known cost of a node is the cost of its held cost
pub known_cost_of : {K : Type 0} (cost : K → Cost) (h : KnownCosts K) (x : ℕ) (d : K) → x < length h.costs.items →
    known_at (known_of cost h) x ≡ cost (get_or h.costs.items x d)
known_cost_of cost h x d lt = get_or-map cost h.costs.items x d never lt

-- a property of all values of a mapped list holds of all elements after the mapping
pub all_mapped : {X Y : Type 0} (P : Y → Type 0) (f : X → Y) (xs : List X) → All P (map f xs) → All (λ x. P (f x)) xs
all_mapped P f xs all k d lt = subst P (get_or-map f xs k d (f d) lt) (all k (f d) (omega (arith, length-map xs f)))

-- if the test holds, the value is appended
pub pushed : {X : Type 0} (b : Bool) (new old : List X) (x : X) → new ≡ (if b then old ++ x ∷ [] else old) → b ≡ true → new ≡ old ++ x ∷ []
pushed b new old x is holds = is ∙ ap (λ t. if t then old ++ x ∷ [] else old) holds

-- if the test fails, nothing is appended
pub not_pushed : {X : Type 0} (b : Bool) (new old : List X) (x : X) → new ≡ (if b then old ++ x ∷ [] else old) → b ≡ false → new ≡ old
not_pushed b new old x is fails = is ∙ ap (λ t. if t then old ++ x ∷ [] else old) fails

-- the known costs after one held cost is stored at one node
pub lowers_one : {K : Type 0} (cost : K → Cost) (old : KnownCosts K) (node : ℕ) (held_cost : K) (touched : List ℕ)
    (next : List (Step K)) → node < length old.costs.items →
    IsAtMost (cost held_cost) (known_at (known_of cost old) node) → touched ≡ old.touched.items ++ node ∷ [] →
    next ≡ old.next.items ++ record { node = node; cost = held_cost } ∷ [] →
    Lowers (IsOnly node (cost held_cost)) (known_of cost old)
    (record { costs = map cost (set old.costs.items node held_cost); touched = touched; next = map (chain_start_of cost) next })
lowers_one cost old node held_cost touched next inside less is_touched is_next =
    lowers_here node (cost held_cost) (known_of cost old) _ (omega (arith, length-map old.costs.items cost)) less
    (map-set cost old.costs.items node held_cost)
    (ap (map (chain_start_of cost)) is_next
    ∙ map-append (chain_start_of cost) old.next.items (record { node = node; cost = held_cost } ∷ [])) is_touched

-- the known costs stay if the cost is not less and the known one is stored again
pub lowers_nothing : {K : Type 0} (cost : K → Cost) (old : KnownCosts K) (node : ℕ) (put d : K) (touched : List ℕ)
    (next : List (Step K)) (P : ℕ → Cost → Type 0) →
    put ≡ get_or old.costs.items node d → touched ≡ old.touched.items → next ≡ old.next.items →
    ((x : ℕ) (e : Cost) → P x e → IsAtMost (known_at (known_of cost old) x) e) →
    Lowers P (known_of cost old)
    (record { costs = map cost (set old.costs.items node put); touched = touched; next = map (chain_start_of cost) next })
lowers_nothing cost old node put d touched next P same is_touched is_next whole =
    let h = known_of cost old in
    let costs = map-set_same cost old.costs.items node put d (ap cost same) in
    subst (λ z. Lowers P h (record { costs = z; touched = touched; next = map (chain_start_of cost) next })) (sym costs)
    (subst (λ z. Lowers P h (record { costs = h.costs; touched = z; next = map (chain_start_of cost) next })) (sym is_touched)
    (subst (λ z. Lowers P h (record { costs = h.costs; touched = h.touched; next = map (chain_start_of cost) z })) (sym is_next)
    (lowers_none P h whole)))

-- the known costs after the last touched node is put to rest
pub touched_less : {K : Type 0} (cost : K → Cost) (h : KnownCosts K) (node : ℕ) (held_cost : K) (rest : List ℕ) →
    cost held_cost ≡ never → h.touched.items ≡ rest ++ node ∷ [] → AreTouched (known_of cost h) →
    AreTouched (record {
      costs = map cost (set h.costs.items node held_cost);
      touched = rest;
      next =
          map (chain_start_of cost) h.next.items;
    })
touched_less cost h node held_cost rest none touched t = record {
  each = λ x. each x (cases_eq x node) (t.each x);
  within = All-from_get_or (λ x. x < length (map cost (set h.costs.items node held_cost))) rest 0
      (λ i lt. inside _ (subst (λ z. Contains z (get_or rest i 0)) (sym touched)
      (Contains-append_left rest _ _ (Contains-get_or rest i 0 lt))));
}
  where
    same : map cost (set h.costs.items node held_cost) ≡ set (map cost h.costs.items) node (cost held_cost)
    same = map-set cost h.costs.items node held_cost

    inside : (x : ℕ) → Contains h.touched.items x → x < length (map cost (set h.costs.items node held_cost))
    inside x c =
        let lt = All-contains (λ y. y < length (map cost h.costs.items)) h.touched.items x t.within c in
        omega (arith, ap length same, length-set (map cost h.costs.items) node (cost held_cost))

    each : (x : ℕ) → (x ≡ node) ⊎ (x ≢ node) → (known_at (known_of cost h) x ≡ never) ⊎ Contains h.touched.items x →
        (known_in (map cost (set h.costs.items node held_cost)) x ≡ never) ⊎ Contains rest x
    each x (inl e) _ =
        let lt = All-contains (λ y. y < length (map cost h.costs.items)) h.touched.items node t.within
        (subst (λ z. Contains z node) (sym touched) (Contains-push rest node)) in
        inl (ap (known_in (map cost (set h.costs.items node held_cost))) e ∙ ap (λ z. known_in z node) same
        ∙ get_or-set_same (map cost h.costs.items) node (cost held_cost) never lt ∙ none)
    each x (inr ne) (inl at_rest) = inl
        (ap (λ z. known_in z x) same ∙ get_or-set_other (map cost h.costs.items) node x (cost held_cost) never ne ∙ at_rest)
    each x (inr ne) (inr c) = elim (Contains-push_cases rest node x (subst (λ z. Contains z x) touched c)) [
      | inl early ↦ inr early
      | inr last ↦ absurd (ne (sym last))
    ]
