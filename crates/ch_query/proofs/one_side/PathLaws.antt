-- Laws of costs and of upward paths.
use Rattle.std.proofs.Common.{◌≡◌, ℕ, ◌+◌, ◌*◌, ◌<◌, ◌≤◌, List, [], ◌∷◌, ◌++◌, Contains, refl, sym, ap, subst, arith}
use Rattle.std.proofs.Math.Nat.{mul-le-mul_left}
use Rattle.std.proofs.lemmas.List.Sums.{sum_by-cons, sum_by_push}
use Rattle.ch_graph.specs.declared.cost.Cost.{Cost}
use Rattle.ch_graph.specs.Cost.{IsAtMost, IsBelow, cost_sum, no_cost}
use Rattle.ch_hierarchy.specs.declared.leg.Leg.{Leg}
use Rattle.ch_hierarchy.specs.Rows.{row}
use Rattle.ch_graph.proofs.CostOrder.{same_costs}
use Rattle.ch_hierarchy.specs.Paths.{IsUpwardPath, path_cost}

-- a leg that is taken at c does not lower a cost that was settled before c
pub not_lower : (c l e : Cost) → IsAtMost e c → IsBelow (cost_sum c l) e → ⊥
not_lower c l e h k = let le : c.weight ≤ e.weight = omega arith in let p = h.1 le in
    let ge : e.weight ≤ c.weight + l.weight = omega arith in let q = k.1 ge in omega arith

-- no cost is below the empty cost
pub not_below_nothing : (a : Cost) → IsBelow a no_cost → ⊥
not_below_nothing a h = let q = h.1 (omega arith) in omega arith

-- a cost below b is below each cost that b is at most
pub below_then : (a b c : Cost) → IsBelow a b → IsAtMost b c → IsBelow a c
below_then a b c h k = (omega arith, λ e. omega arith)

-- a cost that is at most b is below each cost that b is below
pub then_below : (a b c : Cost) → IsAtMost a b → IsBelow b c → IsBelow a c
then_below a b c h k = (omega arith, λ e. omega arith)

-- adding the same cost to both keeps the strict order
pub below_sum : (a b c : Cost) → IsBelow a b → IsBelow (cost_sum a c) (cost_sum b c)
below_sum a b c h = (omega arith, λ e. omega arith)

-- one more leg at the end adds its cost
pub cost_push : (legs : List Leg) (l : Leg) → path_cost (legs ++ l ∷ []) ≡ cost_sum (path_cost legs) l.cost
cost_push legs l = same_costs _ _ (sum_by_push (λ (k : Leg). k.cost.weight) legs l) (sum_by_push (λ (k : Leg). k.cost.arcs) legs l)

-- one more leg at the end of a path gives a path
pub path_push : (rows : List (List Leg)) (a b : ℕ) (legs : List Leg) (l : Leg) → IsUpwardPath rows a b legs → Contains (row rows b) l →
    IsUpwardPath rows a l.node (legs ++ l ∷ [])
path_push rows a b [] l p has = (subst (λ q. Contains (row rows q) l) (sym p) has, refl)
path_push rows a b (k ∷ legs) l p has = (p.0, path_push rows k.node b legs l p.1 has)

-- each leg leads to a higher level and has fewer than n arcs
abbrev pub AreRising : ℕ → (ℕ → ℕ) → List (List Leg) → Type 0
AreRising n level rows = (v : ℕ) (l : Leg) → Contains (row rows v) l → (level v < level l.node) × (l.cost.arcs < n)

-- each leg of a path has fewer than n arcs and rises by at least one level
pub path_arcs : (n : ℕ) (level : ℕ → ℕ) (rows : List (List Leg)) → AreRising n level rows → (a b : ℕ) (legs : List Leg) →
    IsUpwardPath rows a b legs →
    (path_cost legs).arcs + n * level a ≤ n * level b
path_arcs n level rows rising a b [] p = let e : n * level a ≡ n * level b = ap (λ q. n * level q) p in omega arith
path_arcs n level rows rising a b (l ∷ legs) p =
    let up = rising a l p.0 in
    let more = path_arcs n level rows rising l.node b legs p.1 in
    let sum = sum_by-cons (λ (k : Leg). k.cost.arcs) l legs in
    let le : level a + 1 ≤ level l.node = omega arith in
    let product : n * (level a + 1) ≤ n * level l.node = mul-le-mul_left n le in
    omega arith
