-- Walks can be joined and cut, their costs add up, and a loop costs something.
use Rattle.std.proofs.Common.{◌≡◌, ℕ, ◌<◌, List, [], ◌∷◌, ◌++◌, length, Contains, refl, sym, ◌∙◌, ap, subst, arith, length-append}
use Rattle.std.proofs.lemmas.List.Sums.{sum_by-append, sum_by-cons}
use Rattle.ch_graph.specs.declared.arc.InArc.{InArc}
use Rattle.ch_graph.specs.declared.cost.Cost.{Cost}
use Rattle.ch_graph.specs.Cost.{IsAtMost, IsBelow, cost_sum, no_cost}
use Rattle.ch_graph.specs.Graph.{Network}
use Rattle.ch_graph.specs.Walk.{IsWalk, cost_of, IsLeast}
use Rattle.ch_graph.specs.WalkLaws.{IsWalkCost, arc_cost}
use Rattle.ch_graph.proofs.CostOrder.{same_costs, IsAtMost_refl, IsAtMost_antisymm}
use Rattle.ch_graph.proofs.CostSums.{cost_sum-no_cost, IsAtMost-cost_sum, IsBelow-cost_sum_right, cost_sum_cancel_left}
use Rattle.ch_graph.proofs.CostSums.{cost_sum_cancel_right}
use Rattle.ch_graph.proofs.WalkLemmas.{walk_append}

-- the order of costs, rewritten by equations
pub IsAtMost_between : {a b c d : Cost} → a ≡ b → c ≡ d → IsAtMost b d → IsAtMost a c
IsAtMost_between {b} {c} p q h = subst (λ x. IsAtMost x c) (sym p) (subst (IsAtMost b) (sym q) h)

-- the strict order of costs, rewritten by equations
pub IsBelow_between : {a b c d : Cost} → a ≡ b → c ≡ d → IsBelow b d → IsBelow a c
IsBelow_between {b} {c} p q h = subst (λ x. IsBelow x c) (sym p) (subst (IsBelow b) (sym q) h)

-- one arc in front adds its cost
pub cost_of-cons : (x : InArc) (xs : List InArc) → cost_of (x ∷ xs) ≡ cost_sum (arc_cost x) (cost_of xs)
cost_of-cons x xs = same_costs _ _ (sum_by-cons (λ (a : InArc). a.weight) x xs) (omega arith)

-- the costs of two walks add up
pub cost_of-append : (xs ys : List InArc) → cost_of (xs ++ ys) ≡ cost_sum (cost_of xs) (cost_of ys)
cost_of-append xs ys = same_costs _ _ (sum_by-append (λ (a : InArc). a.weight) xs ys) (length-append xs ys)

-- one more arc in front keeps the order
pub IsAtMost-cons : (x : InArc) (ys xs : List InArc) → IsAtMost (cost_of ys) (cost_of xs) → IsAtMost (cost_of (x ∷ ys)) (cost_of (x ∷ xs))
IsAtMost-cons x ys xs h = IsAtMost_between (cost_of-cons x ys) (cost_of-cons x xs)
    (IsAtMost-cost_sum (arc_cost x) (arc_cost x) (cost_of ys) (cost_of xs) (IsAtMost_refl (arc_cost x)) h)

-- the same arc in front of both walks can be left out
pub IsAtMost-uncons : (x : InArc) (ys xs : List InArc) → IsAtMost (cost_of (x ∷ ys)) (cost_of (x ∷ xs)) → IsAtMost (cost_of ys) (cost_of xs)
IsAtMost-uncons x ys xs h =
    cost_sum_cancel_left (cost_of ys) (cost_of xs) (arc_cost x) (IsAtMost_between (sym (cost_of-cons x ys)) (sym (cost_of-cons x xs)) h)

-- adding a cost in front gives no less
pub IsAtMost-cost_sum_more : (a b c : Cost) → IsAtMost a c → IsAtMost a (cost_sum b c)
IsAtMost-cost_sum_more a b c h = (omega arith, λ tie. omega arith)

-- a cost of at least one arc in front makes the sum greater
pub IsBelow-cost_sum_arcs : (a c : Cost) → 0 < a.arcs → IsBelow c (cost_sum a c)
IsBelow-cost_sum_arcs a c h = (omega arith, λ tie. omega arith)

-- an arc in front makes a walk cost more
pub IsBelow-cons : (x : InArc) (c : Cost) (xs : List InArc) → IsAtMost c (cost_of xs) → IsBelow c (cost_of (x ∷ xs))
IsBelow-cons x c xs h = let weight = sum_by-cons (λ (a : InArc). a.weight) x xs in (omega arith, λ tie. omega arith)

-- a walk can be cut at any place
pub walk_split : (g : Network) (s t : ℕ) (xs ys : List InArc) → IsWalk g s t (xs ++ ys) → (m : ℕ) × IsWalk g s m xs × IsWalk g m t ys
walk_split g s t [] ys w = (s, refl, w)
walk_split g s t (x ∷ xs) ys w = let rest = walk_split g x.to t xs ys w.2 in (rest.0, (w.0, w.1, rest.1), rest.2)

-- a walk without a loop has the same ends, and costs less
pub loop_out : (g : Network) (s m t : ℕ) (xs ys zs : List InArc) → IsWalk g s m xs → IsWalk g m m ys → 0 < length ys → IsWalk g m t zs →
    IsWalk g s t (xs ++ zs) × IsBelow (cost_of (xs ++ zs)) (cost_of (xs ++ (ys ++ zs)))
loop_out g s m t xs ys zs front loop some back = (
  walk_append g s m t xs zs front back,
  IsBelow_between (cost_of-append xs zs) (cost_of-append xs (ys ++ zs) ∙ ap (cost_sum (cost_of xs)) (cost_of-append ys zs))
      (IsBelow-cost_sum_right (cost_of xs) (cost_of xs) (cost_of zs) (cost_sum (cost_of ys) (cost_of zs))
      (IsAtMost_refl (cost_of xs)) (IsBelow-cost_sum_arcs (cost_of ys) (cost_of zs) some)),
)

-- the empty walk has no cost
pub IsWalkCost-no_cost : (g : Network) (s : ℕ) → IsWalkCost g s s no_cost
IsWalkCost-no_cost g s = ([], refl, refl)

-- the cost of a walk of one arc
pub IsWalkCost-arc : (g : Network) (a : InArc) → Contains g.arcs a → IsWalkCost g a.from a.to (arc_cost a)
IsWalkCost-arc g a has = (a ∷ [], (has, refl, refl), cost_of-cons a [] ∙ cost_sum-no_cost (arc_cost a))

-- the cost of an arc and a walk from its end
pub IsWalkCost-cons : (g : Network) (s t : ℕ) (x : InArc) (c : Cost) → Contains g.arcs x → x.from ≡ s → IsWalkCost g x.to t c →
    IsWalkCost g s t (cost_sum (arc_cost x) c)
IsWalkCost-cons g s t x c has here w = (x ∷ w.0, (has, here, w.1), cost_of-cons x w.0 ∙ ap (cost_sum (arc_cost x)) w.2)

-- the cost of a walk and a walk from its end
pub IsWalkCost-cost_sum : (g : Network) (s m t : ℕ) (a b : Cost) → IsWalkCost g s m a → IsWalkCost g m t b → IsWalkCost g s t (cost_sum a b)
IsWalkCost-cost_sum g s m t a b p q = (
  p.0 ++ q.0,
  walk_append g s m t p.0 q.0 p.1 q.1,
  cost_of-append p.0 q.0 ∙ ap (λ x. cost_sum x (cost_of q.0)) p.2 ∙ ap (cost_sum a) q.2,
)

-- no walk costs less than the least
pub IsLeast-IsAtMost : (g : Network) (s t : ℕ) (c d : Cost) → IsLeast g s t c → IsWalkCost g s t d → IsAtMost c d
IsLeast-IsAtMost g s t c d l w = subst (IsAtMost c) w.2 (l.least w.0 w.1)

-- a walk's cost is the least if no walk costs less
pub IsLeast-from : (g : Network) (s t : ℕ) (c : Cost) → IsWalkCost g s t c → ((d : Cost) → IsWalkCost g s t d → IsAtMost c d) →
    IsLeast g s t c
IsLeast-from g s t c w least = record { walk = w; least = λ arcs v. least (cost_of arcs) (arcs, v, refl) }

-- a walk that costs no more than the least costs the least
pub IsLeast-again : (g : Network) (s t : ℕ) (c d : Cost) → IsLeast g s t c → IsWalkCost g s t d → IsAtMost d c → d ≡ c
IsLeast-again g s t c d l w h = IsAtMost_antisymm d c h (IsLeast-IsAtMost g s t c d l w)

-- two least costs are equal
pub IsLeast_unique : (g : Network) (s t : ℕ) (c d : Cost) → IsLeast g s t c → IsLeast g s t d → c ≡ d
IsLeast_unique g s t c d l k = IsAtMost_antisymm c d (IsLeast-IsAtMost g s t c d l k.walk) (IsLeast-IsAtMost g s t d c k l.walk)

-- the first part of a least walk has the least cost
pub IsLeast-front : (g : Network) (s m t : ℕ) (a b : Cost) → IsLeast g s t (cost_sum a b) → IsWalkCost g s m a → IsWalkCost g m t b →
    IsLeast g s m a
IsLeast-front g s m t a b l p q =
    IsLeast-from g s m a p (λ d w. cost_sum_cancel_right a d b
    (IsLeast-IsAtMost g s t (cost_sum a b) (cost_sum d b) l (IsWalkCost-cost_sum g s m t d b w q)))

-- the last part of a least walk has the least cost
pub IsLeast-back : (g : Network) (s m t : ℕ) (a b : Cost) → IsLeast g s t (cost_sum a b) → IsWalkCost g s m a → IsWalkCost g m t b →
    IsLeast g m t b
IsLeast-back g s m t a b l p q =
    IsLeast-from g m t b q (λ d w. cost_sum_cancel_left b d a
    (IsLeast-IsAtMost g s t (cost_sum a b) (cost_sum a d) l (IsWalkCost-cost_sum g s m t a d p w)))
