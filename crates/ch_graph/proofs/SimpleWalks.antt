-- Walks that visit no node twice: there is one of no greater cost for each walk, and they are short and light.
use Rattle.std.proofs.Common.{◌≡◌, ℕ, ◌*◌, ◌<◌, ◌≤◌, Bool, true, false, eqb, ◌||◌, List, [], ◌∷◌, length, map, All, refl, sym, ◌∙◌}
use Rattle.std.proofs.Common.{ap, subst, arith, inl, inr}
use Rattle.std.specs.Prelude.{◌⊎◌}
use Rattle.std.specs.List.{IsDistinct, AllByRecursion, list_any}
use Rattle.std.proofs.Math.Nat.{mul-add, le_of_mul-le-mul_left}
use Rattle.std.proofs.lemmas.List.{length-map}
use Rattle.std.proofs.lemmas.List.Sums.{sum_by-cons}
use Rattle.std.proofs.lemmas.List.Elements.{All-contains}
use Rattle.std.proofs.lemmas.Bool.{cases_eq, eqb-true}
use Rattle.std.proofs.lemmas.Map.Steps.{length-le_from_distinct_below}
use Rattle.ch_graph.specs.declared.limits.TheConstants.{MOST_WEIGHT}
use Rattle.ch_graph.specs.declared.arc.InArc.{InArc}
use Rattle.ch_graph.specs.declared.cost.Cost.{Cost}
use Rattle.ch_graph.specs.Cost.{IsAtMost, no_cost}
use Rattle.ch_graph.specs.Graph.{Network, IsArcWithin, IsWithinLimits}
use Rattle.ch_graph.specs.Walk.{IsWalk, weight_of, cost_of, IsLeast}
use Rattle.ch_graph.specs.WalkLaws.{IsSimple}
use Rattle.ch_graph.proofs.CostOrder.{IsAtMost_refl, IsAtMost_trans, IsBelow-IsAtMost, IsBelow_not, IsAtMost-no_cost}
use Rattle.ch_graph.proofs.Numbers.{not_eqb}
use Rattle.ch_graph.proofs.WalkCosts.{IsAtMost-cons, IsAtMost-uncons, IsBelow-cons}

-- the rest of a walk from where it leaves s
pub record LeavesAgain (g : Network) (s t : ℕ) (arcs : List InArc) : Type 0 where
  pub rest : List InArc
  pub is_walk : IsWalk g s t rest
  pub cheap : IsAtMost (cost_of rest) (cost_of arcs)
  pub simple : IsSimple t arcs → IsSimple t rest

-- a walk leaves s at some place, or never
pub leaves_again : (g : Network) (m s t : ℕ) (ys : List InArc) → IsWalk g m t ys →
    AllByRecursion (λ b. b.from ≡ s → ⊥) ys ⊎ LeavesAgain g s t ys
leaves_again g m s t [] w = inl tt
leaves_again g m s t (y ∷ ys) w = elim (cases_eq y.from s) [
  | inl here ↦ inr (record { rest = y ∷ ys; is_walk = (w.0, here, w.2); cheap = IsAtMost_refl (cost_of (y ∷ ys)); simple = λ h. h })
  | inr away ↦ elim (leaves_again g y.to s t ys w.2) [
    | inl never ↦ inl (away, never)
    | inr later ↦ inr (record {
      rest = later.rest;
      is_walk = later.is_walk;
      simple = λ h. later.simple h.2;
      cheap = IsAtMost_trans _ _ _ later.cheap (IsBelow-IsAtMost _ _ (IsBelow-cons y (cost_of ys) ys (IsAtMost_refl (cost_of ys))));
    })
  ]
]

-- there is a walk that visits no node twice and costs at most c
pub record HasSimple (g : Network) (s t : ℕ) (c : Cost) : Type 0 where
  pub walk : List InArc
  pub is_walk : IsWalk g s t walk
  pub simple : IsSimple t walk
  pub cheap : IsAtMost (cost_of walk) c

-- for each walk there is one of no greater cost that visits no node twice
pub simple_walk : (g : Network) (s t : ℕ) (xs : List InArc) → IsWalk g s t xs → HasSimple g s t (cost_of xs)
simple_walk g s t [] w = record { walk = []; is_walk = w; simple = tt; cheap = IsAtMost_refl no_cost }
simple_walk g s t (x ∷ xs) w =
    let after = simple_walk g x.to t xs w.2 in
    elim (cases_eq x.from t) [
      | inl there ↦ record { walk = []; is_walk = sym w.1 ∙ there; simple = tt; cheap = IsAtMost-no_cost (cost_of (x ∷ xs)) }
      | inr on ↦ elim (leaves_again g x.to x.from t after.walk after.is_walk) [
        | inl never ↦ record {
          walk = x ∷ after.walk;
          is_walk = (w.0, w.1, after.is_walk);
          simple = (on, never, after.simple);
          cheap = IsAtMost-cons x after.walk xs after.cheap;
        }
        | inr again ↦ record {
          walk = again.rest;
          is_walk = subst (λ q. IsWalk g q t again.rest) w.1 again.is_walk;
          simple = again.simple after.simple;
          cheap = IsBelow-IsAtMost _ _ (IsBelow-cons x (cost_of again.rest) xs (IsAtMost_trans _ _ _ again.cheap after.cheap));
        }
      ]
    ]

-- if no walk costs less, the walk visits no node twice
pub least_walk_simple : (g : Network) (s t : ℕ) (xs : List InArc) → IsWalk g s t xs →
    ((ys : List InArc) → IsWalk g s t ys → IsAtMost (cost_of xs) (cost_of ys)) → IsSimple t xs
least_walk_simple g s t [] w least = tt
least_walk_simple g s t (x ∷ xs) w least =
    let after = least_walk_simple g x.to t xs w.2 (λ ys v. IsAtMost-uncons x xs ys (least (x ∷ ys) (w.0, w.1, v))) in (
      (λ there. IsBelow_not _ _ (IsBelow-cons x no_cost xs (IsAtMost-no_cost (cost_of xs))) (least [] (sym w.1 ∙ there))),
      elim (leaves_again g x.to x.from t xs w.2) [
        | inl never ↦ never
        | inr again ↦ absurd (IsBelow_not _ _ (IsBelow-cons x (cost_of again.rest) xs again.cheap)
            (least again.rest (subst (λ q. IsWalk g q t again.rest) w.1 again.is_walk)))
      ],
      after,
    )

-- a walk of least cost visits no node twice
pub IsLeast-IsSimple : (g : Network) (s t : ℕ) (xs : List InArc) → IsLeast g s t (cost_of xs) → IsWalk g s t xs → IsSimple t xs
IsLeast-IsSimple g s t xs l w = least_walk_simple g s t xs w l.least

-- the nodes where the arcs begin
pub starts : List InArc → List ℕ
starts xs = map (λ a. a.from) xs

-- there is one start for each arc
length-starts : (xs : List InArc) → length (starts xs) ≡ length xs
unfolding starts
length-starts xs = length-map xs (λ (a : InArc). a.from)

-- no arc begins at s
apart : (s : ℕ) (xs : List InArc) → AllByRecursion (λ b. b.from ≡ s → ⊥) xs → AllByRecursion (λ y. eqb s y ≡ false) (starts xs)
unfolding starts
apart s [] h = tt
apart s (x ∷ xs) h = (not_eqb s x.from (λ e. h.0 (sym e)), apart s xs h.1)

-- no arc begins at the end
apart_end : (t : ℕ) (xs : List InArc) → IsSimple t xs → AllByRecursion (λ y. eqb t y ≡ false) (starts xs)
unfolding starts
apart_end t [] h = tt
apart_end t (x ∷ xs) h = (not_eqb t x.from (λ e. h.0 (sym e)), apart_end t xs h.2)

-- no two arcs begin at the same node
distinct : (t : ℕ) (xs : List InArc) → IsSimple t xs → IsDistinct eqb (starts xs)
unfolding starts IsDistinct
distinct t [] h = tt
distinct t (x ∷ xs) h = (apart x.from xs h.1, distinct t xs h.2)

module _ (g : Network) (each : All (IsArcWithin g.nodes) g.arcs) where
  -- each arc of a walk begins at a node of the graph
  below : (s t : ℕ) (xs : List InArc) → IsWalk g s t xs → (q : ℕ) → list_any (eqb q) (starts xs) ≡ true → q < g.nodes
  unfolding starts
  below s t [] w q h = cc
  below s t (x ∷ xs) w q h = at (eqb q x.from) refl h (below x.to t xs w.2 q)
    where
      at : (b : Bool) → eqb q x.from ≡ b → (b || list_any (eqb q) (starts xs)) ≡ true →
          (list_any (eqb q) (starts xs) ≡ true → q < g.nodes) → q < g.nodes
      at true e h' more = let same = eqb-true q x.from e in
          let lt = (All-contains (IsArcWithin g.nodes) g.arcs x each w.0).ends.0 in omega arith
      at false e h' more = more h'

  -- each arc of a walk begins at a node of the graph, and its end is a node too
  below_end : (s t : ℕ) (xs : List InArc) → t < g.nodes → IsWalk g s t xs → (q : ℕ) → list_any (eqb q) (t ∷ starts xs) ≡ true → q < g.nodes
  below_end s t xs lt w q h = at (eqb q t) refl h
    where
      at : (b : Bool) → eqb q t ≡ b → (b || list_any (eqb q) (starts xs)) ≡ true → q < g.nodes
      at true e h' = let same = eqb-true q t e in omega arith
      at false e h' = below s t xs w q h'

  -- a walk that visits no node twice has at most as many arcs as there are nodes
  simple_arcs : (s t : ℕ) (xs : List InArc) → IsWalk g s t xs → IsSimple t xs → length xs ≤ g.nodes
  simple_arcs s t xs w simple =
      let most = length-le_from_distinct_below (starts xs) g.nodes (distinct t xs simple) (below s t xs w) in
      omega (arith, length-starts xs)

  -- it has fewer arcs than nodes if its end is a node
  simple_fewer : (s t : ℕ) (xs : List InArc) → t < g.nodes → IsWalk g s t xs → IsSimple t xs → length xs < g.nodes
  unfolding IsDistinct
  simple_fewer s t xs lt w simple =
      let most = length-le_from_distinct_below (t ∷ starts xs) g.nodes (apart_end t xs simple, distinct t xs simple)
      (below_end s t xs lt w) in
      omega (arith, length-starts xs)

  -- the number of nodes times the weight of a walk is at most MOST_WEIGHT for each arc
  weight_by_arcs : (s t : ℕ) (xs : List InArc) → IsWalk g s t xs → g.nodes * weight_of xs ≤ length xs * MOST_WEIGHT
  weight_by_arcs s t [] w = omega arith
  weight_by_arcs s t (x ∷ xs) w =
      let more = weight_by_arcs x.to t xs w.2 in
      let one = (All-contains (IsArcWithin g.nodes) g.arcs x each w.0).weight in
      let sum = ap (λ q. g.nodes * q) (sum_by-cons (λ (a : InArc). a.weight) x xs) ∙ mul-add g.nodes x.weight (weight_of xs) in
      omega arith

  -- a walk that visits no node twice weighs at most MOST_WEIGHT
  simple_weight : (s t : ℕ) (xs : List InArc) → IsWalk g s t xs → IsSimple t xs → weight_of xs ≤ MOST_WEIGHT
  simple_weight s t [] w simple = omega arith
  simple_weight s t (x ∷ xs) w simple =
      let few = simple_arcs s t (x ∷ xs) w simple in
      let product = weight_by_arcs s t (x ∷ xs) w in
      let sum : g.nodes * weight_of (x ∷ xs) ≤ g.nodes * MOST_WEIGHT = omega arith in
      let some : 0 < g.nodes = omega arith in
      le_of_mul-le-mul_left sum some

-- a simple walk of a graph within the limits has fewer arcs than there are nodes
pub IsSimple-arcs : (g : Network) (s t : ℕ) (xs : List InArc) → IsWithinLimits g → t < g.nodes → IsWalk g s t xs → IsSimple t xs →
    length xs < g.nodes
IsSimple-arcs g s t xs limits = simple_fewer g limits.each s t xs

-- a simple walk of a graph within the limits weighs at most MOST_WEIGHT
pub IsSimple-weight : (g : Network) (s t : ℕ) (xs : List InArc) → IsWithinLimits g → IsWalk g s t xs → IsSimple t xs →
    weight_of xs ≤ MOST_WEIGHT
IsSimple-weight g s t xs limits = simple_weight g limits.each s t xs

-- a least cost has fewer arcs than there are nodes
pub IsLeast-arcs : (g : Network) (s t : ℕ) (c : Cost) → IsWithinLimits g → t < g.nodes → IsLeast g s t c → c.arcs < g.nodes
IsLeast-arcs g s t c limits lt l =
    let w = l.walk in
    subst (λ d. d.arcs < g.nodes) w.2
    (IsSimple-arcs g s t w.0 limits lt w.1 (IsLeast-IsSimple g s t w.0 (subst (IsLeast g s t) (sym w.2) l) w.1))

-- a least cost weighs at most MOST_WEIGHT
pub IsLeast-weight : (g : Network) (s t : ℕ) (c : Cost) → IsWithinLimits g → IsLeast g s t c → c.weight ≤ MOST_WEIGHT
IsLeast-weight g s t c limits l =
    let w = l.walk in
    subst (λ d. d.weight ≤ MOST_WEIGHT) w.2
    (IsSimple-weight g s t w.0 limits w.1 (IsLeast-IsSimple g s t w.0 (subst (IsLeast g s t) (sym w.2) l) w.1))
