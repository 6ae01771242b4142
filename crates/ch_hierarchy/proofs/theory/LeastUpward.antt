-- A least upward path between two nodes, or none, found by going up. So it is decided whether paths from both ends
-- meet within a bound.
use Rattle.std.proofs.Common.{◌≡◌, ℕ, zero, suc, ◌+◌, ◌<◌, ◌≤◌, List, [], ◌∷◌, Contains, refl, sym, ◌∙◌, subst, arith, inl, inr}
use Rattle.std.specs.Prelude.{◌⊎◌, slice_index}
use Rattle.std.proofs.lemmas.Bool.{cases_eq, cases_lt}
use Rattle.ch_graph.specs.declared.limits.TheConstants.{MOST_WEIGHT}
use Rattle.ch_graph.specs.declared.cost.Cost.{Cost}
use Rattle.ch_graph.specs.Cost.{IsAtMost, cost_sum, no_cost}
use Rattle.ch_graph.proofs.CostOrder.{IsAtMost_refl, IsAtMost_trans}
use Rattle.ch_graph.proofs.CostSums.{IsAtMost-cost_sum}
use Rattle.ch_graph.proofs.LeastSearch.{LeastOrNone, IsSumOf, least_either, least_sum, least_among}
use Rattle.ch_graph.proofs.Lists.{contains_head, contains_tail, contains_cons, contains_none}
use Rattle.ch_hierarchy.specs.declared.leg.Leg.{Leg}
use Rattle.ch_hierarchy.specs.Rows.{row}
use Rattle.ch_hierarchy.specs.Hierarchy.{LevelsAndLegs, nodes_of, AreLegsUp, IsLevelled}
use Rattle.ch_hierarchy.specs.Paths.{IsUpwardPath, path_cost, IsLeastUpwardPath, IsMeeting}
use Rattle.ch_hierarchy.specs.Kept.{MeetsWithin}
use Rattle.ch_hierarchy.proofs.theory.LegPaths.{path_cost-cons, level_most, leg_of_rows}
use Rattle.ch_hierarchy.proofs.theory.Decided.{Decided, decided_same, HasBelow, below_decided, at_most_decided}

-- the least cost that is equal to c is c
only : (c : Cost) → LeastOrNone (λ d. d ≡ c)
only c = inl (c, record { has = refl; least = λ d e. subst (IsAtMost c) (sym e) (IsAtMost_refl c) })

module _ (rows : List (List Leg)) where
  -- an upward path from a to b costs c
  abbrev pub IsPathCost : ℕ → ℕ → Cost → Type 0
  IsPathCost a b c = (legs : List Leg) × IsUpwardPath rows a b legs × (path_cost legs ≡ c)

  -- an upward path that begins with the leg costs c
  abbrev Begins : ℕ → Leg → Cost → Type 0
  Begins b l = IsSumOf (λ d. d ≡ l.cost) (IsPathCost l.node b)

  -- an upward path that begins with one of the legs costs c
  abbrev BeginsWithOne : ℕ → List Leg → Cost → Type 0
  BeginsWithOne b legs c = (l : Leg) × Contains legs l × Begins b l c

  -- the least of these costs, from the least costs of the paths after each leg
  least_of_legs : (b : ℕ) (legs : List Leg) → ((l : Leg) → Contains legs l → LeastOrNone (IsPathCost l.node b)) →
      LeastOrNone (BeginsWithOne b legs)
  least_of_legs b [] on = inr (λ c h. contains_none h.0 h.1)
  least_of_legs b (l ∷ legs) on =
      least_among (λ c. Begins b l c ⊎ BeginsWithOne b legs c) (BeginsWithOne b (l ∷ legs)) to from
      (least_either (Begins b l) (BeginsWithOne b legs)
      (least_sum (λ d. d ≡ l.cost) (IsPathCost l.node b) (only l.cost) (on l (contains_head l legs)))
      (least_of_legs b legs (λ k c. on k (contains_tail k l legs c))))
    where
      to : (c : Cost) → Begins b l c ⊎ BeginsWithOne b legs c → BeginsWithOne b (l ∷ legs) c
      to c (inl first) = (l, contains_head l legs, first)
      to c (inr later) = (later.0, contains_tail later.0 l legs later.1, later.2)

      from : (c : Cost) → BeginsWithOne b (l ∷ legs) c → (d : Cost) × (Begins b l d ⊎ BeginsWithOne b legs d) × IsAtMost d c
      from c h = elim (contains_cons l h.0 legs h.1) [
        | inl e ↦ (c, inl (subst (λ k. Begins b k c) (sym e) h.2), IsAtMost_refl c)
        | inr there ↦ (c, inr (h.0, there, h.2), IsAtMost_refl c)
      ]

  -- c is the cost of the empty path
  abbrev StaysFor : ℕ → ℕ → Cost → Type 0
  StaysFor a b c = (a ≡ b) × (c ≡ no_cost)

  least_stay : (a b : ℕ) → LeastOrNone (StaysFor a b)
  least_stay a b = elim (cases_eq a b) [
    | inl same ↦ inl (no_cost, record { has = (same, refl); least = λ d h. subst (IsAtMost no_cost) (sym h.1) (IsAtMost_refl no_cost) })
    | inr apart ↦ inr (λ c h. apart h.0)
  ]

  -- a path is empty or begins with a leg
  begun : (a b : ℕ) (c : Cost) → StaysFor a b c ⊎ BeginsWithOne b (row rows a) c → IsPathCost a b c
  begun a b c (inl stays) = ([], stays.0, sym stays.1)
  begun a b c (inr (l, has, (x, y, first, (legs, path, cost), sum))) =
      (l ∷ legs, (has, path), path_cost-cons l legs ∙ (λ i. cost_sum (sym first i) (cost i)) ∙ sum)

  begins : (a b : ℕ) (legs : List Leg) → IsUpwardPath rows a b legs →
      StaysFor a b (path_cost legs) ⊎ BeginsWithOne b (row rows a) (path_cost legs)
  begins a b [] p = inl (p, refl)
  begins a b (l ∷ legs) p = inr (l, p.0, (l.cost, path_cost legs, refl, (legs, p.1, refl), sym (path_cost-cons l legs)))

  module _ (level : ℕ → ℕ) (n : ℕ) (most : (v : ℕ) → level v ≤ n)
      (rises : (v : ℕ) (l : Leg) → Contains (row rows v) l → level v < level l.node) where
    -- the least cost of a path, by recursion from the top level downwards
    least_from : (d a b : ℕ) → n < d + level a → LeastOrNone (IsPathCost a b)
    least_from zero a b low = absurd (let le = most a in omega arith)
    least_from (suc d) a b low =
        least_among (λ c. StaysFor a b c ⊎ BeginsWithOne b (row rows a) c) (IsPathCost a b) (begun a b)
        (λ c h. (c, subst (λ q. StaysFor a b q ⊎ BeginsWithOne b (row rows a) q) h.2 (begins a b h.0 h.1), IsAtMost_refl c))
        (least_either (StaysFor a b) (BeginsWithOne b (row rows a)) (least_stay a b)
        (least_of_legs b (row rows a) (λ l has. least_from d l.node b (let up = rises a l has in omega arith))))

    -- there is a least upward path within the greatest weight, or there is none
    least_path : (a b : ℕ) → ((c : Cost) × IsLeastUpwardPath rows a b c) ⊎ ((c : Cost) → IsLeastUpwardPath rows a b c → ⊥)
    least_path a b = elim (least_from (n + 1) a b (omega arith)) [
      | inl found ↦ elim (cases_lt MOST_WEIGHT found.0.weight) [
        | inl heavy ↦ inr (λ c h. let le = (found.1.least c h.path).0 in let light = h.weight in omega arith)
        | inr light ↦ inl (
          found.0,
          record {
            path = found.1.has;
            weight = light;
            least =
                λ legs p within. found.1.least (path_cost legs) (legs, p, refl);
          },
        )
      ]
      | inr none ↦ inr (λ c h. none c h.path)
    ]

  -- a path that begins at a node ends at a node
  ends_below : (n : ℕ) → ((v : ℕ) (l : Leg) → Contains (row rows v) l → l.node < n) → (a b : ℕ) (legs : List Leg) →
      IsUpwardPath rows a b legs → a < n → b < n
  ends_below n within a b [] p lt = subst (λ q. q < n) p lt
  ends_below n within a b (l ∷ legs) p lt = ends_below n within l.node b legs p.1 (within a l p.0)

module _ (H : LevelsAndLegs) (is : IsLevelled H) where
  -- there is a least path in such rows, or there is none
  least_in : (rows : List (List Leg)) → AreLegsUp H rows → (a b : ℕ) →
      ((c : Cost) × IsLeastUpwardPath rows a b c) ⊎ ((c : Cost) → IsLeastUpwardPath rows a b c → ⊥)
  least_in rows are =
      least_path rows (slice_index H.level) (nodes_of H) (level_most H is) (λ v l has. (leg_of_rows H rows are v l has).higher)

  module _ (s t : ℕ) (most : Cost) where
    -- going up to m and down from there costs at most `most`
    abbrev MeetsAt : ℕ → Type 0
    MeetsAt m = (c : Cost) × IsMeeting H s t m c × IsAtMost c most

    -- whether this holds for m is decided
    meets_at : (m : ℕ) → Decided (MeetsAt m)
    meets_at m = elim (least_in H.up is.up s m) [
      | inl up ↦ elim (least_in H.down is.down t m) [
        | inl down ↦ elim (at_most_decided (cost_sum up.0 down.0) most) [
          | inl le ↦ inl (cost_sum up.0 down.0, (up.0, down.0, up.1, down.1, refl), le)
          | inr dear ↦ inr (λ (c, (a, b, rise, fall, sum), le).
              dear (IsAtMost_trans _ c most
              (subst (IsAtMost (cost_sum up.0 down.0)) sum
              (IsAtMost-cost_sum up.0 a down.0 b (no_dearer H.up s m up.0 a up.1 rise)
              (no_dearer H.down t m down.0 b down.1 fall))) le))
        ]
        | inr none ↦ inr (λ (c, (a, b, rise, fall, sum), le). none b fall)
      ]
      | inr none ↦ inr (λ (c, (a, b, rise, fall, sum), le). none a rise)
    ]
      where
        no_dearer : (rows : List (List Leg)) (x y : ℕ) (c d : Cost) → IsLeastUpwardPath rows x y c → IsLeastUpwardPath rows x y d →
            IsAtMost c d
        no_dearer rows x y c d h k = subst (IsAtMost c) k.path.2
            (h.least k.path.0 k.path.1 (subst (λ (q : Cost). q.weight ≤ MOST_WEIGHT) (sym k.path.2) k.weight))

    -- whether this holds for some node is decided
    pub meets_decided : s < nodes_of H → Decided (MeetsWithin H s t most)
    meets_decided lt = decided_same (HasBelow MeetsAt (nodes_of H)) (MeetsWithin H s t most)
        (λ (m, less, (c, meets, le)). (m, c, meets, le))
        (λ (m, c, meets, le). (
          m,
          ends_below H.up (nodes_of H) (λ v l has. (leg_of_rows H H.up is.up v l has).node) s m
              meets.2.path.0 meets.2.path.1 lt,
          (c, meets, le),
        ))
        (below_decided MeetsAt meets_at (nodes_of H))
