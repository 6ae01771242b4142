-- The ancestors that a pass to the root has found are a search space.
use Rattle.std.proofs.Common.{◌≡◌, ℕ, ◌+◌, ◌-◌, ◌<◌, ◌≤◌, ◌⊎◌, List, [], ◌∷◌, ◌++◌, length, map, get_or, Contains, Option, refl, sym}
use Rattle.std.proofs.Common.{◌∙◌, ap, subst, arith, inl, inr}
use Rattle.std.specs.Prelude.{◌≢◌, AllPairs, slice_index}
use Rattle.std.proofs.lemmas.Bool.{cases_lt}
use Rattle.std.proofs.lemmas.List.Elements.{Contains-append_cases, Contains-get_or}
use Rattle.ch_graph.specs.declared.cost.Cost.{Cost}
use Rattle.ch_graph.specs.Cost.{IsAtMost}
use Rattle.ch_graph.proofs.CostOrder.{IsAtMost_refl}
use Rattle.ch_graph.proofs.CostSums.{cost_sum-no_cost}
use Rattle.ch_graph.proofs.Lists.{contains_none, contains_cons, contains_head, contains_tail, contains_map, contains_map_of, pairs_append}
use Rattle.ch_hierarchy.specs.declared.leg.Leg.{Leg}
use Rattle.ch_hierarchy.specs.declared.ranked.RankedLeg.{RankedLeg}
use Rattle.ch_hierarchy.specs.declared.side.Side.{Side}
use Rattle.ch_hierarchy.specs.declared.side.Side.TheVariants.{Up, Down}
use Rattle.ch_hierarchy.specs.Hierarchy.{LevelsAndLegs, nodes_of, IsLevelled}
use Rattle.ch_hierarchy.specs.Ranked.{rank_of, ranked_leg}
use Rattle.ch_hierarchy.specs.Rows.{row}
use Rattle.ch_hierarchy.specs.Side.{rows_of, other}
use Rattle.ch_hierarchy.specs.Paths.{IsUpwardPath, path_cost, IsLeastUpwardPath}
use Rattle.ch_hierarchy.proofs.code.Ranked.{node_of_rank, rank_below}
use Rattle.ch_query.specs.Distance.{IsKeptForSome}
use Rattle.ch_query.specs.Limits.{IsMost}
use Rattle.ch_query.specs.SearchSpace.{IsTight, IsRankedSpace}
use Rattle.ch_query.specs.Weighed.{weighed_cost, weighed_leg}
use Rattle.ch_query.specs.Weights.{weight_cost}
use Rattle.ch_query.proofs.one_side.Expanding.{leg_up}
use Rattle.ch_query.proofs.by_weight.LegsRead.{read_leg}
use Rattle.ch_query.proofs.one_side.WeighedPaths.{weighed_avoids, weighed_row}
use Rattle.ch_tree.specs.Spaces.{AreEntries, AreGathered, AreGatheredTo, IsBeaten, IsBeatenAt}
use Rattle.ch_tree.specs.Tree.{place_of, IsAbove, AreFalling, weight_at, AreUpCosts, IsSweptTo}
use Rattle.ch_tree.proofs.theory.Climbs.{above_itself, above_then, above_one, above_next, above_low, above_between}

-- an entry that is appended is there, and all others stay
contains_left : {X : Type 0} (xs ys : List X) (x : X) → Contains xs x → Contains (xs ++ ys) x
contains_left [] ys x c = absurd (contains_none x c)
contains_left (z ∷ xs) ys x c = elim (contains_cons z x xs c) [
  | inl is ↦ subst (Contains (z ∷ (xs ++ ys))) is (contains_head z (xs ++ ys))
  | inr rest ↦ contains_tail x z (xs ++ ys) (contains_left xs ys x rest)
]

contains_last : {X : Type 0} (xs : List X) (x : X) → Contains (xs ++ x ∷ []) x
contains_last [] x = contains_head x []
contains_last (z ∷ xs) x = contains_tail x z (xs ++ x ∷ []) (contains_last xs x)

-- a list of one element has no two
alone : {X : Type 0} (R : X → X → Type 0) (x : X) → AllPairs R (x ∷ [])
alone R x i j d lt below = absurd (omega arith)

module _ (MayGo : ℕ → Type 0) (parents : List ℕ) (falls : AreFalling parents) (first most : ℕ) (costs : List ℕ) where
  -- before the first place there is no entry
  pub gather_begins : (list : List (ℕ × ℕ)) → list ≡ [] → first ≤ length costs → AreGatheredTo MayGo parents first most first costs list
  gather_begins list none low = record {
    entries = record {
      distinct = subst (AllPairs (λ (a b : ℕ × ℕ). a.0 ≢ b.0)) (sym none) (λ i j d lt below. absurd (omega arith));
      sound = λ rank x c. absurd (contains_none (rank, x) (subst (λ (z : List (ℕ × ℕ)). Contains z (rank, x)) none c));
    };
    here = above_itself parents first;
    below = λ rank x c. absurd (contains_none (rank, x) (subst (λ (z : List (ℕ × ℕ)). Contains z (rank, x)) none c));
    whole = λ rank above past. let low = above_low parents falls first (rank + 1) above in absurd (omega arith);
  }

  -- the entries after one more place
  pub gather_step : (place w : ℕ) (list new : List (ℕ × ℕ)) → 0 < place → place ≤ length costs → w ≡ weight_at costs (place - 1) →
      AreGatheredTo MayGo parents first most place costs list →
      ((w ≤ most) × (new ≡ list ++ (place - 1, w) ∷ [])) ⊎ (((most < w) ⊎ MayGo (place - 1)) × (new ≡ list)) →
      AreGatheredTo MayGo parents first most (slice_index parents place) costs new
  gather_step place w list new some within e is one = record {
    entries = entries_of one;
    here = above_then parents first place (slice_index parents place) is.here (above_one parents place);
    below = λ rank x c. let f = falls place in elim (cases_of one (rank, x) c) [
      | inl was ↦ let b = is.below rank x was in omega arith
      | inr now ↦ let r : place - 1 ≡ rank = ap (λ (z : ℕ × ℕ). z.0) now.0 in omega arith
    ];
    whole = λ rank above past light. elim (cases_lt place (rank + 1)) [
      | inl before ↦ elim (is.whole rank above before light) [ inl gone ↦ inl gone | inr has ↦ inr (old_of one rank has) ]
      | inr le ↦ elim (above_next parents place (rank + 1) (above_between parents falls first place (rank + 1) is.here above le)) [
        | inl same ↦ at one rank (omega arith) light
        | inr more ↦ (let low = above_low parents falls (slice_index parents place) (rank + 1) more in absurd (omega arith))
      ]
    ];
  }
    where
      cases_of : ((w ≤ most) × (new ≡ list ++ (place - 1, w) ∷ [])) ⊎ (((most < w) ⊎ MayGo (place - 1)) × (new ≡ list)) →
          (q : ℕ × ℕ) → Contains new q →
          Contains list q ⊎ (((place - 1, w) ≡ q) × (w ≤ most))
      cases_of (inr past) q c = inl (subst (λ (z : List (ℕ × ℕ)). Contains z q) past.1 c)
      cases_of (inl light) q c =
          elim (Contains-append_cases list ((place - 1, w) ∷ []) q (subst (λ (z : List (ℕ × ℕ)). Contains z q) light.1 c)) [
            | inl was ↦ inl was
            | inr now ↦ elim (contains_cons (place - 1, w) q [] now) [
              | inl same ↦ inr (same, light.0)
              | inr none ↦ absurd (contains_none q none)
            ]
          ]

      entries_of : ((w ≤ most) × (new ≡ list ++ (place - 1, w) ∷ [])) ⊎ (((most < w) ⊎ MayGo (place - 1)) × (new ≡ list)) →
          AreEntries most costs new
      entries_of (inr past) = subst (AreEntries most costs) (sym past.1) is.entries
      entries_of (inl light) = record {
        distinct = subst (AllPairs (λ (a b : ℕ × ℕ). a.0 ≢ b.0)) (sym light.1)
            (pairs_append (λ (a b : ℕ × ℕ). a.0 ≢ b.0) list ((place - 1, w) ∷ []) is.entries.distinct
            (alone (λ (a b : ℕ × ℕ). a.0 ≢ b.0) (place - 1, w)) (λ a b has one_more same.
            elim (contains_cons (place - 1, w) b [] one_more) [
              | inl e2 ↦
                  let low = is.below a.0 a.1 has in
                  let r : place - 1 ≡ b.0 = ap (λ (z : ℕ × ℕ). z.0) e2 in
                  omega arith
              | inr none ↦ contains_none b none
            ]));
        sound = λ rank x c. elim (cases_of (inl light) (rank, x) c) [
          | inl was ↦ is.entries.sound rank x was
          | inr now ↦
              let r : place - 1 ≡ rank = ap (λ (z : ℕ × ℕ). z.0) now.0 in
              let y : w ≡ x = ap (λ (z : ℕ × ℕ). z.1) now.0 in
              (omega arith, ap (weight_at costs) (sym r) ∙ sym e ∙ y, omega (arith, now.1))
        ];
      }

      old_of : ((w ≤ most) × (new ≡ list ++ (place - 1, w) ∷ [])) ⊎ (((most < w) ⊎ MayGo (place - 1)) × (new ≡ list)) → (rank : ℕ) →
          Contains list (rank, weight_at costs rank) → Contains new (rank, weight_at costs rank)
      old_of (inl light) rank c = subst (λ (z : List (ℕ × ℕ)). Contains z (rank, weight_at costs rank)) (sym light.1)
          (contains_left list ((place - 1, w) ∷ []) (rank, weight_at costs rank) c)
      old_of (inr past) rank c = subst (λ (z : List (ℕ × ℕ)). Contains z (rank, weight_at costs rank)) (sym past.1) c

      at : ((w ≤ most) × (new ≡ list ++ (place - 1, w) ∷ [])) ⊎ (((most < w) ⊎ MayGo (place - 1)) × (new ≡ list)) →
          (rank : ℕ) → place - 1 ≡ rank →
          weight_at costs rank ≤ most → MayGo rank ⊎ Contains new (rank, weight_at costs rank)
      at (inl light) rank same low =
          let its : w ≡ weight_at costs rank = e ∙ ap (weight_at costs) same in
          inr (subst (λ (z : List (ℕ × ℕ)). Contains z (rank, weight_at costs rank)) (sym light.1)
          (subst (λ (q : ℕ × ℕ). Contains (list ++ (place - 1, w) ∷ []) q) (λ i. (same i, its i)) (contains_last list (place - 1, w))))
      at (inr (inl heavy, is_old)) rank same low =
          let its : w ≡ weight_at costs rank = e ∙ ap (weight_at costs) same in
          absurd (omega (arith, heavy, low, its))
      at (inr (inr gone, is_old)) rank same low = inl (subst MayGo same gone)

module _ (H : LevelsAndLegs) (kept : IsKeptForSome H) (k : IsLevelled H) (side : Side) (parents : List ℕ) (s bound : ℕ)
    (s_low : s < nodes_of H) (costs : List ℕ) (sw : IsSweptTo H side parents s bound 0 costs) (most : ℕ)
    (up : AreUpCosts H side s most costs) where
  -- the end of an upward path is a node
  path_end : (u v : ℕ) (legs : List Leg) → u < nodes_of H → IsUpwardPath (rows_of H side) u v legs → v < nodes_of H
  path_end u v [] lt path = subst (λ z. z < nodes_of H) path lt
  path_end u v (l ∷ legs) lt path = path_end l.node v legs (leg_up H k side u l path.0).node path.1

  -- a least path of a tight node
  tight_path : (d : Side) (v : ℕ) (c : Cost) → IsTight H d s v c → IsLeastUpwardPath (rows_of H d) s v c
  tight_path Up v c tight = tight.0
  tight_path Down v c tight = tight.0

  -- a tight node is not beaten
  unbeaten : (v : ℕ) (c : Cost) → IsTight H side s v c → weight_at costs (rank_of H v) ≡ c.weight → IsBeaten H side costs v → ⊥
  unbeaten v c tight same (l, has, light) =
      let there = leg_up H k (other side) v l has in
      let small = sw.small (rank_of H v) in
      weighed_avoids H kept side s v c tight v (weighed_cost c) [] (record {
        leg = weighed_leg l;
        has = subst (λ legs. Contains legs (weighed_leg l)) (sym (weighed_row H (other side) v))
            (contains_map weighed_leg (row (rows_of H (other side)) v) l has);
        cost = weight_cost (weight_at costs (rank_of H l.node));
        reached = sw.sound l.node there.node (omega arith);
        below = (omega (arith, light, same), λ le. absurd (omega (arith, light, same, le)));
      }) refl (subst (λ q. IsAtMost q (weighed_cost c)) (sym (cost_sum-no_cost (weighed_cost c))) (IsAtMost_refl (weighed_cost c)))

  -- the entries are a search space
  pub space_of : (limit : Option ℕ) (list : List (ℕ × ℕ)) → IsMost limit most →
      AreGathered (IsBeatenAt H side costs) parents (place_of H s) most costs list → IsRankedSpace H side limit s list
  space_of limit list is gathered = record {
    distinct = gathered.entries.distinct;
    sound = λ rank x c.
        let entry = gathered.entries.sound rank x c in
        let n = node_of_rank H k rank (omega (arith, entry.0)) in
        let limits = is.limits in
        let at : weight_at costs (rank_of H n.0) ≡ x = ap (weight_at costs) n.2 ∙ entry.1 in
        let path = up.found n.0 n.1 (omega (arith, at, entry.2)) in
        (n.0, n.1, n.2, (path.0, path.1, path.2 ∙ at), is.sound x entry.2);
    whole = λ v c tight within.
        let least = tight_path side v c tight in
        let low = path_end s v least.path.0 s_low least.path.1 in
        let cost : (path_cost least.path.0).weight ≡ c.weight = ap (λ (z : Cost). z.weight) least.path.2 in
        let light = least.weight in
        let most_low = is.limits in
        let fits = is.whole c.weight light within in
        let down = up.least v least.path.0 low least.path.1 (omega arith) in
        let path = up.found v low (omega arith) in
        let other = path.1.path in
        let other_cost : (path_cost other.0).weight ≡ path.0.weight = ap (λ (z : Cost). z.weight) other.2 in
        let other_light = path.1.weight in
        let at_most = least.least other.0 other.1 (omega arith) in
        let le = at_most.0 in
        let same : weight_at costs (rank_of H v) ≡ c.weight = omega (arith, path.2, down, le, cost, other_cost) in
        let above : IsAbove parents (place_of H s) (place_of H v) = elim (sw.known (rank_of H v)) [
          | inl none ↦ absurd (omega arith)
          | inr there ↦ there
        ] in (
          low,
          subst (λ z. Contains list (rank_of H v, z)) same (elim (gathered.whole (rank_of H v) above (omega arith)) [
            | inl beaten ↦ absurd (unbeaten v c tight same (beaten v low refl))
            | inr has ↦ has
          ]),
        );
  }

-- a leg that is read shows a lighter way to v
pub shows_lighter : (H : LevelsAndLegs) → IsLevelled H → (side : Side) (v : ℕ) (costs : List ℕ) (items : List RankedLeg) (i : ℕ)
    (d : RankedLeg) →
    items ≡ map (ranked_leg H) (row (rows_of H (other side)) v) → i < length items →
    weight_at costs (get_or items i d).rank + (get_or items i d).weight < weight_at costs (rank_of H v) → IsBeaten H side costs v
shows_lighter H k side v costs items i d e lt light =
    let m = contains_map_of (ranked_leg H) (row (rows_of H (other side)) v) (get_or items i d)
    (subst (λ q. Contains q (get_or items i d)) e (Contains-get_or items i d lt)) in
    let rank : weight_at costs (rank_of H m.0.node) ≡ weight_at costs (get_or items i d).rank =
    ap (weight_at costs) (ap (λ (q : RankedLeg). q.rank) m.2) in
    let weight : m.0.cost.weight ≡ (get_or items i d).weight = ap (λ (q : RankedLeg). q.weight) m.2 in
    (m.0, m.1, omega (arith, light, rank, weight))

-- a leg that is read leads to a node
pub leg_within : (H : LevelsAndLegs) → IsLevelled H → (side : Side) (v : ℕ) (costs : List ℕ) (items : List RankedLeg) (i : ℕ)
    (d : RankedLeg) →
    length costs ≡ nodes_of H → items ≡ map (ranked_leg H) (row (rows_of H side) v) → i < length items →
    (get_or items i d).rank < length costs
leg_within H k side v costs items i d size e lt =
    let r = read_leg H k side v items i d e lt in
    let low = rank_below H k r.0.node r.1.node in
    let rank = r.1.rank in
    omega arith
