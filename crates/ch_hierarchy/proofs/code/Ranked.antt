-- Nodes by rank, and legs by rank.
use Rattle.std.proofs.Common.{◌≡◌, ℕ, ◌+◌, ◌-◌, ◌*◌, ◌<◌, ◌≤◌, List, [], ◌∷◌, ◌++◌, length, map, set, get_or, Contains, sym, ◌∙◌}
use Rattle.std.proofs.Common.{ap, subst, arith, inl, inr}
use Rattle.std.specs.Prelude.{slice_index}
use Rattle.std.proofs.lemmas.Bool.{cases_lt}
use Rattle.std.proofs.lemmas.List.{length-set, length_push, get_or-set_same, get_or-set_other, get_or_append_left, get_or_push}
use Rattle.std.proofs.lemmas.List.Elements.{All-contains}
use Rattle.ch_hierarchy.specs.declared.leg.Leg.{Leg}
use Rattle.ch_hierarchy.specs.declared.ranked.RankedLeg.{RankedLeg}
use Rattle.ch_hierarchy.specs.Rows.{row}
use Rattle.ch_hierarchy.specs.Hierarchy.{LevelsAndLegs, nodes_of, AreLevels, IsLegUp, AreLegsUp, IsLevelled}
use Rattle.ch_hierarchy.specs.Ranked.{rank_in, ranked_in, rank_of, IsRankable, AreByRank, AreRankedRows}
use Rattle.ch_hierarchy.proofs.theory.LevelOrder.{node_of_level}

-- the first k nodes are at their ranks
pub record HasByRank (levels nodes : List ℕ) (k : ℕ) : Type 0 where
  pub count : length nodes ≡ length levels
  pub each : (v : ℕ) → v < k → slice_index nodes (rank_in levels v) ≡ v

module _ (levels : List ℕ) (are : AreLevels levels) where
  -- a rank is below the number of nodes
  pub rank_in_below : (v : ℕ) → v < length levels → rank_in levels v < length levels
  rank_in_below v lt = let l = are.0 v 0 lt in omega (arith, l.0)

  -- two different nodes have different ranks
  ranks_apart : (v w : ℕ) → v < w → w < length levels → rank_in levels v ≡ rank_in levels w → ⊥
  ranks_apart v w less within same =
      let a = are.0 v 0 (omega arith) in
      let b = are.0 w 0 within in
      are.1 v w 0 less within (omega (arith, a.1, b.1))

  -- two nodes of the same rank are equal
  pub rank_in_one : (v w : ℕ) → v < length levels → w < length levels → rank_in levels v ≡ rank_in levels w → v ≡ w
  rank_in_one v w low high same = elim (cases_lt v w) [
    | inl less ↦ absurd (ranks_apart v w less high same)
    | inr ge ↦ elim (cases_lt w v) [
      | inl more ↦ absurd (ranks_apart w v more low (sym same))
      | inr le ↦ omega arith
    ]
  ]

  -- each rank below the number of nodes is that of a node
  pub node_of_rank_in : (r : ℕ) → r < length levels → (v : ℕ) × (v < length levels) × (rank_in levels v ≡ r)
  node_of_rank_in r lt = let v = node_of_level levels are (length levels - (r + 1)) (omega arith) in (v.0, v.1, omega (arith, v.2))

  -- one more node is at its rank
  pub one_by_rank : (nodes : List ℕ) (k : ℕ) → HasByRank levels nodes k → k < length levels →
      HasByRank levels (set nodes (rank_in levels k) k) (k + 1)
  one_by_rank nodes k has lt = record {
    count = length-set nodes (rank_in levels k) k ∙ has.count;
    each = λ v less. elim (cases_lt v k) [
      | inl before ↦ get_or-set_other nodes (rank_in levels k) (rank_in levels v) k 0 (λ same. ranks_apart v k before lt same)
          ∙ has.each v before
      | inr ge ↦
          let here : k ≡ v = omega arith in
          subst (λ w. slice_index (set nodes (rank_in levels k) k) (rank_in levels w) ≡ w) here
          (get_or-set_same nodes (rank_in levels k) k 0 (let below = rank_in_below k lt in omega (arith, has.count)))
    ];
  }

  -- all nodes are at their ranks
  pub all_by_rank : (nodes : List ℕ) (k : ℕ) → HasByRank levels nodes k → length levels ≤ k → AreByRank levels nodes
  all_by_rank nodes k has end = record {
    count = has.count;
    each = λ r lt.
        let v = node_of_rank_in r lt in
        let here : slice_index nodes r ≡ v.0 = ap (slice_index nodes) (sym v.2) ∙ has.each v.0 (let low = v.1 in omega arith) in (
          subst (λ w. w < length levels) (sym here) v.1,
          ap (rank_in levels) here ∙ v.2,
        );
  }

module _ (H : LevelsAndLegs) (is : IsLevelled H) where
  -- a rank is below the number of nodes
  pub rank_below : (v : ℕ) → v < nodes_of H → rank_of H v < nodes_of H
  rank_below = rank_in_below H.level is.levels

  -- two nodes of the same rank are equal
  pub rank_one : (v w : ℕ) → v < nodes_of H → w < nodes_of H → rank_of H v ≡ rank_of H w → v ≡ w
  rank_one = rank_in_one H.level is.levels

  -- each rank below the number of nodes is that of a node
  pub node_of_rank : (r : ℕ) → r < nodes_of H → (v : ℕ) × (v < nodes_of H) × (rank_of H v ≡ r)
  node_of_rank = node_of_rank_in H.level is.levels

  -- the legs of a node have a form by rank
  pub legs_rankable : (rows : List (List Leg)) → AreLegsUp H rows → (v : ℕ) (l : Leg) → Contains (row rows v) l → IsRankable H.level l
  legs_rankable rows are v l has =
      let up = All-contains (IsLegUp H v) (row rows v) l (are.1 v).1 has in
      (up.node, (is.levels.0 l.node 0 up.node).1, up.arcs)

module _ (levels nodes : List ℕ) (ups downs : List (List Leg)) (rows : List (List RankedLeg)) (v : ℕ) (a b : List RankedLeg)
    (are : AreRankedRows levels nodes ups downs rows) where
  abbrev both : List (List RankedLeg)
  both = (rows ++ a ∷ []) ++ b ∷ []

  old : (i : ℕ) → i < length rows → get_or both i [] ≡ get_or rows i []
  old i lt =
      get_or_append_left (rows ++ a ∷ []) (b ∷ []) [] i (let long = length_push rows a in omega arith)
      ∙ get_or_append_left rows (a ∷ []) [] i lt

  -- one more node adds two rows
  pub more_ranked_rows : a ≡ map (ranked_in levels) (row ups v) → b ≡ map (ranked_in levels) (row downs v) →
      AreRankedRows levels (nodes ++ v ∷ []) ups downs both
  more_ranked_rows up down =
      let some = are.count in
      let one = length_push rows a in
      let two = length_push (rows ++ a ∷ []) b in
      let size = length_push nodes v in
      record {
        count = omega arith;
        up = λ r lt. elim (cases_lt r (length nodes)) [
          | inl less ↦ old (2 * r) (omega arith) ∙ are.up r less
              ∙ ap (λ w. map (ranked_in levels) (row ups w)) (sym (get_or_append_left nodes (v ∷ []) 0 r less))
          | inr ge ↦
              let here : length nodes ≡ r = omega arith in
              get_or_append_left (rows ++ a ∷ []) (b ∷ []) [] (2 * r) (omega arith) ∙ get_or_push rows a [] (2 * r) (omega arith)
              ∙ up ∙ ap (λ w. map (ranked_in levels) (row ups w)) (sym (get_or_push nodes v 0 r here))
        ];
        down = λ r lt. elim (cases_lt r (length nodes)) [
          | inl less ↦ old (2 * r + 1) (omega arith) ∙ are.down r less
              ∙ ap (λ w. map (ranked_in levels) (row downs w)) (sym (get_or_append_left nodes (v ∷ []) 0 r less))
          | inr ge ↦
              let here : length nodes ≡ r = omega arith in
              get_or_push (rows ++ a ∷ []) b [] (2 * r + 1) (omega arith) ∙ down
              ∙ ap (λ w. map (ranked_in levels) (row downs w)) (sym (get_or_push nodes v 0 r here))
        ];
      }
