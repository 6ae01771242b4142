-- The nodes of a levelled hierarchy in order of level.
use Rattle.std.proofs.Common.{◌≡◌, ℕ, zero, suc, ◌+◌, ◌<◌, ◌≤◌, List, [], ◌∷◌, ◌++◌, length, get_or, Contains, sym, ◌∙◌, ap, arith}
use Rattle.std.proofs.Common.{inl, inr}
use Rattle.std.specs.Prelude.{◌≢◌, All, slice_index}
use Rattle.std.proofs.lemmas.Bool.{cases_lt}
use Rattle.std.proofs.lemmas.List.{ext_get_or, get_or_default, get_or_append_left, get_or_push, length_push}
use Rattle.std.proofs.lemmas.List.Elements.{All-cons, All-contains}
use Rattle.ch_graph.proofs.Lists.{contains_cons, pairs_cons}
use Rattle.ch_hierarchy.specs.Hierarchy.{LevelsAndLegs, nodes_of, AreLevels, IsLevelled}
use Rattle.ch_hierarchy.specs.Saved.{AreLevelsOf}
use Rattle.ch_hierarchy.specs.Written.{IsByLevel}
use Rattle.ch_hierarchy.proofs.theory.Ordered.{every_number}
use Rattle.ch_hierarchy.proofs.theory.SavedLevels.{level_of, order_of}

-- each level is that of a node, for a list of levels
pub node_of_level : (levels : List ℕ) → AreLevels levels → (i : ℕ) → i < length levels →
    (v : ℕ) × (v < length levels) × (slice_index levels v ≡ i + 1)
node_of_level levels are i lt =
    let n : ℕ = length levels in
    let apart : (y : ℕ) → Contains levels y →
    0 ≢ y = λ y c e. (let l = (All-contains (λ l. (1 ≤ l) × (l ≤ n)) levels y are.0 c).0 in omega arith) in
    let below : All (λ l. l < n + 1) (0 ∷ levels) =
    All-cons (λ l. l < n + 1) 0 levels (omega arith) (λ k d within. let l = (are.0 k d within).1 in omega arith) in
    elim (contains_cons 0 (i + 1) levels (every_number (0 ∷ levels) (n + 1) (i + 1) (omega arith) below
    (pairs_cons ◌≢◌ 0 levels apart are.1) (omega arith))) [
      | inl e ↦ absurd (omega arith)
      | inr there ↦ (there.0, there.1, sym (get_or_default levels there.0 (i + 1) 0 there.1) ∙ there.2)
    ]

module _ (H : LevelsAndLegs) where
  -- each level is that of a node
  pub node_at : IsLevelled H → (i : ℕ) → i < nodes_of H → (v : ℕ) × (v < nodes_of H) × (slice_index H.level v ≡ i + 1)
  node_at is = node_of_level H.level is.levels

  -- these are the nodes of the first k levels, in order
  record AreFirst (k : ℕ) (nodes : List ℕ) : Type 0 where
    size : length nodes ≡ k
    each : (i : ℕ) → i < k → slice_index H.level (get_or nodes i 0) ≡ i + 1

  -- the nodes of the first k levels exist in order
  first_nodes : IsLevelled H → (k : ℕ) → k ≤ nodes_of H → (nodes : List ℕ) × AreFirst k nodes
  first_nodes is zero le = ([], record { size = omega arith; each = λ i lt. absurd (omega arith) })
  first_nodes is (suc k) le =
      let rest = first_nodes is k (omega arith) in
      let next = node_at is k (omega arith) in
      let nodes = rest.0 in
      let size = rest.1.size in (
        nodes ++ next.0 ∷ [],
        record {
          size = length_push nodes next.0 ∙ (omega arith);
          each = λ i lt. elim (cases_lt i k) [
            | inl before ↦ ap (slice_index H.level) (get_or_append_left nodes (next.0 ∷ []) 0 i (omega arith)) ∙ rest.1.each i before
            | inr last ↦
                let here : length nodes ≡ i = omega arith in
                ap (slice_index H.level) (get_or_push nodes next.0 0 i here) ∙ next.2 ∙ (omega arith)
          ];
        },
      )

  -- the nodes of all levels are in order of level
  pub level_order : IsLevelled H → (order : List ℕ) × IsByLevel H order
  level_order is =
      let all = first_nodes is (nodes_of H) (omega arith) in
      let size = all.1.size in
      let levels : AreLevelsOf all.0 H.level = record { count = sym size; each = λ i lt. all.1.each i (omega arith) } in
      (all.0, record { nodes = order_of all.0 H.level levels; levels = levels })

  -- there is only one order of level
  pub one_level_order : (order other : List ℕ) → IsByLevel H order → IsByLevel H other → order ≡ other
  one_level_order order other a b = ext_get_or 0 order other (a.nodes.count ∙ sym b.nodes.count) (λ i lt.
      let same = b.nodes.count in
      let size = a.nodes.count in
      let at = level_of (nodes_of H) order H.level a.nodes a.levels (slice_index other i) (b.nodes.within i (omega arith)) in
      let level = b.levels.each i (omega arith) in
      let place : at.0 ≡ i = (let e = at.3 in omega arith) in
      ap (slice_index order) (sym place) ∙ at.2)
