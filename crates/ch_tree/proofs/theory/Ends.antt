-- Two passes to the root are two searches that have settled all that they know.
use Rattle.std.proofs.Common.{◌≡◌, ℕ, ◌+◌, ◌<◌, ◌≤◌, ◌⊎◌, Bool, true, false, cond, List, map, Option, Some, None, refl, sym, ◌∙◌, ap}
use Rattle.std.proofs.Common.{subst, arith, inl, inr}
use Rattle.std.specs.Prelude.{nat_lt, if◌then◌else◌}
use Rattle.std.proofs.lemmas.Bool.Decides.{nat_tests}
use Rattle.std.proofs.lemmas.List.{get_or-map}
use Rattle.std.proofs.lemmas.Bool.{cases_eq}
use Rattle.std.proofs.lemmas.Option.{same_Some, none-some}
use Rattle.ch_graph.specs.declared.cost.Cost.{Cost}
use Rattle.ch_graph.specs.Cost.{cost_at}
use Rattle.ch_hierarchy.specs.declared.side.Side.{Side}
use Rattle.ch_hierarchy.specs.declared.side.Side.TheVariants.{Up, Down}
use Rattle.ch_hierarchy.specs.Hierarchy.{LevelsAndLegs, nodes_of, IsLevelled}
use Rattle.ch_hierarchy.specs.Ranked.{rank_of}
use Rattle.ch_hierarchy.specs.Side.{rows_of}
use Rattle.ch_hierarchy.proofs.code.Ranked.{rank_below, node_of_rank}
use Rattle.ch_query.specs.ByNode.{by_node}
use Rattle.ch_query.specs.Distance.{IsKeptForSome, IsLeastWeight}
use Rattle.ch_query.specs.Search.{IsUpwardCost, IsSettled}
use Rattle.ch_query.specs.Weighed.{weighed, IsWeightSearch, IsWeightSeen, IsWeightFound}
use Rattle.ch_query.specs.Weights.{known_cost, weight_cost}
use Rattle.ch_query.proofs.one_side.ByNode.{by_node-size, by_node-at, by_node-some}
use Rattle.ch_query.proofs.one_side.Expanding.{leg_up, rows_size}
use Rattle.ch_query.proofs.one_side.WeighedPaths.{weighed_levelled}
use Rattle.ch_query.proofs.by_weight.Known.{reached_cost, known_whole, known_at}
use Rattle.ch_query.proofs.two_sides.WeighedSearches.{weighed_least}
use Rattle.ch_tree.specs.declared.sweep.TheConstants.{NEVER}
use Rattle.ch_tree.specs.Tree.{place_of, AreCommonAbove, weight_at, IsSweptTo, IsLeastSum}

-- the weights by rank as costs by node
abbrev costs_by_node : LevelsAndLegs → List ℕ → List (Option Cost)
costs_by_node H costs = by_node H (map known_cost costs) None

-- the key of a weight that is not less than the bound
abbrev late_cost : ℕ → ℕ → Option Cost
late_cost bound w = if nat_lt w bound then None else known_cost w

-- the nodes whose legs may be left out, with their keys
abbrev late_keys : LevelsAndLegs → ℕ → List ℕ → List (Option Cost)
late_keys H bound costs = by_node H (map (late_cost bound) costs) None

-- a key is a known weight that is not less than the bound
late_some : (bound w : ℕ) (c : Cost) → late_cost bound w ≡ Some c → (bound ≤ w) × (known_cost w ≡ Some c)
late_some bound w c e = at (nat_lt w bound) refl e
  where
    at : (b : Bool) → nat_lt w bound ≡ b → cond b None (known_cost w) ≡ Some c → (bound ≤ w) × (known_cost w ≡ Some c)
    at true f g = absurd (none-some c g)
    at false f g = (grind (arith, nat_tests), g)

-- a known weight without a key is less than the bound
late_early : (bound w : ℕ) (c : Cost) → known_cost w ≡ Some c → late_cost bound w ≡ None → w < bound
late_early bound w c known e = at (nat_lt w bound) refl e
  where
    at : (b : Bool) → nat_lt w bound ≡ b → cond b None (known_cost w) ≡ None → w < bound
    at true f g = grind (arith, nat_tests)
    at false f g = absurd (none-some c (sym g ∙ known))

module _ (H : LevelsAndLegs) (k : IsLevelled H) (side : Side) (parents : List ℕ) (s : ℕ) (s_low : s < nodes_of H) (bound : ℕ)
    (costs : List ℕ)
    (sw : IsSweptTo H side parents s bound 0 costs) where
  -- the cost of a node is that of its weight
  cost_is : (v : ℕ) → v < nodes_of H → cost_at (costs_by_node H costs) v ≡ known_cost (weight_at costs (rank_of H v))
  cost_is v lt =
      let low = rank_below H k v lt in
      let size = sw.size in
      by_node-at H (map known_cost costs) None None v lt ∙ known_at costs (rank_of H v) NEVER (omega arith)

  cost_there : (v : ℕ) → v < nodes_of H → weight_at costs (rank_of H v) < NEVER →
      cost_at (costs_by_node H costs) v ≡ Some (weight_cost (weight_at costs (rank_of H v)))
  cost_there v lt known = cost_is v lt ∙ reached_cost (weight_at costs (rank_of H v)) (λ same. omega arith)

  -- a known cost is a weight
  pub of_cost : (v : ℕ) (c : Cost) → cost_at (costs_by_node H costs) v ≡ Some c →
      (v < nodes_of H) × (weight_at costs (rank_of H v) < NEVER) × (weight_cost (weight_at costs (rank_of H v)) ≡ c)
  of_cost v c e =
      let b = by_node-some H (map known_cost costs) v c e in
      let at = sym (cost_is v b.0) ∙ e in
      let small = sw.small (rank_of H v) in (
        b.0,
        elim (cases_eq (weight_at costs (rank_of H v)) NEVER) [
          | inl same ↦ absurd (none-some c (sym (ap known_cost same) ∙ at))
          | inr away ↦ omega arith
        ],
        known_whole (weight_at costs (rank_of H v)) c at,
      )

  -- a key is a weight that is not less than the bound
  pub of_key : (v : ℕ) (c : Cost) → cost_at (late_keys H bound costs) v ≡ Some c → (cost_at (costs_by_node H costs) v ≡ Some c)
      × (bound ≤ c.weight) × (c.weight < NEVER)
  of_key v c e =
      let b = by_node-some H (map (late_cost bound) costs) v c e in
      let low = rank_below H k v b.0 in
      let size = sw.size in
      let is : cost_at (late_keys H bound costs) v ≡ late_cost bound (weight_at costs (rank_of H v)) =
      by_node-at H (map (late_cost bound) costs) None None v b.0
      ∙ get_or-map (late_cost bound) costs (rank_of H v) NEVER None (omega arith) in
      let late = late_some bound (weight_at costs (rank_of H v)) c (sym is ∙ e) in
      let known = cost_is v b.0 ∙ late.1 in
      let at = of_cost v c known in
      let same = ap (λ (q : Cost). q.weight) at.2 in
      (known, omega (arith, late.0), omega (arith, at.1))

  -- a weight without a key is less than the bound
  pub of_settled : (v : ℕ) (c : Cost) → IsSettled (costs_by_node H costs) (late_keys H bound costs) v c → c.weight < bound
  of_settled v c settled =
      let b = of_cost v c settled.0 in
      let low = rank_below H k v b.0 in
      let size = sw.size in
      let is : cost_at (late_keys H bound costs) v ≡ late_cost bound (weight_at costs (rank_of H v)) =
      by_node-at H (map (late_cost bound) costs) None None v b.0
      ∙ get_or-map (late_cost bound) costs (rank_of H v) NEVER None (omega arith) in
      let early = late_early bound (weight_at costs (rank_of H v)) c (sym (cost_is v b.0) ∙ settled.0) (sym is ∙ settled.1) in
      let same = ap (λ (q : Cost). q.weight) b.2 in
      omega arith

  -- the pass is a search
  pub pass_search : IsWeightSearch H side s (costs_by_node H costs) (late_keys H bound costs)
  pass_search = record {
    limits = omega arith;
    sizes = (
      by_node-size H (map known_cost costs) None ∙ sym (rows_size (weighed H) (weighed_levelled H k) side),
      by_node-size H (map (late_cost bound) costs) None ∙ sym (rows_size (weighed H) (weighed_levelled H k) side),
    );
    start = let zero = sw.start in cost_there s s_low (omega arith) ∙ ap (λ q. Some (weight_cost q)) zero;
    sound = λ v c e. let b = of_cost v c e in subst (λ q. IsUpwardCost (rows_of (weighed H) side) s v q) b.2 (sw.sound v b.0 b.1);
    light = λ v c e. let b = of_cost v c e in
        let r = sw.sound v b.0 b.1 in let light = r.weight in let is = ap (λ (q : Cost). q.weight) b.2 in omega arith;
    queued = λ v c e. (of_key v c e).0;
    order = λ v w c d settled e. (let early = of_settled v c settled in let late = of_key w d e in
        (omega (arith, late.1), λ ge. absurd (omega (arith, late.1))));
    frontier = λ v c settled. inr (λ l has light.
        let b = of_cost v c settled.0 in
        let is = ap (λ (q : Cost). q.weight) b.2 in
        let arcs = ap (λ (q : Cost). q.arcs) b.2 in
        let early = of_settled v c settled in
        let up = leg_up (weighed H) (weighed_levelled H k) side v l has in
        let low = sw.taken v l b.0 (omega arith) (omega arith) has (omega arith) in (
          weight_cost (weight_at costs (rank_of H l.node)),
          cost_there l.node up.node (omega arith),
          (omega arith, λ ge. omega arith),
        ));
  }

module _ (H : LevelsAndLegs) (k : IsLevelled H) (kept : IsKeptForSome H) (parents : List ℕ) (s t : ℕ) (s_low : s < nodes_of H)
    (t_low : t < nodes_of H) (ups downs : List ℕ) (least : ℕ)
    (up : IsSweptTo H Up parents s least 0 ups) (down : IsSweptTo H Down parents t least 0 downs) (meeting : ℕ)
    (common : AreCommonAbove parents (place_of H s) (place_of H t) meeting) (sum : IsLeastSum parents meeting ups downs least) where
  -- the least sum is at most each sum
  sum_seen : (v : ℕ) (a b : Cost) → cost_at (costs_by_node H ups) v ≡ Some a → cost_at (costs_by_node H downs) v ≡ Some b →
      least ≤ a.weight + b.weight
  sum_seen v a b here there =
      let p = of_cost H k Up parents s s_low least ups up v a here in
      let q = of_cost H k Down parents t t_low least downs down v b there in
      let first = ap (λ (c : Cost). c.weight) p.2 in
      let second = ap (λ (c : Cost). c.weight) q.2 in
      elim (up.known (rank_of H v)) [
        | inl none ↦ (let some = p.1 in absurd (omega arith))
        | inr above ↦ elim (down.known (rank_of H v)) [
          | inl none ↦ (let some = q.1 in absurd (omega arith))
          | inr above_too ↦ (let low = sum.seen (rank_of H v) (common (place_of H v) above above_too) in omega arith)
        ]
      ]

  -- a sum that is known is that of two paths
  pub least_of_passes : (o : Option ℕ) → ((o ≡ Some least) × (least < NEVER)) ⊎ ((o ≡ None) × (least ≡ NEVER)) → IsLeastWeight H s t o
  least_of_passes o is =
      weighed_least H kept s t o (costs_by_node H ups) (late_keys H least ups) (costs_by_node H downs) (late_keys H least downs)
      (pass_search H k Up parents s s_low least ups up) (pass_search H k Down parents t t_low least downs down)
      (seen is) (found is)
      (λ v d e. let key = of_key H k Up parents s s_low least ups up v d e in past is d (key.1, key.2))
      (λ v d e. let key = of_key H k Down parents t t_low least downs down v d e in past is d (key.1, key.2))
    where
      past : ((o ≡ Some least) × (least < NEVER)) ⊎ ((o ≡ None) × (least ≡ NEVER)) → (d : Cost) → (least ≤ d.weight)
          × (d.weight < NEVER) → (e : ℕ) × (o ≡ Some e) × (e ≤ d.weight)
      past (inl some) d key = (least, some.0, key.0)
      past (inr none) d key = absurd (omega (arith, none.1, key.0, key.1))

      seen : ((o ≡ Some least) × (least < NEVER)) ⊎ ((o ≡ None) × (least ≡ NEVER)) →
          IsWeightSeen (costs_by_node H ups) (late_keys H least ups) (costs_by_node H downs) (late_keys H least downs) o
      seen (inl some) v a b here there = (least, some.0, sum_seen v a b here.0 there.0)
      seen (inr none) v a b here there =
          let low = sum_seen v a b here.0 there.0 in
          let p = (pass_search H k Up parents s s_low least ups up).light v a here.0 in
          let q = (pass_search H k Down parents t t_low least downs down).light v b there.0 in
          let at = none.1 in
          absurd (omega arith)

      found : ((o ≡ Some least) × (least < NEVER)) ⊎ ((o ≡ None) × (least ≡ NEVER)) → IsWeightFound H s t o
      found (inr none) e same = absurd (none-some e (sym none.0 ∙ same))
      found (inl some) e same =
          let f = sum.found some.1 in
          let size = up.size in
          let low = f.1 in
          let n = node_of_rank H k f.0 (omega arith) in
          let is : least ≡ e = same_Some _ _ (sym some.0 ∙ same) in
          let at : weight_at ups (rank_of H n.0) + weight_at downs (rank_of H n.0) ≡ least =
          ap (λ r. weight_at ups r + weight_at downs r) n.2 ∙ f.2 in
          let less = some.1 in (
            n.0,
            weight_cost (weight_at ups (rank_of H n.0)),
            weight_cost (weight_at downs (rank_of H n.0)),
            up.sound n.0 n.1 (omega arith),
            down.sound n.0 n.1 (omega arith),
            at ∙ is,
          )
