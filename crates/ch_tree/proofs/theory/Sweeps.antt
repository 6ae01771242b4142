-- A pass from a node up to the root: its beginning, and one step.
use Rattle.std.proofs.Common.{◌≡◌, ℕ, ◌+◌, ◌<◌, ◌≤◌, ◌⊎◌, List, [], ◌∷◌, ◌++◌, length, map, set, length-set, Contains, sym, ◌∙◌, ap}
use Rattle.std.proofs.Common.{subst, arith, inl, inr}
use Rattle.std.proofs.Common.{get_or-set_same, get_or-set_other}
use Rattle.std.specs.Prelude.{slice_index}
use Rattle.std.proofs.lemmas.Bool.{cases_eq, cases_lt}
use Rattle.ch_graph.specs.declared.limits.TheConstants.{MOST_WEIGHT}
use Rattle.ch_graph.specs.Cost.{cost_sum}
use Rattle.ch_graph.proofs.Lists.{contains_map, contains_map_of}
use Rattle.ch_hierarchy.specs.declared.leg.Leg.{Leg}
use Rattle.ch_hierarchy.specs.declared.ranked.RankedLeg.{RankedLeg}
use Rattle.ch_hierarchy.specs.declared.side.Side.{Side}
use Rattle.ch_hierarchy.specs.Rows.{row}
use Rattle.ch_hierarchy.specs.Hierarchy.{LevelsAndLegs, nodes_of, IsLevelled}
use Rattle.ch_hierarchy.specs.Ranked.{rank_of, ranked_leg}
use Rattle.ch_hierarchy.specs.Side.{rows_of}
use Rattle.ch_hierarchy.proofs.code.Ranked.{rank_below, rank_one, node_of_rank}
use Rattle.ch_query.specs.Search.{IsUpwardCost}
use Rattle.ch_query.specs.Weighed.{weighed, weighed_leg}
use Rattle.ch_query.specs.Weights.{weight_cost}
use Rattle.ch_query.proofs.one_side.Expanding.{leg_up, level_small}
use Rattle.ch_query.proofs.one_side.PathLaws.{path_push, cost_push}
use Rattle.ch_query.proofs.one_side.WeighedPaths.{weighed_row}
use Rattle.ch_tree.specs.declared.sweep.TheConstants.{NEVER}
use Rattle.ch_tree.specs.Tree.{IsAbove, place_of, IsTree, weight_at, IsClean, AreOffered, IsSweptTo, StaysBelow}
use Rattle.ch_tree.proofs.theory.Climbs.{above_then, above_next, above_one, above_itself, above_low}

-- a leg leads to a node of lesser rank
pub leg_falls : (H : LevelsAndLegs) → IsLevelled H → (side : Side) (v : ℕ) (l : Leg) → Contains (row (rows_of H side) v) l →
    rank_of H l.node < rank_of H v
leg_falls H k side v l has =
    let up = leg_up H k side v l has in
    let higher = up.higher in
    let small = level_small H k l.node in
    omega arith

-- one more leg by weight alone
pub reached_more : (H : LevelsAndLegs) (side : Side) (s v w : ℕ) (k : Leg) → Contains (row (rows_of H side) v) k →
    IsUpwardCost (rows_of (weighed H) side) s v (weight_cost w) →
    w + k.cost.weight ≤ MOST_WEIGHT → IsUpwardCost (rows_of (weighed H) side) s k.node (weight_cost (w + k.cost.weight))
reached_more H side s v w k has r light = record {
  path = (
    r.path.0 ++ weighed_leg k ∷ [],
    path_push (rows_of (weighed H) side) s v r.path.0 (weighed_leg k) r.path.1
        (subst (λ q. Contains q (weighed_leg k)) (sym (weighed_row H side v)) (contains_map weighed_leg (row (rows_of H side) v) k has)),
    cost_push r.path.0 (weighed_leg k) ∙ ap (λ q. cost_sum q (weighed_leg k).cost) r.path.2,
  );
  weight = light;
}

module _ (H : LevelsAndLegs) (k : IsLevelled H) (side : Side) (parents : List ℕ) (t : IsTree H parents) (s : ℕ) (s_low : s < nodes_of H)
    (bound : ℕ) where
  -- the pass begins at s
  pub swept_begins : bound ≤ NEVER → (costs : List ℕ) → IsClean (nodes_of H) costs →
      IsSweptTo H side parents s bound (place_of H s) (set costs (rank_of H s) 0)
  swept_begins most costs clean =
      let low = rank_below H k s s_low in
      let size = clean.size in
      let here : weight_at (set costs (rank_of H s) 0) (rank_of H s) ≡ 0 = get_or-set_same costs (rank_of H s) 0 NEVER (omega arith) in
      let other : (x : ℕ) → (x ≡ rank_of H s → ⊥) → weight_at (set costs (rank_of H s) 0) x ≡ NEVER =
      λ x away. get_or-set_other costs (rank_of H s) x 0 NEVER away ∙ clean.none x in
      record {
        most = most;
        size = length-set costs (rank_of H s) 0 ∙ clean.size;
        within = omega arith;
        small = λ x. elim (cases_eq x (rank_of H s)) [
          | inl is ↦ let e = ap (weight_at (set costs (rank_of H s) 0)) is in omega arith
          | inr away ↦ let e = other x away in omega arith
        ];
        start = here;
        here = above_itself parents (place_of H s);
        known = λ x. elim (cases_eq x (rank_of H s)) [
          | inl is ↦ inr (0, ap (λ q. q + 1) (sym is))
          | inr away ↦ inl (other x away)
        ];
        sound = λ v lt known. elim (cases_eq (rank_of H v) (rank_of H s)) [
          | inl is ↦
              let same = rank_one H k v s lt s_low is in
              let zero_cost : weight_at (set costs (rank_of H s) 0) (rank_of H v) ≡ 0 = ap (weight_at (set costs (rank_of H s) 0)) is
              ∙ here in
              record { path = ([], sym same, ap weight_cost (sym zero_cost)); weight = omega arith }
          | inr away ↦ (let e = other (rank_of H v) away in absurd (omega arith))
        ];
        ahead = λ x known le. elim (cases_eq x (rank_of H s)) [
          | inl is ↦ (0, ap (λ q. q + 1) (sym is))
          | inr away ↦ (let e = other x away in absurd (omega arith))
        ];
        taken = λ v l lt past known has light. (let e = other (rank_of H v) (λ is. omega arith) in absurd (omega arith));
      }

  module _ (r : ℕ) (r_low : r < nodes_of H) (old : List ℕ) (sw : IsSweptTo H side parents s bound (r + 1) old) where
    abbrev next : ℕ
    next = slice_index parents (r + 1)

    next_low : next ≤ r
    next_low = let f = t.falls (r + 1) in omega arith

    next_here : IsAbove parents (place_of H s) next
    next_here = above_then parents (place_of H s) (r + 1) next sw.here (above_one parents (r + 1))

    -- a known node that is not below this one is it, or is above the parent
    old_above : (x : ℕ) → weight_at old x < NEVER → x + 1 ≤ r + 1 → (x ≡ r) ⊎ IsAbove parents next (x + 1)
    old_above x known le = elim (above_next parents (r + 1) (x + 1) (sw.ahead x known le)) [ inl is ↦ inl (omega arith) | inr up ↦ inr up ]

    -- a known node that is below the parent is this one, or lower
    old_below : (x : ℕ) → weight_at old x < NEVER → next < x + 1 → (x ≡ r) ⊎ (r < x)
    old_below x known past = elim (cases_lt r x) [
      | inl more ↦ inr more
      | inr le ↦ elim (old_above x known (omega arith)) [
        | inl is ↦ inl is
        | inr up ↦ (let low = above_low parents t.falls next (x + 1) up in absurd (omega arith))
      ]
    ]

    -- the weight of the node is within the limits
    pub here_light : weight_at old r < NEVER → weight_at old r ≤ MOST_WEIGHT
    here_light known =
        let u = node_of_rank H k r r_low in
        let e : weight_at old (rank_of H u.0) ≡ weight_at old r = ap (weight_at old) u.2 in
        let path = sw.sound u.0 u.1 (omega arith) in
        let light = path.weight in
        omega arith

    -- the legs that are read lead to ranks, and are within the limits
    pub legs_within : (u : ℕ) (legs : List RankedLeg) → legs ≡ map (ranked_leg H) (row (rows_of H side) u) → (l : RankedLeg) →
        Contains legs l →
        (l.rank < length old) × (l.weight ≤ MOST_WEIGHT)
    legs_within u legs read l has =
        let m = contains_map_of (ranked_leg H) (row (rows_of H side) u) l (subst (λ q. Contains q l) read has) in
        let up = leg_up H k side u m.0 m.1 in
        let low = rank_below H k m.0.node up.node in
        let light = up.weight in
        let size = sw.size in
        let rank : rank_of H m.0.node ≡ l.rank = ap (λ (q : RankedLeg). q.rank) m.2 in
        let weight : m.0.cost.weight ≡ l.weight = ap (λ (q : RankedLeg). q.weight) m.2 in
        (omega arith, omega arith)

    -- the node is not known to weigh less than the bound
    pub swept_skips : (weight_at old r < bound → ⊥) → IsSweptTo H side parents s bound next old
    swept_skips not = record {
      most = sw.most;
      size = sw.size;
      within = let low = next_low in omega arith;
      small = sw.small;
      start = sw.start;
      here = next_here;
      known = sw.known;
      sound = sw.sound;
      ahead = λ x known le. elim (old_above x known (let low = next_low in omega arith)) [
        | inl is ↦ (let low = next_low in absurd (omega arith))
        | inr up ↦ up
      ];
      taken = λ v l lt past known has light. elim (old_below (rank_of H v) (let most = sw.most in omega arith) past) [
        | inl is ↦ absurd (not (subst (λ q. weight_at old q < bound) is known))
        | inr more ↦ sw.taken v l lt (omega arith) known has light
      ];
    }

    module _ (u : ℕ) (u_low : u < nodes_of H) (u_is : rank_of H u ≡ r) (known_here : weight_at old r < NEVER) (legs : List RankedLeg)
        (read : legs ≡ map (ranked_leg H) (row (rows_of H side) u)) (new : List ℕ) (are : AreOffered (weight_at old r) legs old new) where
      -- the weight of x was lowered by this leg
      record IsLoweredBy (x : ℕ) : Type 0 where
        leg : Leg
        has : Contains (row (rows_of H side) u) leg
        node : rank_of H leg.node ≡ x
        now : weight_at new x ≡ weight_at old r + leg.cost.weight
        light : weight_at old r + leg.cost.weight ≤ MOST_WEIGHT

      changes : (x : ℕ) → (weight_at new x ≡ weight_at old x) ⊎ IsLoweredBy x
      changes x = elim (are.from x) [
        | inl same ↦ inl same
        | inr f ↦
            let m = contains_map_of (ranked_leg H) (row (rows_of H side) u) f.0 (subst (λ q. Contains q f.0) read f.1) in
            let rank : rank_of H m.0.node ≡ f.0.rank = ap (λ (q : RankedLeg). q.rank) m.2 in
            let weight : m.0.cost.weight ≡ f.0.weight = ap (λ (q : RankedLeg). q.weight) m.2 in
            let now = f.3 in
            let light = f.4 in
            inr (record { leg = m.0; has = m.1; node = rank ∙ f.2; now = omega arith; light = omega arith })
      ]

      -- it is above the parent
      lowered_above : (x : ℕ) → IsLoweredBy x → IsAbove parents next (x + 1)
      lowered_above x b =
          let up : IsAbove parents (r + 1) (x + 1) = subst (λ q. IsAbove parents (q + 1) (x + 1)) u_is
          (subst (λ q. IsAbove parents (place_of H u) (q + 1)) b.node (t.legs side u b.leg u_low b.has)) in
          let fall = leg_falls H k side u b.leg b.has in
          let node = b.node in
          elim (above_next parents (r + 1) (x + 1) up) [ inl is ↦ absurd (omega (arith, u_is)) | inr more ↦ more ]

      -- a weight below the parent stays
      pub stays : StaysBelow next old new
      stays x past = elim (changes x) [
        | inl same ↦ same
        | inr b ↦ (let low = above_low parents t.falls next (x + 1) (lowered_above x b) in absurd (omega arith))
      ]

      -- the legs of this node are taken
      taken_here : (l : Leg) → Contains (row (rows_of (weighed H) side) u) l → weight_at old r + l.cost.weight ≤ MOST_WEIGHT →
          weight_at new (rank_of H l.node) ≤ weight_at old r + l.cost.weight
      taken_here l has light =
          let m = contains_map_of weighed_leg (row (rows_of H side) u) l (subst (λ q. Contains q l) (weighed_row H side u) has) in
          let weight : m.0.cost.weight ≡ l.cost.weight = ap (λ (q : Leg). q.cost.weight) m.2 in
          let node : m.0.node ≡ l.node = ap (λ (q : Leg). q.node) m.2 in
          let low = are.taken (ranked_leg H m.0)
          (subst (λ q. Contains q (ranked_leg H m.0)) (sym read) (contains_map (ranked_leg H) (row (rows_of H side) u) m.0 m.1))
          (omega arith) in
          subst (λ q. weight_at new (rank_of H q) ≤ weight_at old r + l.cost.weight) node (omega arith)

      -- the legs of the node are taken, and the pass goes on at the parent
      pub swept_step : IsSweptTo H side parents s bound next new
      swept_step = record {
        most = sw.most;
        size = are.size ∙ sw.size;
        within = let low = next_low in omega arith;
        small = λ x. let a = are.less x in let b = sw.small x in omega arith;
        start = let a = are.less (rank_of H s) in let b = sw.start in omega arith;
        here = next_here;
        known = λ x. elim (changes x) [
          | inl same ↦ elim (sw.known x) [ inl none ↦ inl (same ∙ none) | inr up ↦ inr up ]
          | inr b ↦ inr (above_then parents (place_of H s) next (x + 1) next_here (lowered_above x b))
        ];
        sound = λ v lt known. elim (changes (rank_of H v)) [
          | inl same ↦ subst (λ q. IsUpwardCost (rows_of (weighed H) side) s v (weight_cost q)) (sym same) (sw.sound v lt (omega arith))
          | inr b ↦
              let up = leg_up H k side u b.leg b.has in
              let is = rank_one H k b.leg.node v up.node lt b.node in
              let here = subst (λ q. IsUpwardCost (rows_of (weighed H) side) s u (weight_cost (weight_at old q))) u_is
              (sw.sound u u_low (subst (λ q. weight_at old q < NEVER) (sym u_is) known_here)) in
              let more = reached_more H side s u (weight_at old r) b.leg b.has here b.light in
              subst (λ q. IsUpwardCost (rows_of (weighed H) side) s v (weight_cost q)) (sym b.now)
              (subst (λ q. IsUpwardCost (rows_of (weighed H) side) s q (weight_cost (weight_at old r + b.leg.cost.weight))) is more)
        ];
        ahead = λ x known le. elim (changes x) [
          | inl same ↦ elim (old_above x (omega arith) (let low = next_low in omega arith)) [
            | inl is ↦ (let low = next_low in absurd (omega arith))
            | inr up ↦ up
          ]
          | inr b ↦ lowered_above x b
        ];
        taken = λ v l lt past known has light.
            let same = stays (rank_of H v) past in
            elim (old_below (rank_of H v) (let most = sw.most in omega arith) past) [
              | inl is ↦
                  let one = rank_one H k v u lt u_low (is ∙ sym u_is) in
                  let e : weight_at old (rank_of H v) ≡ weight_at old r = ap (weight_at old) is in
                  let low = taken_here l (subst (λ q. Contains (row (rows_of (weighed H) side) q) l) one has) (omega arith) in
                  omega arith
              | inr more ↦
                  let low = sw.taken v l lt (omega arith) (omega arith) has (omega arith) in
                  let less = are.less (rank_of H l.node) in
                  omega arith
            ];
      }

-- a lesser bound
pub swept_less : (H : LevelsAndLegs) (side : Side) (parents : List ℕ) (s bound less place : ℕ) (costs : List ℕ) → less ≤ bound →
    IsSweptTo H side parents s bound place costs → IsSweptTo H side parents s less place costs
swept_less H side parents s bound less place costs le sw = record {
  most = let most = sw.most in omega arith;
  size = sw.size;
  within = sw.within;
  small = sw.small;
  start = sw.start;
  here = sw.here;
  known = sw.known;
  sound = sw.sound;
  ahead = sw.ahead;
  taken = λ v l lt past known has light. sw.taken v l lt past (omega arith) has light;
}
