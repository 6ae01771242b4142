-- The program reads the legs of a node by rank. A search by weights alone sees only their weights.
use Rattle.std.proofs.Common.{◌≡◌, ℕ, ◌+◌, ◌*◌, ◌^◌, ◌<◌, ◌≤◌, List, [], ◌∷◌, ◌++◌, length, map, take, take_all, Contains, ◌∙◌, ap}
use Rattle.std.proofs.Common.{subst, arith, get_or}
use Rattle.std.proofs.lemmas.List.{take_more, get_or-map, length-map}
use Rattle.std.proofs.lemmas.List.Elements.{Contains-get_or}
use Rattle.ch_graph.specs.declared.limits.TheConstants.{MOST_WEIGHT}
use Rattle.ch_hierarchy.specs.declared.leg.Leg.{Leg}
use Rattle.ch_hierarchy.specs.declared.ranked.RankedLeg.{RankedLeg}
use Rattle.ch_hierarchy.specs.Rows.{row}
use Rattle.ch_hierarchy.specs.Hierarchy.{LevelsAndLegs, nodes_of, IsLevelled}
use Rattle.ch_hierarchy.specs.Ranked.{rank_of, ranked_leg}
use Rattle.ch_hierarchy.specs.declared.side.Side.{Side}
use Rattle.ch_hierarchy.specs.Side.{rows_of, state_of}
use Rattle.ch_hierarchy.proofs.code.Ranked.{rank_below}
use Rattle.ch_hierarchy.proofs.theory.NoLeg.{no_leg}
use Rattle.ch_query.specs.Weighed.{weighed, weighed_leg}
use Rattle.ch_query.proofs.one_side.Expanding.{leg_up}
use Rattle.ch_query.proofs.one_side.WeighedPaths.{weighed_row}
use Rattle.ch_query.proofs.by_weight.States.{state_below}

-- the program reads the leg l, at place i of the legs of v, as r
pub record IsReadLeg (H : LevelsAndLegs) (side : Side) (v i : ℕ) (r : RankedLeg) (l : Leg) : Type 0 where
  pub has : Contains (row (rows_of (weighed H) side) v) (weighed_leg l)
  pub node : l.node < nodes_of H
  pub light : l.cost.weight ≤ MOST_WEIGHT
  pub rank : r.rank ≡ rank_of H l.node
  pub weight : r.weight ≡ l.cost.weight
  pub more : take (i + 1) (row (rows_of (weighed H) side) v) ≡ take i (row (rows_of (weighed H) side) v) ++ weighed_leg l ∷ []

-- there is such a leg
pub read_leg : (H : LevelsAndLegs) → IsLevelled H → (side : Side) (v : ℕ) (items : List RankedLeg) (i : ℕ) (d : RankedLeg) →
    items ≡ map (ranked_leg H) (row (rows_of H side) v) → i < length items → (l : Leg) × IsReadLeg H side v i (get_or items i d) l
read_leg H k side v items i d e lt =
    let legs = row (rows_of H side) v in
    let light_legs = row (rows_of (weighed H) side) v in
    let size = ap length e ∙ length-map legs (ranked_leg H) in
    let light_size = ap length (weighed_row H side v) ∙ length-map legs weighed_leg in
    let low : i < length legs = omega arith in
    let light_low : i < length light_legs = omega arith in
    let l = get_or legs i no_leg in
    let up = leg_up H k side v l (Contains-get_or legs i no_leg low) in
    let is : get_or items i d ≡ ranked_leg H l = ap (λ q. get_or q i d) e ∙ get_or-map (ranked_leg H) legs i no_leg d low in
    let light_is : get_or light_legs i no_leg ≡ weighed_leg l =
    ap (λ q. get_or q i no_leg) (weighed_row H side v) ∙ get_or-map weighed_leg legs i no_leg no_leg low in (
      l,
      record {
        has = subst (λ q. Contains light_legs q) light_is (Contains-get_or light_legs i no_leg light_low);
        node = up.node;
        light = up.weight;
        rank = ap (λ (r : RankedLeg). r.rank) is;
        weight = ap (λ (r : RankedLeg). r.weight) is;
        more = take_more light_legs i no_leg light_low ∙ ap (λ q. take i light_legs ++ q ∷ []) light_is;
      },
    )

-- the rank that is read has states
pub read_rank : (H : LevelsAndLegs) → IsLevelled H → (side : Side) (v : ℕ) (items : List RankedLeg) (i : ℕ) (d : RankedLeg) →
    items ≡ map (ranked_leg H) (row (rows_of H side) v) → i < length items → (get_or items i d).rank < 2 ^ 31
read_rank H k side v items i d e lt =
    let r = read_leg H k side v items i d e lt in
    let rank = r.1.rank in
    let low = rank_below H k r.0.node r.1.node in
    let count = k.count in
    omega arith

-- the weight that is read makes no sum overflow
pub read_light : (H : LevelsAndLegs) → IsLevelled H → (side : Side) (v : ℕ) (items : List RankedLeg) (i : ℕ) (d : RankedLeg) →
    items ≡ map (ranked_leg H) (row (rows_of H side) v) → i < length items → (get_or items i d).weight ≤ MOST_WEIGHT
read_light H k side v items i d e lt =
    let r = read_leg H k side v items i d e lt in
    let weight = r.1.weight in
    let light = r.1.light in
    omega arith

-- past the last leg, all legs are taken
pub read_whole : (H : LevelsAndLegs) (side : Side) (v : ℕ) (items : List RankedLeg) (i : ℕ) →
    items ≡ map (ranked_leg H) (row (rows_of H side) v) → length items ≤ i →
    take i (row (rows_of (weighed H) side) v) ≡ row (rows_of (weighed H) side) v
read_whole H side v items i e past =
    let size = ap length e ∙ length-map (row (rows_of H side) v) (ranked_leg H) in
    let light_size = ap length (weighed_row H side v) ∙ length-map (row (rows_of H side) v) weighed_leg in
    take_all i (row (rows_of (weighed H) side) v) (omega arith)

-- the state of a leg's node exists
pub read_state : (H : LevelsAndLegs) → IsLevelled H → (side turned : Side) (v i : ℕ) (r : RankedLeg) (l : Leg) →
    IsReadLeg H turned v i r l → (state : ℕ) →
    state ≡ state_of side r.rank → (state ≡ state_of side (rank_of H l.node)) × (state < 2 * nodes_of H)
read_state H k side turned v i r l is state e =
    let low = state_below side (rank_of H l.node) (nodes_of H) (rank_below H k l.node is.node) in
    let at : state ≡ state_of side (rank_of H l.node) = e ∙ ap (state_of side) is.rank in
    (at, omega arith)
