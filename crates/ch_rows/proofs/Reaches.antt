-- The nodes that each node of a list reaches upward, and the buckets that hold them.
use Rattle.std.proofs.Common.{◌≡◌, ℕ, ◌<◌, List, [], ◌∷◌, length, map, Vec, Option, ap, subst, arith}
use Rattle.std.specs.Prelude.{◌≢◌, All, AllPairs, slice_index, slice_index_or}
use Rattle.std.specs.List.{AllZip}
use Rattle.std.specs.declared.alloc.Global.{Global}
use Rattle.std.proofs.lemmas.List.{length-map}
use Rattle.std.proofs.lemmas.List.Elements.{All-contains, All-get_or}
use Rattle.std.proofs.lemmas.Slice.Zip.{AllZip-long}
use Rattle.ch_graph.specs.declared.cost.Cost.{Cost}
use Rattle.ch_graph.proofs.Lists.{contains_map, contains_map_of, pairs_map, zipped_at, zipped_map}
use Rattle.ch_hierarchy.specs.declared.leg.Leg.{Leg}
use Rattle.ch_hierarchy.specs.Hierarchy.{LevelsAndLegs, nodes_of, AreLegsUp, IsLegUp, IsLevelled}
use Rattle.ch_hierarchy.specs.Paths.{IsUpwardPath, IsLeastUpwardPath}
use Rattle.ch_hierarchy.specs.declared.side.Side.{Side}
use Rattle.ch_hierarchy.specs.declared.side.Side.TheVariants.{Up, Down}
use Rattle.ch_hierarchy.specs.Side.{rows_of}
use Rattle.ch_query.specs.Limits.{IsWithin}
use Rattle.ch_query.specs.Spread.{IsSpread}
use Rattle.ch_rows.specs.Buckets.{AreBuckets, HoldLists, IsReach}
use Rattle.ch_rows.proofs.HeldSpaces.{found_below}

-- a node and its weight
abbrev pub weight_of : ℕ × Cost → ℕ × ℕ
weight_of reached = (reached.0, reached.1.weight)

-- a spread with weights in place of costs
pub reach_of : (rows : List (List Leg)) (limit : Option ℕ) (s : ℕ) (reached : List (ℕ × Cost)) → IsSpread rows limit s reached →
    IsReach rows limit s (map weight_of reached)
reach_of rows limit s reached spread = record {
  apart = pairs_map weight_of (λ a b. a.0 ≢ b.0) reached (λ i j d lt within same.
      let less = spread.order i j d lt within in omega arith);
  sound = λ v x h.
      let r = contains_map_of weight_of reached (v, x) h in
      let least = spread.sound r.0.0 r.0.1 r.1 in
      let weight : r.0.1.weight ≡ x = ap (λ (e : ℕ × ℕ). e.1) r.2 in
      let path = subst (λ q. IsLeastUpwardPath rows s q r.0.1) (ap (λ (e : ℕ × ℕ). e.0) r.2) least.0 in
      (r.0.1, path, weight, subst (IsWithin limit) weight least.1);
  whole = λ v c p low. contains_map weight_of reached (v, c) (spread.whole v c p low);
}

-- an upward path from a node ends at a node
path_within : (H : LevelsAndLegs) (rows : List (List Leg)) → AreLegsUp H rows → (a b : ℕ) (legs : List Leg) → a < nodes_of H →
    IsUpwardPath rows a b legs → b < nodes_of H
path_within H rows up a b [] lt p = subst (λ q. q < nodes_of H) p lt
path_within H rows up a b (l ∷ legs) lt p = path_within H rows up l.node b legs (All-contains (IsLegUp H a) _ l (up.1 a).1 p.0).node p.1

module _ (rows : List (List Leg)) (limit : Option ℕ) (nodes : List ℕ) (lists : List (Vec (ℕ × ℕ) Global))
    (each : AllZip (λ node (list : Vec (ℕ × ℕ) Global). IsReach rows limit node list.items) nodes lists) where
  -- what a node reaches is below the number of nodes
  pub reaches_within : (H : LevelsAndLegs) → AreLegsUp H rows → All (λ x. x < nodes_of H) nodes →
      All (λ (list : Vec (ℕ × ℕ) Global). All (λ (entry : ℕ × ℕ). entry.0 < nodes_of H) list.items) lists
  reaches_within H up below = found_below (IsReach rows limit) nodes lists each (nodes_of H) (λ k lt list reach v x h.
      let r = reach.sound v x h in
      path_within H rows up (slice_index nodes k) v r.1.path.0 (All-get_or (λ x. x < nodes_of H) nodes k 0 lt below) r.1.path.1)

  abbrev items : Vec (ℕ × ℕ) Global → List (ℕ × ℕ)
  items list = list.items

  reach_at : (j : ℕ) → j < length nodes → IsReach rows limit (slice_index nodes j) (slice_index_or (map items lists) j [])
  reach_at j lt = zipped_at (IsReach rows limit) nodes (map items lists) j 0 [] (zipped_map (IsReach rows limit) items nodes lists each) lt

  -- rows that hold the lists, in order of place, are the buckets
  pub are_buckets : (buckets : List (List (ℕ × ℕ))) → HoldLists (length rows) (λ rank. rank) (map items lists) buckets →
      ((v : ℕ) → AllPairs (λ a b. a.0 < b.0) (slice_index_or buckets v [])) → AreBuckets rows limit nodes buckets
  are_buckets buckets held order =
      let long = length-map lists items in
      let size = AllZip-long (λ node (list : Vec (ℕ × ℕ) Global). IsReach rows limit node list.items) nodes lists each in
      record {
        count = held.count;
        each = λ v. record {
          order = order v;
          sound = λ j x c.
              let h = held.sound v j x c in
              let low : j < length nodes = (let lt = h.0 in omega arith) in
              let r = (reach_at j low).sound h.1 x h.2 in
              (low, r.0, subst (λ q. IsLeastUpwardPath rows (slice_index nodes j) q r.0) h.3 r.1, r.2, r.3);
          whole = λ j c lt p low. held.whole v j c.weight (omega arith) ((reach_at j lt).whole v c p low);
        };
      }

-- the legs of either side lead to higher nodes
pub rows_up : (H : LevelsAndLegs) (side : Side) → IsLevelled H → AreLegsUp H (rows_of H side)
rows_up H Up levelled = levelled.up
rows_up H Down levelled = levelled.down
