-- A search by weights at its beginning: on each side the end is reached, and no other node is.
use Rattle.std.proofs.Common.{◌≡◌, ℕ, ◌<◌, ◌≤◌, length, map, Some, None, refl, sym, ◌∙◌, ap, subst, arith, set, length-set}
use Rattle.std.specs.Option.{option_map}
use Rattle.std.proofs.lemmas.Option.{none-some}
use Rattle.ch_graph.specs.declared.cost.TheConstants.{UNREACHED}
use Rattle.ch_graph.specs.declared.limits.TheConstants.{MOST_WEIGHT}
use Rattle.ch_graph.specs.declared.cost.Cost.{Cost}
use Rattle.ch_graph.specs.Cost.{no_cost, cost_at}
use Rattle.ch_hierarchy.specs.Hierarchy.{LevelsAndLegs, nodes_of, IsLevelled}
use Rattle.ch_hierarchy.specs.Ranked.{rank_of}
use Rattle.ch_hierarchy.specs.declared.side.Side.{Side}
use Rattle.ch_hierarchy.specs.declared.side.Side.TheVariants.{Up, Down}
use Rattle.ch_hierarchy.specs.Side.{rows_of, other, state_of}
use Rattle.ch_query.specs.declared.question.Ends.{Ends}
use Rattle.ch_query.specs.declared.weights.search.WeightSearch.{WeightSearch}
use Rattle.ch_query.specs.Questions.{all_paths}
use Rattle.ch_query.specs.Search.{IsSettled}
use Rattle.ch_query.specs.Underway.{IsTouched}
use Rattle.ch_query.specs.Weighed.{weighed, IsWeightSearchTo}
use Rattle.ch_query.specs.Weights.{known_cost, weight_cost, by_state, side_costs, side_keys, source_of, is_idle_on, IsSizedFor}
use Rattle.ch_query.specs.Weights.{IsWeighingOn, IsCleanFor, HasBegunOn, IsLeastSoFar, IsUnsettled}
use Rattle.ch_query.proofs.one_side.Begun.{begun_search, begun_fresh}
use Rattle.ch_query.proofs.one_side.Expanding.{rows_size}
use Rattle.ch_query.proofs.one_side.WeighedPaths.{weighed_levelled}
use Rattle.ch_query.proofs.by_weight.Clean.{clean_costs, clean_keys}
use Rattle.ch_query.proofs.by_weight.States.{by_state-size, by_state-set, by_state-other}

-- x is clean, and z is x with one node of a side reached
module _ (H : LevelsAndLegs) (k : IsLevelled H) (x z : WeightSearch) (clean : IsCleanFor (nodes_of H) x) (ends : Ends) (side : Side) (s : ℕ)
    (within : s < nodes_of H) (source : source_of ends side ≡ s)
    (most : ends.most ≤ MOST_WEIGHT) (sizes : IsSizedFor (nodes_of H) z)
    (costs : side_costs H side z ≡ set (side_costs H side x) s (Some no_cost))
    (keys : side_keys H side z ≡ set (side_keys H side x) s (Some no_cost)) where
  -- there are as many rows as nodes
  rows_many : length (rows_of (weighed H) side) ≡ nodes_of H
  rows_many = rows_size (weighed H) (weighed_levelled H k) side

  costs_many : length (side_costs H side x) ≡ length (rows_of (weighed H) side)
  costs_many = by_state-size known_cost H side x.known.items UNREACHED ∙ sym rows_many

  keys_many : length (side_keys H side x) ≡ length (rows_of (weighed H) side)
  keys_many = by_state-size (option_map weight_cost) H side x.queue None ∙ sym rows_many

  in_rows : s < length (rows_of (weighed H) side)
  in_rows = (let size = rows_many in omega arith)

  -- the side has begun
  pub side_begun : IsWeighingOn H ends side z
  side_begun = record {
    levelled = k;
    sizes = sizes;
    search = subst (λ q. IsWeightSearchTo ends.most H side q (side_costs H side z) (side_keys H side z)) (sym source)
        (subst (λ q. IsWeightSearchTo ends.most H side s (side_costs H side z) q) (sym keys)
        (subst (λ q. IsWeightSearchTo ends.most H side s q (set (side_keys H side x) s (Some no_cost))) (sym costs)
        (begun_search ends.most (rows_of (weighed H) side) s (is_idle_on H side s) (side_costs H side x) (side_keys H side x) most
        costs_many keys_many in_rows (clean_costs H side x clean k) (clean_keys H side x clean))));
  }

  -- no node is settled
  pub side_fresh : (v : ℕ) (c : Cost) → IsSettled (side_costs H side z) (side_keys H side z) v c → ⊥
  side_fresh v c settled =
      begun_fresh ends.most (rows_of (weighed H) side) s (is_idle_on H side s) (side_costs H side x) (side_keys H side x) most
      costs_many keys_many in_rows (clean_costs H side x clean k) (clean_keys H side x clean) v c
      (subst (λ q. IsSettled (set (side_costs H side x) s (Some no_cost)) q v c) keys
      (subst (λ q. IsSettled q (side_keys H side z) v c) costs settled))

-- x is clean, and z is x with the state of one node reached
module _ (H : LevelsAndLegs) (k : IsLevelled H) (x z : WeightSearch) (clean : IsCleanFor (nodes_of H) x) (ends : Ends) (side : Side)
    (s state : ℕ)
    (within : s < nodes_of H) (is : state ≡ state_of side (rank_of H s))
    (source : source_of ends side ≡ s) (most : ends.most ≤ MOST_WEIGHT) (known : z.known.items ≡ set x.known.items state 0)
    (queue : z.queue ≡ set x.queue state (Some 0))
    (touched : IsTouched (map known_cost z.known.items) z.touched) where
  costs_on : side_costs H side z ≡ set (side_costs H side x) s (Some no_cost)
  costs_on =
      ap (λ q. by_state known_cost H side q UNREACHED) (known ∙ ap (λ q. set x.known.items q 0) is)
      ∙ by_state-set known_cost H side k x.known.items UNREACHED 0 s clean.sizes.known within

  keys_on : side_keys H side z ≡ set (side_keys H side x) s (Some no_cost)
  keys_on =
      ap (λ q. by_state (option_map weight_cost) H side q None) (queue ∙ ap (λ q. set x.queue q (Some 0)) is)
      ∙ by_state-set (option_map weight_cost) H side k x.queue None (Some 0) s clean.sizes.queue within

  -- the other side has no key
  keys_other : side_keys H (other side) z ≡ side_keys H (other side) x
  keys_other =
      ap (λ q. by_state (option_map weight_cost) H (other side) q None) (queue ∙ ap (λ q. set x.queue q (Some 0)) is)
      ∙ by_state-other (option_map weight_cost) H side x.queue None (Some 0) (rank_of H s)

  sizes_on : IsSizedFor (nodes_of H) z
  sizes_on = record {
    known = ap length known ∙ length-set x.known.items state 0 ∙ clean.sizes.known;
    queue = ap length queue ∙ length-set x.queue state (Some 0) ∙ clean.sizes.queue;
    touched = touched;
  }

  -- the search has begun on that side alone
  pub begun_alone : HasBegunOn H ends side z
  begun_alone = record {
    weighing = side_begun H k x z clean ends side s within source most sizes_on costs_on keys_on;
    alone = λ v c key. none-some c (sym (ap (λ q. cost_at q v) keys_other ∙ clean_keys H (other side) x clean v) ∙ key);
    fresh = side_fresh H k x z clean ends side s within source most sizes_on costs_on keys_on;
  }

-- x is clean, and z is x with both ends reached
module _ (H : LevelsAndLegs) (k : IsLevelled H) (x z : WeightSearch) (s t : ℕ) (clean : IsCleanFor (nodes_of H) x)
    (from : s < nodes_of H) (to : t < nodes_of H)
    (known : z.known.items ≡ set (set x.known.items (state_of Up (rank_of H s)) 0) (state_of Down (rank_of H t)) 0)
    (queue : z.queue ≡ set (set x.queue (state_of Up (rank_of H s)) (Some 0)) (state_of Down (rank_of H t)) (Some 0))
    (touched : IsTouched (map known_cost z.known.items) z.touched) where
  -- the node where a side begins
  abbrev end_of : Side → ℕ
  end_of = source_of (all_paths s t)

  -- this node is a node of the hierarchy
  end_within : (side : Side) → end_of side < nodes_of H
  end_within Up = from
  end_within Down = to

  -- on each side only this node gets a cost
  costs_then : (side : Side) → side_costs H side z ≡ set (side_costs H side x) (end_of side) (Some no_cost)
  costs_then Up =
      ap (λ q. by_state known_cost H Up q UNREACHED) known
      ∙ by_state-other known_cost H Down (set x.known.items (state_of Up (rank_of H s)) 0) UNREACHED 0 (rank_of H t)
      ∙ by_state-set known_cost H Up k x.known.items UNREACHED 0 s clean.sizes.known from
  costs_then Down =
      ap (λ q. by_state known_cost H Down q UNREACHED) known
      ∙ by_state-set known_cost H Down k (set x.known.items (state_of Up (rank_of H s)) 0) UNREACHED 0 t
      (length-set x.known.items (state_of Up (rank_of H s)) 0 ∙ clean.sizes.known) to
      ∙ ap (λ q. set q t (Some no_cost)) (by_state-other known_cost H Up x.known.items UNREACHED 0 (rank_of H s))

  -- on each side only this node gets a key
  keys_then : (side : Side) → side_keys H side z ≡ set (side_keys H side x) (end_of side) (Some no_cost)
  keys_then Up =
      ap (λ q. by_state (option_map weight_cost) H Up q None) queue
      ∙ by_state-other (option_map weight_cost) H Down (set x.queue (state_of Up (rank_of H s)) (Some 0)) None (Some 0) (rank_of H t)
      ∙ by_state-set (option_map weight_cost) H Up k x.queue None (Some 0) s clean.sizes.queue from
  keys_then Down =
      ap (λ q. by_state (option_map weight_cost) H Down q None) queue
      ∙ by_state-set (option_map weight_cost) H Down k (set x.queue (state_of Up (rank_of H s)) (Some 0)) None (Some 0) t
      (length-set x.queue (state_of Up (rank_of H s)) (Some 0) ∙ clean.sizes.queue) to
      ∙ ap (λ q. set q t (Some no_cost)) (by_state-other (option_map weight_cost) H Up x.queue None (Some 0) (rank_of H s))

  -- the lists keep their lengths
  sizes : IsSizedFor (nodes_of H) z
  sizes = record {
    known = ap length known ∙ length-set (set x.known.items (state_of Up (rank_of H s)) 0) _ 0 ∙ length-set x.known.items _ 0
        ∙ clean.sizes.known;
    queue = ap length queue ∙ length-set (set x.queue (state_of Up (rank_of H s)) (Some 0)) _ (Some 0)
        ∙ length-set x.queue _ (Some 0) ∙ clean.sizes.queue;
    touched = touched;
  }

  -- each side has begun
  both_begun : (side : Side) → IsWeighingOn H (all_paths s t) side z
  both_begun side =
      side_begun H k x z clean (all_paths s t) side (end_of side) (end_within side) refl (omega arith) sizes (costs_then side)
      (keys_then side)

  -- no state is settled yet
  pub weighing_fresh : IsUnsettled H z
  weighing_fresh side =
      side_fresh H k x z clean (all_paths s t) side (end_of side) (end_within side) refl (omega arith) sizes (costs_then side)
      (keys_then side)

  -- no sum is known yet
  pub weighing_begun : IsLeastSoFar H (all_paths s t) z UNREACHED
  weighing_begun = record {
    weighing = record { most = refl; sides = both_begun };
    small = omega arith;
    seen = λ v a b up down. absurd (weighing_fresh Up v a up);
    found = λ lt. absurd (omega arith);
  }
