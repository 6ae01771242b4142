-- A node stays unexpanded if a higher node shows a lighter way to it.
use Rattle.std.proofs.Common.{◌≡◌, ℕ, ◌+◌, ◌<◌, ◌≤◌, length, refl, sym, ◌∙◌, ap, arith, get_or, inl, inr, None}
use Rattle.std.proofs.lemmas.Bool.{cases_eq}
use Rattle.std.proofs.lemmas.List.{get_or_default}
use Rattle.ch_graph.specs.Cost.{cost_at}
use Rattle.ch_hierarchy.specs.declared.leg.Leg.{Leg}
use Rattle.ch_hierarchy.specs.declared.ranked.RankedLeg.{RankedLeg}
use Rattle.ch_hierarchy.specs.Hierarchy.{LevelsAndLegs}
use Rattle.ch_hierarchy.specs.declared.side.Side.{Side}
use Rattle.ch_hierarchy.specs.Side.{other, state_of}
use Rattle.ch_graph.specs.declared.cost.TheConstants.{UNREACHED}
use Rattle.ch_query.specs.declared.question.Ends.{Ends}
use Rattle.ch_query.specs.declared.weights.search.WeightSearch.{WeightSearch}
use Rattle.ch_query.specs.Weighed.{weighed_leg}
use Rattle.ch_query.specs.Weights.{known_cost, weight_cost, side_costs, source_of, is_idle_on, IsWeighingAt, HasGoneOn}
use Rattle.ch_query.proofs.one_side.Steps.{stalled}
use Rattle.ch_query.proofs.by_weight.Known.{reached_cost}
use Rattle.ch_query.proofs.by_weight.States.{by_state-at}
use Rattle.ch_query.proofs.by_weight.LegsRead.{IsReadLeg, read_state}

module _ (H : LevelsAndLegs) (ends : Ends) (side : Side) (x : WeightSearch) (v weight : ℕ) (w : IsWeighingAt H ends side x v weight) where
  -- the weight that the test for stalling reads is the least known weight, or UNREACHED
  module _ (i : ℕ) (r : RankedLeg) (l : Leg) (is : IsReadLeg H (other side) v i r l) (state : ℕ) (at : state ≡ state_of side r.rank) where
    -- the state that is read exists
    pub stall_within : state < length x.known.items
    stall_within = (let there = (read_state H w.levelled side (other side) v i r l is state at).1 in let size = w.sizes.known in
        omega arith)

    -- its weight is known of the leg's node
    known_there : (known : ℕ) → known ≡ get_or x.known.items state known → cost_at (side_costs H side x) l.node ≡ known_cost known
    known_there known e =
        let there = (read_state H w.levelled side (other side) v i r l is state at).0 in
        by_state-at known_cost H side x.known.items UNREACHED None l.node is.node
        ∙ ap (λ q. known_cost (get_or x.known.items q UNREACHED)) (sym there)
        ∙ ap known_cost (get_or_default x.known.items state UNREACHED known stall_within ∙ sym e)

    -- its weight is at most UNREACHED
    pub stall_small : (known : ℕ) → known ≡ get_or x.known.items state known → known ≤ UNREACHED
    stall_small known e = elim (cases_eq known UNREACHED) [
      | inl same ↦ omega arith
      | inr away ↦ let light = w.here.search.light l.node (weight_cost known) (known_there known e ∙ reached_cost known away) in
          let most = w.here.search.limits in omega arith
    ]

    -- if a sum is less than the weight, v may stay idle
    pub stall_idle : (known : ℕ) → known ≡ get_or x.known.items state known → known + r.weight < weight →
        is_idle_on H side (source_of ends side) v (weight_cost weight)
    stall_idle known e less =
        let light = w.here.search.light v (weight_cost weight) w.here.here.0 in
        let most = w.here.search.limits in
        let same = is.weight in
        record {
          leg = weighed_leg l;
          has = is.has;
          cost = weight_cost known;
          reached = w.here.search.sound l.node (weight_cost known) (known_there known e ∙ reached_cost known (λ same. omega arith));
          below = (omega arith, λ le. absurd (omega arith));
        }

  -- the legs of an idle node need not be taken
  pub stalled_goes_on : is_idle_on H side (source_of ends side) v (weight_cost weight) → HasGoneOn H ends side x x
  stalled_goes_on idle = record {
    weighing = record { levelled = w.levelled; sizes = w.sizes; search = stalled _ _ _ _ _ v (weight_cost weight) w.here idle };
    there = record { costs = refl; keys = refl };
    settled = λ u c is. is;
    stays = λ u c is. is;
    measure = refl;
  }
