-- A state that had no weight is touched once more and one that had stays touched, and there is capacity for it.
use Rattle.std.proofs.Common.{◌≡◌, false, Some, sym, ◌∙◌, ap, subst, set, length, map, ◌<◌, arith}
use Rattle.std.specs.Prelude.{is_some}
use Rattle.std.proofs.lemmas.List.{length-map}
use Rattle.ch_query.specs.declared.weights.search.WeightSearch.{WeightSearch}
use Rattle.ch_graph.specs.Cost.{cost_at}
use Rattle.ch_query.specs.Underway.{IsTouched}
use Rattle.ch_query.specs.Weights.{known_cost, weight_cost}
use Rattle.ch_query.proofs.one_side.Touched.{room_left, touched_more, touched_same}
use Rattle.ch_query.proofs.by_weight.Known.{known_at, known_set, no_cost_known, reached_cost}
use Rattle.ch_query.proofs.weights.search.WeightSearch.reach.Goals as goal
use Rattle.ch_query.proofs.weights.search.WeightSearch.reach.Goals.{then-index-eq-UNREACHED, else-index-eq-UNREACHED}

pub push_reserved-requires : goal.push_reserved-requires
push_reserved-requires c =
    let lt = c.requires.state in
    let size = length-map c.args.self.now.known.items known_cost in
    let read = known_at c.args.self.now.known.items c.args.state c.index.result.now lt ∙ ap known_cost (sym c.index.ensures) in
    let none : is_some (cost_at (map known_cost c.args.self.now.known.items) c.args.state) ≡ false =
    ap is_some (read ∙ no_cost_known _ c.if-index-eq-UNREACHED.true) in
    room_left _ _ c.requires.touched c.args.state (omega arith) (weight_cost c.args.weight) none

pub returns-clause-touched : goal.returns-clause-touched
returns-clause-touched c =
    let known = c.args.self.now.known.items in
    let lt = c.requires.state in
    let size = length-map known known_cost in
    let within : c.args.state < length (map known_cost known) = omega arith in
    let read = known_at known c.args.state c.index.result.now lt ∙ ap known_cost (sym c.index.ensures) in
    let now = c.if-index-eq-UNREACHED.self in
    let touched : IsTouched (set (map known_cost now.known.items) c.args.state (Some (weight_cost c.args.weight))) now.touched =
    elim c.if-index-eq-UNREACHED.branch [
      | then-index-eq-UNREACHED w ↦
          subst (λ (q : WeightSearch). IsTouched
          (set (map known_cost q.known.items) c.args.state (Some (weight_cost c.args.weight))) q.touched) (sym w.self-is)
          (touched_more _ _ c.requires.touched c.args.state within (weight_cost c.args.weight) w.push_reserved.new.self
          (ap is_some (read ∙ no_cost_known _ w.if-index-eq-UNREACHED.true)) w.push_reserved.ensures.items
          w.push_reserved.ensures.len w.push_reserved.ensures.capacity)
      | else-index-eq-UNREACHED w ↦
          subst (λ (q : WeightSearch). IsTouched
          (set (map known_cost q.known.items) c.args.state (Some (weight_cost c.args.weight))) q.touched) (sym w.self-is)
          (touched_same _ _ c.requires.touched c.args.state within (weight_cost c.args.weight)
          (ap is_some (read ∙ reached_cost _ w.if-index-eq-UNREACHED.false)))
    ] in
    subst (λ costs. IsTouched costs now.touched) (sym (known_set now.known.items c.args.state c.args.weight c.requires.weight)) touched
