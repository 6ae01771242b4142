-- A node that had no cost is touched once more and one that had stays touched, and there is capacity for it.
use Rattle.std.proofs.Common.{Some, sym, ◌∙◌, ap, subst, set}
use Rattle.std.specs.Prelude.{is_some}
use Rattle.ch_query.specs.declared.sides.search.Search.{Search}
use Rattle.ch_query.specs.Underway.{IsTouched}
use Rattle.ch_query.proofs.one_side.Touched.{room_left, touched_more, touched_same}
use Rattle.ch_query.proofs.sides.search.Search.label.Goals as goal
use Rattle.ch_query.proofs.sides.search.Search.label.Goals.{then-is_none, else-is_none}

pub push_reserved-requires : goal.push_reserved-requires
push_reserved-requires c =
    room_left _ _ c.requires.touched _ c.requires.rank c.args.cost (sym (ap is_some c.get.ensures) ∙ c.if-is_none.ensures)

pub returns-clause-touched : goal.returns-clause-touched
returns-clause-touched c =
    let known = sym (ap is_some c.get.ensures) in
    let now = c.if-is_none.self in
    let touched : IsTouched (set now.labels.costs c.args.rank (Some c.args.cost)) now.touched =
    elim c.if-is_none.branch [
      | then-is_none w ↦ subst (λ (q : Search). IsTouched (set q.labels.costs c.args.rank (Some c.args.cost)) q.touched) (sym w.self-is)
          (touched_more _ _ c.requires.touched _ c.requires.rank c.args.cost w.push_reserved.new.self
          (known ∙ w.if-is_none.ensures) w.push_reserved.ensures.items w.push_reserved.ensures.len w.push_reserved.ensures.capacity)
      | else-is_none w ↦ subst (λ (q : Search). IsTouched (set q.labels.costs c.args.rank (Some c.args.cost)) q.touched) (sym w.self-is)
          (touched_same _ _ c.requires.touched _ c.requires.rank c.args.cost (known ∙ w.if-is_none.ensures))
    ] in
    subst (λ costs. IsTouched costs now.touched) (sym c.set.ensures.costs) touched
