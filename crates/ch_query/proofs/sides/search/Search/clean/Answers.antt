-- A touched node that loses its cost leaves the list of touched nodes, so in the end the search is clean.
use Rattle.std.proofs.Common.{length, length-set, ◌∙◌, ap, subst, sym}
use Rattle.ch_query.specs.Underway.{IsTouched}
use Rattle.ch_query.proofs.one_side.Touched.{last_within, touched_less}
use Rattle.ch_query.proofs.sides.search.Search.clean.Goals as goal

pub clear-requires-in-Some : goal.clear-requires-in-Some
clear-requires-in-Some c =
    let e = c.in-Some.ensures in last_within _ _ c.pop.new.self c.loop-rank.invariant.room.touched c.in-Some.rank e.items e.cases e.capacity

pub loop-rank-preserved : goal.loop-rank-preserved
loop-rank-preserved c =
    let i = c.loop-rank.invariant in
    let e = c.in-Some.ensures in
    let size = ap length c.clear-in-Some.ensures.costs ∙ length-set c.loop-rank.self.labels.costs c.in-Some.rank _ in
    record {
      room = record {
        queue = i.room.queue ∙ sym size;
        parents = ap length c.clear-in-Some.ensures.parents ∙ i.room.parents ∙ sym size;
        touched = subst (λ costs. IsTouched costs c.pop.new.self) (sym c.clear-in-Some.ensures.costs)
            (touched_less _ _ c.pop.new.self i.room.touched c.in-Some.rank e.items e.cases e.capacity);
      };
      empty = i.empty;
      nodes = size ∙ i.nodes;
    }
