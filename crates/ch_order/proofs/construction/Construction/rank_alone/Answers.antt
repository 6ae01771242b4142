-- The nodes have the keys that were found in turn, and all else is as before.
use Rattle.std.proofs.Common.{ℕ, List, refl, subst}
use Rattle.ch_order.specs.Priorities.{AreRefreshed, IsKeyIn}
use Rattle.ch_order.proofs.construction.Construction.rank_alone.Goals as goal

pub returns-clause-ranked : goal.returns-clause-ranked
returns-clause-ranked c = record {
  rest = refl;
  keys = subst (λ (d : List ℕ). AreRefreshed (IsKeyIn c.args.keys c.args.self.remaining c.args.hops.number d) c.args.nodes.now
      c.args.self.waiting c.set_in_turn.new.waiting) c.as_slice.ensures.value c.in_ok-set_in_turn.ensures;
}
