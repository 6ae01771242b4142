-- The nodes have the keys that the workers found, and all else is as before.
use Rattle.std.proofs.Common.{ℕ, List, refl, subst}
use Rattle.ch_order.specs.Priorities.{AreRefreshed, IsKeyIn}
use Rattle.ch_order.proofs.construction.Construction.rank.Goals as goal

pub returns-clause-ranked : goal.returns-clause-ranked
returns-clause-ranked g c = record {
  rest = refl;
  keys = subst (λ (d : List ℕ). AreRefreshed (IsKeyIn c.args.keys c.args.self.remaining c.args.hops.number d) c.args.nodes.now
      c.args.self.waiting c.set_by_all.new.waiting) c.as_slice.ensures.value c.in_ok-set_by_all.ensures.anew;
}
