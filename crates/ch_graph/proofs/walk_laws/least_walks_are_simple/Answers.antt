-- Parts of a least walk are least, it visits no node twice, and so it has few arcs and a bounded weight.
use Rattle.ch_graph.proofs.WalkCosts.{IsLeast-front, IsLeast-back}
use Rattle.ch_graph.proofs.SimpleWalks.{IsLeast-IsSimple, IsLeast-arcs, IsLeast-weight}
use Rattle.ch_graph.proofs.walk_laws.least_walks_are_simple.Goals as goal

pub returns : goal.returns
returns c g = record {
  parts = λ s m t a b l p q. (IsLeast-front g s m t a b l p q, IsLeast-back g s m t a b l p q);
  simple = IsLeast-IsSimple g;
  few_arcs = λ limits s t d. IsLeast-arcs g s t d limits;
  light = λ limits s t d. IsLeast-weight g s t d limits;
}
