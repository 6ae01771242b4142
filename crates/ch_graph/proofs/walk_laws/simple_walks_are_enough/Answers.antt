-- Each walk has one of no greater cost that visits no node twice, and such a walk is short and light.
use Rattle.ch_graph.proofs.SimpleWalks.{simple_walk, IsSimple-arcs, IsSimple-weight}
use Rattle.ch_graph.proofs.walk_laws.simple_walks_are_enough.Goals as goal

pub returns : goal.returns
returns c g = record {
  simple = λ s t xs w. let h = simple_walk g s t xs w in (h.walk, h.is_walk, h.simple, h.cheap);
  few_arcs = λ limits s t xs. IsSimple-arcs g s t xs limits;
  light = λ limits s t xs. IsSimple-weight g s t xs limits;
}
