-- A topology serves each graph with the same ends of arcs.
use Rattle.ch_custom.proofs.theory.Customizing.{topologies_serve_all_weights}
use Rattle.ch_custom.proofs.laws.customizing.topologies_serve_all_weights.Goals as goal

pub returns : goal.returns
returns c g f order rows same topology = topologies_serve_all_weights g f order rows same topology
