-- Trees fit.
use Rattle.ch_tree.proofs.theory.Fitting.{trees_fit}
use Rattle.ch_tree.proofs.laws.trees_fit.Goals as goal

pub returns : goal.returns
returns c g H order L rows parents limits k is topology are = trees_fit g H order L rows parents limits k is topology are
