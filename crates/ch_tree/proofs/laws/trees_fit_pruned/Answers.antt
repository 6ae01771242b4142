-- The law is proved in the theory.
use Rattle.ch_tree.proofs.theory.Fitting.{trees_fit_pruned}
use Rattle.ch_tree.proofs.laws.trees_fit_pruned.Goals as goal

pub returns : goal.returns
returns c g P order rows parents limits is topology are = trees_fit_pruned g P order rows parents limits is topology are
