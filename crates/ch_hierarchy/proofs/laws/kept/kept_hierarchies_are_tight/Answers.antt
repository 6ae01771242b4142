-- Upward paths that meet at the cost of a least walk reach each of their nodes at its least cost.
use Rattle.ch_hierarchy.proofs.theory.KeptWalks.{tight_paths_are_least}
use Rattle.ch_hierarchy.proofs.laws.kept.kept_hierarchies_are_tight.Goals as goal

pub returns : goal.returns
returns c = tight_paths_are_least
