-- Each upward path of a kept hierarchy is a walk, and each least walk has upward paths from both ends that meet.
use Rattle.ch_hierarchy.proofs.theory.KeptWalks.{kept_has_walks}
use Rattle.ch_hierarchy.proofs.laws.kept.kept_hierarchies_have_walks.Goals as goal

pub returns : goal.returns
returns c = kept_has_walks
