-- A network that is opened in the order of another one.
use Rattle.std.proofs.Common.{◌≡◌, ℕ, List, [], inl, inr, subst}
use Rattle.ch_graph.specs.Graph.{Network}
use Rattle.ch_hierarchy.specs.Hierarchy.{LevelsAndLegs}
use Rattle.ch_contract.specs.declared.measure.OrderBy.TheVariants.{Depth}
use Rattle.ch_contract.specs.Built.{IsHierarchyBy}
use Rattle.ch_contract.proofs.theory.GivenOrders.{all_afresh}
use Rattle.ch_engine.specs.Lines.{Lines}
use Rattle.ch_engine.specs.Opened.{IsBuiltInOrder, IsOpened, IsOpenedLike}

-- if all nodes are ordered afresh, it is the network that is built
pub opened_afresh : (graph : List ℕ) (other : LevelsAndLegs) (fresh : ℕ) (H : LevelsAndLegs) (lines : Lines) → fresh ≡ 100 →
    IsOpenedLike graph other fresh H lines → IsOpened graph [] H lines
opened_afresh graph other fresh H lines all o =
    let like = subst (λ (f : ℕ). IsOpenedLike graph other f H lines) all o in
    (like.0, like.1, like.2, like.3, by_depth like.0 like.6.0 like.6.2, like.7)
  where
    by_depth : (g : Network) (order : List ℕ) → IsBuiltInOrder g order 100 H → IsHierarchyBy Depth g 5 H
    by_depth g order (inl like) = (all_afresh g 5 order H).0 like.1
    by_depth g order (inr deep) = deep.2
