-- The lists are the reaches of the nodes before the current one, and the scratch space is clean.
use Rattle.std.proofs.Common.{◌≡◌, ℕ, Vec, take}
use Rattle.std.specs.declared.alloc.Global.{Global}
use Rattle.std.specs.List.{AllZip}
use Rattle.ch_hierarchy.specs.Hierarchy.{nodes_of}
use Rattle.ch_hierarchy.specs.Side.{rows_of}
use Rattle.ch_rows.specs.Buckets.{IsReach}
use Rattle.ch_rows.proofs.buckets.Buckets.fill_side.Given as goal

abbrev pub invariant-loop-node : goal.invariant-loop-node
invariant-loop-node l = record {
  scratch : l.scratch ≡ nodes_of l.hierarchy;
  lists : AllZip (λ node (list : Vec (ℕ × ℕ) Global). IsReach (rows_of l.hierarchy l.side) l.within node list.items)
      (take l.node-index l.nodes) l.lists.items;
}
