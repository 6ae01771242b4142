-- The partition point of an ordered row parts the legs at lower nodes from the others.
use Rattle.std.proofs.Common.{ltb, rules, ◌<◌, ◌≤◌, ℕ, get_or, length}
use Rattle.std.proofs.lemmas.List.Sorted.{IsPartitionPoint-from_clause, IsPartitionedBy-ltb}
use Rattle.ch_hierarchy.specs.declared.leg.Leg.{Leg}
use Rattle.ch_contract.proofs.code.RowEdits.{parted, rising}
use Rattle.ch_contract.proofs.leg_lists.place_of.Goals.{After-partition_point}
use Rattle.ch_contract.proofs.leg_lists.place_of.Goals as goal

-- the legs before the place, and those from it on
parts : (c : After-partition_point) → ((k : ℕ) (d : Leg) → k < c.partition_point.result → (get_or c.args.list.now k d).node < c.args.node)
    × ((k : ℕ) (d : Leg) → c.partition_point.result ≤ k → k < length c.args.list.now → c.args.node ≤ (get_or c.args.list.now k d).node)
parts c =
    let rises = IsPartitionedBy-ltb (λ (l : Leg). l.node) c.args.list.now c.args.node (rising c.args.list.now c.requires) in
    parted c.args.list.now c.args.node c.partition_point.result c.partition_point.ensures.bound
    (IsPartitionPoint-from_clause (λ (l : Leg). ltb l.node c.args.node) _ _ c.partition_point.ensures.partitioned rises
    (λ a r q k. search rules))

pub returns-clause-before : goal.returns-clause-before
returns-clause-before c = (parts c).0

pub returns-clause-after : goal.returns-clause-after
returns-clause-after c = (parts c).1
