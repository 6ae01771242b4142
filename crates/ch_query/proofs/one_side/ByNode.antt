-- The lists by rank of a search, read by node.
use Rattle.std.proofs.Common.{◌≡◌, ℕ, ◌-◌, ◌<◌, List, length, Option, Some, None, sym, ◌∙◌, ap, arith, get_or, set, length-set}
use Rattle.std.proofs.Common.{get_or-set_same, get_or-set_other, inl, inr}
use Rattle.std.proofs.lemmas.Bool.{cases_lt, cases_eq}
use Rattle.std.proofs.lemmas.Option.{none-some}
use Rattle.std.proofs.lemmas.List.{get_or_past, get_or-map, length-map, ext_get_or}
use Rattle.ch_graph.specs.declared.cost.Cost.{Cost}
use Rattle.ch_graph.specs.Cost.{cost_at}
use Rattle.ch_hierarchy.specs.Hierarchy.{LevelsAndLegs, nodes_of, IsLevelled}
use Rattle.ch_hierarchy.specs.Ranked.{rank_of}
use Rattle.ch_hierarchy.proofs.code.Ranked.{rank_below, rank_one}
use Rattle.ch_query.specs.ByNode.{by_node}

-- a list by node has an element for each node
pub by_node-size : {A : Type 0} → (H : LevelsAndLegs) (list : List A) (default : A) → length (by_node H list default) ≡ nodes_of H
by_node-size H list default = length-map H.level (λ level. get_or list (nodes_of H - level) default)

-- the element of a node is the one at its rank
pub by_node-at : {A : Type 0} → (H : LevelsAndLegs) (list : List A) (default d : A) (v : ℕ) → v < nodes_of H →
    get_or (by_node H list default) v d ≡ get_or list (rank_of H v) default
by_node-at H list default d v lt = get_or-map (λ level. get_or list (nodes_of H - level) default) H.level v 0 d lt

-- a write at the rank of a node is a write at the node
pub by_node-set : {A : Type 0} → (H : LevelsAndLegs) → IsLevelled H → (list : List A) (default x : A) (v : ℕ) →
    length list ≡ nodes_of H → v < nodes_of H →
    by_node H (set list (rank_of H v) x) default ≡ set (by_node H list default) v x
by_node-set H k list default x v size lt =
    let one = by_node-size H (set list (rank_of H v) x) default in
    let other = length-set (by_node H list default) v x in
    let before = by_node-size H list default in
    let within = rank_below H k v lt in
    ext_get_or default (by_node H (set list (rank_of H v) x) default) (set (by_node H list default) v x) (omega arith) (λ w low.
    let lt' : w < nodes_of H = omega arith in
    by_node-at H (set list (rank_of H v) x) default default w lt' ∙ elim (cases_eq w v) [
      | inl is ↦
          ap (λ r. get_or (set list (rank_of H v) x) (rank_of H r) default) is ∙ get_or-set_same list (rank_of H v) x default (omega arith)
          ∙ sym (ap (λ r. get_or (set (by_node H list default) v x) r default) is
          ∙ get_or-set_same (by_node H list default) v x default (omega arith))
      | inr away ↦
          get_or-set_other list (rank_of H v) (rank_of H w) x default (λ same. away (rank_one H k w v lt' lt same))
          ∙ sym (get_or-set_other (by_node H list default) v w x default away ∙ by_node-at H list default default w lt')
    ])

-- a cost of a node is the one at its rank
pub by_node-some : (H : LevelsAndLegs) (list : List (Option Cost)) (v : ℕ) (c : Cost) → cost_at (by_node H list None) v ≡ Some c →
    (v < nodes_of H) × (cost_at list (rank_of H v) ≡ Some c)
by_node-some H list v c e = elim (cases_lt v (nodes_of H)) [
  | inl lt ↦ (lt, sym (by_node-at H list None None v lt) ∙ e)
  | inr ge ↦ absurd (none-some c (sym (get_or_past (by_node H list None) v None (let size = by_node-size H list None in omega arith)) ∙ e))
]
