-- The values of the states of one side, read by node.
use Rattle.std.proofs.Common.{◌≡◌, ℕ, ◌-◌, ◌*◌, ◌<◌, List, length, map, Option, Some, None, refl, sym, ◌∙◌, ap, arith, get_or, set}
use Rattle.std.proofs.Common.{length-set, get_or-set_same, get_or-set_other, inl, inr}
use Rattle.std.specs.Option.{option_map}
use Rattle.std.proofs.lemmas.Bool.{cases_lt, cases_eq}
use Rattle.std.proofs.lemmas.Option.{none-some, same_Some}
use Rattle.std.proofs.lemmas.List.{get_or_past, get_or-map, length-map, ext_get_or}
use Rattle.ch_graph.specs.declared.cost.Cost.{Cost}
use Rattle.ch_graph.specs.Cost.{cost_at}
use Rattle.ch_hierarchy.specs.Hierarchy.{LevelsAndLegs, nodes_of, IsLevelled}
use Rattle.ch_hierarchy.specs.Ranked.{rank_of}
use Rattle.ch_hierarchy.specs.declared.side.Side.{Side}
use Rattle.ch_hierarchy.specs.declared.side.Side.TheVariants.{Up, Down}
use Rattle.ch_hierarchy.specs.Side.{other, state_of}
use Rattle.ch_hierarchy.proofs.code.Ranked.{rank_below, rank_one}
use Rattle.ch_query.specs.Weights.{by_state, weight_cost}

-- two different ranks have different states on a side
pub state_one : (side : Side) (a b : ℕ) → state_of side a ≡ state_of side b → a ≡ b
state_one Up a b same = omega arith
state_one Down a b same = omega arith

-- a state of one side is not a state of the other
pub state_apart : (side : Side) (a b : ℕ) → state_of (other side) a ≡ state_of side b → ⊥
state_apart Up a b same = omega arith
state_apart Down a b same = omega arith

-- a rank below n has states below 2 n
pub state_below : (side : Side) (rank n : ℕ) → rank < n → state_of side rank < 2 * n
state_below Up rank n lt = omega arith
state_below Down rank n lt = omega arith

module _ {A B : Type 0} (f : A → B) (H : LevelsAndLegs) (side : Side) where
  -- a list by node has an element for each node
  pub by_state-size : (list : List A) (default : A) → length (by_state f H side list default) ≡ nodes_of H
  by_state-size list default = length-map H.level (λ level. f (get_or list (state_of side (nodes_of H - level)) default))

  -- the element of a node is the one at its state
  pub by_state-at : (list : List A) (default : A) (d : B) (v : ℕ) → v < nodes_of H →
      get_or (by_state f H side list default) v d ≡ f (get_or list (state_of side (rank_of H v)) default)
  by_state-at list default d v lt = get_or-map (λ level. f (get_or list (state_of side (nodes_of H - level)) default)) H.level v 0 d lt

  -- a write at the state of a node is a write at the node
  pub by_state-set : IsLevelled H → (list : List A) (default x : A) (v : ℕ) → length list ≡ 2 * nodes_of H → v < nodes_of H →
      by_state f H side (set list (state_of side (rank_of H v)) x) default ≡ set (by_state f H side list default) v (f x)
  by_state-set k list default x v size lt =
      let state = state_of side (rank_of H v) in
      let now = by_state f H side (set list state x) default in
      let old = by_state f H side list default in
      let one = by_state-size (set list state x) default in
      let before = by_state-size list default in
      let same = length-set old v (f x) in
      let within = state_below side (rank_of H v) (nodes_of H) (rank_below H k v lt) in
      ext_get_or (f default) now (set old v (f x)) (omega arith) (λ w low.
      let lt' : w < nodes_of H = omega arith in
      by_state-at (set list state x) default (f default) w lt' ∙ elim (cases_eq w v) [
        | inl is ↦
            ap (λ r. f (get_or (set list state x) (state_of side (rank_of H r)) default)) is
            ∙ ap f (get_or-set_same list state x default (omega arith))
            ∙ sym (ap (λ r. get_or (set old v (f x)) r (f default)) is ∙ get_or-set_same old v (f x) (f default) (omega arith))
        | inr away ↦
            ap f (get_or-set_other list state (state_of side (rank_of H w)) x default
            (λ e. away (rank_one H k w v lt' lt (state_one side (rank_of H w) (rank_of H v) e))))
            ∙ sym (get_or-set_other old v w (f x) (f default) away ∙ by_state-at list default (f default) w lt')
      ])

  -- a write at a state of one side changes nothing on the other
  pub by_state-other : (list : List A) (default x : A) (rank : ℕ) →
      by_state f H (other side) (set list (state_of side rank) x) default ≡ by_state f H (other side) list default
  by_state-other list default x rank =
      λ i. map (λ level. f (get_or-set_other list (state_of side rank) (state_of (other side) (nodes_of H - level)) x default
      (state_apart side (nodes_of H - level) rank) i)) H.level

-- a cost of a node is that of the element at its state
pub by_state-some : {A : Type 0} → (f : A → Option Cost) (H : LevelsAndLegs) (side : Side) (list : List A) (default : A) (v : ℕ)
    (c : Cost) →
    cost_at (by_state f H side list default) v ≡ Some c →
    (v < nodes_of H) × (f (get_or list (state_of side (rank_of H v)) default) ≡ Some c)
by_state-some f H side list default v c e = elim (cases_lt v (nodes_of H)) [
  | inl lt ↦ (lt, sym (by_state-at f H side list default None v lt) ∙ e)
  | inr ge ↦ absurd (none-some c
      (sym (get_or_past (by_state f H side list default) v None (let size = by_state-size f H side list default in omega arith)) ∙ e))
]

-- the cost of a key is its weight
pub key_weight : (o : Option ℕ) (c : Cost) → option_map weight_cost o ≡ Some c → (w : ℕ) × (o ≡ Some w) × (weight_cost w ≡ c)
key_weight None c e = absurd (none-some c e)
key_weight (Some w) c e = (w, refl, same_Some _ _ e)
