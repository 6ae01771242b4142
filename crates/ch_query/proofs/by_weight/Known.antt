-- The weights that states have, and the list of those that are reached.
use Rattle.std.proofs.Common.{◌≡◌, ℕ, ◌<◌, ◌≤◌, List, length, map, Some, None, sym, ◌∙◌, ap, arith, get_or, set, inl, inr}
use Rattle.std.specs.Prelude.{if◌then◌else◌}
use Rattle.std.proofs.lemmas.Bool.{cases_eq}
use Rattle.std.proofs.lemmas.Option.{same_Some, none-some}
use Rattle.std.proofs.lemmas.List.{get_or-map, map-set}
use Rattle.ch_graph.specs.declared.cost.TheConstants.{UNREACHED}
use Rattle.ch_graph.specs.declared.limits.TheConstants.{MOST_WEIGHT}
use Rattle.ch_graph.specs.declared.cost.Cost.{Cost}
use Rattle.ch_graph.specs.Cost.{cost_at}
use Rattle.ch_graph.proofs.Numbers.{not_eqb}
use Rattle.ch_query.specs.Weights.{known_cost, weight_cost}

-- a weight that is not UNREACHED stands for a cost
pub reached_cost : (w : ℕ) → (w ≡ UNREACHED → ⊥) → known_cost w ≡ Some (weight_cost w)
reached_cost w ne = ap (λ q. if q then None else Some (weight_cost w)) (not_eqb w UNREACHED ne)

-- a weight within the limits stands for a cost
pub light_cost : (w : ℕ) → w ≤ MOST_WEIGHT → known_cost w ≡ Some (weight_cost w)
light_cost w light = reached_cost w (λ same. omega arith)

-- the weight UNREACHED stands for no cost
pub no_cost_known : (w : ℕ) → w ≡ UNREACHED → known_cost w ≡ None
no_cost_known w same = ap known_cost same

-- a known cost is the weight alone
pub known_whole : (w : ℕ) (c : Cost) → known_cost w ≡ Some c → weight_cost w ≡ c
known_whole w c e = elim (cases_eq w UNREACHED) [
  | inl same ↦ absurd (none-some c (sym (no_cost_known w same) ∙ e))
  | inr away ↦ same_Some _ _ (sym (reached_cost w away) ∙ e)
]

-- a known cost has the weight of its state
pub known_weight : (w : ℕ) (c : Cost) → known_cost w ≡ Some c → w ≡ c.weight
known_weight w c e = ap (λ (q : Cost). q.weight) (known_whole w c e)

-- the cost at a state is that of its weight
pub known_at : (known : List ℕ) (state d : ℕ) → state < length known →
    cost_at (map known_cost known) state ≡ known_cost (get_or known state d)
known_at known state d lt = get_or-map known_cost known state d None lt

-- writing a weight writes its cost
pub known_set : (known : List ℕ) (state w : ℕ) → w ≤ MOST_WEIGHT →
    map known_cost (set known state w) ≡ set (map known_cost known) state (Some (weight_cost w))
known_set known state w light = map-set known_cost known state w ∙ ap (λ q. set (map known_cost known) state q) (light_cost w light)

-- removing a weight removes its cost
pub known_cleared : (known : List ℕ) (state : ℕ) → map known_cost (set known state UNREACHED) ≡ set (map known_cost known) state None
known_cleared known state = map-set known_cost known state UNREACHED
