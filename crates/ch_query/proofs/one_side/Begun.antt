-- A search at its beginning, as data: its source is reached, and no other node is.
use Rattle.std.proofs.Common.{◌≡◌, ℕ, ◌<◌, ◌≤◌, List, [], length, Option, Some, None, refl, sym, ◌∙◌, ap, subst, arith, set}
use Rattle.std.proofs.Common.{length-set, get_or-set_same, get_or-set_other, inl, inr}
use Rattle.std.proofs.lemmas.Bool.{cases_eq}
use Rattle.std.proofs.lemmas.Option.{same_Some, none-some}
use Rattle.ch_graph.specs.declared.limits.TheConstants.{MOST_WEIGHT}
use Rattle.ch_graph.specs.declared.cost.Cost.{Cost}
use Rattle.ch_graph.specs.Cost.{no_cost, cost_at}
use Rattle.ch_hierarchy.specs.declared.leg.Leg.{Leg}
use Rattle.ch_query.specs.Search.{IsSettled, IsUpwardCost, IsSearch}

-- a value that is never some is none
pub never_some : (o : Option Cost) → ((c : Cost) → o ≡ Some c → ⊥) → o ≡ None
never_some None never = refl
never_some (Some c) never = absurd (never c refl)

-- in a list without values, only the place of a write has a value
only_written : (list : List (Option Cost)) (s v : ℕ) (d c : Cost) → ((w : ℕ) → cost_at list w ≡ None) → s < length list →
    cost_at (set list s (Some d)) v ≡ Some c → (v ≡ s) × (d ≡ c)
only_written list s v d c empty lt e = elim (cases_eq v s) [
  | inl is ↦ (is, same_Some _ _ (sym (ap (cost_at (set list s (Some d))) is ∙ get_or-set_same list s (Some d) None lt) ∙ e))
  | inr away ↦ absurd (none-some c (sym (get_or-set_other list s v (Some d) None away ∙ empty v) ∙ e))
]

-- no node has a cost or a key, and then the source gets both
module _ (most : ℕ) (rows : List (List Leg)) (s : ℕ) (Idle : ℕ → Cost → Type 0) (best queue : List (Option Cost))
    (limits : most ≤ MOST_WEIGHT) (size : length best ≡ length rows)
    (size' : length queue ≡ length rows) (within : s < length rows) (unknown : (v : ℕ) → cost_at best v ≡ None)
    (keyless : (v : ℕ) → cost_at queue v ≡ None) where
  -- the costs after the source was reached
  best' : List (Option Cost)
  best' = set best s (Some no_cost)

  -- the keys after the source was reached
  queue' : List (Option Cost)
  queue' = set queue s (Some no_cost)

  -- only the source has a cost
  pub begun_known : (v : ℕ) (c : Cost) → cost_at (set best s (Some no_cost)) v ≡ Some c → (v ≡ s) × (no_cost ≡ c)
  begun_known v c e = only_written best s v no_cost c unknown (omega arith) e

  -- only the source has a key
  begun_keyed : (v : ℕ) (c : Cost) → cost_at queue' v ≡ Some c → (v ≡ s) × (no_cost ≡ c)
  unfolding queue'
  begun_keyed v c e = only_written queue s v no_cost c keyless (omega arith) e

  -- the cost of the source is no cost
  source_known : cost_at best' s ≡ Some no_cost
  unfolding best'
  source_known = get_or-set_same best s (Some no_cost) None (omega arith)

  source_keyed : cost_at queue' s ≡ Some no_cost
  unfolding queue'
  source_keyed = get_or-set_same queue s (Some no_cost) None (omega arith)

  -- no node is settled
  pub begun_fresh : (v : ℕ) (c : Cost) → IsSettled (set best s (Some no_cost)) (set queue s (Some no_cost)) v c → ⊥
  unfolding queue'
  begun_fresh v c settled = none-some no_cost (sym settled.1 ∙ ap (cost_at queue') (begun_known v c settled.0).0 ∙ source_keyed)

  -- the search is under way
  pub begun_search : IsSearch most rows s Idle (set best s (Some no_cost)) (set queue s (Some no_cost))
  unfolding best' queue'
  begun_search = record {
    limits = limits;
    sizes = (length-set best s _ ∙ size, length-set queue s _ ∙ size');
    start = source_known;
    sound = λ v c e. let is = begun_known v c e in
        subst (λ q. IsUpwardCost rows s v q) is.1 (record { path = ([], sym is.0, refl); weight = omega arith });
    light = λ v c e. let w = ap (λ (q : Cost). q.weight) (begun_known v c e).1 in omega arith;
    queued = λ v c e. let is = begun_keyed v c e in subst (λ q. cost_at best' v ≡ Some q) is.1 (ap (cost_at best') is.0 ∙ source_known);
    order = λ v w c d settled e. absurd (begun_fresh v c settled);
    frontier = λ v c settled. absurd (begun_fresh v c settled);
  }
