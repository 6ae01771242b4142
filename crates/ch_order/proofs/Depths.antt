-- The depths of nodes, as an order of contraction grows.
use Rattle.std.proofs.Common.{◌≡◌, ℕ, zero, suc, ◌+◌, ◌≤◌, Bool, true, false, max, List, length, sym, ◌∙◌, subst, arith, add-one}
use Rattle.std.specs.Prelude.{if◌then◌else◌, slice_index}
use Rattle.ch_contract.specs.Legs.{Legs}
use Rattle.ch_contract.specs.Order.{are_neighbours, next_depth, depth_after}
use Rattle.ch_contract.proofs.theory.OneInTurn.{depth_along}
use Rattle.ch_contract.proofs.theory.OrderSteps.{more, legs_more, here, agree, now}

-- a depth is at most the number of steps
pub depth_most : (order : List ℕ) (L : ℕ → Legs) (i x : ℕ) → depth_after order L i x ≤ i
depth_most order L zero x = omega arith
depth_most order L (suc i) x =
    at (are_neighbours (L i) (slice_index order i) x) (depth_most order L i x) (depth_most order L i (slice_index order i))
  where
    at : {a c : ℕ} (b : Bool) → a ≤ i → c ≤ i → (if b then max a (c + 1) else a) ≤ suc i
    at true p q = omega arith
    at false p q = omega arith

-- the depths after one more step
pub depth_more : (order : List ℕ) (L : ℕ → Legs) (v : ℕ) (M : Legs) (depth after : ℕ → ℕ) →
    ((x : ℕ) → depth x ≡ depth_after order L (length order) x) → ((x : ℕ) → after x ≡ next_depth (L (length order)) v depth x) →
    (x : ℕ) → after x ≡ depth_after (more order L v M) (legs_more order L v M) (length order + 1) x
depth_more order L v M depth after known step x =
    let n : ℕ = length order in
    let all : depth ≡ depth_after order L n = λ t y. known y t in
    let along = depth_along n order L (more order L v M) (legs_more order L v M) (agree order L v M) n (omega arith) in
    let one : next_depth (L n) v depth x ≡ next_depth (L n) v (depth_after order L n) x = λ t. next_depth (L n) v (all t) x in
    let two : next_depth (L n) v (depth_after order L n) x ≡ depth_after (more order L v M) (legs_more order L v M) (suc n) x =
    λ t. next_depth (sym (now order L v M) t) (sym (here order L v M) t) (along t) x in
    subst (λ z. after x ≡ depth_after (more order L v M) (legs_more order L v M) z x) (sym (add-one n)) (step x ∙ one ∙ two)
