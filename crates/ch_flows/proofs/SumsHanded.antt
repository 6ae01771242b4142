-- What is held for a row or for columns is handed on: the sums of legs have it then, or a leg would get too much.
use Rattle.std.proofs.Common.{◌≡◌, ℕ, ◌+◌, ◌<◌, ◌≤◌, List, length, get_or, inl, inr, ◌∙◌, ap, subst, arith}
use Rattle.std.proofs.lemmas.Bool.{cases_lt}
use Rattle.ch_flows.specs.declared.gathering.Branch.{Branch}
use Rattle.ch_flows.specs.declared.sums.Sums.{Sums}
use Rattle.ch_flows.specs.Cells.{summed, summed_with}
use Rattle.ch_flows.specs.Gathering.{IsNothing, IsOver, gathered}
use Rattle.ch_flows.specs.Handing.{weighed}
use Rattle.ch_flows.proofs.HeldDemands.{nothing_held, over_more}

-- nothing is held by more branches either
pub nothing_more : (old new : List ℕ) (n m : ℕ) → length new ≡ n → length old ≡ m →
    ((k : ℕ) → k < n → k < m → get_or new k 0 ≡ get_or old k 0) → ((k : ℕ) → m ≤ k → k < n → get_or new k 0 ≡ 0) →
    IsNothing old → IsNothing new
nothing_more old new n m size was kept put none k low = elim (cases_lt k m) [
  | inl less ↦ kept k (omega (arith, low, size)) less ∙ none k (omega (arith, less, was))
  | inr more ↦ put k more (omega (arith, low, size))
]

-- before the first cell nothing is held for a row
pub row_begins : (row columns : List Branch) (old new : Sums) → new.legs ≡ old.legs → new.columns ≡ old.columns →
    IsNothing new.row.items → (share : ℕ → ℕ) → summed_with row columns new share ≡ summed columns old share
row_begins row columns old new legs held none share = omega (
  arith,
  ap (λ v. weighed share v.items) legs,
  ap (λ v. gathered share columns v.items) held,
  nothing_held share row new.row.items none,
)

module _ (branches b : List Branch) (held h flows f : List ℕ) (same : b ≡ branches) (value : h ≡ held) (legs : f ≡ flows) where
  -- what was lent counts as much
  lent : (share : ℕ → ℕ) → weighed share f + gathered share b h ≡ weighed share flows + gathered share branches held
  lent share =
      let first : weighed share f ≡ weighed share flows = ap (weighed share) legs in
      let second : gathered share b h ≡ gathered share branches held =
      ap (λ (l : List Branch). gathered share l h) same ∙ ap (gathered share branches) value in
      omega (arith, first, second)

  -- the legs have it
  pub legs_have : (new written : List ℕ) → written ≡ new →
      ((share : ℕ → ℕ) → weighed share new ≡ weighed share f + gathered share b h) →
      (share : ℕ → ℕ) → weighed share written ≡ weighed share flows + gathered share branches held
  legs_have new written e handed share = ap (weighed share) e ∙ handed share ∙ lent share

  -- a leg would get too much
  pub legs_over : IsOver (length f) (λ share. weighed share f + gathered share b h) →
      IsOver (length flows) (λ share. weighed share flows + gathered share branches held)
  legs_over over =
      let old : (ℕ → ℕ) → ℕ = λ share. weighed share f + gathered share b h in
      over_more (length flows) old (λ share. weighed share flows + gathered share branches held)
      (λ share. omega (arith, lent share)) (subst (λ (n : ℕ). IsOver n old) (ap length legs) over)
