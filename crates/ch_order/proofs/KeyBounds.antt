-- Keys from shortcuts that are counted up to a bound.
use Rattle.std.proofs.Common.{◌≡◌, ℕ, ◌<◌, ◌≤◌, length, refl, sym, ◌∙◌, ap, subst, arith, inl, inr}
use Rattle.std.specs.Prelude.{ℤ, ◌≤ℤ◌, ◌<ℤ◌, ◌⊎◌}
use Rattle.std.proofs.lemmas.Bool.{cases_lt}
use Rattle.std.proofs.lemmas.Int.{ints}
use Rattle.ch_contract.specs.declared.measure.Measure.{Measure}
use Rattle.ch_contract.specs.declared.measure.OrderBy.{OrderBy}
use Rattle.ch_contract.specs.declared.measure.OrderBy.TheVariants.{Difference, Depth}
use Rattle.ch_contract.specs.Legs.{Legs}
use Rattle.ch_contract.specs.Contraction.{count_touching, key_by}
use Rattle.ch_contract.specs.Measures.{IsMeasureUpTo}
use Rattle.ch_contract.specs.Order.{IsContractedBefore}
use Rattle.ch_order.specs.declared.keys.Keys.{Keys}
use Rattle.ch_order.specs.Progress.{IsExactUpTo, IsKeyBy}

-- with more shortcuts a key is no less
key_more : (by : OrderBy) (s t legs depth : ℕ) → s ≤ t → key_by by s legs depth ≤ℤ key_by by t legs depth
key_more Difference s t legs depth le = omega (arith, ints)
key_more Depth s t legs depth le = omega (arith, ints)

-- the key of a node from its measure, where shortcuts are counted until the key is above the greatest exact one
pub measured_key : (keys : Keys) (most legs n h : ℕ) (L : Legs) (v : ℕ) (m : Measure) (depth : ℕ → ℕ) (p : ℤ) →
    IsMeasureUpTo most n h L v m →
    p ≡ key_by keys.by m.shortcuts m.legs (depth v) → legs ≡ count_touching n L v →
    ((s d : ℕ) → most < s → keys.exact <ℤ key_by keys.by s legs d) → IsKeyBy keys n h L depth v p
measured_key keys most legs n h L v m depth p is e count above = (q, (is.0, is.1, refl), (low, λ le. at le (cases_lt most m.shortcuts)))
  where
    q : ℤ
    q = key_by keys.by (length is.0) (count_touching n L v) (depth v)

    own : p ≡ key_by keys.by m.shortcuts (count_touching n L v) (depth v)
    own = e ∙ ap (λ l. key_by keys.by m.shortcuts l (depth v)) is.4

    low : p ≤ℤ q
    low = subst (λ z. z ≤ℤ q) (sym own) (key_more keys.by m.shortcuts (length is.0) (count_touching n L v) (depth v) is.2)

    at : p ≤ℤ keys.exact → (most < m.shortcuts) ⊎ (m.shortcuts ≤ most) → p ≡ q
    at le (inl many) = let past = subst (λ l. keys.exact <ℤ key_by keys.by m.shortcuts l (depth v)) count
        (above m.shortcuts (depth v) many) in
        let past_p : keys.exact <ℤ p = subst (λ z. keys.exact <ℤ z) (sym own) past in absurd (omega (arith, ints, le, past_p))
    at le (inr few) = own ∙ ap (λ s. key_by keys.by s (count_touching n L v) (depth v)) (is.3 few)

-- an exact key that comes first belongs to the node of the first priority
pub exact_first : (exact p q r s : ℤ) (v x : ℕ) → p ≤ℤ exact → IsExactUpTo exact q p → IsExactUpTo exact s r → IsContractedBefore p v r x →
    IsContractedBefore q v s x
exact_first exact p q r s v x small own other first =
    let same : p ≡ q = own.1 small in
    subst (λ z. IsContractedBefore z v s x) same
    (omega (arith, ints, first.0, other.0), λ back. first.1 (omega (arith, ints, back, other.0)))
