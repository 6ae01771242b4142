-- The sums of a weight and a bucket, entry after entry.
use Rattle.std.proofs.Common.{◌≡◌, ℕ, ◌+◌, ◌<◌, ◌≤◌, List, [], ◌∷◌, ◌++◌, length, take, get_or, Contains, Option, refl, sym, ◌∙◌, ap}
use Rattle.std.proofs.Common.{subst, arith, inl, inr}
use Rattle.std.specs.Prelude.{AllPairs}
use Rattle.std.proofs.lemmas.Bool.{cases_lt, cases_order}
use Rattle.std.proofs.lemmas.List.{length-take, get_or-take, get_or_default}
use Rattle.ch_graph.proofs.Lists.{contains_none}
use Rattle.ch_query.specs.Limits.{IsWithin}
use Rattle.ch_query.proofs.two_sides.SharedSums.{within_less}
use Rattle.ch_query.specs.Lowered.{AreLowered}
use Rattle.ch_query.proofs.by_weight.LoweredWords.{IsOne, lowered_none, lowered_then, lowered_alike}
use Rattle.ch_query.proofs.by_weight.MoreEntries.{HasSome, some_cases, some_old, some_new}
use Rattle.ch_rows.specs.First.{IsNearer}
use Rattle.ch_rows.specs.Offers.{AreOffered}
use Rattle.ch_rows.specs.Sums.{IsSum, IsSumAt}
use Rattle.ch_rows.proofs.Orders.{nearer_weighs}

-- S are the sums of a bucket, and Q relates a place and its sum to the entry that gives it. One more entry gives one sum
module _ (S : List (ℕ × ℕ) → ℕ → ℕ → Type 0) (Q : ℕ → ℕ → ℕ → ℕ → Type 0)
    (to : (list : List (ℕ × ℕ)) (j x : ℕ) → S list j x → HasSome (Q j x) list)
    (from : (list : List (ℕ × ℕ)) (j x : ℕ) → HasSome (Q j x) list → S list j x)
    (i : ℕ) (bucket : List (ℕ × ℕ)) (entry : ℕ × ℕ) (is : take (i + 1) bucket ≡ take i bucket ++ entry ∷ []) (place sum : ℕ)
    (gives : (j x : ℕ) → IsOne place sum j x → Q j x entry.0 entry.1)
    (given : (j x : ℕ) → Q j x entry.0 entry.1 → IsOne place sum j x) where
  one_more : (u v w : List ℕ) → AreLowered (S (take i bucket)) u v → AreLowered (IsOne place sum) v w →
      AreLowered (S (take (i + 1) bucket)) u w
  one_more u v w =
      let before = take i bucket in
      let all = take (i + 1) bucket in
      lowered_then (S before) (IsOne place sum) (S all) u v w
      (λ j x s. from all j x (some_old (Q j x) all before entry is (to before j x s)))
      (λ j x one. from all j x (some_new (Q j x) all before entry is (gives j x one)))
      (λ j x s. elim (some_cases (Q j x) all before entry is (to all j x s)) [
        | inl old ↦ inl (from before j x old)
        | inr new ↦ inr (given j x new)
      ])

-- a bucket without entries
pub bucket_none : (weight : ℕ) (row : List ℕ) → AreLowered (IsSumAt weight []) row row
bucket_none weight row = lowered_none (IsSumAt weight []) row (λ j x sum. contains_none (j, sum.0) sum.1)

-- one more entry of a place and a weight
pub bucket_more : (weight i : ℕ) (bucket : List (ℕ × ℕ)) (entry : ℕ × ℕ) → take (i + 1) bucket ≡ take i bucket ++ entry ∷ [] →
    (u v w : List ℕ) → AreLowered (IsSumAt weight (take i bucket)) u v → AreLowered (IsOne entry.0 (weight + entry.1)) v w →
    AreLowered (IsSumAt weight (take (i + 1) bucket)) u w
bucket_more weight i bucket entry is =
    one_more (IsSumAt weight) (λ j x place rest. (j ≡ place) × (x ≡ weight + rest))
    (λ list j x s. (j, s.0, s.1, (refl, s.2)))
    (λ list j x h. (h.1, subst (λ q. Contains list (q, h.1)) (sym h.3.0) h.2, h.3.1))
    i bucket entry is entry.0 (weight + entry.1) (λ j x one. one) (λ j x one. one)

-- one more entry of a weight and a place, whose sum is within the limit
pub sums_more : (limit : Option ℕ) (weight i : ℕ) (bucket : List (ℕ × ℕ)) (entry : ℕ × ℕ) →
    take (i + 1) bucket ≡ take i bucket ++ entry ∷ [] → IsWithin limit (weight + entry.0) →
    (u v w : List ℕ) → AreOffered (IsSum limit weight (take i bucket)) u v → AreLowered (IsOne entry.1 (weight + entry.0)) v w →
    AreOffered (IsSum limit weight (take (i + 1) bucket)) u w
sums_more limit weight i bucket entry is low =
    one_more (λ list j x. IsSum limit weight list (x, j)) (λ j x rest place. (j ≡ place) × (x ≡ weight + rest) × IsWithin limit x)
    (λ list j x s. (s.0, j, s.1, (refl, s.2, s.3)))
    (λ list j x h. (h.0, subst (λ q. Contains list (h.0, q)) (sym h.3.0) h.2, h.3.1, h.3.2))
    i bucket entry is entry.1 (weight + entry.0) (λ j x one. (one.0, one.1, subst (IsWithin limit) (sym one.1) low))
    (λ j x given. (given.0, given.1))

-- if one sum is not within the limit, no later sum is
pub sums_stop : (limit : Option ℕ) (weight i : ℕ) (bucket : List (ℕ × ℕ)) → AllPairs IsNearer bucket → (d : ℕ × ℕ) →
    i < length bucket → (IsWithin limit (weight + (get_or bucket i d).0) → ⊥) →
    (u v : List ℕ) → AreOffered (IsSum limit weight (take i bucket)) u v → AreOffered (IsSum limit weight bucket) u v
sums_stop limit weight i bucket order d lt over u v =
    lowered_alike (λ j x. IsSum limit weight (take i bucket) (x, j)) (λ j x. IsSum limit weight bucket (x, j)) u v
    (λ j x s.
    let size = length-take i bucket in
    let low = s.1.1 in
    (s.0, (s.1.0, omega arith, sym (get_or-take i bucket s.1.0 (s.0, j) (omega arith)) ∙ s.1.2), s.2, s.3))
    (λ j x s.
    let size = length-take i bucket in
    let k = s.1.0 in
    let low = s.1.1 in
    elim (cases_lt k i) [
      | inl before ↦ (s.0, (k, omega arith, get_or-take i bucket k (s.0, j) before ∙ s.1.2), s.2, s.3)
      | inr past ↦ absurd (over (within_less limit (weight + (get_or bucket i d).0) x (no_less j s.0 k low s.1.2 past x s.2) s.3))
    ])
  where
    no_less : (j x k : ℕ) → k < length bucket → get_or bucket k (x, j) ≡ (x, j) → i ≤ k → (sum : ℕ) → sum ≡ weight + x →
        weight + (get_or bucket i d).0 ≤ sum
    no_less j x k low at past sum is =
        let there = ap (λ (q : ℕ × ℕ). q.0) (get_or_default bucket k d (x, j) low ∙ at) in
        elim (cases_order i k) [
          | inl same ↦ let here = ap (λ q. (get_or bucket q d).0) same in omega arith
          | inr other ↦
              let less : i < k = elim other [ inl lt ↦ lt | inr gt ↦ absurd (omega arith) ] in
              let le = nearer_weighs (get_or bucket i d) (get_or bucket k d) (order i k d less low) in
              omega arith
        ]
