-- The state of least weight leaves the queue.
use Rattle.std.proofs.Common.{◌≡◌, ℕ, ◌<◌, ◌≤◌, List, Option, Some, None, sym, ◌∙◌, ap, arith, set, inl, inr, nat_cmp}
use Rattle.std.specs.Prelude.{MatchOption, false}
use Rattle.std.specs.Ordering.{is_gt}
use Rattle.std.specs.declared.cmp.Ordering.TheVariants.{Greater}
use Rattle.std.specs.Cmp.{nat_cmp_is}
use Rattle.std.proofs.lemmas.Bool.{cases_lt, false≢true}
use Rattle.std.proofs.lemmas.Option.{none-some}
use Rattle.ch_queue.specs.Queue.{IsLeastEntry, HasNone}
use Rattle.ch_query.specs.declared.weights.search.WeightSearch.{WeightSearch}
use Rattle.ch_query.specs.Weights.{AreKeysFrom, IsLeastState, without_state}

-- what the comparison of two weights means if it is not greater
at_most_by : (a b : ℕ) → is_gt (nat_cmp a b) ≡ false → a ≤ b
at_most_by a b e = elim (cases_lt b a) [
  | inl more ↦ absurd (false≢true (sym e ∙ ap is_gt (sym (nat_cmp_is a b Greater more))))
  | inr le ↦ le
]

-- the least entry of a queue is the state of least weight
pub least_state : (queue : List (Option ℕ)) (e : ℕ × ℕ) → IsLeastEntry nat_cmp queue e → IsLeastState queue e
least_state queue e l = record { has = l.has; least = λ state weight key. at_most_by e.0 weight (l.least state weight key).0 }

-- if the least weight is at least the limit, so is each weight
pub keys_from : (queue : List (Option ℕ)) (e : ℕ × ℕ) (limit : ℕ) → IsLeastEntry nat_cmp queue e → limit ≤ e.0 → AreKeysFrom queue limit
keys_from queue e limit l le state weight key = let low = (least_state queue e l).least state weight key in omega arith

-- if the least weight is below the limit, its state leaves the queue
pub popped_state : (x y : WeightSearch) (e : ℕ × ℕ) (limit : ℕ) → IsLeastEntry nat_cmp x.queue e → e.0 < limit → (o : Option (ℕ × ℕ)) →
    MatchOption o (HasNone x.queue) (IsLeastEntry nat_cmp x.queue) →
    MatchOption o (y.queue ≡ x.queue) (λ f. y.queue ≡ set x.queue f.1 None) → y ≡ record x { queue = y.queue } →
    MatchOption o (AreKeysFrom x.queue limit × (y ≡ x)) (λ f. IsLeastState x.queue f × (f.0 < limit) × (y ≡ without_state x f.1))
popped_state x y e limit l lt None none same is = absurd (none-some e.0 (sym (none e.1) ∙ l.has))
popped_state x y e limit l lt (Some f) least less is =
    let low = (least_state x.queue f least).least e.1 e.0 l.has in
    (least_state x.queue f least, omega arith, is ∙ ap (λ (q : List (Option ℕ)). record x { queue = q }) less)
