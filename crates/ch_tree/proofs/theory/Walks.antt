-- Walks up a tree that clear costs, or look for the least sum.
use Rattle.std.proofs.Common.{◌≡◌, ℕ, ◌+◌, ◌-◌, ◌<◌, ◌≤◌, ◌⊎◌, List, length, set, get_or, length-set, sym, ◌∙◌, ap, subst, arith, inl, inr}
use Rattle.std.proofs.Common.{get_or-set_same, get_or-set_other}
use Rattle.std.specs.Prelude.{slice_index}
use Rattle.std.proofs.lemmas.Bool.{cases_eq, cases_lt}
use Rattle.std.proofs.lemmas.List.{get_or_default}
use Rattle.ch_tree.specs.declared.sweep.TheConstants.{NEVER}
use Rattle.ch_tree.specs.Tree.{AreFalling, weight_at, IsClean, IsLeastSum, IsSumSoFar, IsCleared, StaysBelow}
use Rattle.ch_tree.proofs.theory.Climbs.{above_itself, above_then, above_one, above_next, above_low, above_between}

-- a weight that is read
pub read_weight : (costs : List ℕ) (x w d : ℕ) → x < length costs → w ≡ get_or costs x d → w ≡ weight_at costs x
read_weight costs x w d lt e = e ∙ get_or_default costs x d NEVER lt

module _ (parents : List ℕ) (falls : AreFalling parents) where
  -- one more place is cleared
  pub cleared_step : (place : ℕ) (old costs : List ℕ) → 0 < place → IsCleared parents place old costs →
      IsCleared parents (slice_index parents place) old (set costs (place - 1) NEVER)
  cleared_step place old costs some is =
      let size = is.size in
      let within = is.within in
      record {
        size = length-set costs (place - 1) NEVER ∙ is.size;
        within = let f = falls place in omega arith;
        known = λ x. elim (cases_eq x (place - 1)) [
          | inl here ↦ inl (ap (weight_at (set costs (place - 1) NEVER)) here ∙ get_or-set_same costs (place - 1) NEVER NEVER (omega arith))
          | inr away ↦ elim (is.known x) [
            | inl none ↦ inl (get_or-set_other costs (place - 1) x NEVER NEVER away ∙ none)
            | inr above ↦ elim (above_next parents place (x + 1) above) [ inl same ↦ absurd (away (omega arith)) | inr more ↦ inr more ]
          ]
        ];
      }

  -- all is cleared
  pub cleared_whole : (place : ℕ) (old costs : List ℕ) → (0 < place → ⊥) → IsCleared parents place old costs → IsClean (length old) costs
  cleared_whole place old costs end is = record {
    size = is.size;
    none = λ x. elim (is.known x) [
      | inl none ↦ none
      | inr above ↦ (let low = above_low parents falls place (x + 1) above in
          absurd (end (omega arith)))
    ];
  }

  -- no sum was looked at
  pub sum_begins : (first : ℕ) (ups downs : List ℕ) → first ≤ length ups → IsSumSoFar parents first first ups downs NEVER
  sum_begins first ups downs low = record {
    here = above_itself parents first;
    small = omega arith;
    seen = λ x above past. (let low = above_low parents falls first (x + 1) above in absurd (omega arith));
    found = λ less. absurd (omega arith);
  }

  -- one more sum, and the weights of the places that are passed stay
  pub sum_step : (first : ℕ) (ups downs new_ups new_downs : List ℕ) (place least sum next : ℕ) → 0 < place → place ≤ length ups →
      length new_ups ≡ length ups → IsSumSoFar parents first place ups downs least →
      sum ≡ weight_at ups (place - 1) + weight_at downs (place - 1) →
      next ≤ least → next ≤ sum → (next ≡ least) ⊎ (next ≡ sum) → StaysBelow (slice_index parents place) ups new_ups →
      StaysBelow (slice_index parents place) downs new_downs →
      IsSumSoFar parents first (slice_index parents place) new_ups new_downs next
  sum_step first ups downs new_ups new_downs place least sum next some within size is e low_least low_sum one up down = record {
    here = above_then parents first place (slice_index parents place) is.here (above_one parents place);
    small = let s = is.small in omega arith;
    seen = λ x above past.
        let a = up x past in
        let b = down x past in
        elim (cases_lt place (x + 1)) [
          | inl before ↦ (let low = is.seen x above before in omega arith)
          | inr le ↦ elim (above_next parents place (x + 1) (above_between parents falls first place (x + 1) is.here above le)) [
            | inl same ↦
                let here : place - 1 ≡ x = omega arith in
                subst (λ q. next ≤ q) (sym (λ i. a i + b i)) (subst (λ q. next ≤ weight_at ups q + weight_at downs q) here (omega arith))
            | inr more ↦ (let low = above_low parents falls (slice_index parents place) (x + 1) more in absurd (omega arith))
          ]
        ];
    found = λ less. elim one [
      | inl same ↦
          let f = is.found (omega arith) in
          let low = falls place in
          let past : slice_index parents place < f.0 + 1 = omega (arith, f.1) in
          let a = up f.0 past in
          let b = down f.0 past in
          (f.0, past, omega (arith, f.2), (λ i. a i + b i) ∙ f.3 ∙ sym same)
      | inr same ↦
          let low = falls place in
          let past : slice_index parents place < place - 1 + 1 = omega arith in
          let a = up (place - 1) past in
          let b = down (place - 1) past in
          (place - 1, past, omega arith, (λ i. a i + b i) ∙ sym e ∙ sym same)
    ];
  }

  -- all sums were looked at
  pub sum_whole : (first : ℕ) (ups downs : List ℕ) (place least : ℕ) → (0 < place → ⊥) → IsSumSoFar parents first place ups downs least →
      IsLeastSum parents first ups downs least
  sum_whole first ups downs place least end is = record {
    small = is.small;
    seen = λ x above. is.seen x above (elim (cases_lt place (x + 1)) [ inl lt ↦ lt | inr le ↦ absurd (end (omega arith)) ]);
    found = λ less. let f = is.found less in (f.0, f.2, f.3);
  }
