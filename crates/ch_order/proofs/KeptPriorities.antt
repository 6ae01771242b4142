-- The queue while priorities are computed one after the other.
use Rattle.std.proofs.Common.{◌≡◌, ℕ, ◌+◌, ◌-◌, ◌<◌, ◌≤◌, List, [], ◌∷◌, ◌++◌, length, get_or, set, take, Option, Some, None, sym}
use Rattle.std.proofs.Common.{◌∙◌, ap, subst, arith, inl, inr, Contains, length-set, get_or-set_same, get_or-set_other}
use Rattle.std.specs.Prelude.{◌≢◌, ℤ}
use Rattle.std.proofs.lemmas.Bool.{cases_eq}
use Rattle.std.proofs.lemmas.List.{take_more}
use Rattle.std.proofs.lemmas.List.Elements.{Contains-append_left, Contains-append_right, Contains-append_cases, Contains-push}
use Rattle.std.proofs.lemmas.List.Elements.{Contains-push_cases}
use Rattle.std.specs.List.{slice_range}
use Rattle.std.proofs.Math.Seq.{take-add}
use Rattle.ch_hierarchy.proofs.theory.Ordered.{contains_or_not}
use Rattle.ch_queue.specs.Queue.{key_of}
use Rattle.ch_order.specs.Progress.{HasPriority}
use Rattle.ch_order.specs.Priorities.{AreRefreshed}

module _ (IsOf : ℕ → ℤ → Type 0) where
  -- the queue after one more node gets its new priority
  pub refreshed_more : (nodes : List ℕ) (i : ℕ) (before middle : List (Option ℤ)) (p : ℤ) → i < length nodes →
      get_or nodes i 0 < length middle → IsOf (get_or nodes i 0) p → AreRefreshed IsOf (take i nodes) before middle →
      AreRefreshed IsOf (take (i + 1) nodes) before (set middle (get_or nodes i 0) (Some p))
  refreshed_more nodes i before middle p lt within is known =
      let more = take_more nodes i 0 lt in
      let v : ℕ = get_or nodes i 0 in
      let here : key_of (set middle v (Some p)) v ≡ Some p = get_or-set_same middle v (Some p) None within in
      record {
        size = length-set middle v (Some p) ∙ known.size;
        anew = λ x c. elim (cases_eq x v) [
          | inl e ↦ subst (HasPriority IsOf (set middle v (Some p))) (sym e) (p, here, is)
          | inr ne ↦ elim (Contains-push_cases (take i nodes) v x (subst (λ l. Contains l x) more c)) [
            | inl earlier ↦ let r = known.anew x earlier in (r.0, get_or-set_other middle v x (Some p) None ne ∙ r.1, r.2)
            | inr e ↦ absurd (ne (sym e))
          ]
        ];
        kept = λ x away.
            let ne : x ≢ v = λ e. away
            (subst (λ l. Contains l x) (sym more)
            (subst (Contains (take i nodes ++ v ∷ [])) (sym e) (Contains-push (take i nodes) v))) in
            get_or-set_other middle v x (Some p) None ne
            ∙ known.kept x (λ c. away (subst (λ l. Contains l x) (sym more) (Contains-append_left (take i nodes) (v ∷ []) x c)));
      }

  -- the queue after a second list of nodes gets its new priorities
  pub refreshed_then : (xs ys : List ℕ) (before middle after : List (Option ℤ)) → AreRefreshed IsOf xs before middle →
      AreRefreshed IsOf ys middle after → AreRefreshed IsOf (xs ++ ys) before after
  refreshed_then xs ys before middle after r s = record {
    size = s.size ∙ r.size;
    anew = λ x c. elim (contains_or_not ys x) [
      | inl later ↦ s.anew x later
      | inr away ↦ elim (Contains-append_cases xs ys x c) [
        | inl earlier ↦ let p = r.anew x earlier in (p.0, s.kept x away ∙ p.1, p.2)
        | inr later ↦ absurd (away later)
      ]
    ];
    kept = λ x away. s.kept x (λ c. away (Contains-append_right xs ys x c)) ∙ r.kept x (λ c. away (Contains-append_left xs ys x c));
  }

  -- the queue after one more range of nodes gets its new priorities
  pub refreshed_range : (nodes : List ℕ) (from to : ℕ) (before middle after : List (Option ℤ)) → from ≤ to →
      AreRefreshed IsOf (take from nodes) before middle → AreRefreshed IsOf (slice_range nodes from to) middle after →
      AreRefreshed IsOf (take to nodes) before after
  refreshed_range nodes from to before middle after le r s =
      let size : from + (to - from) ≡ to = omega arith in
      let all : take from nodes ++ slice_range nodes from to ≡ take to nodes =
      sym (take-add from (to - from) nodes) ∙ ap (λ z. take z nodes) size in
      subst (λ l. AreRefreshed IsOf l before after) all
      (refreshed_then (take from nodes) (slice_range nodes from to) before middle after r s)
