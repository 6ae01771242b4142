-- Weights that are offered one after the other.
use Rattle.std.proofs.Common.{◌≡◌, ℕ, ◌+◌, ◌<◌, ◌≤◌, List, [], ◌∷◌, ◌++◌, length, take, set, get_or, length-set, Contains, sym, ◌∙◌}
use Rattle.std.proofs.Common.{ap, subst, arith, inl, inr}
use Rattle.std.proofs.Common.{get_or-set_same, get_or-set_other}
use Rattle.std.proofs.lemmas.Bool.{cases_eq}
use Rattle.std.proofs.lemmas.List.{take_more}
use Rattle.std.proofs.lemmas.List.Elements.{Contains-push, Contains-push_cases, Contains-append_left}
use Rattle.ch_graph.specs.declared.limits.TheConstants.{MOST_WEIGHT}
use Rattle.ch_hierarchy.specs.declared.ranked.RankedLeg.{RankedLeg}
use Rattle.ch_tree.specs.declared.sweep.TheConstants.{NEVER}
use Rattle.ch_tree.specs.Tree.{weight_at, IsOffered, AreOffered}

module _ (weight : ℕ) (legs : List RankedLeg) (old mid : List ℕ) (are : AreOffered weight legs old mid) (l : RankedLeg)
    (low : l.rank < length mid) where
  -- the case where nothing changes
  kept : (weight + l.weight ≤ MOST_WEIGHT → weight_at mid l.rank ≤ weight + l.weight) → AreOffered weight (legs ++ l ∷ []) old mid
  kept known = record {
    size = are.size;
    less = are.less;
    from = λ x. elim (are.from x) [ inl same ↦ inl same | inr f ↦ inr (f.0, more f.0 f.1, f.2, f.3, f.4) ];
    taken = λ k has light. elim (Contains-push_cases legs l k has) [
      | inl before ↦ are.taken k before light
      | inr is ↦ subst (λ (q : RankedLeg). weight + q.weight ≤ MOST_WEIGHT → weight_at mid q.rank ≤ weight + q.weight) is known light
    ];
  }
    where
      more : (k : RankedLeg) → Contains legs k → Contains (legs ++ l ∷ []) k
      more k has = Contains-append_left legs (l ∷ []) k has

  -- the case where the weight is lower
  lowered : weight + l.weight ≤ MOST_WEIGHT → weight + l.weight < weight_at mid l.rank →
      AreOffered weight (legs ++ l ∷ []) old (set mid l.rank (weight + l.weight))
  lowered light less =
      let here : weight_at (set mid l.rank (weight + l.weight)) l.rank ≡ weight + l.weight =
      get_or-set_same mid l.rank (weight + l.weight) NEVER low in
      let fall : (x : ℕ) → weight_at (set mid l.rank (weight + l.weight)) x ≤ weight_at mid x = λ x. elim (cases_eq x l.rank) [
        | inl is ↦ subst (λ q. weight_at (set mid l.rank (weight + l.weight)) q ≤ weight_at mid q) (sym is) (omega arith)
        | inr away ↦ let e = get_or-set_other mid l.rank x (weight + l.weight) NEVER away in omega arith
      ] in
      record {
        size = length-set mid l.rank (weight + l.weight) ∙ are.size;
        less = λ x. let a = fall x in let b = are.less x in omega arith;
        from = λ x. elim (cases_eq x l.rank) [
          | inl is ↦ inr (l, Contains-push legs l, sym is, ap (weight_at (set mid l.rank (weight + l.weight))) is ∙ here, light)
          | inr away ↦
              let e = get_or-set_other mid l.rank x (weight + l.weight) NEVER away in
              elim (are.from x) [
                | inl same ↦ inl (e ∙ same)
                | inr f ↦ inr (f.0, Contains-append_left legs (l ∷ []) f.0 f.1, f.2, e ∙ f.3, f.4)
              ]
        ];
        taken = λ k has lk. elim (Contains-push_cases legs l k has) [
          | inl before ↦ let a = fall k.rank in let b = are.taken k before lk in omega arith
          | inr is ↦ subst (λ (q : RankedLeg). weight_at (set mid l.rank (weight + l.weight)) q.rank ≤ weight + q.weight) is (omega arith)
        ];
      }

  -- one more leg is offered
  pub offered_more : (new : List ℕ) → IsOffered l.rank (weight + l.weight) mid new → AreOffered weight (legs ++ l ∷ []) old new
  offered_more new (inl same) = subst (λ q. AreOffered weight (legs ++ l ∷ []) old q) (sym same.0) (kept same.1)
  offered_more new (inr less) = subst (λ q. AreOffered weight (legs ++ l ∷ []) old q) (sym less.2) (lowered less.0 less.1)

-- the leg at place i is offered
pub offered_step : (weight : ℕ) (legs : List RankedLeg) (i : ℕ) (d : RankedLeg) (old mid new : List ℕ) →
    AreOffered weight (take i legs) old mid → i < length legs →
    (get_or legs i d).rank < length mid → IsOffered (get_or legs i d).rank (weight + (get_or legs i d).weight) mid new →
    AreOffered weight (take (i + 1) legs) old new
offered_step weight legs i d old mid new are lt low offer =
    subst (λ q. AreOffered weight q old new) (sym (take_more legs i d lt))
    (offered_more weight (take i legs) old mid are (get_or legs i d) low new offer)
