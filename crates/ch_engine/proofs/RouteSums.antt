-- Sums of values along the lines of a route's arcs, and of one pair after the other.
use Rattle.std.proofs.Common.{◌≡◌, ℕ, ◌+◌, ◌<◌, List, [], ◌∷◌, ◌++◌, length, get_or, set, inl, inr, sym, subst, arith}
use Rattle.std.proofs.lemmas.Bool.{cases_order}
use Rattle.std.proofs.lemmas.List.{get_or-append-add, get_or_append_left, get_or-set_other, get_or-set_same}
use Rattle.ch_graph.specs.declared.arc.InArc.{InArc}
use Rattle.ch_hierarchy.specs.Hierarchy.{LevelsAndLegs}
use Rattle.ch_engine.specs.Held.{Held}
use Rattle.ch_engine.specs.Lines.{IsOfSome, Lines}
use Rattle.ch_engine.specs.Routes.{IsArcLine}
use Rattle.ch_engine.specs.RouteSums.{IsPairSum}

module _ (H : LevelsAndLegs) (lines : Lines) where
  -- the line of a route's arc is one of the graph
  pub line_low : IsOfSome H lines → (a : InArc) (line : ℕ) → IsArcLine H lines a line → line < lines.count
  line_low of a line is = let low = (is of.0 of.1 of.2 of.3).0.is.0 in omega (arith, low, of.3.2)

  -- the line of one more arc comes behind those of the arcs before
  pub along_more : (arcs : List InArc) (j : ℕ) (along : List ℕ) (line : ℕ) → length along ≡ j →
      ((k : ℕ) (d : InArc) → k < j → IsArcLine H lines (get_or arcs k d) (get_or along k 0)) →
      ((d : InArc) → IsArcLine H lines (get_or arcs j d) line) → (k : ℕ) (d : InArc) → k < j + 1 →
      IsArcLine H lines (get_or arcs k d) (get_or (along ++ line ∷ []) k 0)
  along_more arcs j along line long before here k d low = elim (cases_order k j) [
    | inl same ↦ subst (λ (n : ℕ). IsArcLine H lines (get_or arcs n d) (get_or (along ++ line ∷ []) n 0)) (sym same)
        (subst (IsArcLine H lines (get_or arcs j d))
        (sym (subst (λ (m : ℕ). get_or (along ++ line ∷ []) m 0 ≡ line) (omega (arith, long))
        (get_or-append-add along (line ∷ []) 0 0))) (here d))
    | inr (inl less) ↦ subst (IsArcLine H lines (get_or arcs k d))
        (sym (get_or_append_left along (line ∷ []) 0 k (omega (arith, long, less)))) (before k d less)
    | inr (inr past) ↦ absurd (omega arith)
  ]

module _ (held : Held) (sources targets values weights sums : List ℕ) (i weight sum : ℕ) where
  -- the pairs before stay, and one more comes after them
  pub pairs_more : ((k : ℕ) → k < i → IsPairSum held values (get_or sources k 0) (get_or targets k 0) (get_or weights k 0)
      (get_or sums k 0)) → i < length weights → i < length sums →
      IsPairSum held values (get_or sources i 0) (get_or targets i 0) weight sum → (k : ℕ) → k < i + 1 →
      IsPairSum held values (get_or sources k 0) (get_or targets k 0) (get_or (set weights i weight) k 0) (get_or (set sums i sum) k 0)
  pairs_more are weighs inside here k more =
      let At : ℕ → ℕ → ℕ → Type 0 = λ n w x. IsPairSum held values (get_or sources n 0) (get_or targets n 0) w x in
      elim (cases_order k i) [
        | inl equal ↦ subst (λ (n : ℕ). At n (get_or (set weights i weight) n 0) (get_or (set sums i sum) n 0)) (sym equal)
            (subst (λ w. At i w (get_or (set sums i sum) i 0)) (sym (get_or-set_same weights i weight 0 weighs))
            (subst (At i weight) (sym (get_or-set_same sums i sum 0 inside)) here))
        | inr (inl less) ↦ subst (λ w. At k w (get_or (set sums i sum) k 0))
            (sym (get_or-set_other weights i k weight 0 (λ equal. omega arith)))
            (subst (At k (get_or weights k 0)) (sym (get_or-set_other sums i k sum 0 (λ equal. omega arith))) (are k less))
        | inr (inr past) ↦ absurd (omega arith)
      ]
