-- No sum of a label and a weight overflows, labels stay weights of walks, and a round without a change finds all arcs relaxed.
use Rattle.std.proofs.Common.{◌≡◌, ℕ, ◌+◌, ◌<◌, ◌≤◌, ◌||◌, Bool, true, false, List, All, Contains, Option, length, get_or, take}
use Rattle.std.proofs.Common.{take_all, arith, ap, subst, sym, refl, ◌∙◌}
use Rattle.std.proofs.lemmas.List.Elements.{All-more, Contains-get_or}
use Rattle.ch_graph.specs.declared.arc.InArc.{InArc}
use Rattle.ch_graph.specs.Graph.{Network, IsArcWithin, IsWithinLimits}
use Rattle.ch_graph.specs.Relaxing.{IsPartial, IsRelaxed, IsLowered, IsRound, total}
use Rattle.ch_graph.proofs.Labels.{partial_lowered, total_falls, sum_fits}
use Rattle.ch_graph.proofs.plain.relax_all.Goals as goal

module _ (g : Network) (lent : List InArc) (i : ℕ) (d : InArc) (whole : lent ≡ g.arcs) (within : i < length lent) where
  -- the arc at place i is an arc of the graph
  stands : Contains g.arcs (get_or lent i d)
  stands = subst (λ xs. Contains xs (get_or lent i d)) whole (Contains-get_or lent i d within)

  fits : IsWithinLimits g → IsArcWithin g.nodes (get_or lent i d)
  fits limits = subst (λ xs. IsArcWithin g.nodes (get_or xs i d)) (sym whole) (limits.each i d (rw whole at within))

  module _ (limits : IsWithinLimits g) (old mid new : List (Option ℕ)) where
    -- relaxing the arc keeps all that is known
    known : (one : Bool) (s : ℕ) → IsPartial g s mid → (one ≡ true → IsLowered mid new (get_or lent i d)) →
        (one ≡ false → (new ≡ mid) × IsRelaxed mid (get_or lent i d)) → IsPartial g s new
    known true s p lowered same = partial_lowered g s mid new _ p stands (fits limits) (lowered refl)
    known false s p lowered same = subst (IsPartial g s) (sym (same refl).0) p

    kept : IsRound false old mid (take i g.arcs) → (new ≡ mid) × IsRelaxed mid (get_or lent i d) →
        (new ≡ old) × All (IsRelaxed old) (take (i + 1) g.arcs)
    kept before next =
        let same = before.same refl in
        let relaxed : IsRelaxed old (get_or g.arcs i d) = rw (sym same.0, sym whole) next.1 in
        (next.0 ∙ same.0, All-more (IsRelaxed old) g.arcs i d (rw whole at within) same.1 relaxed)

    -- after this arc, the round covers one arc more
    round : (changed one : Bool) (s : ℕ) → IsPartial g s mid → IsRound changed old mid (take i g.arcs) →
        (one ≡ true → IsLowered mid new (get_or lent i d)) → (one ≡ false → (new ≡ mid) × IsRelaxed mid (get_or lent i d)) →
        IsRound (changed || one) old new (take (i + 1) g.arcs)
    round true true s p before lowered same =
        record {
          less = λ _. omega (arith, before.less refl, total_falls g s mid new _ p stands (fits limits) (lowered refl));
          same = λ e. cc;
        }
    round true false s p before lowered same =
        record { less = λ _. omega (arith, before.less refl, ap total (same refl).0); same = λ e. cc }
    round false true s p before lowered same =
        record {
          less = λ _. omega (
            arith,
            ap total (before.same refl).0,
            total_falls g s mid new _ p stands (fits limits) (lowered refl),
          );
          same = λ e. cc;
        }
    round false false s p before lowered same = record { less = λ e. cc; same = λ _. kept before (same refl) }

pub relax-changed-requires-clause-sum : goal.relax-changed-requires-clause-sum
relax-changed-requires-clause-sum c before e =
    let p = c.loop-arc.invariant.known c.requires.0 c.requires.1 in
    let within = fits _ _ _ _ c.arcs-arc-items.ensures.arcs c.loop-arc-test.true c.arcs-arc-items.ensures.limits in
    omega (arith, sum_fits _ _ _ _ before p within e)

pub loop-arc-preserved : goal.loop-arc-preserved
loop-arc-preserved c = record {
  known = λ s p. known _ _ _ _ c.arcs-arc-items.ensures.arcs c.loop-arc-test.true c.arcs-arc-items.ensures.limits c.args.best.now _
      _ _ s (c.loop-arc.invariant.known s p) c.relax-changed.ensures.lowered c.relax-changed.ensures.same;
  round = round _ _ _ _ c.arcs-arc-items.ensures.arcs c.loop-arc-test.true c.arcs-arc-items.ensures.limits _ _ _ _ _ _
      (c.loop-arc.invariant.known c.requires.0 c.requires.1) c.loop-arc.invariant.round c.relax-changed.ensures.lowered
      c.relax-changed.ensures.same;
}

-- past the last arc, the round covers all arcs
past : (changed : Bool) (old new : List (Option ℕ)) (lent arcs : List InArc) (i : ℕ) → lent ≡ arcs → length lent ≤ i →
    IsRound changed old new (take i arcs) → IsRound changed old new arcs
past changed old new lent arcs i whole end round = subst (IsRound changed old new) (take_all i arcs (rw whole at end)) round

pub returns-clause-round : goal.returns-clause-round
returns-clause-round c = past _ _ _ _ _ _ c.arcs-arc-items.ensures.arcs c.loop-arc-test.false c.loop-arc.invariant.round
