-- The arcs that a leg stands for are a walk of its cost, and are determined.
use Rattle.std.proofs.Common.{◌≡◌, ℕ, zero, suc, ◌+◌, ◌<◌, ◌≤◌, List, [], ◌∷◌, ◌++◌, Contains, Option, Some, None, refl, sym, ◌∙◌, ap}
use Rattle.std.proofs.Common.{subst, arith, inl, inr}
use Rattle.std.specs.Prelude.{slice_index}
use Rattle.ch_graph.specs.declared.arc.InArc.{InArc}
use Rattle.ch_graph.specs.declared.cost.Cost.{Cost}
use Rattle.ch_graph.specs.Cost.{cost_sum}
use Rattle.ch_graph.specs.Graph.{Network}
use Rattle.ch_graph.specs.Walk.{IsWalk, cost_of}
use Rattle.ch_graph.specs.WalkLaws.{arc_cost}
use Rattle.ch_graph.proofs.CostOrder.{same_costs}
use Rattle.ch_graph.proofs.CostSums.{cost_sum-no_cost}
use Rattle.ch_graph.proofs.WalkLemmas.{walk_append}
use Rattle.ch_graph.proofs.WalkCosts.{cost_of-cons, cost_of-append}
use Rattle.ch_hierarchy.specs.declared.leg.Leg.{Leg}
use Rattle.ch_hierarchy.specs.Rows.{row}
use Rattle.ch_hierarchy.specs.Hierarchy.{LevelsAndLegs, IsLevelled}
use Rattle.ch_hierarchy.specs.Kept.{IsKept, IsLeg}
use Rattle.ch_hierarchy.specs.declared.side.Side.TheVariants.{Up, Down}
use Rattle.ch_hierarchy.proofs.theory.LegPaths.{rises_or_falls}
use Rattle.ch_hierarchy.proofs.theory.LegWalks.{leg_walk}
use Rattle.ch_query.specs.Routes.{IsUnpacked, arc, shortcut}
use Rattle.ch_query.proofs.routing.Rows.{row_one, rows_ordered}

-- the two legs of a middle are determined
pub halves_one : (H : LevelsAndLegs) → IsLevelled H → (u v w : ℕ) (a b a' b' : Leg) → Contains (row H.down v) a → a.node ≡ u →
    Contains (row H.up v) b → b.node ≡ w →
    Contains (row H.down v) a' → a'.node ≡ u → Contains (row H.up v) b' → b'.node ≡ w → (a ≡ a') × (b ≡ b')
halves_one H k u v w a b a' b' ha na hb nb ha' na' hb' nb' = (
  row_one (row H.down v) (rows_ordered H k Down v) a a' ha ha' (na ∙ sym na'),
  row_one (row H.up v) (rows_ordered H k Up v) b b' hb hb' (nb ∙ sym nb'),
)

module _ (H : LevelsAndLegs) (k : IsLevelled H) where
  -- the arcs of a leg are determined
  pub unpacked_one : {u w weight : ℕ} {middle : Option ℕ} {xs ys : List InArc} → IsUnpacked H u w weight middle xs →
      IsUnpacked H u w weight middle ys → xs ≡ ys
  unpacked_one arc arc = refl
  unpacked_one (shortcut {u = u} {w = w} {v = v} {a = a} {b = b} ha na hb nb p q)
      (shortcut {a = a'} {b = b'} {xs = xs'} {ys = ys'} ha' na' hb' nb' p' q') =
      let one = halves_one H k u v w a b a' b' ha na hb nb ha' na' hb' nb' in
      let first = unpacked_one p (subst (λ (l : Leg). IsUnpacked H u v l.cost.weight l.middle xs') (sym one.0) p') in
      let second = unpacked_one q (subst (λ (l : Leg). IsUnpacked H v w l.cost.weight l.middle ys') (sym one.1) q') in
      λ i. first i ++ second i

module _ (g : Network) (H : LevelsAndLegs) (kept : IsKept g H) where
  -- a leg stands for at least one arc
  pub leg_has_arc : (u w : ℕ) (c : Cost) (middle : Option ℕ) → IsLeg H u w c middle → 0 < c.arcs
  leg_has_arc u w c middle l = let walk = leg_walk g H kept u w c middle l in some walk.0 walk.1 walk.2
    where
      some : (arcs : List InArc) → IsWalk g u w arcs → cost_of arcs ≡ c → 0 < c.arcs
      some [] same e =
          let level = ap (slice_index H.level) same in
          elim (rises_or_falls g H kept u w c middle l) [
            | inl up ↦ (let lt = up.4 in absurd (omega arith))
            | inr down ↦
                (let lt = down.4 in absurd (omega arith))
          ]
      some (x ∷ xs) walk e = let n = ap (λ (q : Cost). q.arcs) e in omega arith

  unpacked_within : (n u w : ℕ) (c : Cost) (middle : Option ℕ) → c.arcs ≤ n → IsLeg H u w c middle →
      (arcs : List InArc) × IsUnpacked H u w c.weight middle arcs
  unpacked_within zero u w c middle most l = absurd (let some = leg_has_arc u w c middle l in omega (arith, most, some))
  unpacked_within (suc n) u w c None most l = (record { from = u; to = w; weight = c.weight } ∷ [], arc {u = u} {w = w} {weight = c.weight})
  unpacked_within (suc n) u w c (Some v) most l =
      let f = kept.founded u w c (Some v) l in
      let first : IsLeg H u v f.0.cost f.0.middle = (f.0, refl, refl, inr (f.2, f.3)) in
      let second : IsLeg H v w f.1.cost f.1.middle = (f.1, refl, refl, inl (f.4, f.5)) in
      let sum : c.arcs ≡ f.0.cost.arcs + f.1.cost.arcs = ap (λ (q : Cost). q.arcs) f.6 in
      let a = leg_has_arc u v f.0.cost f.0.middle first in
      let b = leg_has_arc v w f.1.cost f.1.middle second in
      let xs = unpacked_within n u v f.0.cost f.0.middle (omega (arith, most, sum, b)) first in
      let ys = unpacked_within n v w f.1.cost f.1.middle (omega (arith, most, sum, a)) second in
      (xs.0 ++ ys.0, shortcut {weight = c.weight} f.2 f.3 f.4 f.5 xs.1 ys.1)

  -- a leg stands for some arcs
  pub leg_unpacked : (u w : ℕ) (c : Cost) (middle : Option ℕ) → IsLeg H u w c middle →
      (arcs : List InArc) × IsUnpacked H u w c.weight middle arcs
  leg_unpacked u w c middle l = unpacked_within c.arcs u w c middle (omega arith) l

  -- the arcs of a leg are a walk of its cost
  pub unpacked_walk : {u w weight : ℕ} {middle : Option ℕ} {xs : List InArc} → IsUnpacked H u w weight middle xs → (c : Cost) →
      IsLeg H u w c middle → weight ≡ c.weight →
      IsWalk g u w xs × (cost_of xs ≡ c)
  unpacked_walk (arc {u = u} {w = w} {weight = weight}) c l e =
      let x : InArc = record { from = u; to = w; weight = weight } in
      let f = kept.founded u w c None l in (
        (subst (λ q. Contains g.arcs (record { from = u; to = w; weight = q })) (sym e) f.1, refl, refl),
        cost_of-cons x [] ∙ cost_sum-no_cost (arc_cost x) ∙ same_costs (arc_cost x) c e (sym f.0),
      )
  unpacked_walk (shortcut {u = u} {w = w} {v = v} {a = a} {b = b} {xs = xs} {ys = ys} ha na hb nb p q) c l e =
      let f = kept.founded u w c (Some v) l in
      let one = halves_one H kept.levelled u v w a b f.0 f.1 ha na hb nb f.2 f.3 f.4 f.5 in
      let first = unpacked_walk p a.cost (a, refl, refl, inr (ha, na)) refl in
      let second = unpacked_walk q b.cost (b, refl, refl, inl (hb, nb)) refl in (
        walk_append g u v w xs ys first.0 second.0,
        cost_of-append xs ys ∙ ap (λ r. cost_sum r (cost_of ys)) first.1 ∙ ap (cost_sum a.cost) second.1
            ∙ ap (λ (r : Leg). cost_sum r.cost b.cost) one.0 ∙ ap (λ (r : Leg). cost_sum f.0.cost r.cost) one.1 ∙ sym f.6,
      )
