-- Ways by the places of their legs: ways one after the other make a way.
use Rattle.std.proofs.Common.{◌≡◌, ℕ, zero, suc, ◌+◌, ◌-◌, ◌<◌, List, [], ◌∷◌, ◌++◌, length, get_or, refl, sym, subst, arith, inl, inr}
use Rattle.std.proofs.lemmas.Bool.{cases_lt}
use Rattle.std.proofs.lemmas.List.{get_or-append-add, get_or_append_left, length-append}
use Rattle.std.proofs.lemmas.List.Sums.{sum_by-append, sum_by-cons}
use Rattle.ch_graph.specs.declared.arc.InArc.{InArc}
use Rattle.ch_hierarchy.specs.Hierarchy.{LevelsAndLegs}
use Rattle.ch_flows.specs.declared.plan.Link.{Link}
use Rattle.ch_flows.specs.Links.{IsLinkUnpacked, link_at}
use Rattle.ch_flows.specs.Plans.{IsWay}
use Rattle.ch_flows.proofs.Plans.{times-append}

module _ (H : LevelsAndLegs) (links : List Link) where
  -- no legs are the way of no arcs
  pub way_none : IsWay H links [] []
  way_none = record { within = λ k d low. absurd (omega (arith, low)); times = λ u w share are. refl }

  -- a leg is the way of its arcs
  pub way_one : (p : ℕ) (arcs : List InArc) → p < length links → IsLinkUnpacked H (link_at links p) arcs → IsWay H links (p ∷ []) arcs
  way_one p arcs low is = record {
    within = here;
    times = λ u w share are. omega (arith, sum_by-cons share p [], are p arcs low is);
  }
    where
      here : (k d : ℕ) → k < 1 → get_or (p ∷ []) k d < length links
      here zero d less = low
      here (suc k) d less = absurd (omega (arith, less))

  module _ (a b : List ℕ) (xs ys : List InArc) (p : IsWay H links a xs) (q : IsWay H links b ys) where
    -- the legs of both ways are within the list
    both_within : (k d : ℕ) → k < length (a ++ b) → get_or (a ++ b) k d < length links
    both_within k d low = elim (cases_lt k (length a)) [
      | inl less ↦ subst (λ (n : ℕ). n < length links) (sym (get_or_append_left a b d k less)) (p.within k d less)
      | inr past ↦ (
          let rest = k - length a in
          let at : length a + rest ≡ k = omega (arith, past) in
          let e : get_or (a ++ b) k d ≡ get_or b rest d =
          subst (λ (n : ℕ). get_or (a ++ b) n d ≡ get_or b rest d) at (get_or-append-add a b rest d) in
          subst (λ (n : ℕ). n < length links) (sym e) (q.within rest d (omega (arith, low, length-append a b, past))))
    ]

    -- the second way goes on where the first one ends
    pub way_joined : IsWay H links (a ++ b) (xs ++ ys)
    way_joined = record {
      within = both_within;
      times = λ u w share are. omega (
        arith,
        sum_by-append share a b,
        p.times u w share are,
        q.times u w share are,
        times-append u w xs ys,
      );
    }

    -- the second way comes before the first one
    pub way_swapped : IsWay H links (a ++ b) (ys ++ xs)
    way_swapped = record {
      within = both_within;
      times = λ u w share are. omega (
        arith,
        sum_by-append share a b,
        p.times u w share are,
        q.times u w share are,
        times-append u w ys xs,
      );
    }
