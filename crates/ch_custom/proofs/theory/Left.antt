-- What pruning leaves of the legs: the exact ones, and the arcs.
use Rattle.std.proofs.Common.{◌≡◌, ℕ, ◌+◌, ◌*◌, ◌<◌, ◌≤◌, Bool, true, false, cond, List, [], ◌∷◌, ◌++◌, length, get_or, set, take, Contains}
use Rattle.std.proofs.Common.{Option, Some, None, refl, sym, ◌∙◌, ap, subst, arith, inl, inr, length-set, get_or-set_same, get_or-set_other}
use Rattle.std.specs.Prelude.{◌≢◌, ◌⊎◌, ◌==◌, ◌&&◌, nat_le, nat_lt, map, slice_index, slice_index_or}
use Rattle.std.proofs.lemmas.Bool.{cases_eq, eqb-true}
use Rattle.std.proofs.lemmas.Bool.Decides.{nat_tests}
use Rattle.std.proofs.lemmas.Option.{same_Some, none-some}
use Rattle.std.proofs.lemmas.List.{get_or-map, length-map}
use Rattle.std.proofs.lemmas.Simd.{map-map}
use Rattle.std.proofs.lemmas.List.Elements.{Contains-get_or, Contains-push_cases}
use Rattle.ch_graph.specs.declared.arc.InArc.{InArc}
use Rattle.ch_graph.specs.declared.limits.TheConstants.{MOST_WEIGHT}
use Rattle.ch_graph.specs.Cost.{IsAtMost}
use Rattle.ch_graph.specs.Graph.{Network, IsWithinLimits}
use Rattle.ch_graph.specs.WalkLaws.{arc_cost, IsWalkCost}
use Rattle.ch_graph.proofs.CostOrder.{IsAtMost_refl}
use Rattle.ch_graph.proofs.Lists.{contains_none}
use Rattle.ch_graph.proofs.Numbers.{eqb-refl}
use Rattle.ch_graph.proofs.WalkCosts.{IsWalkCost-arc}
use Rattle.ch_hierarchy.specs.declared.leg.Leg.{Leg}
use Rattle.ch_hierarchy.specs.declared.side.Side.{Side}
use Rattle.ch_hierarchy.specs.declared.side.Side.TheVariants.{Up, Down}
use Rattle.ch_hierarchy.specs.Saved.{AreLevelsOf}
use Rattle.ch_contract.specs.Legs.{Label, arc_label}
use Rattle.ch_contract.specs.LegRows.{label_of}
use Rattle.ch_custom.specs.declared.leg_pair.Held.{Held}
use Rattle.ch_custom.specs.declared.leg_pair.LegPair.{LegPair}
use Rattle.ch_custom.specs.declared.leg_pair.TheConstants.{NO_MIDDLE, BEATEN}
use Rattle.ch_custom.specs.LegPairs.{middle_of, leg_at, leg_of, pairs_row, held_none, unbeaten_held, unbeaten_pair, lightened_pair}
use Rattle.ch_custom.specs.Metric.{held_leg}
use Rattle.ch_custom.specs.Opening.{lightened}
use Rattle.ch_custom.specs.Exact.{IsWalkAt, IsExactAt, IsShortened, IsSoundAt, held, pair_at, taken_leg, AreTakenLegs, AreExactFrom}
use Rattle.ch_custom.specs.Pruning.{IsArcAt, IsArcLegAt, IsLeft, AreLeft, IsArcPut}
use Rattle.ch_custom.specs.Topologies.{AreFor}
use Rattle.ch_custom.proofs.theory.Exact.{its_node, later_end}
use Rattle.ch_custom.proofs.theory.ExactLegs.{least_at_most, stays, still_sound, exact_least}
use Rattle.ch_custom.proofs.theory.ExactRows.{node_in}
use Rattle.ch_custom.proofs.theory.LegPairs.{lightened_leg, lightened_kept}
use Rattle.ch_custom.proofs.theory.RowLoops.{take_more}
use Rattle.ch_custom.proofs.theory.Steps.{nodes, single}

-- a leg of an array is that of its label
pub held_label : (l : Leg) (k : Label) → held_leg l ≡ Some k → (l.cost.weight ≤ MOST_WEIGHT) × (label_of l ≡ k)
held_label l k is = at (nat_le l.cost.weight MOST_WEIGHT) refl is
  where
    at : (b : Bool) → nat_le l.cost.weight MOST_WEIGHT ≡ b → cond b (Some (label_of l)) None ≡ Some k →
        (l.cost.weight ≤ MOST_WEIGHT) × (label_of l ≡ k)
    at true e f = (grind (arith, nat_tests), same_Some _ _ f)
    at false e f = absurd (none-some _ f)

-- the middle of a leg that is beaten, and of another
beaten_middle : (m : ℕ) → (m == BEATEN) ≡ true → middle_of m ≡ Some BEATEN
beaten_middle m e = ap middle_of (eqb-true m BEATEN e)

other_middle : (m : ℕ) → (m == BEATEN) ≡ false → middle_of m ≡ Some BEATEN → ⊥
other_middle m e = at (m == NO_MIDDLE)
  where
    at : (b : Bool) → cond b None (Some m) ≡ Some BEATEN → ⊥
    at true f = none-some _ f
    at false f = let same = same_Some _ _ f in let yes : (m == BEATEN) ≡ true = rw same refl in cc

-- a leg that is beaten goes, and another stays
abbrev IsUnbeaten : Option Label → Option Label → Type 0
IsUnbeaten old new = ((new ≡ old) × ((l : Label) → old ≡ Some l → l.middle ≡ Some BEATEN → ⊥))
    ⊎ ((new ≡ None) × ((l : Label) → old ≡ Some l → l.middle ≡ Some BEATEN))

unbeaten_leg : (node : ℕ) (h : Held) → IsUnbeaten (held_leg (leg_at node h)) (held_leg (leg_at node (unbeaten_held h)))
unbeaten_leg node h = at (h.middle == BEATEN) refl
  where
    at : (b : Bool) → (h.middle == BEATEN) ≡ b → IsUnbeaten (held_leg (leg_at node h)) (held_leg (leg_at node (cond b held_none h)))
    at true e = inr (
      refl,
      λ l is. sym (ap (λ (z : Label). z.middle) (held_label (leg_at node h) l is).1) ∙ beaten_middle h.middle e,
    )
    at false e = inl (
      refl,
      λ l is beaten. other_middle h.middle e (ap (λ (z : Label). z.middle) (held_label (leg_at node h) l is).1 ∙ beaten),
    )

unbeaten_held_leg : (side : Side) (p : LegPair) → IsUnbeaten (held side p) (held side (unbeaten_pair p))
unbeaten_held_leg Up p = unbeaten_leg p.node p.up
unbeaten_held_leg Down p = unbeaten_leg p.node p.down

-- what is left of an exact leg
unbeaten_left : (g : Network) (side : Side) (v x : ℕ) (taken old new : Option Label) → IsSoundAt g side v x taken →
    ((l : Label) → taken ≡ Some l → l.middle ≡ Some BEATEN → ⊥) → IsShortened g side v x taken old → IsExactAt g side v x old →
    IsUnbeaten old new → IsLeft g [] side v x taken new
unbeaten_left g side v x taken old new sound plain short exact is = record {
  least = λ l e least.
      let there = stays g side v x taken old short l e least in
      elim is [ inl same ↦ same.0 ∙ there | inr gone ↦ absurd (plain l e (gone.1 l there)) ];
  others = λ l e. elim is [
    | inl same ↦
        let there : old ≡ Some l = sym same.0 ∙ e in
        let least = exact_least g side v x old l (still_sound g side v x taken old short sound) exact there in
        inl (
          elim short [
            | inl was ↦ sym was ∙ there
            | inr beaten ↦ absurd (same.1 l there
                (ap (λ (z : Label). z.middle) (same_Some _ _ (sym there ∙ beaten.1)) ∙ beaten.2))
          ],
          least,
        )
    | inr gone ↦ absurd (none-some l (sym gone.0 ∙ e))
  ];
  within = λ a none. absurd (contains_none a none);
}

-- the rows without the legs that are beaten
pub left_start : (g : Network) (order : List ℕ) (rows : List (List ℕ)) (metric new : List (List LegPair)) → IsWithinLimits g →
    AreFor g order rows → AreTakenLegs g order rows → AreExactFrom g order rows 0 metric →
    new ≡ map (λ r. map unbeaten_pair r) metric → AreLeft g order rows [] new
left_start g order rows metric new limits ready legs are is = record {
  size = ap length is ∙ length-map metric (λ r. map unbeaten_pair r) ∙ are.size;
  ends = λ i lt. ap (map node_in) (row_now i lt) ∙ map-map node_in unbeaten_pair (pairs_row metric (slice_index order i))
      ∙ (are.each i lt).ends;
  each = λ i lt side k d below.
      let now = row_now i lt in
      let size : length (pairs_row new (slice_index order i)) ≡ length (pairs_row metric (slice_index order i)) =
      ap length now ∙ length-map (pairs_row metric (slice_index order i)) unbeaten_pair in
      let inside : k < length (pairs_row metric (slice_index order i)) = omega arith in
      let mine : pair_at (pairs_row new (slice_index order i)) k d ≡ unbeaten_pair (pair_at (pairs_row metric (slice_index order i)) k d) =
      ap (λ z. get_or z k d) now ∙ get_or-map unbeaten_pair (pairs_row metric (slice_index order i)) k d d inside in
      subst (λ (z : LegPair). IsLeft g [] side (slice_index order i) z.node (taken_leg g order side i z.node) (held side z)) (sym mine)
      (unbeaten_left g side (slice_index order i) (pair_at (pairs_row metric (slice_index order i)) k d).node
      (taken_leg g order side i (pair_at (pairs_row metric (slice_index order i)) k d).node)
      (held side (pair_at (pairs_row metric (slice_index order i)) k d))
      (held side (unbeaten_pair (pair_at (pairs_row metric (slice_index order i)) k d)))
      (legs.walks side i (pair_at (pairs_row metric (slice_index order i)) k d).node lt)
      (λ l e beaten.
      let m = legs.middles side i (pair_at (pairs_row metric (slice_index order i)) k d).node BEATEN l lt e beaten in
      let few = limits.size.0 in omega arith)
      ((are.each i lt).each side k d inside)
      (are.exact i (omega arith) lt side k d inside)
      (unbeaten_held_leg side (pair_at (pairs_row metric (slice_index order i)) k d)));
}
  where
    row_now : (i : ℕ) → i < g.nodes → pairs_row new (slice_index order i) ≡ map unbeaten_pair (pairs_row metric (slice_index order i))
    row_now i lt = ap (λ z. pairs_row z (slice_index order i)) is
        ∙ get_or-map (λ r. map unbeaten_pair r) metric (slice_index order i) [] []
        (subst (λ z. slice_index order i < z) (sym are.size) (its_node g order rows limits ready i lt))

-- a leg after an arc is put in: it is the same, and weighs no more than the arc if that leads there, or it is the arc, which
-- is lighter than the leg was
abbrev IsPutIn : Side → ℕ → ℕ → InArc → Option Label → Option Label → Type 0
IsPutIn side v x a old new = ((new ≡ old) × (IsArcAt side v x a → (k : Label) × (old ≡ Some k) × (k.cost.weight ≤ a.weight)))
    ⊎ ((new ≡ Some (arc_label a.weight)) × IsArcAt side v x a × ((k : Label) → old ≡ Some k → a.weight < k.cost.weight))

light_leg : (side : Side) (v y : ℕ) (a : InArc) (l : Leg) → a.weight ≤ MOST_WEIGHT → (l.node ≡ y → IsArcAt side v l.node a) →
    (IsArcAt side v l.node a → l.node ≡ y) →
    IsPutIn side v l.node a (held_leg l) (held_leg (lightened y a.weight l))
light_leg side v y a l light leads back = at (l.node == y) (nat_lt a.weight l.cost.weight) refl refl
  where
    at : (p q : Bool) → (l.node == y) ≡ p → nat_lt a.weight l.cost.weight ≡ q → IsPutIn side v l.node a (held_leg l)
        (held_leg (cond (p && q) (record { node = l.node; cost = record { weight = a.weight; arcs = 1 }; middle = None }) l))
    at true true e f =
        let fits : nat_le a.weight MOST_WEIGHT ≡ true = grind (arith, nat_tests) in
        inr (
          rw fits refl,
          leads (eqb-true l.node y e),
          λ k is. let h = held_label l k is in
              let its : l.cost.weight ≡ k.cost.weight = ap (λ (z : Label). z.cost.weight) h.1 in
              let less : a.weight < l.cost.weight = grind (arith, nat_tests) in
              omega arith,
        )
    at true false e f =
        let le : l.cost.weight ≤ a.weight = grind (arith, nat_tests) in
        let fits : nat_le l.cost.weight MOST_WEIGHT ≡ true = grind (arith, nat_tests) in
        inl (refl, λ is. (label_of l, rw fits refl, le))
    at false q e f = inl (refl, λ is. let same = back is in let yes : (l.node == y) ≡ true = rw same (eqb-refl y) in absurd (cc))

-- an arc is a walk
arc_walk : (g : Network) (side : Side) (v x : ℕ) (a : InArc) → Contains g.arcs a → IsArcAt side v x a → IsWalkAt g side v x (arc_cost a)
arc_walk g Up v x a has is =
    subst (λ z. IsWalkCost g z x (arc_cost a)) is.0 (subst (λ z. IsWalkCost g a.from z (arc_cost a)) is.1 (IsWalkCost-arc g a has))
arc_walk g Down v x a has is =
    subst (λ z. IsWalkCost g z v (arc_cost a)) is.0 (subst (λ z. IsWalkCost g a.from z (arc_cost a)) is.1 (IsWalkCost-arc g a has))

-- its leg is an arc
arc_leg : (g : Network) (side : Side) (v x : ℕ) (a : InArc) → Contains g.arcs a → IsArcAt side v x a →
    IsArcLegAt g side v x (arc_label a.weight)
arc_leg g Up v x a has is =
    (refl, refl, subst (Contains g.arcs) (λ i. record { from = is.0 i; to = is.1 i; weight = a.weight }) has)
arc_leg g Down v x a has is =
    (refl, refl, subst (Contains g.arcs) (λ i. record { from = is.0 i; to = is.1 i; weight = a.weight }) has)

-- a leg that is an arc has no middle, and one arc
pub arc_one : (g : Network) (side : Side) (v x : ℕ) (l : Label) → IsArcLegAt g side v x l → (l.middle ≡ None) × (l.cost.arcs ≡ 1)
arc_one g Up v x l is = (is.0, is.1)
arc_one g Down v x l is = (is.0, is.1)

-- one more arc is put in
left_more : (g : Network) (arcs : List InArc) (side : Side) (v x : ℕ) (a : InArc) (taken old new : Option Label) → Contains g.arcs a →
    IsLeft g arcs side v x taken old → IsPutIn side v x a old new → IsLeft g (arcs ++ a ∷ []) side v x taken new
left_more g arcs side v x a taken old new has left (inl (same, within)) = record {
  least = λ l e least. same ∙ left.least l e least;
  others = λ l e. left.others l (sym same ∙ e);
  within = λ b c is. elim (Contains-push_cases arcs a b c) [
    | inl there ↦ let l = left.within b there is in (l.0, same ∙ l.1, l.2)
    | inr same_arc ↦
        let one : b ≡ a = sym same_arc in
        let arc : IsArcAt side v x a = subst (IsArcAt side v x) one is in
        let k = within arc in
        let cheap : IsAtMost k.0.cost (arc_cost a) = elim (left.others k.0 k.1) [
          | inl exact ↦ least_at_most g side v x k.0.cost (arc_cost a) exact.1 (arc_walk g side v x a has arc)
          | inr single ↦ let s = (arc_one g side v x k.0 single).1 in (k.2, λ tie. omega arith)
        ] in
        (k.0, same ∙ k.1, subst (λ z. IsAtMost k.0.cost (arc_cost z)) (sym one) cheap)
  ];
}
left_more g arcs side v x a taken old new has left (inr (now, arc, lighter)) = record {
  least = λ l e least.
      let less = lighter l (left.least l e least) in
      let le = (least_at_most g side v x l.cost (arc_cost a) least (arc_walk g side v x a has arc)).0 in
      absurd (omega arith);
  others = λ l e. inr (subst (IsArcLegAt g side v x) (same_Some _ _ (sym now ∙ e)) (arc_leg g side v x a has arc));
  within = λ b c is. elim (Contains-push_cases arcs a b c) [
    | inl there ↦
        let l = left.within b there is in
        let less = lighter l.0 l.1 in
        let le = l.2.0 in
        (arc_label a.weight, now, (omega arith, λ tie. omega arith))
    | inr same_arc ↦ (arc_label a.weight, now, subst (λ z. IsAtMost (arc_cost a) (arc_cost z)) same_arc (IsAtMost_refl (arc_cost a)))
  ];
}

-- the weight of an arc is within the limit
light_arc : (n w u : ℕ) → u < n → n * w ≤ MOST_WEIGHT → w ≤ MOST_WEIGHT
light_arc n w u lt le = grind arith

-- a leg that stays where an arc is put in elsewhere
stays_in : (side : Side) (v x : ℕ) (a : InArc) (old new : Option Label) → new ≡ old → (IsArcAt side v x a → ⊥) →
    IsPutIn side v x a old new
stays_in side v x a old new same never = inl (same, λ is. absurd (never is))

-- the legs of a pair after an arc from v to y, or to v from y, is put in
pair_put : (to side : Side) (v y : ℕ) (a : InArc) (p : LegPair) → a.weight ≤ MOST_WEIGHT → p.node ≢ v → IsArcAt to v y a →
    IsPutIn side v p.node a (held side p) (held side (lightened_pair to y a.weight p))
pair_put Up Up v y a p light apart is =
    subst (IsPutIn Up v p.node a (held Up p)) (ap held_leg (sym (lightened_leg Up y a.weight p)))
    (light_leg Up v y a (leg_of Up p) light (λ e. (is.0, is.1 ∙ sym e)) (λ arc. sym arc.1 ∙ is.1))
pair_put Down Down v y a p light apart is =
    subst (IsPutIn Down v p.node a (held Down p)) (ap held_leg (sym (lightened_leg Down y a.weight p)))
    (light_leg Down v y a (leg_of Down p) light (λ e. (is.0 ∙ sym e, is.1)) (λ arc. sym arc.0 ∙ is.0))
pair_put Up Down v y a p light apart is =
    stays_in Down v p.node a _ _ (ap held_leg (lightened_kept Up y a.weight p)) (λ arc. apart (sym arc.0 ∙ is.0))
pair_put Down Up v y a p light apart is =
    stays_in Up v p.node a _ _ (ap held_leg (lightened_kept Down y a.weight p)) (λ arc. apart (sym arc.1 ∙ is.1))

module _ (g : Network) (order levels : List ℕ) (rows : List (List ℕ)) (limits : IsWithinLimits g) (ready : AreFor g order rows)
    (levelled : AreLevelsOf order levels) where
  -- the pairs of a row lead to higher levels
  level_rises : (i : ℕ) → i < g.nodes → (row : List LegPair) → map (λ p. p.node) row ≡ slice_index_or rows (slice_index order i) [] →
      (k : ℕ) (d : LegPair) → k < length row → slice_index levels (slice_index order i) < slice_index levels (pair_at row k d).node
  level_rises i lt row same k d below =
      let count = (nodes g order rows limits ready).count in
      let j = later_end g order rows limits ready i lt row same k d below in
      let mine = levelled.each i (omega arith) in
      let its = levelled.each j.0 (omega (arith, j.2)) in
      let is : slice_index levels (slice_index order j.0) ≡ slice_index levels (pair_at row k d).node = ap (slice_index levels) j.3 in
      omega (arith, j.1)

  -- one row is changed by an arc that is put in between its node and a higher one
  put_at : (arcs : List InArc) (a : InArc) (to : Side) (lo hi : ℕ) (old new : List (List LegPair)) → Contains g.arcs a →
      a.weight ≤ MOST_WEIGHT → lo < g.nodes → IsArcAt to lo hi a → slice_index levels lo ≤ slice_index levels hi →
      AreLeft g order rows arcs old → new ≡ set old lo (map (lightened_pair to hi a.weight) (pairs_row old lo)) →
      AreLeft g order rows (arcs ++ a ∷ []) new
  put_at arcs a to lo hi old new has light low is le left edited = record {
    size = ap length edited ∙ length-set old lo _ ∙ left.size;
    ends = λ i lt. elim (cases_eq (slice_index order i) lo) [
      | inl same ↦ ap (map node_in) (here i same) ∙ map-map node_in (lightened_pair to hi a.weight) (pairs_row old (slice_index order i))
          ∙ same_nodes (pairs_row old (slice_index order i)) ∙ left.ends i lt
      | inr ne ↦ ap (map node_in) (there i ne) ∙ left.ends i lt
    ];
    each = λ i lt side k d below. elim (cases_eq (slice_index order i) lo) [
      | inl same ↦
          let now = here i same in
          let inside : k < length (pairs_row old (slice_index order i)) =
          subst (λ z. k < z) (ap length now ∙ length-map (pairs_row old (slice_index order i)) (lightened_pair to hi a.weight)) below in
          let p = pair_at (pairs_row old (slice_index order i)) k d in
          let mine : pair_at (pairs_row new (slice_index order i)) k d ≡ lightened_pair to hi a.weight p =
          ap (λ z. get_or z k d) now ∙ get_or-map (lightened_pair to hi a.weight) (pairs_row old (slice_index order i)) k d d inside in
          let far = level_rises i lt (pairs_row old (slice_index order i)) (left.ends i lt) k d inside in
          let apart : p.node ≢ slice_index order i = λ e. let bad = ap (slice_index levels) e in omega arith in
          let arc : IsArcAt to (slice_index order i) hi a = subst (λ z. IsArcAt to z hi a) (sym same) is in
          subst (λ (z : LegPair). IsLeft g (arcs ++ a ∷ []) side (slice_index order i) z.node (taken_leg g order side i z.node)
          (held side z))
          (sym mine)
          (subst (λ z. IsLeft g (arcs ++ a ∷ []) side (slice_index order i) z (taken_leg g order side i z)
          (held side (lightened_pair to hi a.weight p))) (sym (light_node to hi a.weight p))
          (left_more g arcs side (slice_index order i) p.node a (taken_leg g order side i p.node) (held side p)
          (held side (lightened_pair to hi a.weight p)) has (left.each i lt side k d inside)
          (pair_put to side (slice_index order i) hi a p light apart arc)))
      | inr ne ↦
          let now = there i ne in
          let inside : k < length (pairs_row old (slice_index order i)) = subst (λ z. k < z) (ap length now) below in
          let p = pair_at (pairs_row old (slice_index order i)) k d in
          let mine : pair_at (pairs_row new (slice_index order i)) k d ≡ p = ap (λ z. get_or z k d) now in
          let far = level_rises i lt (pairs_row old (slice_index order i)) (left.ends i lt) k d inside in
          subst (λ (z : LegPair). IsLeft g (arcs ++ a ∷ []) side (slice_index order i) z.node (taken_leg g order side i z.node)
          (held side z))
          (sym mine)
          (left_more g arcs side (slice_index order i) p.node a (taken_leg g order side i p.node) (held side p) (held side p) has
          (left.each i lt side k d inside)
          (stays_in side (slice_index order i) p.node a (held side p) (held side p) refl
          (no_arc to side lo hi (slice_index order i) p.node is le far ne)))
    ];
  }
    where
      here : (i : ℕ) → slice_index order i ≡ lo → pairs_row new (slice_index order i) ≡
          map (lightened_pair to hi a.weight) (pairs_row old (slice_index order i))
      here i same =
          ap (pairs_row new) same ∙ ap (λ z. pairs_row z lo) edited
          ∙ get_or-set_same old lo (map (lightened_pair to hi a.weight) (pairs_row old lo)) [] (subst (λ z. lo < z) (sym left.size) low)
          ∙ ap (λ z. map (lightened_pair to hi a.weight) (pairs_row old z)) (sym same)

      there : (i : ℕ) → slice_index order i ≢ lo → pairs_row new (slice_index order i) ≡ pairs_row old (slice_index order i)
      there i ne = ap (λ z. pairs_row z (slice_index order i)) edited
          ∙ get_or-set_other old lo (slice_index order i) (map (lightened_pair to hi a.weight) (pairs_row old lo)) [] ne

      light_node : (to : Side) (y w : ℕ) (p : LegPair) → (lightened_pair to y w p).node ≡ p.node
      light_node Up y w p = at (p.node == y && nat_lt w p.up.weight)
        where
          at : (b : Bool) → (cond b (record { node = p.node; up = record { weight = w; arcs = 1; middle = NO_MIDDLE }; down = p.down })
              p).node
              ≡ p.node
          at true = refl
          at false = refl
      light_node Down y w p = at (p.node == y && nat_lt w p.down.weight)
        where
          at : (b : Bool) → (cond b (record { node = p.node; up = p.up; down = record { weight = w; arcs = 1; middle = NO_MIDDLE } })
              p).node
              ≡ p.node
          at true = refl
          at false = refl

      same_nodes : (xs : List LegPair) → map (λ p. (lightened_pair to hi a.weight p).node) xs ≡ map node_in xs
      same_nodes [] = refl
      same_nodes (x ∷ xs) = λ i. light_node to hi a.weight x i ∷ same_nodes xs i

      no_arc : (to side : Side) (lo hi v x : ℕ) → IsArcAt to lo hi a → slice_index levels lo ≤ slice_index levels hi →
          slice_index levels v < slice_index levels x → v ≢ lo → IsArcAt side v x a → ⊥
      no_arc Up Up lo hi v x is le far ne arc = ne (sym arc.0 ∙ is.0)
      no_arc Down Down lo hi v x is le far ne arc = ne (sym arc.1 ∙ is.1)
      no_arc Up Down lo hi v x is le far ne arc =
          let one : slice_index levels x ≡ slice_index levels lo = ap (slice_index levels) (sym arc.0 ∙ is.0) in
          let two : slice_index levels v ≡ slice_index levels hi = ap (slice_index levels) (sym arc.1 ∙ is.1) in
          omega arith
      no_arc Down Up lo hi v x is le far ne arc =
          let one : slice_index levels x ≡ slice_index levels lo = ap (slice_index levels) (sym arc.1 ∙ is.1) in
          let two : slice_index levels v ≡ slice_index levels hi = ap (slice_index levels) (sym arc.0 ∙ is.0) in
          omega arith

  -- the next arc of the graph is put in
  pub put_next : (arcs : List InArc) (k : ℕ) (d : InArc) (old new : List (List LegPair)) → arcs ≡ g.arcs → k < length arcs →
      AreLeft g order rows (take k g.arcs) old → IsArcPut levels (get_or arcs k d) old new →
      AreLeft g order rows (take (k + 1) g.arcs) new
  put_next arcs k d old new same lt left put =
      let inside : k < length g.arcs = subst (λ z. k < length z) same lt in
      let a = get_or g.arcs k d in
      let is = limits.each k d inside in
      let has = Contains-get_or g.arcs k d inside in
      let fits = light_arc g.nodes a.weight a.from is.ends.0 is.weight in
      subst (λ z. AreLeft g order rows z new) (sym (take_more g.arcs k d inside))
      (elim (subst (λ z. IsArcPut levels (get_or z k d) old new) same put) [
        | inl up ↦ put_at (take k g.arcs) a Up a.from a.to old new has fits is.ends.0 (refl, refl) (omega (arith, up.0)) left up.1
        | inr down ↦ put_at (take k g.arcs) a Down a.to a.from old new has fits is.ends.1 (refl, refl) down.0 left down.1
      ])
