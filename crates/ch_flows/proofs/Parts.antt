-- The two legs that a leg stands for come after it, and the legs and these places are a plan.
use Rattle.std.proofs.Common.{◌≡◌, ℕ, ◌*◌, ◌<◌, List, length, get_or, Contains, Option, Some, None, refl, sym, ◌∙◌, ap, subst, arith}
use Rattle.std.proofs.Common.{inl, inr}
use Rattle.std.specs.Prelude.{slice_index}
use Rattle.std.proofs.lemmas.Bool.{cases_lt}
use Rattle.std.proofs.lemmas.List.{get_or_default}
use Rattle.std.proofs.lemmas.List.Elements.{All-contains}
use Rattle.ch_hierarchy.specs.declared.leg.Leg.{Leg}
use Rattle.ch_hierarchy.specs.Rows.{row, IsRow}
use Rattle.ch_hierarchy.specs.Hierarchy.{LevelsAndLegs, IsLevelled, IsLegUp, nodes_of}
use Rattle.ch_hierarchy.specs.Kept.{IsFounded, IsLeg}
use Rattle.ch_hierarchy.specs.Ranked.{rank_of}
use Rattle.ch_hierarchy.specs.declared.side.Side.{Side}
use Rattle.ch_hierarchy.specs.declared.side.Side.TheVariants.{Up, Down}
use Rattle.ch_hierarchy.specs.Side.{rows_of, state_of}
use Rattle.ch_hierarchy.proofs.theory.NoLeg.{no_leg}
use Rattle.ch_query.specs.Distance.{IsKeptForSome}
use Rattle.ch_query.proofs.routing.Rows.{has_row, rows_ordered}
use Rattle.ch_flows.specs.declared.handing.Halves.{Halves}
use Rattle.ch_flows.specs.declared.plan.Link.{Link}
use Rattle.ch_flows.specs.Handing.{part_at}
use Rattle.ch_flows.specs.Links.{AreApart, IsBetween, IsLink, from_of, head_of, link_at, tail_of, to_of}
use Rattle.ch_flows.specs.Plans.{IsPlan}
use Rattle.ch_flows.specs.Layouts.{AreHalvesAfter, IsLaid, IsPartOf, IsPlaceOf, IsSpot, leg_on, link_of, place_of, state_at}

-- a leg of a row by its place
pub leg_in : (legs : List Leg) (k : ℕ) → k < length legs → Contains legs (leg_on legs k)
leg_in legs k low = (k, low, get_or_default legs k (get_or legs k no_leg) no_leg low)

module _ (H : LevelsAndLegs) (levelled : IsLevelled H) where
  -- a leg leads to or from a higher node
  pub rises : (side : Side) (v : ℕ) (leg : Leg) → Contains (row (rows_of H side) v) leg →
      slice_index H.level v < slice_index H.level leg.node
  rises Up v leg has = (All-contains (IsLegUp H v) (row H.up v) leg (levelled.up.1 v).1 has).higher
  rises Down v leg has = (All-contains (IsLegUp H v) (row H.down v) leg (levelled.down.1 v).1 has).higher

  -- a leg of a row is a leg of the hierarchy
  pub leg_of : (side : Side) (v : ℕ) (leg : Leg) → Contains (row (rows_of H side) v) leg →
      IsLeg H (tail_of side v leg.node) (head_of side v leg.node) leg.cost leg.middle
  leg_of Up v leg has = (leg, refl, refl, inl (has, refl))
  leg_of Down v leg has = (leg, refl, refl, inr (has, refl))

  -- a node lower than both ends is lower than the lower one
  below_low : (side : Side) (v x low : ℕ) → low < slice_index H.level (tail_of side v x) → low < slice_index H.level (head_of side v x) →
      low < slice_index H.level v
  below_low Up v x low p q = p
  below_low Down v x low p q = q

  lower_rank : (v w : ℕ) → v < nodes_of H → slice_index H.level w < slice_index H.level v → rank_of H v < rank_of H w
  lower_rank v w low less = let most = (levelled.levels.0 v 0 low).1 in omega (arith, most, less)

-- the two legs of the middle of a leg
pub record Splits (H : LevelsAndLegs) (link : Link) (v : ℕ) : Type 0 where
  pub node : v < nodes_of H
  pub first : (a : Leg) × Contains (row H.down v) a × (a.node ≡ from_of link)
  pub second : (b : Leg) × Contains (row H.up v) b × (b.node ≡ to_of link)
  pub lower : rank_of H link.low < rank_of H v

pub splits : (H : LevelsAndLegs) → IsKeptForSome H → (link : Link) → IsLink H link → (v : ℕ) → link.leg.middle ≡ Some v → Splits H link v
splits H kept link is v middle =
    let levelled = kept.2.levelled in
    let leg = leg_of H levelled link.side link.low link.leg is in
    let f : IsFounded kept.0 H (from_of link) (to_of link) link.leg.cost (Some v) =
    subst (IsFounded kept.0 H (from_of link) (to_of link) link.leg.cost) middle
    (kept.2.founded (from_of link) (to_of link) link.leg.cost link.leg.middle leg) in
    let p : slice_index H.level v < slice_index H.level (from_of link) =
    subst (λ (n : ℕ). slice_index H.level v < slice_index H.level n) f.3 (rises H levelled Down v f.0 f.2) in
    let q : slice_index H.level v < slice_index H.level (to_of link) =
    subst (λ (n : ℕ). slice_index H.level v < slice_index H.level n) f.5 (rises H levelled Up v f.1 f.4) in
    record {
      node = has_row H levelled Down v f.0 f.2;
      first = (f.0, f.2, f.3);
      second = (f.1, f.4, f.5);
      lower = lower_rank H levelled link.low v (has_row H levelled link.side link.low link.leg is)
          (below_low H levelled link.side link.low link.leg.node (slice_index H.level v) p q);
    }

module _ (H : LevelsAndLegs) (levelled : IsLevelled H) (starts : List ℕ) (links : List Link) (laid : IsLaid H starts links
    (2 * nodes_of H)) where
  -- the leg at a place
  link_is : (i : ℕ) (low : i < length links) → let f = laid.found i low in
      link_at links i ≡ link_of f.side f.node (leg_on (row (rows_of H f.side) f.node) f.place)
  link_is i low = let f = laid.found i low in ap (link_at links) f.is ∙ laid.each f.side f.node f.place f.spot

  pub is_link : (i : ℕ) → i < length links → IsLink H (link_at links i)
  is_link i low =
      let f = laid.found i low in
      subst (IsLink H) (sym (link_is i low)) (leg_in (row (rows_of H f.side) f.node) f.place f.spot.leg)

  -- a number of a lower node is greater
  state_rises : (s t : Side) (a b : ℕ) → a < b → state_of s a < state_of t b
  state_rises Up Up a b less = omega (arith, less)
  state_rises Up Down a b less = omega (arith, less)
  state_rises Down Up a b less = omega (arith, less)
  state_rises Down Down a b less = omega (arith, less)

  -- the leg at the place of one that was looked for
  pub placed_between : (side : Side) (v x p : ℕ) → IsPlaceOf H starts side v x p → IsBetween side v x (link_at links p)
  placed_between side v x p is =
      let e : link_at links p ≡ link_of side v (leg_on (row (rows_of H side) v) is.place) =
      ap (link_at links) is.is ∙ laid.each side v is.place is.spot in
      record {
        side_is = ap (λ (l : Link). l.side) e;
        low_is = ap (λ (l : Link). l.low) e;
        node_is = ap (λ (l : Link). l.leg.node) e ∙ is.node;
      }

  pub placed_within : (side : Side) (v x p : ℕ) → IsPlaceOf H starts side v x p → p < length links
  placed_within side v x p is = omega (arith, is.is, laid.within side v is.place is.spot)

  -- it comes after the legs of higher nodes
  pub placed_after : (side : Side) (v x p i : ℕ) → IsPlaceOf H starts side v x p → i < length links →
      rank_of H (link_at links i).low < rank_of H v → i < p
  placed_after side v x p i is low less =
      let f = laid.found i low in
      let node : (link_at links i).low ≡ f.node = ap (λ (l : Link). l.low) (link_is i low) in
      let rank : rank_of H f.node < rank_of H v = subst (λ (n : ℕ). rank_of H n < rank_of H v) node less in
      let before = laid.order f.side f.node f.place (state_at H side v) f.spot
      (state_rises f.side side (rank_of H f.node) (rank_of H v) rank) is.spot.state in
      omega (arith, f.is, before, is.is)

  -- both places that were found
  pub halves_after : (i v a b : ℕ) (two : Halves) → i < length links → (link_at links i).leg.middle ≡ Some v →
      Splits H (link_at links i) v →
      IsPlaceOf H starts Down v (from_of (link_at links i)) a → IsPlaceOf H starts Up v (to_of (link_at links i)) b →
      two ≡ record { first = a; second = b } → AreHalvesAfter links i two
  halves_after i v a b two low middle split p q e =
      let link = link_at links i in
      subst (AreHalvesAfter links i) (sym e) (record {
        halves = record {
          middle = v;
          is = middle;
          first = placed_between Down v (from_of link) a p;
          second = placed_between Up v (to_of link) b q;
        };
        first = (placed_after Down v (from_of link) a i p low split.lower, placed_within Down v (from_of link) a p);
        second = (placed_after Up v (to_of link) b i q low split.lower, placed_within Up v (to_of link) b q);
      })

  -- one row has one place for a node
  place_one : (legs : List Leg) → IsRow legs → (k m : ℕ) → k < length legs → m < length legs →
      (leg_on legs k).node ≡ (leg_on legs m).node → k ≡ m
  place_one legs order k m lk lm e = elim (cases_lt k m) [
    | inl less ↦ absurd (omega (arith, order k m no_leg less lm, e))
    | inr ge ↦ elim (cases_lt m k) [
      | inl more ↦ absurd (omega (arith, order m k no_leg more lk, e))
      | inr le ↦ omega (arith, ge, le)
    ]
  ]

  -- two legs with the same ends are at one place of one row
  same_spot : (s t : Side) (v u k m : ℕ) → IsSpot H (2 * nodes_of H) s v k → IsSpot H (2 * nodes_of H) t u m →
      tail_of s v (leg_on (row (rows_of H s) v) k).node ≡ tail_of t u (leg_on (row (rows_of H t) u) m).node →
      head_of s v (leg_on (row (rows_of H s) v) k).node ≡ head_of t u (leg_on (row (rows_of H t) u) m).node →
      place_of H starts s v k ≡ place_of H starts t u m
  same_spot Up Up v u k m p q e f =
      let there : (leg_on (row H.up v) k).node ≡ (leg_on (row H.up v) m).node = f ∙ ap (λ (n : ℕ). (leg_on (row H.up n) m).node) (sym e) in
      let size : length (row H.up u) ≡ length (row H.up v) = ap (λ (n : ℕ). length (row H.up n)) (sym e) in
      let one = place_one (row H.up v) (rows_ordered H levelled Up v) k m p.leg (omega (arith, q.leg, size)) there in
      ap (λ (n : ℕ). place_of H starts Up n k) e ∙ ap (place_of H starts Up u) one
  same_spot Down Down v u k m p q e f =
      let there : (leg_on (row H.down v) k).node ≡ (leg_on (row H.down v) m).node =
      e ∙ ap (λ (n : ℕ). (leg_on (row H.down n) m).node) (sym f) in
      let size : length (row H.down u) ≡ length (row H.down v) = ap (λ (n : ℕ). length (row H.down n)) (sym f) in
      let one = place_one (row H.down v) (rows_ordered H levelled Down v) k m p.leg (omega (arith, q.leg, size)) there in
      ap (λ (n : ℕ). place_of H starts Down n k) f ∙ ap (place_of H starts Down u) one
  same_spot Up Down v u k m p q e f =
      let a = rises H levelled Up v (leg_on (row H.up v) k) (leg_in (row H.up v) k p.leg) in
      let b = rises H levelled Down u (leg_on (row H.down u) m) (leg_in (row H.down u) m q.leg) in
      absurd (omega (arith, a, b, ap (slice_index H.level) e, ap (slice_index H.level) f))
  same_spot Down Up v u k m p q e f =
      let a = rises H levelled Down v (leg_on (row H.down v) k) (leg_in (row H.down v) k p.leg) in
      let b = rises H levelled Up u (leg_on (row H.up u) m) (leg_in (row H.up u) m q.leg) in
      absurd (omega (arith, a, b, ap (slice_index H.level) e, ap (slice_index H.level) f))

  pub apart : AreApart links
  apart i j li lj e f =
      let a = laid.found i li in
      let b = laid.found j lj in
      let la = link_is i li in
      let lb = link_is j lj in
      a.is ∙ same_spot a.side b.side a.node b.node a.place b.place a.spot b.spot (sym (ap from_of la) ∙ e ∙ ap from_of lb)
      (sym (ap to_of la) ∙ f ∙ ap to_of lb) ∙ sym b.is

  -- legs and the places of their halves are a plan
  pub plan_is : (parts : List (Option Halves)) → length parts ≡ length links →
      ((k : ℕ) → k < length links → IsPartOf links k (part_at parts k)) → IsPlan H links parts
  plan_is parts long are = record {
    levelled = levelled;
    long = sym long;
    legs = is_link;
    arcs = λ i low none. subst (IsPartOf links i) none (are i (omega (arith, low, long)));
    halves = λ i two low some. (subst (IsPartOf links i) some (are i (omega (arith, low, long)))).halves;
    later = λ i two low some.
        let h : AreHalvesAfter links i two = subst (IsPartOf links i) some (are i (omega (arith, low, long))) in
        (h.first.0, h.second.0, omega (arith, h.first.1, long), omega (arith, h.second.1, long));
    apart = apart;
  }

-- a leg that was read
module _ (H : LevelsAndLegs) (kept : IsKeptForSome H) (starts : List ℕ) (links : List Link) (laid : IsLaid H starts links (2 * nodes_of H))
    (place : ℕ) (low : place < length links) (link : Link) (read : link ≡ get_or links place link) where
  read_is : link ≡ link_at links place
  read_is = read ∙ get_or_default links place link
      (record { side = Up; low = 0; leg = record { node = 0; cost = record { weight = 0; arcs = 0 }; middle = None } }) low

  pub read_splits : (v : ℕ) → link.leg.middle ≡ Some v → Splits H link v
  read_splits v middle =
      splits H kept link (subst (IsLink H) (sym read_is) (is_link H kept.2.levelled starts links laid place low)) v middle

  pub read_halves : (v u w a b : ℕ) → link.leg.middle ≡ Some v → u ≡ from_of link → w ≡ to_of link →
      IsPlaceOf H starts Down v u a → IsPlaceOf H starts Up v w b → AreHalvesAfter links place (record { first = a; second = b })
  read_halves v u w a b middle from to p q =
      let e = read_is in
      halves_after H kept.2.levelled starts links laid place v a b (record { first = a; second = b }) low
      (ap (λ (l : Link). l.leg.middle) (sym e) ∙ middle) (subst (λ (l : Link). Splits H l v) e (read_splits v middle))
      (subst (λ (n : ℕ). IsPlaceOf H starts Down v n a) (from ∙ ap from_of e) p)
      (subst (λ (n : ℕ). IsPlaceOf H starts Up v n b) (to ∙ ap to_of e) q) refl
