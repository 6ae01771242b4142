-- What the search spaces of a source and a target say of the distance between them, if only some of their sums are
-- known.
use Rattle.std.proofs.Common.{◌≡◌, ℕ, ◌≤◌, ◌⊎◌, List, Contains, Option, Some, None, refl, sym, ◌∙◌, subst, arith, inl, inr}
use Rattle.std.proofs.lemmas.Bool.{cases_lt}
use Rattle.std.proofs.lemmas.Option.{none-some}
use Rattle.ch_graph.specs.declared.cost.Cost.{Cost}
use Rattle.ch_hierarchy.specs.Hierarchy.{LevelsAndLegs}
use Rattle.ch_hierarchy.specs.Ranked.{rank_of}
use Rattle.ch_hierarchy.specs.KeptLaws.{IsLeastMeeting}
use Rattle.ch_hierarchy.specs.declared.side.Side.TheVariants.{Up, Down}
use Rattle.ch_hierarchy.specs.Side.{rows_of}
use Rattle.ch_hierarchy.proofs.theory.KeptWalks.{kept_has_walks, meetings_are_distances}
use Rattle.ch_query.specs.Distance.{IsKeptForSome, IsLeastWeight}
use Rattle.ch_query.specs.Limits.{IsWithin, IsCut, IsDistanceWithin}
use Rattle.ch_query.specs.SearchSpace.{IsPathWeight, IsTight, IsRankedSpace}
use Rattle.ch_query.specs.SearchSpaceLaws.{IsSharedSum}
use Rattle.ch_query.proofs.two_sides.Distances.{weight_is_distance}
use Rattle.ch_query.proofs.two_sides.SharedSums.{IsNodeSum, IsSaidOf, said_sound, within_less, no_less, none_without_walk, attained}

-- a weight is within the limit or not
cases_within : (limit : Option ℕ) (x : ℕ) → IsWithin limit x ⊎ (IsWithin limit x → ⊥)
cases_within None x = inl tt
cases_within (Some most) x = elim (cases_lt most x) [ inl over ↦ inr (λ le. omega arith) | inr le ↦ inl le ]

-- a distance within the limit is the weight of a least meeting
pub least_of : (H : LevelsAndLegs) (limit : Option ℕ) (s t x : ℕ) → IsDistanceWithin H limit s t (Some x) →
    (c : Cost) × IsLeastMeeting H s t c × (c.weight ≡ x) × IsWithin limit x
least_of H limit s t x d = at d.whole d.least d.cut
  where
    at : (o : Option ℕ) → IsLeastWeight H s t o → IsCut limit o (Some x) →
        (c : Cost) × IsLeastMeeting H s t c × (c.weight ≡ x) × IsWithin limit x
    at None least cut = absurd (none-some x (sym cut))
    at (Some y) least cut = elim (cases_within limit y) [
      | inl low ↦ let same : y ≡ x = (let e = cut.0 low in cc) in (least.0, least.1, least.2 ∙ same, subst (IsWithin limit) same low)
      | inr over ↦ absurd (none-some x (sym (cut.1 over)))
    ]

-- the weight of a least meeting within the limit is a distance
pub of_least : (H : LevelsAndLegs) (limit : Option ℕ) (s t : ℕ) (c : Cost) → IsLeastMeeting H s t c → IsWithin limit c.weight →
    IsDistanceWithin H limit s t (Some c.weight)
of_least H limit s t c m low =
    let least : IsLeastWeight H s t (Some c.weight) = (c, m, refl) in
    record {
      whole = Some c.weight;
      least = least;
      distance = weight_is_distance H s t (Some c.weight) least;
      cut =
          (λ _. refl, λ over. absurd (over low));
    }

-- there is at most one distance
pub one_distance : (H : LevelsAndLegs) (limit : Option ℕ) (s t x y : ℕ) → IsDistanceWithin H limit s t (Some x) →
    IsDistanceWithin H limit s t (Some y) → x ≡ y
one_distance H limit s t x y a b =
    let m = least_of H limit s t x a in
    let n = least_of H limit s t y b in
    let le = (m.1.least n.1.meets.0 n.0 n.1.meets.1).0 in
    let ge = (n.1.least m.1.meets.0 m.0 m.1.meets.1).0 in
    let is = m.2 in
    let is' = n.2 in
    omega arith

-- two ranked spaces: one up within a bound, and one down within a limit that is at least the bound
module _ (H : LevelsAndLegs) (k : IsKeptForSome H) (bound limit : Option ℕ) (lesser : (x : ℕ) → IsWithin bound x → IsWithin limit x)
    (s t : ℕ) (ups downs : List (ℕ × ℕ))
    (up : IsRankedSpace H Up bound s ups) (down : IsRankedSpace H Down limit t downs) where
  abbrev Ups : ℕ → ℕ → Type 0
  Ups = IsSaidOf H k.2.levelled Up bound s ups up

  -- the weights of the space down that are within the bound
  abbrev Downs : ℕ → ℕ → Type 0
  Downs v x = IsSaidOf H k.2.levelled Down limit t downs down v x × IsWithin bound x

  abbrev ups_sound : (v x : ℕ) → Ups v x → IsPathWeight (rows_of H Up) s v x × IsWithin bound x
  ups_sound v x h = said_sound H k.2.levelled Up bound s ups up v x h

  abbrev downs_sound : (v x : ℕ) → Downs v x → IsPathWeight (rows_of H Down) t v x × IsWithin bound x
  downs_sound v x h = ((said_sound H k.2.levelled Down limit t downs down v x h.0).0, h.1)

  abbrev downs_whole : (v : ℕ) (c : Cost) → IsTight H Down t v c → IsWithin bound c.weight → Downs v c.weight
  downs_whole v c tight low = (down.whole v c tight (lesser c.weight low), low)

  by_node : (x : ℕ) → IsSharedSum ups downs x → IsWithin bound x → IsNodeSum Ups Downs x
  by_node x h low =
      let r = up.sound h.0 h.1 h.3 in
      let sum = h.5 in (
        r.0,
        h.1,
        h.2,
        (r.1, subst (λ q. Contains ups (q, h.1)) (sym r.2) h.3),
        ((r.1, subst (λ q. Contains downs (q, h.2)) (sym r.2) h.4), within_less bound h.2 x (omega arith) low),
        h.5,
      )

  -- a distance within the bound is a sum of the two spaces
  pub distance_shared : (x : ℕ) → IsDistanceWithin H bound s t (Some x) → IsSharedSum ups downs x × IsWithin bound x
  distance_shared x d =
      let m = least_of H bound s t x d in
      let low = subst (IsWithin bound) (sym m.2) m.3 in
      let h = attained H k bound s t Ups Downs ups_sound up.whole downs_sound downs_whole m.0 m.1 low in
      (subst (IsSharedSum ups downs) m.2 (rank_of H h.0, h.1, h.2, h.3.1, h.4.0.1, h.5), m.3)

  -- each sum within the bound is at least a distance
  pub shared_distance : (x : ℕ) → IsSharedSum ups downs x → IsWithin bound x → (y : ℕ) × IsDistanceWithin H bound s t (Some y) × (y ≤ x)
  shared_distance x sum low =
      let here = by_node x sum low in
      elim ((kept_has_walks k.0 H k.1 k.2).decided s t) [
        | inl found ↦
            let c = found.0 in
            let meeting = ((meetings_are_distances k.0 H k.1 k.2).least s t c).0 found.1 in
            let le = no_less H k bound s t Ups Downs ups_sound up.whole downs_sound downs_whole c meeting x here in
            (c.weight, of_least H bound s t c meeting (within_less bound c.weight x le low), le)
        | inr away ↦
            let never = ((meetings_are_distances k.0 H k.1 k.2).never s t).0 away in
            absurd (none_without_walk H k bound s t Ups Downs ups_sound up.whole downs_sound downs_whole never x here)
      ]
