-- A levelled hierarchy, written in order of level, is the one that is named.
use Rattle.std.proofs.Common.{◌≡◌, ℕ, ◌<◌, List, [], ◌∷◌, length, map, get_or, Contains, Option, refl, sym, ◌∙◌, ap, subst, arith, inl, inr}
use Rattle.std.specs.Prelude.{◌⊎◌, ◌≢◌, AllPairs, slice_index}
use Rattle.std.specs.List.{flat_map}
use Rattle.std.proofs.lemmas.List.{get_or_default}
use Rattle.std.proofs.lemmas.List.Elements.{All-contains, Contains-get_or, Contains-append_left, Contains-append_right}
use Rattle.std.proofs.lemmas.List.Elements.{Contains-append_cases}
use Rattle.ch_graph.specs.declared.cost.Cost.{Cost}
use Rattle.ch_graph.specs.declared.saved.SavedLeg.{SavedLeg}
use Rattle.ch_graph.specs.Graph.{Network}
use Rattle.ch_graph.proofs.Lists.{contains_head, contains_tail, contains_cons, contains_none, contains_map, contains_map_of}
use Rattle.ch_graph.proofs.Lists.{pairs_head, pairs_tail, pairs_map, pairs_append}
use Rattle.ch_hierarchy.specs.declared.leg.Leg.{Leg}
use Rattle.ch_hierarchy.specs.Rows.{row}
use Rattle.ch_hierarchy.specs.Hierarchy.{LevelsAndLegs, nodes_of, IsLegUp, IsLevelled}
use Rattle.ch_hierarchy.specs.Kept.{IsLeg, IsKept}
use Rattle.ch_hierarchy.specs.Saved.{IsSamePair, NamesHierarchy, NamesKept}
use Rattle.ch_hierarchy.specs.Written.{leg_up, leg_down, legs_at, IsByLevel, written}
use Rattle.ch_hierarchy.proofs.theory.SavedLevels.{level_of, in_row_below}

module _ {X Y : Type 0} (f : X → List Y) where
  -- an element of a piece is in all pieces together
  contains_flat_map : (xs : List X) (x : X) (y : Y) → Contains xs x → Contains (f x) y → Contains (flat_map f xs) y
  contains_flat_map [] x y h has = absurd (contains_none x h)
  contains_flat_map (z ∷ xs) x y h has = elim (contains_cons z x xs h) [
    | inl e ↦ Contains-append_left (f z) (flat_map f xs) y (subst (λ q. Contains (f q) y) (sym e) has)
    | inr later ↦ Contains-append_right (f z) (flat_map f xs) y (contains_flat_map xs x y later has)
  ]

  -- an element of all pieces together is in one of them
  contains_flat_map_of : (xs : List X) (y : Y) → Contains (flat_map f xs) y → (x : X) × Contains xs x × Contains (f x) y
  contains_flat_map_of [] y h = absurd (contains_none y h)
  contains_flat_map_of (z ∷ xs) y h = elim (Contains-append_cases (f z) (flat_map f xs) y h) [
    | inl here ↦ (z, contains_head z xs, here)
    | inr there ↦ let r = contains_flat_map_of xs y there in (r.0, contains_tail r.0 z xs r.1, r.2)
  ]

  -- if each two of a piece are related, and each two of different pieces in their order, each two are
  pairs_flat_map : (R : Y → Y → Type 0) (xs : List X) → ((x : X) → Contains xs x → AllPairs R (f x)) →
      AllPairs (λ x z. (a b : Y) → Contains (f x) a → Contains (f z) b → R a b) xs → AllPairs R (flat_map f xs)
  pairs_flat_map R [] each across = λ i j d less within. absurd (omega arith)
  pairs_flat_map R (x ∷ xs) each across =
      let Across : X → X → Type 0 = λ x z. (a b : Y) → Contains (f x) a → Contains (f z) b → R a b in
      pairs_append R (f x) (flat_map f xs) (each x (contains_head x xs))
      (pairs_flat_map R xs (λ z c. each z (contains_tail z x xs c)) (pairs_tail Across x xs across))
      (λ a b ha hb. let r = contains_flat_map_of xs b hb in pairs_head Across x r.0 xs across r.1 a b ha r.2)

-- the legs do not have the same ends
abbrev IsOtherPair : SavedLeg → SavedLeg → Type 0
IsOtherPair k l = IsSamePair k l → ⊥

module _ (H : LevelsAndLegs) (is : IsLevelled H) where
  -- v is the lower end of the leg
  abbrev IsAtLower : ℕ → SavedLeg → Type 0
  IsAtLower v l = ((l.from ≡ v) × (slice_index H.level v < slice_index H.level l.to))
      ⊎ ((l.to ≡ v) × (slice_index H.level v < slice_index H.level l.from))

  -- a leg of the up row of v leads to a higher node, and one of the down row comes from a higher node
  up_higher : (v : ℕ) (l : Leg) → Contains (row H.up v) l → slice_index H.level v < slice_index H.level l.node
  up_higher v l has = (All-contains (IsLegUp H v) (row H.up v) l (is.up.1 v).1 has).higher

  down_higher : (v : ℕ) (l : Leg) → Contains (row H.down v) l → slice_index H.level v < slice_index H.level l.node
  down_higher v l has = (All-contains (IsLegUp H v) (row H.down v) l (is.down.1 v).1 has).higher

  -- the lower end of each leg of v is v
  at_lower : (v : ℕ) (l : SavedLeg) → Contains (legs_at H v) l → IsAtLower v l
  at_lower v l h = elim (Contains-append_cases (map (leg_up v) (row H.up v)) (map (leg_down v) (row H.down v)) l h) [
    | inl up ↦ let r = contains_map_of (leg_up v) (row H.up v) l up in subst (IsAtLower v) r.2 (inl (refl, up_higher v r.0 r.1))
    | inr down ↦ let r = contains_map_of (leg_down v) (row H.down v) l down in subst (IsAtLower v) r.2 (inr (refl, down_higher v r.0 r.1))
  ]

  -- legs with different lower ends have different ends
  lower_apart : (v w : ℕ) → v ≢ w → (k l : SavedLeg) → IsAtLower v k → IsAtLower w l → IsOtherPair k l
  lower_apart v w ne k l (inl a) (inl b) same = ne (sym a.0 ∙ same.0 ∙ b.0)
  lower_apart v w ne k l (inr a) (inr b) same = ne (sym a.0 ∙ same.1 ∙ b.0)
  lower_apart v w ne k l (inl a) (inr b) same =
      let x = a.1 in
      let y = b.1 in
      let up : slice_index H.level k.to ≡ slice_index H.level w = ap (slice_index H.level) (same.1 ∙ b.0) in
      let down : slice_index H.level l.from ≡ slice_index H.level v = ap (slice_index H.level) (sym same.0 ∙ a.0) in
      omega arith
  lower_apart v w ne k l (inr a) (inl b) same =
      let x = a.1 in
      let y = b.1 in
      let up : slice_index H.level k.from ≡ slice_index H.level w = ap (slice_index H.level) (same.0 ∙ b.0) in
      let down : slice_index H.level l.to ≡ slice_index H.level v = ap (slice_index H.level) (sym same.1 ∙ a.0) in
      omega arith

  -- no two legs of v have the same ends
  once_at : (v : ℕ) → AllPairs IsOtherPair (legs_at H v)
  once_at v =
      pairs_append IsOtherPair (map (leg_up v) (row H.up v)) (map (leg_down v) (row H.down v))
      (pairs_map (leg_up v) IsOtherPair (row H.up v) (λ i j d less within same. let rise = (is.up.1 v).0 i j d less within in
      let e = same.1 in omega arith))
      (pairs_map (leg_down v) IsOtherPair (row H.down v) (λ i j d less within same. let rise = (is.down.1 v).0 i j d less within in
      let e = same.0 in omega arith))
      (λ k l hk hl same.
      let a = contains_map_of (leg_up v) (row H.up v) k hk in
      let b = contains_map_of (leg_down v) (row H.down v) l hl in
      let e : v ≡ b.0.node = ap (λ (q : SavedLeg). q.from) a.2 ∙ same.0 ∙ ap (λ (q : SavedLeg). q.from) (sym b.2) in
      let rise = down_higher v b.0 b.1 in
      let level = ap (slice_index H.level) e in
      omega arith)

  module _ (order : List ℕ) (by : IsByLevel H order) where
    -- each node is in the order
    stands : (v : ℕ) → v < nodes_of H → Contains order v
    stands v lt =
        let at = level_of (nodes_of H) order H.level by.nodes by.levels v lt in
        let inside : at.0 < length order = (let a = at.1 in let b = by.nodes.count in omega arith) in
        subst (Contains order) at.2 (Contains-get_or order at.0 0 inside)

    -- no two written legs have the same ends
    once : AllPairs IsOtherPair (flat_map (legs_at H) order)
    once = pairs_flat_map (legs_at H) IsOtherPair order (λ v c. once_at v)
        (λ i j d less within k l hk hl.
        let first = get_or_default order i d 0 (omega arith) in
        let second = get_or_default order j d 0 within in
        lower_apart (get_or order i d) (get_or order j d) (λ e. by.nodes.distinct i j less within (sym first ∙ e ∙ second)) k l
        (at_lower (get_or order i d) k hk) (at_lower (get_or order j d) l hl))

    -- each leg is written
    leg_written : (u w : ℕ) (c : Cost) (m : Option ℕ) → IsLeg H u w c m →
        Contains (flat_map (legs_at H) order) (record { from = u; to = w; cost = c; middle = m })
    leg_written u w c m (l, cost, middle, inl (has, node)) =
        let v = stands u (in_row_below H.up (nodes_of H) u l is.up.0 has) in
        let piece = Contains-append_left (map (leg_up u) (row H.up u)) (map (leg_down u) (row H.down u)) (leg_up u l)
        (contains_map (leg_up u) (row H.up u) l has) in
        let same : leg_up u l ≡ record { from = u; to = w; cost = c; middle = m } =
        (λ i. record { from = u; to = node i; cost = cost i; middle = middle i }) in
        subst (Contains (flat_map (legs_at H) order)) same (contains_flat_map (legs_at H) order u (leg_up u l) v piece)
    leg_written u w c m (l, cost, middle, inr (has, node)) =
        let v = stands w (in_row_below H.down (nodes_of H) w l is.down.0 has) in
        let piece = Contains-append_right (map (leg_up w) (row H.up w)) (map (leg_down w) (row H.down w)) (leg_down w l)
        (contains_map (leg_down w) (row H.down w) l has) in
        let same : leg_down w l ≡ record { from = u; to = w; cost = c; middle = m } =
        (λ i. record { from = node i; to = w; cost = cost i; middle = middle i }) in
        subst (Contains (flat_map (legs_at H) order)) same (contains_flat_map (legs_at H) order w (leg_down w l) v piece)

    -- each written leg is a leg
    written_leg : (l : SavedLeg) → Contains (flat_map (legs_at H) order) l → IsLeg H l.from l.to l.cost l.middle
    written_leg l h =
        let Is : SavedLeg → Type 0 = λ q. IsLeg H q.from q.to q.cost q.middle in
        let v = contains_flat_map_of (legs_at H) order l h in
        elim (Contains-append_cases (map (leg_up v.0) (row H.up v.0)) (map (leg_down v.0) (row H.down v.0)) l v.2) [
          | inl up ↦ let r = contains_map_of (leg_up v.0) (row H.up v.0) l up in subst Is r.2 (r.0, refl, refl, inl (r.1, refl))
          | inr down ↦ let r = contains_map_of (leg_down v.0) (row H.down v.0) l down in subst Is r.2 (r.0, refl, refl, inr (r.1, refl))
        ]

-- the order and the written legs name the hierarchy
pub written_names : (H : LevelsAndLegs) (order : List ℕ) → IsLevelled H → IsByLevel H order → NamesHierarchy (written H order) H
written_names H order is by = record {
  levelled = is;
  levels = by.levels;
  legs = λ u w c m. (leg_written H is order by u w c m, written_leg H is order by (record { from = u; to = w; cost = c; middle = m }));
  once = once H is order by;
}

-- if the hierarchy is right for a graph, they name one that is right for it
pub written_kept : (g : Network) (H : LevelsAndLegs) (order : List ℕ) → IsKept g H → IsByLevel H order → NamesKept g (written H order) H
written_kept g H order kept by = (written_names H order kept.levelled by, kept)
