-- One more row of legs.
use Rattle.std.proofs.Common.{◌≡◌, ℕ, ◌+◌, ◌-◌, ◌<◌, List, [], ◌∷◌, ◌++◌, length, map, get_or, refl, sym, ◌∙◌, ap, arith, inl, inr}
use Rattle.std.proofs.Common.{length-append}
use Rattle.std.specs.Prelude.{◌⊎◌}
use Rattle.std.proofs.lemmas.Bool.{cases_lt}
use Rattle.std.proofs.lemmas.List.{get_or-append-add, get_or_append_left, get_or-map, get_or_push, length-map}
use Rattle.ch_hierarchy.specs.declared.leg.Leg.{Leg}
use Rattle.ch_hierarchy.specs.Rows.{row}
use Rattle.ch_hierarchy.specs.Hierarchy.{LevelsAndLegs, IsLevelled, nodes_of}
use Rattle.ch_hierarchy.specs.Ranked.{rank_of}
use Rattle.ch_hierarchy.specs.declared.side.Side.{Side}
use Rattle.ch_hierarchy.specs.declared.side.Side.TheVariants.{Up, Down}
use Rattle.ch_hierarchy.specs.Side.{rows_of, state_of}
use Rattle.ch_hierarchy.proofs.code.Ranked.{rank_one}
use Rattle.ch_hierarchy.proofs.theory.NoLeg.{no_leg}
use Rattle.ch_flows.specs.declared.plan.Link.{Link}
use Rattle.ch_flows.specs.Links.{link_at}
use Rattle.ch_flows.specs.Layouts.{HasSpot, IsLaid, IsSpot, leg_on, link_of, place_of, state_at}

-- equal numbers are of one direction and one rank
state_split : (s t : Side) (a b : ℕ) → state_of s a ≡ state_of t b → (s ≡ t) × (a ≡ b)
state_split Up Up a b e = (refl, omega (arith, e))
state_split Down Down a b e = (refl, omega (arith, e))
state_split Up Down a b e = absurd (omega (arith, e))
state_split Down Up a b e = absurd (omega (arith, e))

module _ (H : LevelsAndLegs) (levelled : IsLevelled H) (starts new_starts : List ℕ) (links new_links : List Link) (n : ℕ) (side : Side)
    (v : ℕ)
    (low : v < nodes_of H) (here : n ≡ state_at H side v) (es : new_starts ≡ starts ++ length links ∷ [])
    (el : new_links ≡ links ++ map (link_of side v) (row (rows_of H side) v)) (laid : IsLaid H starts links n) where
  abbrev legs : List Leg
  legs = row (rows_of H side) v

  -- a spot of an old row, or of the new one
  spot_cases : (s : Side) (u k : ℕ) → IsSpot H (n + 1) s u k → IsSpot H n s u k ⊎ ((s ≡ side) × (u ≡ v))
  spot_cases s u k spot = elim (cases_lt (state_at H s u) n) [
    | inl less ↦ inl (record { node = spot.node; state = less; leg = spot.leg })
    | inr past ↦ (
        let same : state_at H s u ≡ state_at H side v = omega (arith, past, spot.state, here) in
        let e = state_split s side (rank_of H u) (rank_of H v) same in
        inr (e.0, rank_one H levelled u v spot.node low e.1))
  ]

  start_old : (r : ℕ) → r < n → get_or new_starts r 0 ≡ get_or starts r 0
  start_old r less = ap (λ (l : List ℕ). get_or l r 0) es
      ∙ get_or_append_left starts (length links ∷ []) 0 r (omega (arith, less, laid.count))

  start_new : (r : ℕ) → r ≡ n → get_or new_starts r 0 ≡ length links
  start_new r is = ap (λ (l : List ℕ). get_or l r 0) es ∙ get_or_push starts (length links) 0 r (omega (arith, is, laid.count))

  more : length new_links ≡ length links + length legs
  more = ap length el ∙ length-append links (map (link_of side v) legs)
      ∙ ap (λ (k : ℕ). length links + k) (length-map legs (link_of side v))

  link_old : (i : ℕ) → i < length links → link_at new_links i ≡ link_at links i
  link_old i less = ap (λ (l : List Link). link_at l i) el ∙ get_or_append_left links (map (link_of side v) legs) _ i less

  link_new : (k : ℕ) → k < length legs → link_at new_links (length links + k) ≡ link_of side v (leg_on legs k)
  link_new k less = ap (λ (l : List Link). link_at l (length links + k)) el ∙ get_or-append-add links (map (link_of side v) legs) k _
      ∙ get_or-map (link_of side v) legs k no_leg _ less

  place_old : (s : Side) (u k : ℕ) → IsSpot H n s u k → place_of H new_starts s u k ≡ place_of H starts s u k
  place_old s u k spot = ap (λ (q : ℕ). q + k) (start_old (state_at H s u) spot.state)

  within_new : (s : Side) (u k : ℕ) → IsSpot H (n + 1) s u k → place_of H new_starts s u k < length new_links
  within_new s u k spot = elim (spot_cases s u k spot) [
    | inl old ↦ omega (arith, place_old s u k old, laid.within s u k old, more)
    | inr new ↦ (
        let size : length (row (rows_of H s) u) ≡ length legs =
        ap (λ (t : Side). length (row (rows_of H t) u)) new.0 ∙ ap (λ (m : ℕ). length (row (rows_of H side) m)) new.1 in
        let at : state_at H s u ≡ n = ap (λ (t : Side). state_at H t u) new.0 ∙ ap (λ (m : ℕ). state_at H side m) new.1 ∙ sym here in
        omega (arith, start_new (state_at H s u) at, spot.leg, size, more))
  ]

  each_new : (s : Side) (u k : ℕ) → IsSpot H (n + 1) s u k →
      link_at new_links (place_of H new_starts s u k) ≡ link_of s u (leg_on (row (rows_of H s) u) k)
  each_new s u k spot = elim (spot_cases s u k spot) [
    | inl old ↦ ap (link_at new_links) (place_old s u k old) ∙ link_old (place_of H starts s u k) (laid.within s u k old)
        ∙ laid.each s u k old
    | inr new ↦ (
        let size : length (row (rows_of H s) u) ≡ length legs =
        ap (λ (t : Side). length (row (rows_of H t) u)) new.0 ∙ ap (λ (m : ℕ). length (row (rows_of H side) m)) new.1 in
        let at : state_at H s u ≡ n = ap (λ (t : Side). state_at H t u) new.0 ∙ ap (λ (m : ℕ). state_at H side m) new.1 ∙ sym here in
        let place : place_of H new_starts s u k ≡ length links + k = ap (λ (q : ℕ). q + k) (start_new (state_at H s u) at) in
        let less : k < length legs = omega (arith, spot.leg, size) in
        ap (link_at new_links) place ∙ link_new k less
        ∙ ap (λ (m : ℕ). link_of side m (leg_on (row (rows_of H side) m) k)) (sym new.1)
        ∙ ap (λ (t : Side). link_of t u (leg_on (row (rows_of H t) u) k)) (sym new.0))
  ]

  found_new : (i : ℕ) → i < length new_links → HasSpot H new_starts (n + 1) i
  found_new i less = elim (cases_lt i (length links)) [
    | inl old ↦ (
        let f = laid.found i old in
        record {
          side = f.side;
          node = f.node;
          place = f.place;
          spot = record { node = f.spot.node; state = omega (arith, f.spot.state); leg = f.spot.leg };
          is = f.is ∙ sym (place_old f.side f.node f.place f.spot);
        })
    | inr past ↦ record {
      side = side;
      node = v;
      place = i - length links;
      spot = record { node = low; state = omega (arith, here); leg = omega (arith, less, more, past) };
      is = let e = start_new (state_at H side v) (sym here) in omega (arith, e, past);
    }
  ]

  order_new : (s : Side) (u k r : ℕ) → IsSpot H (n + 1) s u k → state_at H s u < r → r < n + 1 →
      place_of H new_starts s u k < get_or new_starts r 0
  order_new s u k r spot after less =
      let old : IsSpot H n s u k = record { node = spot.node; state = omega (arith, after, less); leg = spot.leg } in
      elim (cases_lt r n) [
        | inl before ↦ omega (arith, place_old s u k old, start_old r before, laid.order s u k r old after before)
        | inr last ↦ omega (arith, place_old s u k old, start_new r (omega (arith, last, less)), laid.within s u k old)
      ]

  -- the legs of one more row
  pub laid_more : IsLaid H new_starts new_links (n + 1)
  laid_more = record {
    count = ap length es ∙ length-append starts (length links ∷ []) ∙ ap (λ (k : ℕ). k + 1) laid.count;
    within = within_new;
    each = each_new;
    found = found_new;
    order = order_new;
  }
