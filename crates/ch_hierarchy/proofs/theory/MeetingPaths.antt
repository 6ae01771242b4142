-- A path of legs in a kept hierarchy is matched by one that goes up and then down. The proof avoids its lowest nodes
-- in turn.
use Rattle.std.proofs.Common.{◌≡◌, ℕ, zero, suc, ◌+◌, ◌<◌, List, [], ◌∷◌, ◌++◌, Contains, refl, sym, ◌∙◌, ap, subst, arith, inl, inr}
use Rattle.std.specs.Prelude.{◌⊎◌, slice_index}
use Rattle.std.proofs.lemmas.Bool.{cases_lt, cases_eq}
use Rattle.ch_graph.specs.declared.cost.Cost.{Cost}
use Rattle.ch_graph.specs.Cost.{IsAtMost, cost_sum, no_cost}
use Rattle.ch_graph.specs.Graph.{Network}
use Rattle.ch_graph.proofs.CostOrder.{IsAtMost_refl, IsAtMost_trans, IsAtMost-no_cost}
use Rattle.ch_graph.proofs.CostSums.{cost_sum_assoc, cost_sum_comm, IsAtMost-cost_sum}
use Rattle.ch_graph.proofs.WalkCosts.{IsAtMost_between, IsAtMost-cost_sum_more}
use Rattle.ch_hierarchy.specs.declared.leg.Leg.{Leg}
use Rattle.ch_hierarchy.specs.Rows.{row}
use Rattle.ch_hierarchy.specs.Hierarchy.{LevelsAndLegs, nodes_of}
use Rattle.ch_hierarchy.specs.Paths.{IsUpwardPath, path_cost}
use Rattle.ch_hierarchy.specs.Kept.{IsKept}
use Rattle.ch_hierarchy.specs.Turned.{turned_hierarchy}
use Rattle.ch_hierarchy.proofs.theory.LegPaths.{IsHighPath, HasHighPath, high_start, high_end, high_append, last_leg, meeting_high}
use Rattle.ch_hierarchy.proofs.theory.LegPaths.{Rises, Falls, rises_or_falls, path_cost-cons, path_cost-append, level_most}

-- an upward path from s and one from t meet, and cost at most c together
pub record HasMeetingPaths (H : LevelsAndLegs) (s t : ℕ) (c : Cost) : Type 0 where
  pub node : ℕ
  pub ups : List Leg
  pub downs : List Leg
  pub rise : IsUpwardPath H.up s node ups
  pub fall : IsUpwardPath H.down t node downs
  pub cheap : IsAtMost (cost_sum (path_cost ups) (path_cost downs)) c

-- a bound may be replaced by a greater one
pub meeting_paths_within : (H : LevelsAndLegs) (s t : ℕ) (c d : Cost) → IsAtMost c d → HasMeetingPaths H s t c → HasMeetingPaths H s t d
meeting_paths_within H s t c d le p = record {
  node = p.node;
  ups = p.ups;
  downs = p.downs;
  rise = p.rise;
  fall = p.fall;
  cheap = IsAtMost_trans _ _ _ p.cheap le;
}

-- the empty paths of one node meet
pub paths_of_none : (H : LevelsAndLegs) (s : ℕ) (c : Cost) → HasMeetingPaths H s s c
paths_of_none H s c = record { node = s; ups = []; downs = []; rise = refl; fall = refl; cheap = IsAtMost-no_cost c }

-- paths that meet also meet in the other direction
turned_paths : (H : LevelsAndLegs) (s t : ℕ) (c : Cost) → HasMeetingPaths H s t c → HasMeetingPaths (turned_hierarchy H) t s c
turned_paths H s t c p = record {
  node = p.node;
  ups = p.downs;
  downs = p.ups;
  rise = p.fall;
  fall = p.rise;
  cheap = subst (λ q. IsAtMost q c) (cost_sum_comm (path_cost p.ups) (path_cost p.downs)) p.cheap;
}

-- an up leg in front of paths that meet
pub up_first : (H : LevelsAndLegs) (s t : ℕ) (l : Leg) (c : Cost) → Contains (row H.up s) l → HasMeetingPaths H l.node t c →
    HasMeetingPaths H s t (cost_sum l.cost c)
up_first H s t l c has r = record {
  node = r.node;
  ups = l ∷ r.ups;
  downs = r.downs;
  rise = (has, r.rise);
  fall = r.fall;
  cheap = IsAtMost_between (ap (λ q. cost_sum q (path_cost r.downs)) (path_cost-cons l r.ups)
      ∙ cost_sum_assoc l.cost (path_cost r.ups) (path_cost r.downs)) refl
      (IsAtMost-cost_sum l.cost l.cost _ c (IsAtMost_refl l.cost) r.cheap);
}

-- a down leg after paths that meet
pub down_last : (H : LevelsAndLegs) (s t : ℕ) (l : Leg) (c : Cost) → Contains (row H.down t) l → HasMeetingPaths H s l.node c →
    HasMeetingPaths H s t (cost_sum c l.cost)
down_last H s t l c has r =
    subst (HasMeetingPaths H s t) (cost_sum_comm l.cost c)
    (turned_paths (turned_hierarchy H) t s _ (up_first (turned_hierarchy H) t s l c has (turned_paths H s l.node c r)))

-- the level of v is above k
abbrev pub IsAbove : LevelsAndLegs → ℕ → ℕ → Type 0
IsAbove H k v = k < slice_index H.level v

module _ (g : Network) (H : LevelsAndLegs) (kept : IsKept g H) where
  -- a leg down and a leg up lead back to the same node, or a path over higher nodes costs no more
  over_lower : (k s m t : ℕ) (c d : Cost) → Falls H s m c → Rises H m t d → IsAbove H k s → IsAbove H k t →
      (s ≡ t) ⊎ HasHighPath H (k + 1) s t (cost_sum c d)
  over_lower k s m t c d fall rise above_s above_t =
      let a = fall.0 in
      let b = rise.0 in
      let level_a = ap (slice_index H.level) fall.2 in
      let level_b = ap (slice_index H.level) rise.2 in
      let both : cost_sum a.cost b.cost ≡ cost_sum c d = ap (λ q. cost_sum q b.cost) fall.3 ∙ ap (cost_sum c) rise.3 in
      elim (cases_eq a.node b.node) [
        | inl same ↦ inl (sym fall.2 ∙ same ∙ rise.2)
        | inr apart ↦
            let cover = kept.covered m a b fall.1 rise.1 apart in
            let path = meeting_high g H kept (k + 1) a.node b.node cover.0 cover.1 cover.2 (omega arith) (omega arith) in
            let from_s = subst (λ q. IsHighPath H (k + 1) q b.node path.legs) fall.2 path.is_path in
            inr (record {
              legs = path.legs;
              is_path = subst (λ q. IsHighPath H (k + 1) s q path.legs) rise.2 from_s;
              cheap = IsAtMost_trans _ _ _ path.cheap (subst (IsAtMost cover.1) both cover.3);
            })
      ]

  -- such legs in front of a path over higher nodes can be avoided
  around_lower : (k s t : ℕ) (x y : Leg) (ys : List Leg) → (s ≡ y.node) ⊎ HasHighPath H (k + 1) s y.node (cost_sum x.cost y.cost) →
      HasHighPath H (k + 1) y.node t (path_cost ys) → HasHighPath H (k + 1) s t (path_cost (x ∷ y ∷ ys))
  around_lower k s t x y ys over rest =
      let whole : cost_sum (cost_sum x.cost y.cost) (path_cost ys) ≡ path_cost (x ∷ y ∷ ys) =
      cost_sum_assoc x.cost y.cost (path_cost ys) ∙ ap (cost_sum x.cost) (sym (path_cost-cons y ys)) ∙ sym (path_cost-cons x (y ∷ ys)) in
      elim over [
        | inl back ↦ record {
          legs = rest.legs;
          is_path = subst (λ q. IsHighPath H (k + 1) q t rest.legs) (sym back) rest.is_path;
          cheap = subst (IsAtMost (path_cost rest.legs)) whole (IsAtMost-cost_sum_more _ _ _ rest.cheap);
        }
        | inr path ↦ record {
          legs = path.legs ++ rest.legs;
          is_path = high_append H (k + 1) s y.node t path.legs rest.legs path.is_path rest.is_path;
          cheap = IsAtMost_between (path_cost-append path.legs rest.legs) (sym whole) (IsAtMost-cost_sum _ _ _ _ path.cheap rest.cheap);
        }
      ]

  -- for a path over nodes of level at least k, with ends above k, there is one above k that costs no more
  above_level : (k s t : ℕ) (legs : List Leg) → IsHighPath H k s t legs → IsAbove H k s → IsAbove H k t →
      HasHighPath H (k + 1) s t (path_cost legs)
  above_level k s t [] h above_s above_t = record { legs = []; is_path = (h.0, omega arith); cheap = IsAtMost_refl no_cost }
  above_level k s t (x ∷ []) h above_s above_t = record {
    legs = x ∷ [];
    is_path = (h.0, omega arith, (h.2.0, omega arith));
    cheap = IsAtMost_refl (path_cost (x ∷ []));
  }
  above_level k s t (x ∷ y ∷ ys) h above_s above_t = elim (cases_lt k (slice_index H.level x.node)) [
    | inl above_x ↦
        let rest = above_level k x.node t (y ∷ ys) h.2 above_x above_t in
        record {
          legs = x ∷ rest.legs;
          is_path = (h.0, omega arith, rest.is_path);
          cheap = IsAtMost_between (path_cost-cons x rest.legs) (path_cost-cons x (y ∷ ys))
              (IsAtMost-cost_sum _ _ _ _ (IsAtMost_refl x.cost) rest.cheap);
        }
    | inr lowest ↦
        let next = high_start H k y.node t ys h.2.2 in
        elim (rises_or_falls g H kept s x.node x.cost x.middle h.0) [
          | inl up ↦ absurd (omega (arith, up.4))
          | inr down ↦ elim (rises_or_falls g H kept x.node y.node y.cost y.middle h.2.0) [
            | inl up ↦
                let above_y : IsAbove H k y.node = omega (arith, h.2.1, up.4) in
                around_lower k s t x y ys (over_lower k s x.node y.node x.cost y.cost down up above_s above_y)
                (above_level k y.node t ys h.2.2 above_y above_t)
            | inr deeper ↦ absurd (omega (arith, deeper.4))
          ]
        ]
  ]

  -- each path over nodes of level at least k is matched by two paths that meet and cost no more
  abbrev pub AreMatched : ℕ → Type 0
  AreMatched k = (s t : ℕ) (legs : List Leg) → IsHighPath H k s t legs → HasMeetingPaths H s t (path_cost legs)

  -- the case where both ends are above level k
  between_higher : (k s t : ℕ) → AreMatched (k + 1) → (legs : List Leg) → IsHighPath H k s t legs → IsAbove H k s → IsAbove H k t →
      HasMeetingPaths H s t (path_cost legs)
  between_higher k s t higher legs h above_s above_t =
      let path = above_level k s t legs h above_s above_t in
      meeting_paths_within H s t _ _ path.cheap (higher s t path.legs path.is_path)

  -- the case where the start is above level k, and the last leg may lead down to level k
  from_higher : (k s t : ℕ) → AreMatched (k + 1) → (legs : List Leg) → IsHighPath H k s t legs → IsAbove H k s →
      HasMeetingPaths H s t (path_cost legs)
  from_higher k s t higher [] h above_s = between_higher k s t higher [] h above_s (subst (IsAbove H k) h.0 above_s)
  from_higher k s t higher (x ∷ xs) h above_s = elim (cases_lt k (slice_index H.level t)) [
    | inl above_t ↦ between_higher k s t higher (x ∷ xs) h above_s above_t
    | inr lowest ↦
        let end = last_leg H k s t x xs h in
        elim (rises_or_falls g H kept end.node t end.last.cost end.last.middle end.is_leg) [
          | inl up ↦ absurd (omega (arith, up.4, high_end H k s end.node end.front end.is_path))
          | inr down ↦
              let above : IsAbove H k end.node = omega (arith, down.4, high_end H k s t (x ∷ xs) h) in
              subst (HasMeetingPaths H s t) (ap (cost_sum (path_cost end.front)) down.3 ∙ sym end.cost)
              (down_last H s t down.0 _ down.1 (subst (λ q. HasMeetingPaths H s q (path_cost end.front)) (sym down.2)
              (between_higher k s end.node higher end.front end.is_path above_s above)))
        ]
  ]

  -- from paths above level k to paths of level at least k, where the first leg may lead up from level k
  one_lower : (k : ℕ) → AreMatched (k + 1) → AreMatched k
  one_lower k higher s t [] h = subst (λ q. HasMeetingPaths H s q no_cost) h.0 (paths_of_none H s no_cost)
  one_lower k higher s t (x ∷ xs) h = elim (cases_lt k (slice_index H.level s)) [
    | inl above_s ↦ from_higher k s t higher (x ∷ xs) h above_s
    | inr lowest ↦
        let next = high_start H k x.node t xs h.2 in
        elim (rises_or_falls g H kept s x.node x.cost x.middle h.0) [
          | inl up ↦
              subst (HasMeetingPaths H s t) (ap (λ q. cost_sum q (path_cost xs)) up.3 ∙ sym (path_cost-cons x xs))
              (up_first H s t up.0 _ up.1 (subst (λ q. HasMeetingPaths H q t (path_cost xs)) (sym up.2)
              (from_higher k x.node t higher xs h.2 (omega (arith, h.1, up.4)))))
          | inr down ↦ absurd (omega (arith, down.4))
        ]
  ]

  -- by recursion from the top level downwards
  matched_from : (d k : ℕ) → nodes_of H < d + k → AreMatched k
  matched_from zero k top = λ s t legs h. absurd (omega (arith, level_most H kept.levelled s, high_start H k s t legs h))
  matched_from (suc d) k top = one_lower k (matched_from d (k + 1) (omega arith))

  -- each path of legs is matched
  pub matched : AreMatched 0
  matched = matched_from (nodes_of H + 1) 0 (omega arith)
