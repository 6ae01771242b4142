-- What one side of a search knows at its end.
use Rattle.std.proofs.Common.{◌≡◌, ℕ, ◌≤◌, List, [], ◌∷◌, Option, Some, None, refl, sym, ◌∙◌, ap, subst, arith, inl, inr}
use Rattle.std.proofs.lemmas.Bool.{cases_lt}
use Rattle.std.proofs.lemmas.Option.{same_Some}
use Rattle.ch_graph.specs.declared.limits.TheConstants.{MOST_WEIGHT}
use Rattle.ch_graph.specs.declared.cost.Cost.{Cost}
use Rattle.ch_graph.specs.Cost.{IsAtMost, IsBelow, cost_sum, no_cost, cost_at}
use Rattle.ch_hierarchy.specs.declared.leg.Leg.{Leg}
use Rattle.ch_hierarchy.specs.Paths.{IsUpwardPath, path_cost, IsLeastUpwardPath}
use Rattle.ch_graph.proofs.CostOrder.{IsAtMost_refl, IsAtMost_trans, IsBelow_not, IsAtMost_antisymm}
use Rattle.ch_query.specs.Search.{IsSettled, IsUpwardCost, IsSearch, AvoidsIdle, IsEmpty}
use Rattle.ch_graph.proofs.CostSums.{cost_sum_assoc, no_cost-cost_sum, IsAtMost-cost_sum, IsAtMost-cost_sum_self}
use Rattle.ch_hierarchy.proofs.theory.LegPaths.{path_cost-cons}

-- the end of a least path is reached
pub least_reached : (rows : List (List Leg)) (s m : ℕ) (a : Cost) → IsLeastUpwardPath rows s m a → IsUpwardCost rows s m a
least_reached rows s m a l = record { path = l.path; weight = l.weight }

-- no path to the end costs less than a least path
pub reached_no_less : (rows : List (List Leg)) (s m : ℕ) (a b : Cost) → IsLeastUpwardPath rows s m a → IsUpwardCost rows s m b →
    IsAtMost a b
reached_no_less rows s m a b l r =
    subst (IsAtMost a) r.path.2 (l.least r.path.0 r.path.1 (subst (λ (q : Cost). q.weight ≤ MOST_WEIGHT) (sym r.path.2) r.weight))

-- a reached cost that is at most the least cost is the least cost
reached_least : (rows : List (List Leg)) (s m : ℕ) (a b : Cost) → IsLeastUpwardPath rows s m a → IsUpwardCost rows s m b → IsAtMost b a →
    b ≡ a
reached_least rows s m a b l r le = IsAtMost_antisymm b a le (reached_no_less rows s m a b l r)

module _ {most : ℕ} (rows : List (List Leg)) (s : ℕ) (Idle : ℕ → Cost → Type 0) (best queue : List (Option Cost))
    (p : IsSearch most rows s Idle best queue)
    (m : ℕ) (c : Cost) (light : c.weight ≤ most) (past : (x : ℕ) (d : Cost) → cost_at queue x ≡ Some d → IsBelow c d)
    (avoids : AvoidsIdle rows Idle m c) where
  -- a node with a known cost of at most c is settled
  pub settled : (x : ℕ) (e : Cost) → cost_at best x ≡ Some e → IsAtMost e c → IsSettled best queue x e
  settled x e k le = (k, at (cost_at queue x) refl)
    where
      at : (o : Option Cost) → cost_at queue x ≡ o → cost_at queue x ≡ None
      at None q = q
      at (Some d) q = absurd (IsBelow_not c d (past x d q) (subst (λ r. IsAtMost r c) (same_Some _ _ (sym k ∙ p.queued x d q)) le))

  -- along an upward path of cost at most c, each node is settled at a cost of at most that of the path
  pub along : (x : ℕ) (e : Cost) (legs : List Leg) → cost_at best x ≡ Some e → IsUpwardPath rows x m legs →
      IsAtMost (cost_sum e (path_cost legs)) c →
      (a : Cost) × IsSettled best queue m a × IsAtMost a (cost_sum e (path_cost legs))
  along x e [] k path le =
      let low : IsAtMost e c = IsAtMost_trans e (cost_sum e (path_cost [])) c (IsAtMost-cost_sum_self e _) le in
      (e, subst (λ q. IsSettled best queue q e) path (settled x e k low), IsAtMost-cost_sum_self e _)
  along x e (l ∷ legs) k path le =
      let here = settled x e k (IsAtMost_trans e (cost_sum e (path_cost (l ∷ legs))) c (IsAtMost-cost_sum_self e _) le) in
      let split : cost_sum e (path_cost (l ∷ legs)) ≡ cost_sum (cost_sum e l.cost) (path_cost legs) =
      ap (cost_sum e) (path_cost-cons l legs) ∙ sym (cost_sum_assoc e l.cost (path_cost legs)) in
      let le' : IsAtMost (cost_sum (cost_sum e l.cost) (path_cost legs)) c = subst (λ q. IsAtMost q c) split le in
      elim (p.frontier x e here) [
        | inl idle ↦ absurd (avoids x e (l ∷ legs) idle path le)
        | inr relaxed ↦
            let r = relaxed l path.0 (let w = le'.0 in omega arith) in
            let sum = IsAtMost-cost_sum r.0 (cost_sum e l.cost) (path_cost legs) (path_cost legs) r.2 (IsAtMost_refl (path_cost legs)) in
            let end = along l.node r.0 legs r.1 path.1 (IsAtMost_trans (cost_sum r.0 (path_cost legs)) _ c sum le') in
            (end.0, end.1, subst (IsAtMost end.0) (sym split) (IsAtMost_trans end.0 (cost_sum r.0 (path_cost legs)) _ end.2 sum))
      ]

  -- at the end, m is settled at a cost of at most that of each upward path to m of cost at most c
  pub matched : (legs : List Leg) → IsUpwardPath rows s m legs → IsAtMost (path_cost legs) c →
      (a : Cost) × IsSettled best queue m a × IsAtMost a (path_cost legs)
  matched legs path le = subst (λ q. (a : Cost) × IsSettled best queue m a × IsAtMost a q) (no_cost-cost_sum (path_cost legs))
      (along s no_cost legs p.start path (subst (λ q. IsAtMost q c) (sym (no_cost-cost_sum (path_cost legs))) le))

  -- if c is the least cost to m, m is settled at c
  pub settled_least : IsLeastUpwardPath rows s m c → IsSettled best queue m c
  settled_least l =
      let r = matched l.path.0 l.path.1 (subst (λ q. IsAtMost q c) (sym l.path.2) (IsAtMost_refl c)) in
      subst (IsSettled best queue m) (reached_least rows s m c r.0 l (p.sound m r.0 r.1.0) (subst (IsAtMost r.0) l.path.2 r.2)) r.1

-- at the end of a search without idle nodes, each cost is the least
module _ {most : ℕ} (rows : List (List Leg)) (s : ℕ) (Idle : ℕ → Cost → Type 0) (best queue : List (Option Cost))
    (p : IsSearch most rows s Idle best queue)
    (never : (v : ℕ) (c : Cost) → Idle v c → ⊥) (done : IsEmpty queue) where
  -- for each upward path of weight at most `most`, its end is settled at no greater cost
  pub covered : (m : ℕ) (legs : List Leg) → IsUpwardPath rows s m legs → (path_cost legs).weight ≤ most →
      (a : Cost) × IsSettled best queue m a × IsAtMost a (path_cost legs)
  covered m legs path light = matched rows s Idle best queue p m (path_cost legs) light (λ x d e. absurd (done x d e))
      (λ x e k idle q le. never x e idle)
      legs path (IsAtMost_refl (path_cost legs))

  -- each known cost is the least
  pub known_least : (m : ℕ) (c : Cost) → cost_at best m ≡ Some c → IsLeastUpwardPath rows s m c
  known_least m c e = record {
    path = (p.sound m c e).path;
    weight = (p.sound m c e).weight;
    least = λ legs path _. elim (cases_lt most (path_cost legs).weight) [
      | inl heavy ↦ let light = p.light m c e in (omega arith, λ same. omega arith)
      | inr light ↦ let r = covered m legs path light in subst (λ q. IsAtMost q (path_cost legs)) (same_Some _ _ (sym r.1.0 ∙ e)) r.2
    ];
  }

  -- each least cost of weight at most `most` is known
  pub least_known : (m : ℕ) (c : Cost) → IsLeastUpwardPath rows s m c → c.weight ≤ most → cost_at best m ≡ Some c
  least_known m c h low =
      (settled_least rows s Idle best queue p m c low (λ x d e. absurd (done x d e)) (λ x e k idle q le. never x e idle) h).0
