-- Labels are the weights known of each node. When an arc lowers a label, all that was known still holds, and the
-- total falls.
use Rattle.std.proofs.Common.{◌≡◌, ℕ, ◌+◌, ◌*◌, ◌<◌, ◌≤◌, cond, List, [], ◌∷◌, ◌++◌, length, Contains, Option, Some, None, refl}
use Rattle.std.proofs.Common.{sym, ◌∙◌, ap, subst, arith, get_or-set_same, get_or-set_other, set, length-set, inl, inr}
use Rattle.std.proofs.lemmas.Bool.{cases_eq, cases_lt}
use Rattle.std.proofs.lemmas.Option.{same_Some, none-some}
use Rattle.std.proofs.Math.Nat.{mul-le-mul_left}
use Rattle.std.proofs.lemmas.List.{length-replicate, get_or-replicate, get_or_past}
use Rattle.std.specs.Prelude.{is_some, unwrap_or, replicate}
use Rattle.std.specs.List.{count_by}
use Rattle.std.proofs.lemmas.List.Sums.{sum_by-set, count_by-le-length}
use Rattle.ch_graph.specs.declared.limits.TheConstants.{MOST_WEIGHT, MOST_SUM}
use Rattle.ch_graph.specs.declared.arc.InArc.{InArc}
use Rattle.ch_graph.specs.Graph.{Network, IsArcWithin}
use Rattle.ch_graph.specs.Walk.{IsWalk, weight_of}
use Rattle.ch_graph.specs.Relaxing.{IsPartial, IsLowered, weight_at, total}
use Rattle.ch_graph.proofs.WalkLemmas.{walk_push, weight_push}

-- the first label of a node raises the number of labels by one
count-first : (best : List (Option ℕ)) (v x : ℕ) → weight_at best v ≡ None → v < length best →
    count_by is_some (set best v (Some x)) ≡ count_by is_some best + 1
count-first best v x e within =
    let count = sum_by-set (λ (o : Option ℕ). cond (is_some o) 1 0) best v (Some x) None within in
    omega (arith, rw e at count)

-- a label that replaces another keeps the number of labels
count-next : (best : List (Option ℕ)) (v x now : ℕ) → weight_at best v ≡ Some now → v < length best →
    count_by is_some (set best v (Some x)) ≡ count_by is_some best
count-next best v x now e within =
    let count = sum_by-set (λ (o : Option ℕ). cond (is_some o) 1 0) best v (Some x) None within in
    omega (arith, rw e at count)

-- a label is below MOST_WEIGHT, because at most all nodes have one
pub known_small : (g : Network) (s : ℕ) (best : List (Option ℕ)) (v d : ℕ) → IsPartial g s best → weight_at best v ≡ Some d →
    d < MOST_WEIGHT
known_small g s best v d p e =
    let bound = p.small v d e in
    let most = count_by-le-length is_some best in
    let nodes = p.nodes in
    elim (cases_lt d MOST_WEIGHT) [
      | inl small ↦ small
      | inr great ↦ let products : g.nodes * MOST_WEIGHT ≤ g.nodes * d = mul-le-mul_left g.nodes great in absurd (omega arith)
    ]

-- an arc within the limits weighs at most MOST_WEIGHT, because there is at least one node
pub weight_small : (nodes : ℕ) (a : InArc) → IsArcWithin nodes a → a.weight ≤ MOST_WEIGHT
weight_small nodes a h =
    let from = h.ends.0 in
    let weight = h.weight in
    let some : 1 ≤ nodes = omega arith in
    let products : a.weight * 1 ≤ a.weight * nodes = mul-le-mul_left a.weight some in
    omega arith

-- the label of the arc's start and the weight of the arc add up to less than MOST_SUM
pub sum_fits : (g : Network) (s : ℕ) (best : List (Option ℕ)) (a : InArc) (before : ℕ) → IsPartial g s best → IsArcWithin g.nodes a →
    weight_at best a.from ≡ Some before → before + a.weight < MOST_SUM
sum_fits g s best a before p fits e =
    let label = known_small g s best a.from before p e in
    let weight = weight_small g.nodes a fits in
    omega arith

-- at first only the start has a label, and its weight is 0
module _ (g : Network) (s : ℕ) (start : s < g.nodes) where
  -- the labels where no node is known
  blank : List (Option ℕ)
  blank = replicate g.nodes None

  size : length blank ≡ g.nodes
  unfolding blank
  size = length-replicate g.nodes None

  first : List (Option ℕ)
  first = set blank s (Some 0)

  none : (v : ℕ) → weight_at blank v ≡ None
  unfolding blank
  none v = elim (cases_lt v g.nodes) [
    | inl within ↦ get_or-replicate g.nodes v None None within
    | inr past ↦ get_or_past blank v None (omega (arith, size))
  ]

  -- no other node has a label
  only : (v d : ℕ) → weight_at first v ≡ Some d → (s ≡ v) × (0 ≡ d)
  unfolding first
  only v d e = elim (cases_eq v s) [
    | inl same ↦ (
      sym same,
      same_Some _ _
          (sym (get_or-set_same blank s (Some 0) None (omega (arith, size))) ∙ ap (weight_at first) (sym same) ∙ e),
    )
    | inr away ↦ absurd (none-some _ (sym (get_or-set_other blank s v (Some 0) None away ∙ none v) ∙ e))
  ]

  pub partial_first : IsPartial g s (set (replicate g.nodes None) s (Some 0))
  unfolding blank first
  partial_first = record {
    nodes = length-set blank s (Some 0) ∙ size;
    start = get_or-set_same blank s (Some 0) None (omega (arith, size));
    walks = λ v d e. ([], (only v d e).0, (only v d e).1);
    small = λ v d e. let one = count-first blank s 0 (none s) (omega (arith, size)) in let zero = (only v d e).1 in
        rw (sym zero) (omega arith);
  }

-- an arc of the graph that lowers the label of its end
module _ (g : Network) (s : ℕ) (best : List (Option ℕ)) (new : List (Option ℕ)) (a : InArc) (p : IsPartial g s best)
    (has : Contains g.arcs a) (fits : IsArcWithin g.nodes a) (h : IsLowered best new a) where
  -- the new label
  sum : ℕ
  sum = h.before + a.weight

  -- the end is a node
  within : a.to < length best
  within = let to = fits.ends.1 in let nodes = p.nodes in omega arith

  -- the labels afterwards
  later : List (Option ℕ)
  later = set best a.to (Some sum)

  -- the total falls, whether or not the end had a label
  total_by : (o : Option ℕ) → weight_at best a.to ≡ o → total later < total best
  unfolding sum later
  total_by None e =
      let sums = sum_by-set (λ (o : Option ℕ). unwrap_or o MOST_SUM) best a.to (Some (h.before + a.weight)) None within in
      let fit = sum_fits g s best a h.before p fits h.from in
      omega (arith, rw e at sums)
  total_by (Some now) e =
      let sums = sum_by-set (λ (o : Option ℕ). unwrap_or o MOST_SUM) best a.to (Some (h.before + a.weight)) None within in
      let falls = h.lighter now e in
      omega (arith, rw e at sums)

  -- the total falls
  pub total_falls : total new < total best
  unfolding sum later
  total_falls = rw h.later (total_by (weight_at best a.to) refl)

  -- the arc's end has the new label
  here : weight_at later a.to ≡ Some sum
  unfolding later
  here = get_or-set_same best a.to (Some sum) None within

  -- every other node keeps its label
  other : (v : ℕ) → (v ≡ a.to → ⊥) → weight_at later v ≡ weight_at best v
  unfolding later
  other v away = get_or-set_other best a.to v (Some sum) None away

  -- a property of all old labels holds of all new labels if it holds of the label that changed
  each : (P : ℕ → ℕ → Type 0) → P a.to sum → ((v d : ℕ) → weight_at best v ≡ Some d → P v d) → (v d : ℕ) →
      weight_at later v ≡ Some d → P v d
  each P first old v d e = elim (cases_eq v a.to) [
    | inl same ↦
        let label : sum ≡ d = same_Some _ _ (sym here ∙ ap (weight_at later) (sym same) ∙ e) in
        subst (λ q. P q d) (sym same) (subst (P a.to) label first)
    | inr away ↦ old v d (sym (other v away) ∙ e)
  ]

  -- each label is the weight of a walk
  walks : (v d : ℕ) → weight_at later v ≡ Some d → (arcs : List InArc) × IsWalk g s v arcs × (weight_of arcs ≡ d)
  unfolding sum
  walks =
      let w = p.walks a.from h.before h.from in
      each (λ v d. (arcs : List InArc) × IsWalk g s v arcs × (weight_of arcs ≡ d))
      (w.0 ++ a ∷ [], walk_push g s a w.0 w.1 has, weight_push a w.0 ∙ ap (λ n. n + a.weight) w.2)
      p.walks

  -- at least as many nodes have a label
  more : (o : Option ℕ) → weight_at best a.to ≡ o → count_by is_some best ≤ count_by is_some later
  unfolding later
  more None e = omega (arith, count-first best a.to sum e within)
  more (Some now) e = omega (arith, count-next best a.to sum now e within)

  -- the new label is small, whether or not the arc's end had one
  small_here : (o : Option ℕ) → weight_at best a.to ≡ o → g.nodes * sum + MOST_WEIGHT ≤ count_by is_some later * MOST_WEIGHT
  unfolding sum later
  small_here None e =
      let count = count-first best a.to (h.before + a.weight) e within in
      let bound = p.small a.from h.before h.from in
      let weight = fits.weight in
      omega arith
  small_here (Some now) e =
      let count = count-next best a.to (h.before + a.weight) now e within in
      let bound = p.small a.to now e in
      let falls = h.lighter now e in
      let products : g.nodes * (h.before + a.weight) ≤ g.nodes * now = mul-le-mul_left g.nodes (omega arith) in
      omega arith

  -- each label is small
  small : (v d : ℕ) → weight_at later v ≡ Some d → g.nodes * d + MOST_WEIGHT ≤ count_by is_some later * MOST_WEIGHT
  small =
      let count = more _ refl in
      each (λ v d. g.nodes * d + MOST_WEIGHT ≤ count_by is_some later * MOST_WEIGHT) (small_here _ refl)
      (λ v d e. let bound = p.small v d e in omega arith)

  -- the start keeps its label, because no weight is below 0
  start : weight_at later s ≡ Some 0
  start = elim (cases_eq s a.to) [
    | inl same ↦ let none = h.lighter 0 (ap (weight_at best) (sym same) ∙ p.start) in absurd (omega arith)
    | inr away ↦ other s away ∙ p.start
  ]

  -- the new labels are those of walks, and small, as the old ones were
  pub partial_lowered : IsPartial g s new
  unfolding sum later
  partial_lowered = rw h.later (record { nodes = length-set best a.to _ ∙ p.nodes; start = start; walks = walks; small = small })
