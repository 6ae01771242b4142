-- Triangles of rows that grow, and of each topology that has their pairs.
use Rattle.std.proofs.Common.{◌≡◌, ℕ, zero, suc, ◌+◌, ◌-◌, ◌<◌, ◌≤◌}
use Rattle.std.proofs.Common.{List, [], ◌∷◌, length, get_or, take, Contains, refl, sym}
use Rattle.std.proofs.Common.{◌∙◌, ap, subst, arith, inl, inr}
use Rattle.std.specs.Prelude.{◌⊎◌, ◌≢◌, AllPairs, slice_index}
use Rattle.std.proofs.lemmas.Bool.{cases_eq}
use Rattle.std.proofs.lemmas.Bool.Decides.{Decides-eqb}
use Rattle.std.proofs.lemmas.Cmp.{nat_eq_equiv}
use Rattle.std.proofs.lemmas.List.Elements.{Contains-get_or}
use Rattle.std.proofs.lemmas.List.Sums.{sum_by_more, sum_by-take-le}
use Rattle.std.proofs.lemmas.Map.Made.{length-le_from_is_member, is_member-Decides, IsDistinct-from_AllPairs}
use Rattle.std.proofs.lemmas.Nat.{mul-le}
use Rattle.ch_graph.specs.declared.arc.InArc.{InArc}
use Rattle.ch_graph.specs.Graph.{Network, IsWithinLimits}
use Rattle.ch_graph.proofs.Lists.{contains_none, contains_cons}
use Rattle.ch_custom.specs.Customizing.{IsTopology}
use Rattle.ch_custom.specs.Pairs.{nodes_row, IsMerged, AreRowsFor, AreHandedOn, IsRising}
use Rattle.ch_custom.specs.Triangles.{pairs_among, triangles_over, AreNeeded, AllHaveMore}
use Rattle.ch_custom.proofs.theory.Growing.{other_row, level_at, leads_up, order_of, rising_of}
use Rattle.ch_custom.proofs.theory.Growing.{parent_place, parent_within, row_stays}

-- a larger row has no fewer pairs
pairs_rise : (m k : ℕ) → m ≤ k → pairs_among m ≤ pairs_among k
pairs_rise m k le = omega (arith, mul-le m (m - 1) k (k - 1) le (omega arith))

-- numbers in order that are all in another list are no more than those of it
pub no_more : (xs ys : List ℕ) → AllPairs ◌<◌ xs → ((y : ℕ) → Contains xs y → Contains ys y) → length xs ≤ length ys
no_more xs ys ordered within =
    length-le_from_is_member nat_eq_equiv xs ys
    (IsDistinct-from_AllPairs Decides-eqb xs (λ i j d lt below e. let less = ordered i j d lt below in omega arith))
    (λ q is. (is_member-Decides Decides-eqb ys q).1 (within q ((is_member-Decides Decides-eqb xs q).0 is)))

module _ (g : Network) (order levels : List ℕ) (arcs : List InArc) (old new : List (List ℕ)) (a : AreRowsFor g order levels arcs old)
    (p : ℕ) (others : List ℕ) (without : ℕ) (m : IsMerged p others without old new) (low : p < g.nodes)
    (needed : AreNeeded g order old)
    (added : (other : List (List ℕ)) → IsTopology g order other → (i j : ℕ) → i < g.nodes → j < g.nodes → slice_index order i ≡ p →
    Contains others (slice_index order j) → slice_index order j ≢ without → Contains (nodes_row other p) (slice_index order j)) where
  -- rows stay needed if what is put into a row is needed
  needed_merged : AreNeeded g order new
  needed_merged other top i j first last c = elim (cases_eq (slice_index order i) p) [
    | inl same ↦ elim (m.union.each (slice_index order j) (subst (λ z. Contains (nodes_row new z) (slice_index order j)) same c)) [
      | inl was ↦ needed other top i j first last (subst (λ z. Contains (nodes_row old z) (slice_index order j)) (sym same) was)
      | inr fresh ↦ subst (λ z. Contains (nodes_row other z) (slice_index order j)) (sym same)
          (added other top i j first last same fresh.0 fresh.1)
    ]
    | inr ne ↦
        let size = a.size in
        needed other top i j first last (subst (λ (z : List ℕ). Contains z (slice_index order j))
        (other_row p others without old new m (omega arith) (slice_index order i) ne) c)
  ]

-- the ends of an arc are a pair of each topology
pub needed_arc : (g : Network) (order levels : List ℕ) (arcs : List InArc) (old new : List (List ℕ)) (arc : InArc) (lo hi : ℕ) →
    AreRowsFor g order levels arcs old → lo < g.nodes → Contains g.arcs arc → IsRising levels lo hi →
    ((arc.from ≡ lo) × (arc.to ≡ hi)) ⊎ ((arc.from ≡ hi) × (arc.to ≡ lo)) → IsMerged lo (hi ∷ []) lo old new →
    AreNeeded g order old → AreNeeded g order new
needed_arc g order levels arcs old new arc lo hi a low its rising ends m needed =
    needed_merged g order levels arcs old new a lo (hi ∷ []) lo m low needed (λ other top i j first last same c ne.
    let is : hi ≡ slice_index order j = elim (contains_cons hi (slice_index order j) [] c) [
      | inl e ↦ e
      | inr rest ↦ absurd (contains_none (slice_index order j) rest)
    ] in
    let less : slice_index levels lo < slice_index levels hi = elim rising [ inl e ↦ absurd (ne (sym is ∙ sym e)) | inr lt ↦ lt ] in
    let one : slice_index levels lo ≡ i + 1 = ap (slice_index levels) (sym same) ∙ level_at g order levels arcs old a i first in
    let two : slice_index levels hi ≡ j + 1 = ap (slice_index levels) is ∙ level_at g order levels arcs old a j last in
    subst (λ z. Contains (nodes_row other z) (slice_index order j)) same (top.arcs arc i j its (omega arith) last (elim ends [
      | inl e ↦ inl (same ∙ sym e.0, sym is ∙ sym e.1)
      | inr e ↦ inr (same ∙ sym e.1, sym is ∙ sym e.0)
    ])))

-- the next arc of a graph, whose lower end is `lo`
pub needed_next : (g : Network) (order levels : List ℕ) (arcs done : List InArc) (k : ℕ) (d : InArc) (old new : List (List ℕ)) (lo hi : ℕ) →
    IsWithinLimits g → arcs ≡ g.arcs → k < length arcs → AreRowsFor g order levels done old →
    IsRising levels lo hi → (((get_or arcs k d).from ≡ lo) × ((get_or arcs k d).to ≡ hi))
    ⊎ (((get_or arcs k d).from ≡ hi) × ((get_or arcs k d).to ≡ lo)) → IsMerged lo (hi ∷ []) lo old new →
    AreNeeded g order old → AreNeeded g order new
needed_next g order levels arcs done k d old new lo hi limits same lt a rising ends m needed =
    let inside : k < length g.arcs = subst (λ z. k < length z) same lt in
    let is = limits.each k d inside in
    let e = subst (λ z. (((get_or z k d).from ≡ lo) × ((get_or z k d).to ≡ hi))
    ⊎ (((get_or z k d).from ≡ hi) × ((get_or z k d).to ≡ lo))) same ends in
    let low : lo < g.nodes = elim e [
      | inl f ↦ subst (λ z. z < g.nodes) f.0 is.ends.0
      | inr f ↦ subst (λ z. z < g.nodes) f.1 is.ends.1
    ] in
    needed_arc g order levels done old new (get_or g.arcs k d) lo hi a low (Contains-get_or g.arcs k d inside) rising e m needed

-- the next arc of a graph, which leads down or is a loop
pub needed_next_down : (g : Network) (order levels : List ℕ) (arcs done : List InArc) (k : ℕ) (d : InArc) (old new : List (List ℕ)) →
    IsWithinLimits g → arcs ≡ g.arcs → k < length arcs → AreRowsFor g order levels done old →
    slice_index levels (get_or arcs k d).to ≤ slice_index levels (get_or arcs k d).from →
    IsMerged (get_or arcs k d).to ((get_or arcs k d).from ∷ []) (get_or arcs k d).to old new →
    AreNeeded g order old → AreNeeded g order new
needed_next_down g order levels arcs done k d old new limits same lt a le m needed =
    let inside : k < length g.arcs = subst (λ z. k < length z) same lt in
    let is = limits.each k d inside in
    let e : get_or arcs k d ≡ get_or g.arcs k d = ap (λ (z : List InArc). get_or z k d) same in
    let to : (get_or arcs k d).to < g.nodes = subst (λ (z : InArc). z.to < g.nodes) (sym e) is.ends.1 in
    let from : (get_or arcs k d).from < g.nodes = subst (λ (z : InArc). z.from < g.nodes) (sym e) is.ends.0 in
    needed_next g order levels arcs done k d old new (get_or arcs k d).to (get_or arcs k d).from limits same lt a
    (rising_of g order levels done old a _ _ to from le) (inr (refl, refl)) m needed

module _ (g : Network) (order levels : List ℕ) (k : ℕ) (old new : List (List ℕ)) (parent : ℕ) (h : AreHandedOn g order levels k old)
    (lt : k < g.nodes) (has : Contains (nodes_row old (slice_index order k)) parent)
    (least : (y : ℕ) → Contains (nodes_row old (slice_index order k)) y → slice_index levels parent ≤ slice_index levels y)
    (m : IsMerged parent (nodes_row old (slice_index order k)) parent old new) where
  -- each two pairs of a place make a third one in each topology
  pub needed_more : AreNeeded g order old → AreNeeded g order new
  needed_more needed = needed_merged g order levels g.arcs old new h.rows_for parent _ parent m
      (parent_within g order levels k old new parent h.rows_for lt has m) needed (λ other top i j first last same c ne.
      let a = h.rows_for in
      let its = parent_place g order levels k old new parent a lt has m in
      let one : slice_index levels parent ≡ i + 1 = ap (slice_index levels) (sym same) ∙ level_at g order levels g.arcs old a i first in
      let up : slice_index levels parent ≡ its.0 + 1 = ap (slice_index levels) (sym its.3)
      ∙ level_at g order levels g.arcs old a its.0 its.2 in
      let two = level_at g order levels g.arcs old a j last in
      let le = least (slice_index order j) c in
      let past = its.1 in
      elim (cases_eq i j) [
        | inl e ↦ absurd (ne (ap (slice_index order) (sym e) ∙ same))
        | inr apart ↦ subst (λ z. Contains (nodes_row other z) (slice_index order j)) same
            (top.closed k i j (omega arith) (omega arith) last
            (needed other top k i lt first (subst (Contains (nodes_row old (slice_index order k))) (sym same) has))
            (needed other top k j lt last c))
      ])

  -- the triangles that are counted stay
  pub count_stays : triangles_over new (take (k + 1) order) ≡ triangles_over old (take (k + 1) order)
  count_stays = to (k + 1) (omega arith)
    where
      to : (c : ℕ) → c ≤ k + 1 → triangles_over new (take c order) ≡ triangles_over old (take c order)
      to zero le = refl
      to (suc c) le =
          let count = (order_of g order levels g.arcs old h.rows_for).count in
          let e : c + 1 ≡ suc c = omega arith in
          let inside : c < length order = omega arith in
          subst (λ z. triangles_over new (take z order) ≡ triangles_over old (take z order)) e
          (sum_by_more (λ v. pairs_among (length (nodes_row new v))) order c 0 inside
          ∙ (λ i. to c (omega arith) i
          + pairs_among (length (row_stays g order levels k old new parent h.rows_for lt has m c (omega arith) i)))
          ∙ sym (sum_by_more (λ v. pairs_among (length (nodes_row old v))) order c 0 inside))

module _ (g : Network) (order levels : List ℕ) (k : ℕ) (rows : List (List ℕ)) (h : AreHandedOn g order levels k rows) where
  -- the triangles of one more place
  pub counted_more : (c : ℕ) → c < length order → triangles_over rows (take (c + 1) order) ≡ triangles_over rows (take c order)
      + pairs_among (length (nodes_row rows (slice_index order c)))
  counted_more c lt = sum_by_more (λ v. pairs_among (length (nodes_row rows v))) order c 0 lt

  module _ (needed : AreNeeded g order rows) (other : List (List ℕ)) (top : IsTopology g order other) where
    -- a row of another topology has no fewer nodes
    row_no_more : (i : ℕ) → i < g.nodes → length (nodes_row rows (slice_index order i)) ≤ length (nodes_row other (slice_index order i))
    row_no_more i lt = no_more _ _ (h.rows_for.sound.ordered (slice_index order i)) (λ y c.
        let up = leads_up g order levels g.arcs rows h.rows_for i y lt c in
        subst (Contains (nodes_row other (slice_index order i))) up.3
        (needed other top i up.0 lt up.2 (subst (Contains (nodes_row rows (slice_index order i))) (sym up.3) c)))

    -- another topology has no fewer triangles
    triangles_no_more : (c : ℕ) → c ≤ length order → triangles_over rows (take c order) ≤ triangles_over other (take c order)
    triangles_no_more zero le = omega arith
    triangles_no_more (suc c) le =
        let count = (order_of g order levels g.arcs rows h.rows_for).count in
        let e : c + 1 ≡ suc c = omega arith in
        let before = triangles_no_more c (omega arith) in
        let here = pairs_rise _ _ (row_no_more c (omega arith)) in
        subst (λ z. triangles_over rows (take z order) ≤ triangles_over other (take z order)) e (omega (
          arith,
          before,
          here,
          sum_by_more (λ v. pairs_among (length (nodes_row rows v))) order c 0 (omega arith),
          sum_by_more (λ v. pairs_among (length (nodes_row other v))) order c 0 (omega arith),
        ))

  -- if these have more triangles, so has each topology
  pub all_have_more : AreNeeded g order rows → (c most : ℕ) → c ≤ length order → most < triangles_over rows (take c order) →
      AllHaveMore g order most
  all_have_more needed c most le more other top =
      let less = triangles_no_more needed other top c le in
      let part = sum_by-take-le (λ v. pairs_among (length (nodes_row other v))) order c in
      omega arith
