-- Rows that grow until they are a topology.
use Rattle.std.proofs.Common.{true, ◌≡◌, ℕ, ◌+◌, ◌<◌, ◌≤◌, List, [], ◌∷◌, ◌++◌, length, get_or, take, Contains, refl, sym, ◌∙◌, ap, subst}
use Rattle.std.proofs.Common.{arith, inl, inr, length-set, get_or-set_other}
use Rattle.std.specs.Prelude.{◌⊎◌, ◌≢◌, ◌==◌, AllPairs, map, replicate, slice_index}
use Rattle.std.proofs.lemmas.Bool.{cases_eq, eqb-true}
use Rattle.std.proofs.lemmas.Grind.{get_or_default_zero}
use Rattle.std.proofs.lemmas.List.{map-append, replicate-append-replicate}
use Rattle.ch_graph.specs.declared.arc.InArc.{InArc}
use Rattle.ch_graph.specs.Graph.{Network, IsWithinLimits}
use Rattle.ch_graph.proofs.Lists.{contains_none, contains_cons, contains_head, contains_tail}
use Rattle.ch_hierarchy.specs.Saved.{IsOrderOf}
use Rattle.ch_contract.proofs.theory.OneInTurn.{taken_at}
use Rattle.ch_custom.specs.Customizing.{HasParent, IsPair, IsTopology}
use Rattle.ch_custom.specs.Topologies.{AreHigher}
use Rattle.ch_custom.specs.Pairs.{nodes_row, IsMerged, AreRowsFor, AreHandedOn, IsRising}
use Rattle.ch_custom.proofs.theory.Customizing.{parents_close}
use Rattle.ch_custom.proofs.theory.RowLoops.{take_more}

-- an element, by the default of clauses
number_at : (xs : List ℕ) (k d : ℕ) → k < length xs → get_or xs k d ≡ slice_index xs k
number_at xs k d lt = get_or_default_zero xs k d lt

-- an element of a list with one more is one of the list, or that one
contains_snoc : {X : Type 0} (xs : List X) (x y : X) → Contains (xs ++ x ∷ []) y → Contains xs y ⊎ (x ≡ y)
contains_snoc [] x y c = elim (contains_cons x y [] c) [ inl is ↦ inr is | inr rest ↦ absurd (contains_none y rest) ]
contains_snoc (z ∷ xs) x y c = elim (contains_cons z y (xs ++ x ∷ []) c) [
  | inl is ↦ inl (subst (Contains (z ∷ xs)) is (contains_head z xs))
  | inr rest ↦ elim (contains_snoc xs x y rest) [
    | inl was ↦ inl (contains_tail y z xs was)
    | inr is ↦ inr is
  ]
]

-- the place of a node in an order
pub placed : (n : ℕ) (order : List ℕ) (x : ℕ) → IsOrderOf n order → x < n → (i : ℕ) × (i < n) × (slice_index order i ≡ x)
placed n order x is lt =
    taken_at n order x (
      is.count,
      (λ i d below. subst (λ z. z < n) (sym (number_at order i d below)) (is.within i below)),
      λ i j d first below e. is.distinct i j first below (sym (number_at order i d (omega arith)) ∙ e ∙ number_at order j d below),
    ) lt

module _ (p : ℕ) (others : List ℕ) (without : ℕ) (old new : List (List ℕ)) (m : IsMerged p others without old new)
    (below : p < length old) where
  -- the other rows stay
  pub other_row : (v : ℕ) → v ≢ p → nodes_row new v ≡ nodes_row old v
  other_row v ne = ap (λ z. nodes_row z v) m.edited ∙ get_or-set_other old p v (nodes_row new p) [] ne

  -- rows only grow
  pub grows : (v w : ℕ) → Contains (nodes_row old v) w → Contains (nodes_row new v) w
  grows v w c = elim (cases_eq v p) [
    | inl same ↦ subst (λ z. Contains (nodes_row new z) w) (sym same) (m.union.kept w (subst (λ z. Contains (nodes_row old z) w) same c))
    | inr ne ↦ subst (λ z. Contains z w) (sym (other_row v ne)) c
  ]

  pub merged_size : length new ≡ length old
  merged_size = ap length m.edited ∙ length-set old p (nodes_row new p)

module _ (g : Network) (order levels : List ℕ) (arcs : List InArc) (old : List (List ℕ)) (a : AreRowsFor g order levels arcs old) where
  -- the order has each node once
  pub order_of : IsOrderOf g.nodes order
  order_of = subst (λ n. IsOrderOf n order) a.size a.sound.nodes

  -- rows lead to higher places
  pub leads_up : AreHigher g.nodes order old
  leads_up = subst (λ n. AreHigher n order old) a.size a.sound.higher

  -- the level of a place
  pub level_at : (i : ℕ) → i < g.nodes → slice_index levels (slice_index order i) ≡ i + 1
  level_at i lt = let count = order_of.count in a.by_level.each i (omega arith)

  -- each node has its place
  pub place_at : (x : ℕ) → x < g.nodes → (i : ℕ) × (i < g.nodes) × (slice_index order i ≡ x) × (slice_index levels x ≡ i + 1)
  place_at x lt = let p = placed g.nodes order x order_of lt in (p.0, p.1, p.2, ap (slice_index levels) (sym p.2) ∙ level_at p.0 p.1)

  -- the rows stay sound if what is put into a row is higher
  module _ (q p : ℕ) (lt : q < g.nodes) (is : slice_index order q ≡ p) (others : List ℕ) (without : ℕ) (new : List (List ℕ))
      (m : IsMerged p others without old new)
      (up : (y : ℕ) → Contains others y → y ≢ without → (j : ℕ) × (q < j) × (j < g.nodes) × (slice_index order j ≡ y)) where
    within : p < length old
    within =
        let o = order_of in
        let count = o.count in
        let size = a.size in
        let low = o.within q (omega arith) in
        omega arith

    still_ordered : (v : ℕ) → AllPairs ◌<◌ (nodes_row new v)
    still_ordered v = elim (cases_eq v p) [
      | inl same ↦ subst (λ z. AllPairs ◌<◌ (nodes_row new z)) (sym same) m.union.ordered
      | inr ne ↦ subst (AllPairs ◌<◌) (sym (other_row p others without old new m within v ne)) (a.sound.ordered v)
    ]

    still_higher : AreHigher g.nodes order new
    still_higher i w below c = elim (cases_eq (slice_index order i) p) [
      | inl same ↦ elim (m.union.each w (subst (λ z. Contains (nodes_row new z) w) same c)) [
        | inl was ↦ leads_up i w below (subst (λ z. Contains (nodes_row old z) w) (sym same) was)
        | inr fresh ↦
            let h = up w fresh.0 fresh.1 in
            let one = level_at i below in
            let two = level_at q lt in
            let at : slice_index levels (slice_index order i) ≡ slice_index levels (slice_index order q) =
            ap (slice_index levels) (same ∙ sym is) in
            (h.0, omega (arith, h.1), h.2, h.3)
      ]
      | inr ne ↦ leads_up i w below (subst (λ z. Contains z w) (other_row p others without old new m within (slice_index order i) ne) c)
    ]

    -- the rows after a merge, with the arcs that they had
    pub still_for : AreRowsFor g order levels arcs new
    still_for = record {
      size = merged_size p others without old new m within ∙ a.size;
      sound =
          let e : length new ≡ g.nodes = merged_size p others without old new m within ∙ a.size in
          record {
            count = let s = a.size in let c = a.sound.count in omega arith;
            nodes = subst (λ n. IsOrderOf n order) (sym e) order_of;
            ordered = still_ordered;
            higher = subst (λ n. AreHigher n order new) (sym e) still_higher;
          };
      by_level = a.by_level;
      with_arcs = λ b i j c first last ends. grows p others without old new m within (slice_index order i) (slice_index order j)
          (a.with_arcs b i j c first last ends);
    }

  -- one more arc, whose lower end is `lo` and whose higher end is `hi`
  pub arc_put : (arc : InArc) (lo hi : ℕ) (new : List (List ℕ)) → lo < g.nodes → hi < g.nodes → IsRising levels lo hi →
      ((arc.from ≡ lo) × (arc.to ≡ hi)) ⊎ ((arc.from ≡ hi) × (arc.to ≡ lo)) → IsMerged lo (hi ∷ []) lo old new →
      AreRowsFor g order levels (arcs ++ arc ∷ []) new
  arc_put arc lo hi new low high rising ends m =
      let p = place_at lo low in
      let one : (y : ℕ) → Contains (hi ∷ []) y → hi ≡ y =
      λ y c. elim (contains_cons hi y [] c) [ inl is ↦ is | inr rest ↦ absurd (contains_none y rest) ] in
      let up : (y : ℕ) → Contains (hi ∷ []) y → y ≢ lo → (j : ℕ) × (p.0 < j) × (j < g.nodes) × (slice_index order j ≡ y) = λ y c ne.
      let same = one y c in
      let h = place_at hi high in
      let less : slice_index levels lo < slice_index levels hi = elim rising [ inl e ↦ absurd (ne (sym same ∙ sym e)) | inr lt ↦ lt ] in
      (h.0, omega (arith, p.3, h.3), h.1, h.2 ∙ same) in
      let next = still_for p.0 lo p.1 p.2 (hi ∷ []) lo new m up in
      record {
        size = next.size;
        sound = next.sound;
        by_level = next.by_level;
        with_arcs = λ b i j c first last at. elim (contains_snoc arcs arc b c) [
          | inl was ↦ next.with_arcs b i j was first last at
          | inr is ↦ of_arc i j first last m next (ends_of i j b is at)
        ];
      }
    where
      ends_of : (i j : ℕ) (b : InArc) → arc ≡ b → ((slice_index order i ≡ b.from) × (slice_index order j ≡ b.to))
          ⊎ ((slice_index order i ≡ b.to) × (slice_index order j ≡ b.from)) → ((slice_index order i ≡ lo) × (slice_index order j ≡ hi))
          ⊎ ((slice_index order i ≡ hi) × (slice_index order j ≡ lo))
      ends_of i j b is at =
          let from : arc.from ≡ b.from = ap (λ (z : InArc). z.from) is in
          let to : arc.to ≡ b.to = ap (λ (z : InArc). z.to) is in
          elim ends [
            | inl e ↦ elim at [
              | inl f ↦ inl (f.0 ∙ sym from ∙ e.0, f.1 ∙ sym to ∙ e.1)
              | inr f ↦ inr (
                f.0 ∙ sym to ∙ e.1,
                f.1 ∙ sym from
                    ∙ e.0,
              )
            ]
            | inr e ↦ elim at [
              | inl f ↦ inr (f.0 ∙ sym from ∙ e.0, f.1 ∙ sym to ∙ e.1)
              | inr f ↦ inl (
                f.0 ∙ sym to ∙ e.1,
                f.1 ∙ sym from
                    ∙ e.0,
              )
            ]
          ]

      of_arc : (i j : ℕ) → i < j → j < g.nodes → IsMerged lo (hi ∷ []) lo old new → AreRowsFor g order levels arcs new →
          ((slice_index order i ≡ lo) × (slice_index order j ≡ hi)) ⊎ ((slice_index order i ≡ hi) × (slice_index order j ≡ lo)) →
          IsPair order new i j
      of_arc i j first last m next at =
          let one = level_at i (omega arith) in
          let two = level_at j last in
          elim at [
            | inl e ↦
                let ne : hi ≢ lo = λ same. let q : slice_index levels (slice_index order i) ≡ slice_index levels (slice_index order j) =
                ap (slice_index levels) (e.0 ∙ sym same ∙ sym e.1) in omega arith in
                subst (λ z. Contains (nodes_row new z) (slice_index order j)) (sym e.0)
                (subst (Contains (nodes_row new lo)) (sym e.1) (m.union.added hi (contains_head hi []) ne))
            | inr e ↦
                let a : slice_index levels (slice_index order i) ≡ slice_index levels hi = ap (slice_index levels) e.0 in
                let b : slice_index levels (slice_index order j) ≡ slice_index levels lo = ap (slice_index levels) e.1 in
                absurd (elim rising [
                  | inl same ↦ let q : slice_index levels lo ≡ slice_index levels hi = ap (slice_index levels) same in omega arith
                  | inr less ↦ omega arith
                ])
          ]

module _ (g : Network) (order levels : List ℕ) (k : ℕ) (old new : List (List ℕ)) (parent : ℕ)
    (a : AreRowsFor g order levels g.arcs old) (lt : k < g.nodes) (has : Contains (nodes_row old (slice_index order k)) parent)
    (m : IsMerged parent (nodes_row old (slice_index order k)) parent old new) where
  -- the place of the parent of a place
  pub parent_place : (j : ℕ) × (k < j) × (j < g.nodes) × (slice_index order j ≡ parent)
  parent_place = leads_up g order levels g.arcs old a k parent lt has

  pub parent_within : parent < g.nodes
  parent_within =
      let o = order_of g order levels g.arcs old a in
      let count = o.count in
      subst (λ z. z < g.nodes) parent_place.3 (o.within parent_place.0 (omega (arith, parent_place.2)))

  -- the row of a place that has handed on, or does so now, stays
  pub row_stays : (i : ℕ) → i ≤ k → nodes_row new (slice_index order i) ≡ nodes_row old (slice_index order i)
  row_stays i le =
      let size = a.size in
      let below = parent_within in
      other_row parent _ parent old new m (omega arith) (slice_index order i) (λ e.
      let one = level_at g order levels g.arcs old a i (omega arith) in
      let two = level_at g order levels g.arcs old a parent_place.0 parent_place.2 in
      let same : slice_index levels (slice_index order i) ≡ slice_index levels (slice_index order parent_place.0) =
      ap (slice_index levels) (e ∙ sym parent_place.3) in
      let past = parent_place.1 in
      omega arith)

-- one more place hands its nodes on to its parent
pub handed_more : (g : Network) (order levels : List ℕ) (k : ℕ) (old new : List (List ℕ)) (parent : ℕ) →
    AreHandedOn g order levels k old → k < g.nodes → Contains (nodes_row old (slice_index order k)) parent →
    ((y : ℕ) → Contains (nodes_row old (slice_index order k)) y → slice_index levels parent ≤ slice_index levels y) →
    IsMerged parent (nodes_row old (slice_index order k)) parent old new → AreHandedOn g order levels (k + 1) new
handed_more g order levels k old new parent h lt has least m =
    record { rows_for = next; parents = λ i before small. of_place i before small }
  where
    a : AreRowsFor g order levels g.arcs old
    a = h.rows_for

    its : (j : ℕ) × (k < j) × (j < g.nodes) × (slice_index order j ≡ parent)
    its = parent_place g order levels k old new parent a lt has m

    up : (y : ℕ) → Contains (nodes_row old (slice_index order k)) y → y ≢ parent → (j : ℕ) × (its.0 < j) × (j < g.nodes)
        × (slice_index order j ≡ y)
    up y c ne =
        let q = leads_up g order levels g.arcs old a k y lt c in
        let one : slice_index levels parent ≡ its.0 + 1 = ap (slice_index levels) (sym its.3)
        ∙ level_at g order levels g.arcs old a its.0 its.2 in
        let two : slice_index levels y ≡ q.0 + 1 = ap (slice_index levels) (sym q.3) ∙ level_at g order levels g.arcs old a q.0 q.2 in
        let le = least y c in
        elim (cases_eq q.0 its.0) [
          | inl same ↦ absurd (ne (sym q.3 ∙ ap (slice_index order) same ∙ its.3))
          | inr apart ↦ (q.0, omega arith, q.2, q.3)
        ]

    next : AreRowsFor g order levels g.arcs new
    next = still_for g order levels g.arcs old a its.0 parent its.2 its.3 (nodes_row old (slice_index order k)) parent new m up

    below : parent < length old
    below = let size = a.size in let low = parent_within g order levels k old new parent a lt has m in omega arith

    -- a row that stays
    stays : (i : ℕ) → i ≤ k → nodes_row new (slice_index order i) ≡ nodes_row old (slice_index order i)
    stays = row_stays g order levels k old new parent a lt has m

    of_old : (i : ℕ) → i ≤ k → HasParent g.nodes order old i → HasParent g.nodes order new i
    of_old i le (inl none) = inl (λ j lt c. none j lt (subst (λ z. Contains z (slice_index order j)) (stays i le) c))
    of_old i le (inr p) = inr (
      p.0,
      p.1,
      λ j lt c. elim (p.2 j lt (subst (λ z. Contains z (slice_index order j)) (stays i le) c)) [
        | inl is ↦ inl is
        | inr later ↦ inr (later.0, grows parent _ parent old new m below (slice_index order p.0) (slice_index order j) later.1)
      ],
    )

    here : HasParent g.nodes order new k
    here = inr (
      its.0,
      its.1,
      λ j lt c.
          let was = subst (λ z. Contains z (slice_index order j)) (stays k (omega arith)) c in
          elim (cases_eq (slice_index order j) parent) [
            | inl is ↦
                let one = level_at g order levels g.arcs old a j lt in
                let two = level_at g order levels g.arcs old a its.0 its.2 in
                let same : slice_index levels (slice_index order j) ≡ slice_index levels (slice_index order its.0) =
                ap (slice_index levels) (is ∙ sym its.3) in
                inl (omega arith)
            | inr ne ↦
                let u = up (slice_index order j) was ne in
                let one = level_at g order levels g.arcs old a j lt in
                let two = level_at g order levels g.arcs old a u.0 u.2 in
                let same : slice_index levels (slice_index order u.0) ≡ slice_index levels (slice_index order j) =
                ap (slice_index levels) u.3 in
                inr (
                  omega (arith, u.1),
                  subst (λ z. Contains (nodes_row new z) (slice_index order j)) (sym its.3)
                      (m.union.added (slice_index order j) was ne),
                )
          ],
    )

    of_place : (i : ℕ) → i < k + 1 → i < g.nodes → HasParent g.nodes order new i
    of_place i before small = elim (cases_eq i k) [
      | inl same ↦ subst (HasParent g.nodes order new) (sym same) here
      | inr ne ↦ of_old i (omega arith) (h.parents i (omega arith) small)
    ]

-- a place with an empty row has nothing to hand on
pub handed_empty : (g : Network) (order levels : List ℕ) (k : ℕ) (rows : List (List ℕ)) → AreHandedOn g order levels k rows →
    nodes_row rows (slice_index order k) ≡ [] → AreHandedOn g order levels (k + 1) rows
handed_empty g order levels k rows h none = record {
  rows_for = h.rows_for;
  parents = λ i before small. elim (cases_eq i k) [
    | inl same ↦ inl (λ j lt c. contains_none (slice_index order j)
        (subst (λ (z : List ℕ). Contains z (slice_index order j)) (ap (λ z. nodes_row rows (slice_index order z)) same ∙ none) c))
    | inr ne ↦ h.parents i (omega arith) small
  ];
}

-- rows that are all handed on are a topology
pub topology_made : (g : Network) (order levels : List ℕ) (k : ℕ) (rows : List (List ℕ)) → AreHandedOn g order levels k rows →
    g.nodes ≤ k → IsTopology g order rows
topology_made g order levels k rows h past = record {
  arcs = h.rows_for.with_arcs;
  closed = parents_close g.nodes order rows (λ i lt. h.parents i (omega arith) lt);
}

-- one more empty row
pub replicate_more : {V : Type 0} (items : V → List ℕ) (rows new : List V) (n : ℕ) (r : V) → map items rows ≡ replicate n [] →
    items r ≡ [] → new ≡ rows ++ r ∷ [] → map items new ≡ replicate (n + 1) []
replicate_more items rows new n r all is edited = ap (map items) edited ∙ map-append items rows (r ∷ []) ∙ (λ i. all i ++ is i ∷ [])
    ∙ replicate-append-replicate n 1 []

-- the next arc of a graph
pub arc_next : (g : Network) (order levels : List ℕ) (arcs : List InArc) (k : ℕ) (d : InArc) (old new : List (List ℕ)) (lo hi : ℕ) →
    IsWithinLimits g → arcs ≡ g.arcs → k < length arcs → AreRowsFor g order levels (take k g.arcs) old →
    IsRising levels lo hi → (((get_or arcs k d).from ≡ lo) × ((get_or arcs k d).to ≡ hi))
    ⊎ (((get_or arcs k d).from ≡ hi) × ((get_or arcs k d).to ≡ lo)) → IsMerged lo (hi ∷ []) lo old new →
    AreRowsFor g order levels (take (k + 1) g.arcs) new
arc_next g order levels arcs k d old new lo hi limits same lt a rising ends m =
    let inside : k < length g.arcs = subst (λ z. k < length z) same lt in
    let is = limits.each k d inside in
    let e = subst (λ z. (((get_or z k d).from ≡ lo) × ((get_or z k d).to ≡ hi))
    ⊎ (((get_or z k d).from ≡ hi) × ((get_or z k d).to ≡ lo))) same ends in
    let both : (lo < g.nodes) × (hi < g.nodes) = elim e [
      | inl f ↦ (subst (λ z. z < g.nodes) f.0 is.ends.0, subst (λ z. z < g.nodes) f.1 is.ends.1)
      | inr f ↦ (subst (λ z. z < g.nodes) f.1 is.ends.1, subst (λ z. z < g.nodes) f.0 is.ends.0)
    ] in
    subst (λ z. AreRowsFor g order levels z new) (sym (take_more g.arcs k d inside))
    (arc_put g order levels (take k g.arcs) old a (get_or g.arcs k d) lo hi new both.0 both.1 rising e m)

-- the nodes of a row are nodes
pub row_within : (g : Network) (order levels : List ℕ) (arcs : List InArc) (rows : List (List ℕ)) → AreRowsFor g order levels arcs rows →
    (k y : ℕ) → k < length order → Contains (nodes_row rows (slice_index order k)) y → (y < length levels) × (y < length rows)
    × (k < g.nodes)
row_within g order levels arcs rows a k y lt c =
    let o = order_of g order levels arcs rows a in
    let count = o.count in
    let h = leads_up g order levels arcs rows a k y (omega arith) c in
    let w = o.within h.0 (omega (arith, h.2)) in
    let size = a.size in
    let many = a.by_level.count in
    subst (λ z. (z < length levels) × (z < length rows) × (k < g.nodes)) h.3 (omega arith, omega arith, omega arith)

-- of two nodes one is lower, or they are the same
pub rising_of : (g : Network) (order levels : List ℕ) (arcs : List InArc) (rows : List (List ℕ)) → AreRowsFor g order levels arcs rows →
    (x y : ℕ) → x < g.nodes → y < g.nodes → slice_index levels x ≤ slice_index levels y → IsRising levels x y
rising_of g order levels arcs rows a x y bx by le =
    let p = place_at g order levels arcs rows a x bx in
    let q = place_at g order levels arcs rows a y by in
    elim (cases_eq p.0 q.0) [
      | inl same ↦ inl (sym p.2 ∙ ap (slice_index order) same ∙ q.2)
      | inr ne ↦ inr (let e = p.3 in let f = q.3 in omega arith)
    ]

-- the next arc of a graph, which leads down or is a loop
pub arc_next_down : (g : Network) (order levels : List ℕ) (arcs : List InArc) (k : ℕ) (d : InArc) (old new : List (List ℕ)) →
    IsWithinLimits g → arcs ≡ g.arcs → k < length arcs → AreRowsFor g order levels (take k g.arcs) old →
    slice_index levels (get_or arcs k d).to ≤ slice_index levels (get_or arcs k d).from →
    IsMerged (get_or arcs k d).to ((get_or arcs k d).from ∷ []) (get_or arcs k d).to old new →
    AreRowsFor g order levels (take (k + 1) g.arcs) new
arc_next_down g order levels arcs k d old new limits same lt a le m =
    let inside : k < length g.arcs = subst (λ z. k < length z) same lt in
    let is = limits.each k d inside in
    let e : get_or arcs k d ≡ get_or g.arcs k d = ap (λ (z : List InArc). get_or z k d) same in
    let to : (get_or arcs k d).to < g.nodes = subst (λ (z : InArc). z.to < g.nodes) (sym e) is.ends.1 in
    let from : (get_or arcs k d).from < g.nodes = subst (λ (z : InArc). z.from < g.nodes) (sym e) is.ends.0 in
    arc_next g order levels arcs k d old new (get_or arcs k d).to (get_or arcs k d).from limits same lt a
    (rising_of g order levels (take k g.arcs) old a _ _ to from le) (inr (refl, refl)) m

-- a row without nodes
pub empty_of : (xs : List ℕ) → (length xs == 0) ≡ true → xs ≡ []
empty_of [] e = refl
empty_of (x ∷ xs) e = absurd (let l : length (x ∷ xs) ≡ 0 = eqb-true (length (x ∷ xs)) 0 e in omega arith)
