-- Parts of a topology: their rows, what lowers them, and the rows of all.
use Rattle.std.proofs.Common.{◌≡◌, ◌^◌, ℕ, ◌+◌, ◌-◌, ◌<◌, ◌≤◌, List, [], ◌∷◌, ◌++◌, length, get_or, set, take, drop, Contains, refl}
use Rattle.std.proofs.Common.{sym, ◌∙◌, ap, subst, arith, inl, inr, length-set, get_or-set_same, get_or-set_other}
use Rattle.std.specs.List.{AllZip}
use Rattle.std.specs.Prelude.{◌⊎◌, ◌≢◌, AllPairs, min, slice_index, slice_index_or}
use Rattle.std.proofs.lemmas.Bool.{cases_eq, cases_lt}
use Rattle.std.proofs.lemmas.List.{get_or_past, get_or_default, get_or_append_left, get_or-append_right, length-append, length-drop}
use Rattle.std.proofs.lemmas.List.{length-take-le}
use Rattle.std.proofs.lemmas.Slice.Zip.{AllZip-long}
use Rattle.ch_graph.specs.Graph.{Network, IsWithinLimits}
use Rattle.ch_graph.specs.Rows.{AreOrdered, rows_between}
use Rattle.ch_graph.proofs.Lists.{contains_none, zipped_at}
use Rattle.ch_graph.proofs.RowsBetween.{rows_pushed, ordered_pushed, length-rows_between}
use Rattle.ch_hierarchy.specs.Rows.{row}
use Rattle.ch_hierarchy.specs.Saved.{IsOrderOf}
use Rattle.ch_hierarchy.specs.declared.side.Side.{Side}
use Rattle.ch_hierarchy.specs.declared.side.Side.TheVariants.{Up, Down}
use Rattle.ch_contract.specs.Legs.{Legs, turned_legs}
use Rattle.ch_custom.specs.declared.leg_pair.LegPair.{LegPair}
use Rattle.ch_custom.specs.LegPairs.{row_of, rows_at, pairs_row}
use Rattle.ch_custom.specs.Parts.{AreParts, ArePartsFrom, MayBeIn, AreRowsOf, AreTakenAt, AreOfPart, AreOfParts, AreGathered}
use Rattle.ch_custom.specs.Topologies.{HasLegs, IsMetric, legs_after, IsSound, AreRowsIn, AreFor, AreMetricsAt}
use Rattle.ch_custom.proofs.theory.LegPairs.{row_at, rows_size}
use Rattle.ch_custom.proofs.theory.Steps.{nodes}
use Rattle.ch_custom.proofs.theory.StepPairs.{taken_here}
use Rattle.ch_custom.proofs.theory.Unions.{place_of}

-- the row of a node is in order where the rows are sound, and its nodes are among these
pub row_inside : (order : List ℕ) (rows : List (List ℕ)) → IsSound (record { order = order; pairs = rows }) → (k y : ℕ) →
    k < length order → Contains (slice_index_or rows (slice_index order k) []) y → y < length rows
row_inside order rows sound k y lt c =
    let count = sound.nodes.count in
    let h = sound.higher k y (omega arith) c in
    let within = sound.nodes.within h.0 (omega (arith, h.2)) in
    subst (λ z. z < length rows) h.3 (omega arith)

-- one more node of a row is in the rest or in the part
pub part_next : (parts row : List ℕ) (rest part place next : ℕ) → ((v : ℕ) → v < length parts → slice_index parts v ≤ rest) →
    slice_index row place < length parts →
    (part ≤ rest) × ((k : ℕ) → k < place → k < length row →
    (slice_index parts (slice_index row k) ≡ rest) ⊎ (slice_index parts (slice_index row k) ≡ part)) →
    ((next ≡ part) ⊎ ((part ≡ rest) × (next ≡ slice_index parts (slice_index row place))))
    × ((slice_index parts (slice_index row place) ≡ rest) ⊎ (slice_index parts (slice_index row place) ≡ next)) →
    (next ≤ rest) × ((k : ℕ) → k < place + 1 → k < length row →
    (slice_index parts (slice_index row k) ≡ rest) ⊎ (slice_index parts (slice_index row k) ≡ next))
part_next parts row rest part place next within inside before is = (
  elim is.0 [
    | inl same ↦ let le = before.0 in omega arith
    | inr both ↦ let le = within (slice_index row place) inside in let e = both.1 in omega arith
  ],
  λ k lt below. elim (cases_eq k place) [
    | inl same ↦
        subst (λ z. (slice_index parts (slice_index row z) ≡ rest) ⊎ (slice_index parts (slice_index row z) ≡ next)) (sym same) is.1
    | inr ne ↦ elim (before.1 k (omega arith) below) [
      | inl rests ↦ inl rests
      | inr its ↦ elim is.0 [
        | inl same ↦ inr (its ∙ sym same)
        | inr both ↦ inl (its ∙ both.0)
      ]
    ]
  ],
)

-- all nodes of a row are in the rest or in the part
pub part_of_all : (parts row : List ℕ) (rest part place : ℕ) → length row ≤ place →
    (part ≤ rest) × ((k : ℕ) → k < place → k < length row →
    (slice_index parts (slice_index row k) ≡ rest) ⊎ (slice_index parts (slice_index row k) ≡ part)) → MayBeIn parts rest row part
part_of_all parts row rest part place past are = (
  are.0,
  λ x c.
      let p = place_of row x c in
      let lt = p.1 in
      subst (λ z. (slice_index parts z ≡ rest) ⊎ (slice_index parts z ≡ part)) p.2 (are.1 p.0 (omega arith) p.1),
)

-- a node with all nodes of its row in the rest may be in any part
pub may_be_given : (parts row : List ℕ) (rest part any : ℕ) → MayBeIn parts rest row part →
    (any ≡ part) ⊎ ((part ≡ rest) × (any ≤ rest)) → MayBeIn parts rest row any
may_be_given parts row rest part any may given = elim given [
  | inl same ↦ subst (MayBeIn parts rest row) (sym same) may
  | inr both ↦ (
    both.1,
    λ x c. elim (may.1 x c) [
      | inl rests ↦ inl rests
      | inr its ↦ inl (its ∙ both.0)
    ],
  )
]

-- one more node has its part
pub parts_more : (order : List ℕ) (rows : List (List ℕ)) (rest place part : ℕ) (parts new : List ℕ) →
    IsSound (record { order = order; pairs = rows }) → place < length order → ArePartsFrom order rows rest (place + 1) parts →
    MayBeIn parts rest (slice_index_or rows (slice_index order place) []) part → new ≡ set parts (slice_index order place) part →
    ArePartsFrom order rows rest place new
parts_more order rows rest place part parts new sound below are may is =
    let count = sound.nodes.count in
    let size = are.size in
    let node = sound.nodes.within place below in
    let here : slice_index new (slice_index order place) ≡ part = ap (λ z. slice_index z (slice_index order place)) is
    ∙ get_or-set_same parts (slice_index order place) part 0 (omega arith) in
    let there : (v : ℕ) → v ≢ slice_index order place → slice_index new v ≡ slice_index parts v =
    λ v ne. ap (λ z. slice_index z v) is ∙ get_or-set_other parts (slice_index order place) v part 0 ne in
    let later : (i x : ℕ) → place ≤ i → i < length rows → Contains (slice_index_or rows (slice_index order i) []) x →
    x ≢ slice_index order place =
    λ i x le lt c e. (let h = sound.higher i x lt c in
    sound.nodes.distinct place h.0 (omega (arith, h.1)) (omega (arith, h.2)) (sym e ∙ sym h.3)) in
    record {
      size = ap length is ∙ length-set parts (slice_index order place) part ∙ size;
      within = λ v lt. elim (cases_eq v (slice_index order place)) [
        | inl same ↦ let p = may.0 in let at = ap (slice_index new) same ∙ here in omega arith
        | inr ne ↦ let p = are.within v lt in let at = there v ne in omega arith
      ];
      apart = λ i x le lt c. elim (cases_eq i place) [
        | inl same ↦
            let cx = subst (λ z. Contains (slice_index_or rows (slice_index order z) []) x) same c in
            let at = there x (later i x le lt c) in
            elim (may.1 x cx) [
              | inl rests ↦ inl (at ∙ rests)
              | inr its ↦ inr (at ∙ its ∙ sym here ∙ ap (λ z. slice_index new (slice_index order z)) (sym same))
            ]
        | inr ne ↦
            let at = there x (later i x le lt c) in
            let mine = there (slice_index order i) (λ e. sound.nodes.distinct place i (omega arith) (omega arith) (sym e)) in
            elim (are.apart i x (omega arith) lt c) [
              | inl rests ↦ inl (at ∙ rests)
              | inr its ↦ inr (at ∙ its ∙ sym mine)
            ]
      ];
    }

module _ (g : Network) (order : List ℕ) (rows : List (List ℕ)) (ready : AreFor g order rows) (parts : List ℕ) (part : ℕ)
    (own : List (List ℕ)) (are : AreRowsOf rows parts part own) where
  -- each row is that of the topology, or empty
  own_row : (v : ℕ) → (slice_index_or own v [] ≡ slice_index_or rows v []) ⊎ (slice_index_or own v [] ≡ [])
  own_row v = elim (cases_lt v (length rows)) [
    | inl lt ↦ elim (cases_eq (slice_index parts v) part) [
      | inl same ↦ inl (are.mine v lt same)
      | inr ne ↦ inr (are.others v lt ne)
    ]
    | inr le ↦ let size = are.size in inr (get_or_past own v [] (omega arith))
  ]

  -- the rows of a part are sound
  pub rows_in_part : AreRowsIn g order own
  rows_in_part = record {
    size = are.size ∙ ready.size;
    sound = record {
      count = let size = are.size in let few = ready.sound.count in omega arith;
      nodes = subst (λ z. IsOrderOf z order) (sym are.size) ready.sound.nodes;
      ordered = λ v. elim (own_row v) [
        | inl same ↦ subst (λ z. AllPairs ◌<◌ z) (sym same) (ready.sound.ordered v)
        | inr none ↦ subst (λ z. AllPairs ◌<◌ z) (sym none) (λ i j d lt below. absurd (omega arith))
      ];
      higher = λ i w lt c. elim (own_row (slice_index order i)) [
        | inl same ↦
            let size = are.size in
            let h = ready.sound.higher i w (omega arith) (subst (λ (z : List ℕ). Contains z w) same c) in
            (h.0, h.1, subst (λ z. h.0 < z) (sym size) h.2, h.3)
        | inr none ↦ absurd (contains_none w (subst (λ (z : List ℕ). Contains z w) none c))
      ];
    };
  }

  -- a node of another part lowers no row of the part
  pub others_pass : (rest : ℕ) → AreParts order rows rest parts → part < rest → (k : ℕ) → k < g.nodes →
      slice_index parts (slice_index order k) ≢ part → (i x : ℕ) → k < i → i < g.nodes →
      Contains (slice_index_or own (slice_index order i) []) x →
      Contains (slice_index_or rows (slice_index order k) []) (slice_index order i) → ⊥
  others_pass rest divided less k lt ne i x past below has c =
      let size = ready.size in
      let count = ready.sound.nodes.count in
      let node = ready.sound.nodes.within i (omega arith) in
      elim (cases_eq (slice_index parts (slice_index order i)) part) [
        | inl same ↦ elim (divided.apart k (slice_index order i) (omega arith) c) [
          | inl rests ↦ omega arith
          | inr its ↦ ne (sym its ∙ same)
        ]
        | inr other ↦
            contains_none x (subst (λ (z : List ℕ). Contains z x) (are.others (slice_index order i) (omega arith) other) has)
      ]

  -- a node whose row has none of the part lowers no row of the part
  pub none_pass : (k : ℕ) →
      ((y : ℕ) → Contains (slice_index_or rows (slice_index order k) []) y → slice_index parts y ≢ part) → (i x : ℕ) →
      k < i → i < g.nodes → Contains (slice_index_or own (slice_index order i) []) x →
      Contains (slice_index_or rows (slice_index order k) []) (slice_index order i) → ⊥
  none_pass k none i x past below has c =
      let size = ready.size in
      let count = ready.sound.nodes.count in
      let node = ready.sound.nodes.within i (omega arith) in
      contains_none x
      (subst (λ (z : List ℕ). Contains z x) (are.others (slice_index order i) (omega arith) (none (slice_index order i) c)) has)

  -- the row of a node of the part is whole
  pub whole : (k : ℕ) → k < length order → slice_index parts (slice_index order k) ≡ part →
      slice_index_or own (slice_index order k) [] ≡ slice_index_or rows (slice_index order k) []
  whole k lt same = are.mine (slice_index order k) (ready.sound.nodes.within k lt) same

module _ (g : Network) (order : List ℕ) (rows : List (List ℕ)) (limits : IsWithinLimits g) (ready : AreFor g order rows) (parts : List ℕ)
    (metrics : List (List (List LegPair))) (are : AreOfParts g order rows parts metrics) where
  -- the legs of a node just before it is taken are those of its part
  pub part_taken : (k part : ℕ) (m d : List (List LegPair)) → k < length order → slice_index parts (slice_index order k) ≡ part →
      part < length metrics → m ≡ get_or metrics part d →
      (slice_index order k < length m)
      × ((taken : List LegPair) → taken ≡ pairs_row m (slice_index order k) → AreTakenAt g order rows k taken)
  part_taken k part m d lt same below is =
      let its = subst (λ z. AreOfPart g order rows parts part z)
      (get_or_default metrics part [] d below ∙ sym is) (are part below) in
      let count = (nodes g order rows limits ready).count in
      let node = (nodes g order rows limits ready).within k lt in
      let size = its.2.0.size in
      let pairs = rows_size Up m in (
        omega arith,
        λ taken e. taken_here g order rows limits ready its.0 k g.nodes lt (omega arith)
            (whole g order rows ready parts part its.0 its.1 k lt same) m its.2 taken e,
      )

  -- each part has a row for each node
  pub part_rows : (part v : ℕ) → part < length metrics → v < length rows → v < length (slice_index_or metrics part [])
  part_rows part v below lt =
      let its = are part below in
      let size = its.2.0.size in
      let pairs = rows_size Up (slice_index_or metrics part []) in
      let many = ready.size in
      omega arith

  module _ (rest : ℕ) (divided : AreParts order rows rest parts) (count : length metrics ≡ rest + 1) (metric : List (List LegPair))
      (gathered : AreGathered parts metrics metric) where
    -- the rows of all nodes in one direction are right
    gathered_side : (side : Side) (T : ℕ → Legs) → ((part : ℕ) → part < length metrics → (own : List (List ℕ)) ×
        AreRowsOf rows parts part own × IsMetric g.nodes order own T (rows_at side (slice_index_or metrics part []))) →
        IsMetric g.nodes order rows T (rows_at side metric)
    gathered_side side T each = record {
      size = rows_size side metric ∙ gathered.size ∙ divided.size ∙ ready.size;
      each = λ i lt.
          let v = slice_index order i in
          let many = (nodes g order rows limits ready).count in
          let node = (nodes g order rows limits ready).within i (omega arith) in
          let size = ready.size in
          let all = divided.size in
          let le = divided.within v (omega arith) in
          let below : slice_index parts v < length metrics = omega arith in
          let its = each (slice_index parts v) below in
          let inside = part_rows (slice_index parts v) v below (omega arith) in
          let here : v < length metric = let s = gathered.size in omega arith in
          subst (HasLegs (T i v) (slice_index_or rows v []))
          (row_at side (slice_index_or metrics (slice_index parts v) []) v inside ∙ ap (row_of side) (sym (gathered.each v (omega arith)))
          ∙ sym (row_at side metric v here))
          (subst (λ z. HasLegs (T i v) z (row (rows_at side (slice_index_or metrics (slice_index parts v) [])) v))
          (its.1.mine v (omega arith) refl) (its.2.each i lt));
    }

    -- so the rows of all parts are the legs lowered over all nodes
    pub gathered_metrics : AreMetricsAt g order rows g.nodes (rows_at Up metric) (rows_at Down metric)
    gathered_metrics = (
      gathered_side Up (λ i. legs_after g order (min i g.nodes)) (λ part below. let its = are part below in (its.0, its.1, its.2.0)),
      gathered_side Down (λ i. turned_legs (legs_after g order (min i g.nodes)))
          (λ part below. let its = are part below in (its.0, its.1, its.2.1)),
    )

-- the legs of one more part
pub parts_pushed : (g : Network) (order : List ℕ) (rows : List (List ℕ)) (parts : List ℕ) (metrics new : List (List (List LegPair)))
    (metric : List (List LegPair)) (rest : ℕ) → AreOfParts g order rows parts metrics → AreOfPart g order rows parts rest metric →
    length metrics ≡ rest → new ≡ metrics ++ metric ∷ [] → AreOfParts g order rows parts new
parts_pushed g order rows parts metrics new metric rest are last count is part below =
    let size : length new ≡ length metrics + 1 = ap length is ∙ length-append metrics (metric ∷ []) in
    subst (λ z. AreOfPart g order rows parts part (slice_index_or z part [])) (sym is) (elim (cases_eq part rest) [
      | inl same ↦
          let e : part - length metrics ≡ 0 = omega arith in
          subst (AreOfPart g order rows parts part)
          (sym (get_or-append_right metrics (metric ∷ []) (length metrics) part [] refl (omega arith)
          ∙ ap (λ z. get_or (metric ∷ []) z []) e))
          (subst (λ z. AreOfPart g order rows parts z metric) (sym same) last)
      | inr ne ↦
          subst (AreOfPart g order rows parts part) (sym (get_or_append_left metrics (metric ∷ []) [] part (omega arith)))
          (are part (omega arith))
    ])

-- the values of numbered items, by number
pub by_number : (R : ℕ → List (List LegPair) → Type 0) (numbers : List ℕ) (values : List (List (List LegPair))) →
    ((k d : ℕ) → k < length numbers → get_or numbers k d ≡ k) → AllZip R numbers values → (k : ℕ) → k < length values →
    R k (slice_index_or values k [])
by_number R numbers values each zipped k lt =
    let size = AllZip-long R numbers values zipped in
    let below : k < length numbers = omega arith in
    subst (λ z. R z (slice_index_or values k [])) (each k 0 below) (zipped_at R numbers values k 0 [] zipped below)

-- the first rows are gathered
pub record AreJoinedTo (parts : List ℕ) (metrics : List (List (List LegPair))) (node : ℕ) (starts : List ℕ) (pairs : List LegPair) : Type 0
  where
    pub within : node ≤ length parts
    pub count : length starts ≡ node + 1
    pub ordered : AreOrdered starts (length pairs)
    pub each : (v : ℕ) → v < node →
        pairs_row (rows_between starts pairs) v ≡ pairs_row (slice_index_or metrics (slice_index parts v) []) v

-- one more row is gathered
pub gathered_more : (parts : List ℕ) (metrics : List (List (List LegPair))) (node end : ℕ) (starts after : List ℕ)
    (pairs more r : List LegPair) → length parts + 1 < 2 ^ 32 → node < length parts → AreJoinedTo parts metrics node starts pairs →
    r ≡ pairs_row (slice_index_or metrics (slice_index parts node) []) node → more ≡ pairs ++ r → end ≡ length more →
    after ≡ starts ++ end ∷ [] → AreJoinedTo parts metrics (node + 1) after more
gathered_more parts metrics node end starts after pairs more r small lt are is grown stop pushed =
    let next : after ≡ starts ++ length (pairs ++ r) ∷ [] = pushed ∙ ap (λ z. starts ++ z ∷ []) (stop ∙ ap length grown) in
    let count = are.count in
    let now : rows_between after more ≡ rows_between starts pairs ++ r ∷ [] = ap (λ z. rows_between z more) next
    ∙ ap (rows_between (starts ++ length (pairs ++ r) ∷ [])) grown ∙ rows_pushed starts pairs r are.ordered in
    let size : length (rows_between starts pairs) ≡ node = length-rows_between starts pairs ∙ (omega arith) in
    record {
      within = omega arith;
      count = let longer = ap length pushed ∙ length-append starts (end ∷ []) in omega arith;
      ordered = subst (AreOrdered after) (ap length (sym grown)) (subst (λ z. AreOrdered z (length (pairs ++ r))) (sym next)
          (ordered_pushed starts pairs r are.ordered (omega arith)));
      each = λ v below. ap (λ z. pairs_row z v) now ∙ elim (cases_eq v node) [
        | inl same ↦
            let e : v - length (rows_between starts pairs) ≡ 0 = omega arith in
            get_or-append_right (rows_between starts pairs) (r ∷ []) (length (rows_between starts pairs)) v [] refl (omega arith)
            ∙ ap (λ z. get_or (r ∷ []) z []) e ∙ is
            ∙ ap (λ z. pairs_row (slice_index_or metrics (slice_index parts z) []) z) (sym same)
        | inr ne ↦
            get_or_append_left (rows_between starts pairs) (r ∷ []) [] v (omega arith) ∙ are.each v (omega arith)
      ];
    }

-- a lent slice of as many elements keeps their number
pub same_count : {T : Type 0} (n : ℕ) (new old : List T) → n ≡ length old → length new ≡ length old →
    length (take n (new ++ drop (length new) old)) ≡ length old
same_count n new old is same =
    length-take-le n (new ++ drop (length new) old)
    (omega (arith, is, same, length-append new (drop (length new) old), length-drop (length new) old)) ∙ is

-- one more number
pub numbers_more : (numbers new : List ℕ) (part : ℕ) → length numbers ≡ part →
    ((k d : ℕ) → k < length numbers → get_or numbers k d ≡ k) → new ≡ numbers ++ part ∷ [] →
    (length new ≡ part + 1) × ((k d : ℕ) → k < length new → get_or new k d ≡ k)
numbers_more numbers new part count each is =
    let size : length new ≡ length numbers + 1 = ap length is ∙ length-append numbers (part ∷ []) in (
      size ∙ ap (λ z. z + 1) count,
      λ k d lt. ap (λ z. get_or z k d) is ∙ elim (cases_eq k part) [
        | inl same ↦
            let e : k - length numbers ≡ 0 = omega arith in
            get_or-append_right numbers (part ∷ []) (length numbers) k d refl (omega arith) ∙ ap (λ z. get_or (part ∷ []) z d) e ∙ sym same
        | inr ne ↦ get_or_append_left numbers (part ∷ []) d k (omega arith) ∙ each k d (omega arith)
      ],
    )
