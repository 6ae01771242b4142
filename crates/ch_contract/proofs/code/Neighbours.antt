-- The neighbours of a node, listed from its rows, and their depths.
use Rattle.std.proofs.Common.{◌≡◌, ℕ, ◌+◌, ◌<◌, Bool, true, false, not, List, [], ◌∷◌, ◌++◌, length, get_or, set, take, max, map}
use Rattle.std.proofs.Common.{Option, Some, None, refl, sym, ◌∙◌, ap, subst, arith, inl, inr, Contains, append-nil, append_assoc}
use Rattle.std.proofs.Common.{length-set, get_or-set_same, get_or-set_other}
use Rattle.std.specs.Prelude.{◌≢◌, ◌==◌, ◌||◌, if◌then◌else◌, filter, is_some, slice_index}
use Rattle.std.proofs.lemmas.Bool.{cases_eq, eqb-true, false≢true}
use Rattle.std.proofs.lemmas.List.{take_more}
use Rattle.std.proofs.lemmas.List.Elements.{filter-append, Contains-append_left, Contains-append_right, Contains-append_cases}
use Rattle.std.proofs.lemmas.List.Elements.{Contains-push, Contains-push_cases}
use Rattle.ch_hierarchy.specs.declared.leg.Leg.{Leg}
use Rattle.ch_contract.specs.Legs.{Label, Legs, AreLegsWithin}
use Rattle.ch_contract.specs.Order.{are_neighbours, next_depth}
use Rattle.ch_contract.specs.LegRows.{AreLegsFrom, AreLegsTo, label_of, row_leg}
use Rattle.ch_contract.specs.Neighbours.{has_node, neighbours_in, other_nodes}
use Rattle.ch_hierarchy.proofs.theory.NoLeg.{no_leg}
use Rattle.std.proofs.lemmas.List.{map-append}
use Rattle.ch_contract.specs.Measures.{AreDeepened}
use Rattle.ch_graph.proofs.Lists.{contains_head, contains_tail, contains_map, contains_map_of, contains_filter, contains_filter_of}
use Rattle.ch_hierarchy.proofs.theory.Ordered.{contains_or_not}
use Rattle.ch_contract.proofs.theory.RowLegs.{leg_at, row_has, row_member}

-- if the test for a node holds, a leg has this node
node_found : (legs : List Leg) (x : ℕ) → has_node legs x ≡ true → (l : Leg) × Contains legs l × (l.node ≡ x)
node_found [] x e = cc
node_found (k ∷ legs) x e = at (k.node == x) refl e (node_found legs x)
  where
    at : (b : Bool) → (k.node == x) ≡ b → (b || has_node legs x) ≡ true →
        (has_node legs x ≡ true → (l : Leg) × Contains legs l × (l.node ≡ x)) → (l : Leg) × Contains (k ∷ legs) l × (l.node ≡ x)
    at true t f more = (k, contains_head k legs, eqb-true k.node x t)
    at false t f more = let r = more f in (r.0, contains_tail r.0 k legs r.1, r.2)

-- if there are no other legs, the nodes of all legs are listed
pub all_others : (legs : List Leg) → other_nodes [] legs ≡ map (λ (k : Leg). k.node) legs
all_others [] = refl
all_others (k ∷ legs) = ap (λ l. k.node ∷ l) (all_others legs)

-- the list after the node of one more leg
pub others_more : (list middle after : List ℕ) (legs others : List Leg) (i : ℕ) → i < length legs →
    middle ≡ list ++ other_nodes others (take i legs) →
    after ≡ (if has_node others (get_or legs i no_leg).node then middle else middle ++ (get_or legs i no_leg).node ∷ []) →
    after ≡ list ++ other_nodes others (take (i + 1) legs)
others_more list middle after legs others i lt known pushed =
    let k : Leg = get_or legs i no_leg in
    let more : other_nodes others (take (i + 1) legs) ≡ other_nodes others (take i legs) ++ other_nodes others (k ∷ []) =
    ap (other_nodes others) (take_more legs i no_leg lt)
    ∙ ap (map (λ (l : Leg). l.node)) (filter-append (λ (l : Leg). not (has_node others l.node)) (take i legs) (k ∷ []))
    ∙ map-append (λ (l : Leg). l.node) (filter (λ (l : Leg). not (has_node others l.node)) (take i legs))
    (filter (λ (l : Leg). not (has_node others l.node)) (k ∷ [])) in
    pushed
    ∙ ap (λ l. if has_node others k.node then l else l ++ k.node ∷ []) known
    ∙ at (has_node others k.node)
    ∙ append_assoc list (other_nodes others (take i legs)) (other_nodes others (k ∷ []))
    ∙ ap (λ l. list ++ l) (sym more)
  where
    at : (b : Bool) →
        (if b then list ++ other_nodes others (take i legs)
        else (list ++ other_nodes others (take i legs)) ++ (get_or legs i no_leg).node ∷ [])
        ≡ (list ++ other_nodes others (take i legs)) ++ map (λ (l : Leg). l.node) (if not b then (get_or legs i no_leg) ∷ [] else [])
    at true = sym (append-nil (list ++ other_nodes others (take i legs)))
    at false = refl

module _ (L : Legs) (v : ℕ) (up down : List Leg) (from : AreLegsFrom L v up) (to : AreLegsTo L v down) where
  -- x is listed
  abbrev listed : ℕ → Type 0
  listed x = Contains (neighbours_in up down) x

  -- the node of a leg from v is listed
  in_up : (l : Leg) (x : ℕ) → Contains up l → l.node ≡ x → listed x
  in_up l x c e = Contains-append_left (map (λ (k : Leg). k.node) up) _ x
      (subst (Contains (map (λ (k : Leg). k.node) up)) e (contains_map (λ (k : Leg). k.node) up l c))

  -- the node of a leg to v is listed
  in_down : (b : Bool) (l : Leg) → has_node up l.node ≡ b → Contains down l → listed l.node
  in_down true l t c = let r = node_found up l.node t in in_up r.0 l.node r.1 r.2
  in_down false l t c =
      let passes : not (has_node up l.node) ≡ true = ap not t in
      Contains-append_right (map (λ (k : Leg). k.node) up) _ l.node
      (contains_map (λ (k : Leg). k.node) (filter (λ (k : Leg). not (has_node up k.node)) down) l
      (contains_filter (λ (k : Leg). not (has_node up k.node)) down l c passes))

  -- a neighbour is listed
  pub neighbour_listed : (x : ℕ) → are_neighbours L v x ≡ true → Contains (neighbours_in up down) x
  neighbour_listed x e = at (L v x) (L x v) refl refl e
    where
      at : (a b : Option Label) → L v x ≡ a → L x v ≡ b → (is_some a || is_some b) ≡ true → listed x
      at (Some l) b p q t = in_up (leg_at x l) x (row_member up x l (from.1 x ∙ p)) refl
      at None (Some l) p q t = in_down (has_node up x) (leg_at x l) refl (row_member down x l (to.1 x ∙ q))
      at None None p q t = cc

  -- a listed node is a neighbour
  pub listed_neighbour : (x : ℕ) → Contains (neighbours_in up down) x → are_neighbours L v x ≡ true
  listed_neighbour x c = elim (Contains-append_cases (map (λ (k : Leg). k.node) up) _ x c) [
    | inl first ↦
        let r = contains_map_of (λ (k : Leg). k.node) up x first in
        let leg : L v x ≡ Some (label_of r.0) =
        sym (from.1 x) ∙ subst (λ z. row_leg up z ≡ Some (label_of r.0)) r.2 (row_has up r.0 from.0 r.1) in
        ap (λ o. is_some o || is_some (L x v)) leg
    | inr second ↦
        let r = contains_map_of (λ (k : Leg). k.node) _ x second in
        let c = (contains_filter_of (λ (k : Leg). not (has_node up k.node)) down r.0 r.1).0 in
        let leg : L x v ≡ Some (label_of r.0) =
        sym (to.1 x) ∙ subst (λ z. row_leg down z ≡ Some (label_of r.0)) r.2 (row_has down r.0 to.0 c) in
        some_right (is_some (L v x)) (L x v) (label_of r.0) leg
  ]
    where
      some_right : (b : Bool) (o : Option Label) (l : Label) → o ≡ Some l → (b || is_some o) ≡ true
      some_right true o l e = refl
      some_right false o l e = ap is_some e

  -- a node that is no neighbour is not listed
  pub not_listed : (x : ℕ) → are_neighbours L v x ≡ false → Contains (neighbours_in up down) x → ⊥
  not_listed x e c = false≢true (sym e ∙ listed_neighbour x c)

  -- a neighbour is below the number of nodes
  pub neighbour_within : (n x : ℕ) → AreLegsWithin n L → Contains (neighbours_in up down) x → x < n
  neighbour_within n x within c = at (L v x) (L x v) refl refl (listed_neighbour x c)
    where
      at : (a b : Option Label) → L v x ≡ a → L x v ≡ b → (is_some a || is_some b) ≡ true → x < n
      at (Some l) b p q t = (within v x l p).ends.1
      at None (Some l) p q t = (within x v l q).ends.0
      at None None p q t = cc

-- the depths after one more node gets at least this depth
pub deepened_more : (nodes : List ℕ) (i deep : ℕ) (before middle : List ℕ) → i < length nodes → get_or nodes i 0 < length middle →
    AreDeepened (take i nodes) deep before middle →
    AreDeepened (take (i + 1) nodes) deep before (set middle (get_or nodes i 0) (max (slice_index middle (get_or nodes i 0)) deep))
deepened_more nodes i deep before middle lt within known =
    let more = take_more nodes i 0 lt in
    let v : ℕ = get_or nodes i 0 in
    let value : ℕ = max (slice_index middle v) deep in
    let here : slice_index (set middle v value) v ≡ value = get_or-set_same middle v value 0 within in
    record {
      size = length-set middle v value ∙ known.size;
      anew = λ x c. elim (cases_eq x v) [
        | inl e ↦ subst (λ z. slice_index (set middle v value) z ≡ max (slice_index before z) deep) (sym e)
            (here ∙ elim (contains_or_not (take i nodes) v) [
              | inl earlier ↦ let r = known.anew v earlier in omega arith
              | inr away ↦ ap (λ z. max z deep) (known.kept v away)
            ])
        | inr ne ↦ elim (Contains-push_cases (take i nodes) v x (subst (λ l. Contains l x) more c)) [
          | inl earlier ↦ get_or-set_other middle v x value 0 ne ∙ known.anew x earlier
          | inr e ↦ absurd (ne (sym e))
        ]
      ];
      kept = λ x away.
          let ne : x ≢ v = λ e. away
          (subst (λ l. Contains l x) (sym more) (subst (Contains (take i nodes ++ v ∷ [])) (sym e) (Contains-push (take i nodes) v))) in
          get_or-set_other middle v x value 0 ne ∙ known.kept x
          (λ c. away (subst (λ l. Contains l x) (sym more) (Contains-append_left (take i nodes) (v ∷ []) x c)));
    }

-- only the depths of the neighbours grow
pub deeper_by : (L : Legs) (v : ℕ) (up down : List Leg) (before after : List ℕ) → AreLegsFrom L v up → AreLegsTo L v down →
    AreDeepened (neighbours_in up down) (slice_index before v + 1) before after →
    (x : ℕ) → slice_index after x ≡ next_depth L v (λ y. slice_index before y) x
deeper_by L v up down before after from to d x = at (are_neighbours L v x) refl
  where
    at : (b : Bool) → are_neighbours L v x ≡ b →
        slice_index after x ≡ (if are_neighbours L v x then max (slice_index before x) (slice_index before v + 1) else slice_index before x)
    at true e = rw e (d.anew x (neighbour_listed L v up down from to x e))
    at false e = rw e (d.kept x (not_listed L v up down from to x e))
