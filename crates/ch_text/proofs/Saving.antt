-- The nodes of a hierarchy in order of level, and the legs of each.
use Rattle.std.proofs.Common.{◌≡◌, ℕ, zero, suc, ◌+◌, ◌-◌, ◌<◌, ◌≤◌, List, [], ◌∷◌, ◌++◌, length, take, get_or}
use Rattle.std.proofs.Common.{refl, sym, ◌∙◌, ap, subst, arith, length-append}
use Rattle.std.specs.Prelude.{All, slice_index, map, codes, decimal}
use Rattle.std.specs.List.{flat_map}
use Rattle.std.proofs.lemmas.List.{get_or_default, take_more, flat_map_more, length-map}
use Rattle.std.proofs.lemmas.List.Concat.{flat_map-append}
use Rattle.ch_graph.specs.declared.limits.TheConstants.{MOST_NODES}
use Rattle.ch_graph.specs.declared.saved.SavedLeg.{SavedLeg}
use Rattle.ch_hierarchy.specs.declared.leg.Leg.{Leg}
use Rattle.ch_hierarchy.specs.Rows.{row, IsRow}
use Rattle.ch_hierarchy.specs.Hierarchy.{LevelsAndLegs, nodes_of, IsLegUp, AreLegsUp, IsLevelled}
use Rattle.ch_hierarchy.specs.Saved.{AreLevelsOf}
use Rattle.ch_hierarchy.proofs.theory.LevelOrder.{node_at}
use Rattle.ch_hierarchy.proofs.theory.SavedLevels.{order_of}
use Rattle.ch_hierarchy.specs.Written.{IsByLevel, legs_at}
use Rattle.ch_text.specs.SaveText.{leg_text, order_text, saved_text}

-- each node below v is at the place of its level
pub record HasPlaced (H : LevelsAndLegs) (order : List ℕ) (v : ℕ) : Type 0 where
  pub size : length order ≡ nodes_of H
  pub each : (u : ℕ) → u < v → slice_index order (slice_index H.level u - 1) ≡ u

module _ (H : LevelsAndLegs) (is : IsLevelled H) where
  -- all nodes are placed
  pub all_placed : (order : List ℕ) (v : ℕ) → HasPlaced H order v → nodes_of H ≤ v → IsByLevel H order
  all_placed order v h end =
      let levels : AreLevelsOf order H.level = record {
        count = sym h.size;
        each = λ i lt. (
            let at = node_at H is i (let s = h.size in omega arith) in
            let placed : slice_index order i ≡ at.0 = subst (λ k. slice_index order k ≡ at.0) (let e = at.2 in omega arith)
            (h.each at.0 (let l = at.1 in omega arith)) in
            ap (slice_index H.level) placed ∙ at.2
            );
      } in
      record { nodes = order_of order H.level levels; levels = levels }

-- the leg at place i of a row leads to node i or a later one
ascends : (legs : List Leg) → IsRow legs → (d : Leg) (i : ℕ) → i < length legs → i ≤ (get_or legs i d).node
ascends legs rises d zero lt = omega arith
ascends legs rises d (suc i) lt =
    let before = ascends legs rises d i (omega arith) in
    let less = rises i (suc i) d (omega arith) lt in
    omega arith

module _ (H : LevelsAndLegs) (is : IsLevelled H) (rows : List (List Leg)) (are : AreLegsUp H rows) (v : ℕ) where
  -- a row has at most MOST_NODES legs
  pub row_short : length (row rows v) ≤ MOST_NODES
  row_short = at (row rows v) (are.1 v).0 (are.1 v).1
    where
      at : (legs : List Leg) → IsRow legs → All (IsLegUp H v) legs → length legs ≤ MOST_NODES
      at [] rises all = omega arith
      at (l ∷ legs) rises all =
          let last = ascends (l ∷ legs) rises l (length legs) (omega arith) in
          let node = (all (length legs) l (omega arith)).node in
          let count = is.count in
          omega arith

-- the legs of one more node are counted
pub counted : (H : LevelsAndLegs) (nodes : List ℕ) (i count v up down : ℕ) → i < length nodes → v ≡ get_or nodes i 0 →
    count ≡ length (flat_map (legs_at H) (take i nodes)) →
    up ≡ length (row H.up v) → down ≡ length (row H.down v) → count + (up + down) ≡ length (flat_map (legs_at H) (take (i + 1) nodes))
counted H nodes i count v up down lt is so_far ups downs =
    let f = legs_at H in
    let whole : flat_map f (take i nodes) ++ f v ≡ flat_map f (take (i + 1) nodes) = ap (λ x. flat_map f (take i nodes) ++ f x) is
    ∙ flat_map_more f [] (take i nodes) (get_or nodes i 0) ∙ ap (flat_map f) (sym (take_more nodes i 0 lt)) in
    let size : length (f v) ≡ length (row H.up v) + length (row H.down v) = simp (length-append, length-map) in
    let both : length (flat_map f (take i nodes) ++ f v) ≡ length (flat_map f (take i nodes)) + length (f v) =
    length-append (flat_map f (take i nodes)) (f v) in
    let e : length (flat_map f (take i nodes) ++ f v) ≡ length (flat_map f (take (i + 1) nodes)) = ap length whole in
    omega arith

-- the text of items that are made of parts is the text of all their parts
pub text_of_each : {X Y : Type 0} (f : X → List ℕ) (g : Y → List X) (ys : List Y) →
    flat_map f (flat_map g ys) ≡ flat_map (λ y. flat_map f (g y)) ys
text_of_each f g [] = refl
text_of_each f g (y ∷ ys) = flat_map-append f (g y) (flat_map g ys) ∙ ap (λ t. flat_map f (g y) ++ t) (text_of_each f g ys)

-- the text of converted items is the text of each item after its conversion
pub text_of_turned : {X Y : Type 0} (f : X → List ℕ) (g : Y → X) (ys : List Y) → flat_map f (map g ys) ≡ flat_map (λ y. f (g y)) ys
text_of_turned f g [] = refl
text_of_turned f g (y ∷ ys) = ap (λ t. f (g y) ++ t) (text_of_turned f g ys)

-- the problem line, the order and the legs make the text
pub whole_text : (order : List ℕ) (legs : List SavedLeg) (n m : ℕ) (headed ordered text : List ℕ) → n ≡ length order → m ≡ length legs →
    headed ≡ codes "p ch " ++ decimal n ++ codes " " ++ decimal m ++ codes "\n" → ordered ≡ headed ++ flat_map order_text order →
    text ≡ ordered ++ flat_map leg_text legs →
    text ≡ saved_text (record { order = order; legs = legs })
whole_text order legs n m headed ordered text n_is m_is a b c = rw (c, b, a, n_is, m_is) refl

-- the nodes in order of level are nodes of the hierarchy
pub all_nodes : (H : LevelsAndLegs) (order : List ℕ) → IsByLevel H order → All (λ node. node < nodes_of H) order
all_nodes H order is = λ k d lt. subst (λ v. v < nodes_of H) (get_or_default order k 0 d lt) (is.nodes.within k lt)
