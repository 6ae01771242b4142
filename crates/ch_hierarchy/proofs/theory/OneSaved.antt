-- An order and a list of legs name at most one levelled hierarchy.
use Rattle.std.proofs.Common.{◌≡◌, ℕ, ◌<◌, List, [], length, Contains, Option, refl, sym, ◌∙◌, ap, subst, arith, inl, inr}
use Rattle.std.specs.Prelude.{slice_index}
use Rattle.std.proofs.lemmas.List.{ext_get_or}
use Rattle.std.proofs.lemmas.List.Elements.{All-contains}
use Rattle.ch_graph.specs.declared.cost.Cost.{Cost}
use Rattle.ch_hierarchy.specs.declared.leg.Leg.{Leg}
use Rattle.ch_hierarchy.specs.Hierarchy.{LevelsAndLegs, nodes_of, IsLegUp, IsLevelled}
use Rattle.ch_hierarchy.specs.Rows.{row, IsRow}
use Rattle.ch_hierarchy.specs.Kept.{IsLeg}
use Rattle.ch_graph.specs.Saved.{OrderAndLegs}
use Rattle.ch_hierarchy.specs.Saved.{NamesHierarchy}
use Rattle.ch_hierarchy.proofs.theory.Ordered.{ordered_same}
use Rattle.ch_hierarchy.specs.Turned.{turned_hierarchy}
use Rattle.ch_hierarchy.proofs.theory.SavedLevels.{levels_same}
use Rattle.ch_hierarchy.proofs.theory.Turned.{turned_levelled, turned_leg}

-- a leg is determined by its parts
same_leg : (l k : Leg) → l.node ≡ k.node → l.cost ≡ k.cost → l.middle ≡ k.middle → l ≡ k
same_leg l k a b c = λ i. record { node = a i; cost = b i; middle = c i }

-- if each leg of one hierarchy is a leg of another with the same levels, it is in the same up row
up_moves : (H K : LevelsAndLegs) → IsLevelled H → IsLevelled K → H.level ≡ K.level →
    ((u w : ℕ) (c : Cost) (m : Option ℕ) → IsLeg H u w c m → IsLeg K u w c m) →
    (v : ℕ) (l : Leg) → Contains (row H.up v) l → Contains (row K.up v) l
up_moves H K h k same moves v l c = at (moves v l.node l.cost l.middle (l, refl, refl, inl (c, refl)))
    (All-contains (IsLegUp H v) (row H.up v) l (h.up.1 v).1 c).higher
  where
    at : IsLeg K v l.node l.cost l.middle → slice_index H.level v < slice_index H.level l.node → Contains (row K.up v) l
    at (m, cost, middle, inl is) higher = subst (Contains (row K.up v)) (same_leg m l is.1 cost middle) is.0
    at (m, cost, middle, inr is) higher =
        let lower = (All-contains (IsLegUp K l.node) (row K.down l.node) m (k.down.1 l.node).1 is.0).higher in
        let back : slice_index K.level l.node < slice_index K.level v =
        subst (λ q. slice_index K.level l.node < slice_index K.level q) is.1 lower in
        let here : slice_index H.level l.node < slice_index H.level v =
        subst (λ ls. slice_index ls l.node < slice_index ls v) (sym same) back in
        absurd (omega arith)

-- the same for the down rows
down_moves : (H K : LevelsAndLegs) → IsLevelled H → IsLevelled K → H.level ≡ K.level →
    ((u w : ℕ) (c : Cost) (m : Option ℕ) → IsLeg H u w c m → IsLeg K u w c m) →
    (v : ℕ) (l : Leg) → Contains (row H.down v) l → Contains (row K.down v) l
down_moves H K h k same moves =
    up_moves (turned_hierarchy H) (turned_hierarchy K) (turned_levelled H h) (turned_levelled K k) same
    (λ u w c m leg. turned_leg K w u c m (moves w u c m (turned_leg (turned_hierarchy H) u w c m leg)))

-- rows with the same members are equal
rows_same : (n : ℕ) (xs ys : List (List Leg)) → length xs ≡ n → length ys ≡ n → ((v : ℕ) → IsRow (row xs v)) →
    ((v : ℕ) → IsRow (row ys v)) →
    ((v : ℕ) (l : Leg) → Contains (row xs v) l → Contains (row ys v) l) →
    ((v : ℕ) (l : Leg) → Contains (row ys v) l → Contains (row xs v) l) → xs ≡ ys
rows_same n xs ys p q a b f g =
    ext_get_or [] xs ys (p ∙ sym q) (λ v lt.
    ordered_same (λ (x y : Leg). x.node < y.node) (λ x y less more. omega arith) (row xs v) (row ys v) (a v) (b v) (f v) (g v))

-- two hierarchies with the same name are equal
pub one_saved : (s : OrderAndLegs) (H K : LevelsAndLegs) → NamesHierarchy s H → NamesHierarchy s K → H ≡ K
one_saved s H K a b =
    let same = levels_same s.order H.level K.level a.levels b.levels in
    let size : nodes_of K ≡ nodes_of H = ap length (sym same) in
    let h = a.levelled in
    let k = b.levelled in
    let there : (u w : ℕ) (c : Cost) (m : Option ℕ) → IsLeg H u w c m →
    IsLeg K u w c m = λ u w c m leg. (b.legs u w c m).1 ((a.legs u w c m).0 leg) in
    let back : (u w : ℕ) (c : Cost) (m : Option ℕ) → IsLeg K u w c m →
    IsLeg H u w c m = λ u w c m leg. (a.legs u w c m).1 ((b.legs u w c m).0 leg) in
    let ups = rows_same (nodes_of H) H.up K.up h.up.0 (k.up.0 ∙ size) (λ v. (h.up.1 v).0) (λ v. (k.up.1 v).0)
    (up_moves H K h k same there) (up_moves K H k h (sym same) back) in
    let downs = rows_same (nodes_of H) H.down K.down h.down.0 (k.down.0 ∙ size) (λ v. (h.down.1 v).0) (λ v. (k.down.1 v).0)
    (down_moves H K h k same there) (down_moves K H k h (sym same) back) in
    λ i. record { level = same i; up = ups i; down = downs i }
