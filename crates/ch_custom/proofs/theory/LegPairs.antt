-- Pairs of legs, and the legs of them in one direction.
use Rattle.std.proofs.Common.{◌≡◌, ℕ, ◌<◌, Bool, true, false, cond, List, [], ◌∷◌, length, get_or, set, refl, sym}
use Rattle.std.proofs.Common.{◌∙◌, ap}
use Rattle.std.specs.Prelude.{◌==◌, ◌&&◌, nat_lt, map}
use Rattle.std.proofs.lemmas.List.{get_or-map, length-map, map-set, set-get_or}
use Rattle.ch_hierarchy.specs.declared.leg.Leg.{Leg}
use Rattle.ch_hierarchy.specs.declared.side.Side.{Side}
use Rattle.ch_hierarchy.specs.declared.side.Side.TheVariants.{Up, Down}
use Rattle.ch_hierarchy.specs.Side.{other}
use Rattle.ch_hierarchy.specs.Rows.{row}
use Rattle.ch_custom.specs.declared.leg_pair.LegPair.{LegPair}
use Rattle.ch_custom.specs.declared.leg_pair.TheConstants.{NO_MIDDLE}
use Rattle.ch_custom.specs.LegPairs.{leg_of, row_of, rows_at, pairs_row, no_pair, lightened_pair}
use Rattle.ch_custom.specs.Opening.{no_leg, lightened}

-- a leg is at the node of its pair
pub leg_node : (side : Side) (p : LegPair) → (leg_of side p).node ≡ p.node
leg_node Up p = refl
leg_node Down p = refl

-- the legs of a row
pub leg_here : (side : Side) (xs : List LegPair) (k : ℕ) (d : LegPair) (e : Leg) → k < length xs →
    get_or (row_of side xs) k e ≡ leg_of side (get_or xs k d)
leg_here side xs k d e lt = get_or-map (leg_of side) xs k d e lt

pub row_size : (side : Side) (xs : List LegPair) → length (row_of side xs) ≡ length xs
row_size side xs = length-map xs (leg_of side)

-- the node of a leg of a row
pub node_here : (side : Side) (xs : List LegPair) (k : ℕ) (d : LegPair) (e : Leg) → k < length xs →
    (get_or (row_of side xs) k e).node ≡ (get_or xs k d).node
node_here side xs k d e lt = ap (λ (l : Leg). l.node) (leg_here side xs k d e lt) ∙ leg_node side (get_or xs k d)

-- the rows in one direction
pub row_at : (side : Side) (rows : List (List LegPair)) (v : ℕ) → v < length rows →
    row (rows_at side rows) v ≡ row_of side (pairs_row rows v)
row_at side rows v lt = get_or-map (row_of side) rows v [] [] lt

pub rows_size : (side : Side) (rows : List (List LegPair)) → length (rows_at side rows) ≡ length rows
rows_size side rows = length-map rows (row_of side)

-- the rows without a leg
opened_row : (side : Side) (nodes : List ℕ) → row_of side (map no_pair nodes) ≡ map no_leg nodes
opened_row Up [] = refl
opened_row Down [] = refl
opened_row Up (x ∷ xs) = ap (λ z. no_leg x ∷ z) (opened_row Up xs)
opened_row Down (x ∷ xs) = ap (λ z. no_leg x ∷ z) (opened_row Down xs)

pub opened_rows : (side : Side) (rows : List (List ℕ)) → rows_at side (map (λ r. map no_pair r) rows) ≡ map (λ r. map no_leg r) rows
opened_rows side [] = refl
opened_rows side (r ∷ rows) = λ i. opened_row side r i ∷ opened_rows side rows i

-- the leg of a pair that is lightened, and the other leg
pub lightened_leg : (side : Side) (y weight : ℕ) (p : LegPair) →
    leg_of side (lightened_pair side y weight p) ≡ lightened y weight (leg_of side p)
lightened_leg Up y weight p = at (p.node == y && nat_lt weight p.up.weight)
  where
    at : (b : Bool) → leg_of Up
        (cond b (record { node = p.node; up = record { weight = weight; arcs = 1; middle = NO_MIDDLE }; down = p.down }) p) ≡ cond b
        (leg_of Up (record { node = p.node; up = record { weight = weight; arcs = 1; middle = NO_MIDDLE }; down = p.down })) (leg_of Up p)
    at true = refl
    at false = refl
lightened_leg Down y weight p = at (p.node == y && nat_lt weight p.down.weight)
  where
    at : (b : Bool) → leg_of Down
        (cond b (record { node = p.node; up = p.up; down = record { weight = weight; arcs = 1; middle = NO_MIDDLE } }) p) ≡ cond b
        (leg_of Down (record { node = p.node; up = p.up; down = record { weight = weight; arcs = 1; middle = NO_MIDDLE } })) (leg_of Down p)
    at true = refl
    at false = refl

pub lightened_kept : (side : Side) (y weight : ℕ) (p : LegPair) → leg_of (other side) (lightened_pair side y weight p) ≡ leg_of
    (other side) p
lightened_kept Up y weight p = at (p.node == y && nat_lt weight p.up.weight)
  where
    at : (b : Bool) → leg_of Down
        (cond b (record { node = p.node; up = record { weight = weight; arcs = 1; middle = NO_MIDDLE }; down = p.down }) p) ≡ leg_of Down p
    at true = refl
    at false = refl
lightened_kept Down y weight p = at (p.node == y && nat_lt weight p.down.weight)
  where
    at : (b : Bool) → leg_of Up
        (cond b (record { node = p.node; up = p.up; down = record { weight = weight; arcs = 1; middle = NO_MIDDLE } }) p) ≡ leg_of Up p
    at true = refl
    at false = refl

-- the legs of a row that is lightened, and those in the other direction
row_lightened : (side : Side) (y weight : ℕ) (ps : List LegPair) →
    row_of side (map (lightened_pair side y weight) ps) ≡ map (lightened y weight) (row_of side ps)
row_lightened side y weight [] = refl
row_lightened side y weight (p ∷ ps) = λ i. lightened_leg side y weight p i ∷ row_lightened side y weight ps i

row_kept : (side : Side) (y weight : ℕ) (ps : List LegPair) →
    row_of (other side) (map (lightened_pair side y weight) ps) ≡ row_of (other side) ps
row_kept side y weight [] = refl
row_kept side y weight (p ∷ ps) = λ i. lightened_kept side y weight p i ∷ row_kept side y weight ps i

module _ (side : Side) (rows new : List (List LegPair)) (v y weight : ℕ) (lt : v < length rows)
    (edited : new ≡ set rows v (map (lightened_pair side y weight) (pairs_row rows v))) where
  -- the rows after one is lightened, in its direction and in the other
  pub lightened_rows : rows_at side new ≡ set (rows_at side rows) v (map (lightened y weight) (row (rows_at side rows) v))
  lightened_rows =
      ap (rows_at side) edited ∙ map-set (row_of side) rows v (map (lightened_pair side y weight) (pairs_row rows v))
      ∙ ap (set (rows_at side rows) v) (row_lightened side y weight (pairs_row rows v)
      ∙ ap (map (lightened y weight)) (sym (row_at side rows v lt)))

  pub kept_rows : rows_at (other side) new ≡ rows_at (other side) rows
  kept_rows =
      ap (rows_at (other side)) edited ∙ map-set (row_of (other side)) rows v (map (lightened_pair side y weight) (pairs_row rows v))
      ∙ ap (set (rows_at (other side) rows) v) (row_kept side y weight (pairs_row rows v) ∙ sym (row_at (other side) rows v lt))
      ∙ set-get_or (rows_at (other side) rows) v []
