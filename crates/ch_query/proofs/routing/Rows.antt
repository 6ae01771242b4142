-- A row has at most one leg for a node.
use Rattle.std.proofs.Common.{◌≡◌, ℕ, ◌<◌, List, [], Contains, sym, ◌∙◌, ap, arith, get_or, length, inl, inr}
use Rattle.std.proofs.lemmas.Bool.{cases_lt}
use Rattle.std.proofs.lemmas.List.{get_or_default, get_or_past}
use Rattle.ch_hierarchy.specs.declared.leg.Leg.{Leg}
use Rattle.ch_hierarchy.specs.Hierarchy.{LevelsAndLegs, nodes_of, IsLevelled}
use Rattle.ch_hierarchy.specs.Rows.{row, IsRow}
use Rattle.ch_hierarchy.specs.declared.side.Side.{Side}
use Rattle.ch_hierarchy.specs.declared.side.Side.TheVariants.{Up, Down}
use Rattle.ch_hierarchy.specs.Side.{rows_of}
use Rattle.ch_query.proofs.one_side.Expanding.{rows_size}

-- two legs of a row at the same node are equal
pub row_one : (legs : List Leg) → IsRow legs → (a b : Leg) → Contains legs a → Contains legs b → a.node ≡ b.node → a ≡ b
row_one legs order a b ha hb same = elim (cases_lt ha.0 hb.0) [
  | inl lt ↦ absurd (let r = order ha.0 hb.0 a lt hb.1 in let x = ap (λ (l : Leg). l.node) ha.2 in
      let y = ap (λ (l : Leg). l.node) at_b in omega arith)
  | inr ge ↦ elim (cases_lt hb.0 ha.0) [
    | inl lt ↦ absurd (let r = order hb.0 ha.0 a lt ha.1 in let x = ap (λ (l : Leg). l.node) ha.2 in
        let y = ap (λ (l : Leg). l.node) at_b in omega arith)
    | inr le ↦ let k : ha.0 ≡ hb.0 = omega arith in sym ha.2 ∙ ap (λ i. get_or legs i a) k ∙ at_b
  ]
]
  where
    at_b : get_or legs hb.0 a ≡ b
    at_b = get_or_default legs hb.0 a b hb.1 ∙ hb.2

-- each row is in order of node
pub rows_ordered : (H : LevelsAndLegs) → IsLevelled H → (side : Side) (v : ℕ) → IsRow (row (rows_of H side) v)
rows_ordered H k Up v = (k.up.1 v).0
rows_ordered H k Down v = (k.down.1 v).0

-- a node whose row has a leg is a node of the hierarchy
pub has_row : (H : LevelsAndLegs) → IsLevelled H → (side : Side) (v : ℕ) (l : Leg) → Contains (row (rows_of H side) v) l → v < nodes_of H
has_row H k side v l has = elim (cases_lt v (length (rows_of H side))) [
  | inl lt ↦ let size = rows_size H k side in omega arith
  | inr ge ↦ absurd (let none = ap length (get_or_past (rows_of H side) v [] ge) in let lt = has.1 in omega arith)
]
