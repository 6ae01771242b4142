-- The cells of a table as pairs: where each row begins.
use Rattle.std.proofs.Common.{◌≡◌, ℕ, zero, suc, ◌+◌, ◌*◌, ◌<◌, ◌≤◌, List, [], ◌∷◌, length, get_or, replicate}
use Rattle.std.proofs.Common.{◌∙◌, subst, arith}
use Rattle.std.proofs.lemmas.List.{get_or-append-add, get_or-replicate, get_or_append_left, length-append, length-replicate}
use Rattle.std.proofs.Math.Nat.{mul-le-mul_right, suc-mul}
use Rattle.ch_flows.specs.Cells.{cell_sources, cell_targets}

module _ (targets : List ℕ) where
  -- there are as many cells as sources times targets
  pub cells_count : (sources : List ℕ) → length (cell_sources sources targets) ≡ length sources * length targets
  cells_count [] = omega arith
  cells_count (s ∷ sources) =
      let n = length targets in
      let size : length (replicate n s) ≡ n = length-replicate n s in
      let rows : suc (length sources) * n ≡ length sources * n + n = suc-mul (length sources) n in
      omega (arith, length-append (replicate n s) (cell_sources sources targets), size, cells_count sources, rows)

  -- the source and the target of a cell
  pub cell_at : (sources : List ℕ) (r c : ℕ) → r < length sources → c < length targets →
      (get_or (cell_sources sources targets) (r * length targets + c) 0 ≡ get_or sources r 0)
      × (get_or (cell_targets sources targets) (r * length targets + c) 0 ≡ get_or targets c 0)
  cell_at [] r c low less = absurd (omega (arith, low))
  cell_at (s ∷ sources) zero c low less =
      let n = length targets in
      let at : c ≡ 0 * n + c = omega arith in (
        subst (λ (k : ℕ). get_or (cell_sources (s ∷ sources) targets) k 0 ≡ s) at
            (get_or_append_left (replicate n s) (cell_sources sources targets) 0 c (omega (arith, less, length-replicate n s))
            ∙ get_or-replicate n c s 0 less),
        subst (λ (k : ℕ). get_or (cell_targets (s ∷ sources) targets) k 0 ≡ get_or targets c 0) at
            (get_or_append_left targets (cell_targets sources targets) 0 c less),
      )
  cell_at (s ∷ sources) (suc r) c low less =
      let n = length targets in
      let rest = cell_at sources r c (omega (arith, low)) less in
      let size : length (replicate n s) ≡ n = length-replicate n s in
      let row : suc r * n ≡ r * n + n = suc-mul r n in
      let at : length (replicate n s) + (r * n + c) ≡ suc r * n + c = omega (arith, size, row) in
      let other : n + (r * n + c) ≡ suc r * n + c = omega (arith, row) in (
        subst (λ (k : ℕ). get_or (cell_sources (s ∷ sources) targets) k 0 ≡ get_or sources r 0) at
            (get_or-append-add (replicate n s) (cell_sources sources targets) (r * n + c) 0 ∙ rest.0),
        subst (λ (k : ℕ). get_or (cell_targets (s ∷ sources) targets) k 0 ≡ get_or targets c 0) other
            (get_or-append-add targets (cell_targets sources targets) (r * n + c) 0 ∙ rest.1),
      )

-- a row ends within the cells
pub row_ends : (r rows n : ℕ) → r < rows → r * n + n ≤ rows * n
row_ends r rows n low =
    let next : suc r ≤ rows = omega (arith, low) in
    omega (arith, suc-mul r n, mul-le-mul_right n next)
