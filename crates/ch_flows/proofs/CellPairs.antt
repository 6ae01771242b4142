-- A cell of a row is a pair of the table, and each row of the table is a row of these pairs.
use Rattle.std.proofs.Common.{◌≡◌, ◌+◌, ◌*◌, ◌-◌, ◌<◌, ◌≤◌, ℕ, Bool, List, length, get_or, drop, ap, sym, subst, ◌∙◌, arith}
use Rattle.std.specs.List.{slice_range}
use Rattle.std.proofs.lemmas.List.{get_or-drop, get_or-take, length-drop, length-take-le}
use Rattle.ch_hierarchy.specs.Hierarchy.{LevelsAndLegs}
use Rattle.ch_flows.specs.declared.plan.Link.{Link}
use Rattle.ch_flows.specs.declared.tree.Tree.{Tree}
use Rattle.ch_flows.specs.Cells.{AreTargetTrees, IsRowAt, cell_sources, cell_targets}
use Rattle.ch_flows.specs.Plans.{AreCountedBy, IsPairAt, IsWayFound}
use Rattle.ch_flows.proofs.Cells.{cell_at, cells_count, row_ends}

pub cell_pair : (H : LevelsAndLegs) (links : List Link) (sources targets demands : List ℕ) (first source : ℕ) (trees : List Tree)
    (row : List ℕ) → IsRowAt sources targets demands first source trees row → (c : ℕ) → c < length row → (tree : Tree) →
    tree ≡ get_or trees c tree → (way : List ℕ) (found : Bool) → IsWayFound H links source tree.source way found →
    IsPairAt H links sources targets demands (first + c) way found (get_or row c 0)
cell_pair H links sources targets demands first source trees row at c low tree e way found is =
    let here = at c tree low in
    let target : get_or targets (first + c) 0 ≡ tree.source = here.1 ∙ sym (ap (λ (t : Tree). t.source) e) in (
      subst (λ (s : ℕ). IsWayFound H links s (get_or targets (first + c) 0) way found) (sym here.0)
          (subst (λ (t : ℕ). IsWayFound H links source t way found) (sym target) is),
      here.2,
    )

-- a row ends within the demands
pub row_fits : (sources demands : List ℕ) (trees : List Tree) (r first : ℕ) → r < length sources → first ≡ r * length trees →
    length demands ≡ length sources * length trees → first + length trees ≤ length demands
row_fits sources demands trees r first low at size = omega (arith, at, size, row_ends r (length sources) (length trees) low)

-- a row has a demand for each tree
pub row_size : (demands : List ℕ) (first n : ℕ) → first + n ≤ length demands → length (slice_range demands first (first + n)) ≡ n
row_size demands first n fits =
    let part : first + n - first ≡ n = omega arith in
    let rest : length (drop first demands) ≡ length demands - first = length-drop first demands in
    length-take-le (first + n - first) (drop first demands) (omega (arith, part, rest, fits)) ∙ part

pub row_at : (sources targets demands : List ℕ) (r first source : ℕ) (trees : List Tree) → AreTargetTrees targets (length targets) trees →
    r < length sources → first ≡ r * length trees → source ≡ get_or sources r 0 → first + length trees ≤ length demands →
    IsRowAt (cell_sources sources targets) (cell_targets sources targets) demands first source trees
    (slice_range demands first (first + length trees))
row_at sources targets demands r first source trees are low at is room c d less =
    let n = length trees in
    let width : n ≡ length targets = are.0 in
    let part : first + n - first ≡ n = omega arith in
    let size : length (slice_range demands first (first + n)) ≡ n = row_size demands first n room in
    let inside : c < length targets = omega (arith, less, size, width) in
    let cell = cell_at targets sources r c low inside in
    let here : r * length targets + c ≡ first + c = ap (λ (k : ℕ). r * k + c) (sym width) ∙ ap (λ (k : ℕ). k + c) (sym at) in (
      subst (λ (k : ℕ). get_or (cell_sources sources targets) k 0 ≡ get_or sources r 0) here cell.0 ∙ sym is,
      subst (λ (k : ℕ). get_or (cell_targets sources targets) k 0 ≡ get_or targets c 0) here cell.1 ∙ sym (are.1 c d inside),
      sym (get_or-take (first + n - first) (drop first demands) c 0 (omega (arith, less, size, part)) ∙ get_or-drop first demands c 0),
    )

-- once the rows of all sources are counted, all cells are
pub all_counted : (H : LevelsAndLegs) (links : List Link) (sources targets demands : List ℕ) (total : (ℕ → ℕ) → ℕ) (r first missed : ℕ)
    (trees : List Tree) → AreTargetTrees targets (length targets) trees → r ≡ length sources → first ≡ r * length trees →
    AreCountedBy H links (cell_sources sources targets) (cell_targets sources targets) demands first total missed →
    AreCountedBy H links (cell_sources sources targets) (cell_targets sources targets) demands (length (cell_sources sources targets))
    total missed
all_counted H links sources targets demands total r first missed trees are end at counted =
    let count : first ≡ length (cell_sources sources targets) =
    at ∙ ap (λ (n : ℕ). n * length trees) end ∙ ap (λ (n : ℕ). length sources * n) are.0 ∙ sym (cells_count targets sources) in
    subst (λ (n : ℕ). AreCountedBy H links (cell_sources sources targets) (cell_targets sources targets) demands n total missed) count
    counted
