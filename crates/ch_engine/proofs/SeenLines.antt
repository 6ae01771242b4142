-- The lines that are seen from a node are those of the arcs that have it as their end.
use Rattle.std.proofs.Common.{◌≡◌, ℕ, ◌+◌, ◌<◌, List, [], ◌∷◌, ◌++◌, length, get_or, Contains, All, inl, inr, sym, ◌∙◌, subst, arith}
use Rattle.std.specs.List.{range_with_len}
use Rattle.std.proofs.lemmas.Bool.{cases_order}
use Rattle.std.proofs.lemmas.List.{get_or-append-add, get_or_append_left, get_or_default}
use Rattle.std.proofs.lemmas.List.FromFn.{get_or-range_with_len, length-range_with_len}
use Rattle.ch_graph.specs.declared.arc.InArc.{InArc}
use Rattle.ch_graph.specs.Graph.{Network, IsWithinLimits}
use Rattle.ch_graph.specs.Rows.{AreRowsOf}
use Rattle.ch_graph.specs.Sorting.{with_key}
use Rattle.ch_hierarchy.specs.declared.side.Side.{Side}
use Rattle.ch_hierarchy.specs.declared.side.Side.TheVariants.{Up, Down}
use Rattle.ch_graph.proofs.StableRows.{in_row, keys_below, row_has}
use Rattle.ch_engine.specs.Lines.{IsLineWord, IsSeen, Leads, arc_on, ended_lines, far_end, head_of, near_end, tail_of}
use Rattle.ch_engine.proofs.FirstLines.{word_for}

-- this relation holds of any two lines
abbrev Any : ℕ → ℕ → Type 0
Any a b = Unit {0}

-- what holds of each row holds with one row more
pub rows_pushed : (P : ℕ → List ℕ → Type 0) (rows : List (List ℕ)) (row : List ℕ) (n : ℕ) → length rows ≡ n →
    ((v : ℕ) → v < n → P v (get_or rows v [])) → P n row →
    (v : ℕ) → v < n + 1 → P v (get_or (rows ++ row ∷ []) v [])
rows_pushed P rows row n count before here v low = elim (cases_order v n) [
  | inl same ↦ subst (λ (m : ℕ). P m (get_or (rows ++ row ∷ []) m [])) (sym same)
      (subst (P n) (sym (subst (λ m. get_or (rows ++ row ∷ []) m [] ≡ row) (omega (arith, count))
      (get_or-append-add rows (row ∷ []) 0 []))) here)
  | inr (inl less) ↦ subst (P v) (sym (get_or_append_left rows (row ∷ []) [] v (omega (arith, count, less)))) (before v less)
  | inr (inr past) ↦ absurd (omega arith)
]

-- the numbers below n are in their list, and no others
line_low : (n line : ℕ) → Contains (range_with_len 0 n) line → line < n
line_low n line has =
    let size = length-range_with_len 0 n in
    let is = get_or-range_with_len 0 n has.0 line (omega (arith, size, has.1)) in
    omega (arith, size, has.1, is, has.2)

line_in : (n line : ℕ) → line < n → Contains (range_with_len 0 n) line
line_in n line low =
    let size = length-range_with_len 0 n in
    let none : 0 + line ≡ line = omega arith in
    (line, omega (arith, size, low), get_or-range_with_len 0 n line line low ∙ none)

-- the end of an arc is a node
end_low : (g : Network) → IsWithinLimits g → (side : Side) (line : ℕ) → line < length g.arcs → near_end side (arc_on g.arcs line) < g.nodes
end_low g limits Up line low = (limits.each line (record { from = 0; to = 0; weight = 0 }) low).ends.0
end_low g limits Down line low = (limits.each line (record { from = 0; to = 0; weight = 0 }) low).ends.1

-- all lines have a node as their end
pub ended_low : (g : Network) → IsWithinLimits g → (side : Side) → All (λ (p : ℕ × ℕ). p.0 < g.nodes) (ended_lines side g.arcs)
ended_low g limits side =
    keys_below (with_key (λ line. near_end side (arc_on g.arcs line))) g.nodes (range_with_len 0 (length g.arcs))
    (λ line has. end_low g limits side line (line_low (length g.arcs) line has))

-- an arc leads between the two ends from which it is seen
leads : (arcs : List InArc) (side : Side) (v x line : ℕ) → line < length arcs → near_end side (arc_on arcs line) ≡ v →
    far_end side (arc_on arcs line) ≡ x → Leads arcs (tail_of side v x) (head_of side v x) line
leads arcs Up v x line low near far = (low, near, far)
leads arcs Down v x line low near far = (low, far, near)

seen_so : (arcs : List InArc) (side : Side) (v x line : ℕ) → Leads arcs (tail_of side v x) (head_of side v x) line →
    (line < length arcs) × (near_end side (arc_on arcs line) ≡ v) × (far_end side (arc_on arcs line) ≡ x)
seen_so arcs Up v x line is = is
seen_so arcs Down v x line is = (is.0, is.2, is.1)

module _ (side : Side) (arcs : List InArc) (n : ℕ) (rows : List (List ℕ)) (are : AreRowsOf n (ended_lines side arcs) rows) (v : ℕ)
    (low : v < n) where
  -- a line of the row of a node is that of an arc with this end
  row_line : (line : ℕ) → Contains (get_or rows v []) line → (line < length arcs) × (near_end side (arc_on arcs line) ≡ v)
  row_line line has =
      let found = in_row (λ k. near_end side (arc_on arcs k)) Any v (range_with_len 0 (length arcs)) line
      (subst (λ q. Contains q line) (are.each v low) has) in
      (line_low (length arcs) line found.0, found.1)

  -- each line of a row is a line of the graph
  pub row_low : (i : ℕ) → i < length (get_or rows v []) → get_or (get_or rows v []) i 0 < length arcs
  row_low i inside =
      (row_line (get_or (get_or rows v []) i 0) (i, inside, get_or_default (get_or rows v []) i (get_or (get_or rows v []) i 0) 0 inside)).0

  -- the first line among those that are seen is the first of all between both ends
  pub seen_word : (x word : ℕ) → IsLineWord arcs (IsSeen arcs side (get_or rows v []) (length (get_or rows v [])) x) word →
      IsLineWord arcs (Leads arcs (tail_of side v x) (head_of side v x)) word
  seen_word x word = word_for arcs (IsSeen arcs side (get_or rows v []) (length (get_or rows v [])) x)
      (Leads arcs (tail_of side v x) (head_of side v x)) word
      (λ line seen. let at = row_line line (seen.0, seen.1, get_or_default (get_or rows v []) seen.0 line 0 seen.1 ∙ seen.2) in
      leads arcs side v x line at.0 at.1 seen.3)
      (λ line is.
      let so = seen_so arcs side v x line is in
      let has = subst (λ q. Contains q line) (sym (are.each v low))
      (row_has (λ k. near_end side (arc_on arcs k)) Any v (range_with_len 0 (length arcs)) line
      (line_in (length arcs) line so.0) so.1) in
      (has.0, has.1, get_or_default (get_or rows v []) has.0 0 line has.1 ∙ has.2, so.2))
