-- The trees of a table's targets, and where the tree of a source meets them.
use Rattle.std.proofs.Common.{◌≡◌, ℕ, ◌<◌, List, [], ◌∷◌, length, map, get_or, All, inl, inr, sym, ◌∙◌, ap, subst, arith}
use Rattle.std.proofs.lemmas.Bool.{cases_lt}
use Rattle.std.proofs.lemmas.List.{get_or-map, get_or_past, length-map}
use Rattle.std.proofs.lemmas.List.Elements.{Contains-get_or}
use Rattle.ch_hierarchy.specs.Hierarchy.{IsLevelled, LevelsAndLegs, nodes_of}
use Rattle.ch_hierarchy.specs.declared.side.Side.TheVariants.{Up, Down}
use Rattle.ch_flows.specs.declared.meeting.Found.{Found}
use Rattle.ch_flows.specs.declared.meeting.Meeting.{Meeting}
use Rattle.ch_flows.specs.declared.gathering.Branch.{Branch}
use Rattle.ch_flows.specs.declared.plan.Link.{Link}
use Rattle.ch_flows.specs.declared.table.Columns.{Columns}
use Rattle.ch_flows.specs.declared.table.Row.{Row}
use Rattle.ch_flows.specs.declared.tree.Mark.{Mark}
use Rattle.ch_flows.specs.declared.tree.Tree.{Tree}
use Rattle.ch_flows.specs.Cells.{AreTreesOfNodes, IsColumns, IsRowTree}
use Rattle.ch_flows.specs.Found.{IsFound}
use Rattle.ch_flows.specs.Meetings.{AreMeetings, AreStops, IsMeetingSoFar, kept_of, list_at}
use Rattle.ch_flows.specs.Trees.{AreBranches, AreMarksInOrder, IsTree}
use Rattle.ch_flows.proofs.Trees.{kept_low, marks_ordered}

-- a list with a place has some tree
some_tree : (trees : List Tree) (c : ℕ) → c < length trees → Tree
some_tree [] c low = absurd (omega (arith, low))
some_tree (tree ∷ trees) c low = tree

module _ (H : LevelsAndLegs) (branches : List Branch) (trees : List Tree) (are : AreTreesOfNodes H branches trees) where
  -- the entries of tree c
  list_is : (c : ℕ) (tree : Tree) → c < length trees → list_at (map kept_of trees) c ≡ kept_of (get_or trees c tree)
  list_is c tree low = get_or-map kept_of trees c tree [] low

  pub count : length (map kept_of trees) ≡ length trees
  count = length-map trees kept_of

  -- the entries that are kept are nodes
  pub lists_low : IsLevelled H → All (λ (list : List (ℕ × Mark)). All (λ (e : ℕ × Mark). e.0 < nodes_of H) list) (map kept_of trees)
  lists_low levelled c d low =
      let inside : c < length trees = omega (arith, low, count) in
      let tree = some_tree trees c inside in
      let is = are c tree inside in
      subst (λ (l : List (ℕ × Mark)). All (λ (e : ℕ × Mark). e.0 < nodes_of H) l)
      (sym (get_or-map kept_of trees c tree d inside)) (kept_low H levelled Down branches (get_or trees c tree) is.0 is.1)

  -- they are in order of node
  pub lists_ordered : All AreMarksInOrder (map kept_of trees)
  lists_ordered c d low =
      let inside : c < length trees = omega (arith, low, count) in
      let tree = some_tree trees c inside in
      subst AreMarksInOrder (sym (get_or-map kept_of trees c tree d inside))
      (marks_ordered (get_or trees c tree).kept.items (are c tree inside).1.kept.order)

module _ (H : LevelsAndLegs) (links : List Link) (columns : Columns) (is : IsColumns H links columns) where
  -- each stop is of a tree
  pub stops_within : (n : ℕ) → n ≡ length columns.trees.items → (v : ℕ) → All (λ (stop : ℕ × Mark). stop.0 < n) (get_or columns.stops v [])
  stops_within n all v k d low = elim (cases_lt v (length columns.stops)) [
    | inl inside ↦ (
        let stop = get_or (get_or columns.stops v []) k d in
        let at = (is.stops v inside).sound stop.0 stop.1 (Contains-get_or (get_or columns.stops v []) k d low) in
        omega (arith, at.0, all, count H columns.branches.items columns.trees.items is.trees))
    | inr past ↦ absurd (
        let none = ap length (get_or_past columns.stops v [] past) in
        omega (arith, low, none))
  ]

  -- where the tree of a source meets tree c
  pub cell_meeting : (row : Tree) (branches : List Branch) → IsTree Up H branches row → (kept : List (ℕ × Mark)) →
      kept ≡ row.kept.items → (meetings : List Meeting) → ((lists : List (List (ℕ × Mark))) →
      length lists ≡ length columns.trees.items → AreMarksInOrder kept → All AreMarksInOrder lists →
      AreStops columns.stops lists → AreMeetings kept lists (length kept) meetings) → (c : ℕ) → c < length columns.trees.items →
      (tree : Tree) → tree ≡ get_or columns.trees.items c tree → (meeting : Meeting) → meeting ≡ get_or meetings c Meeting.Unknown →
      IsMeetingSoFar row.kept.items tree.kept.items (length row.kept.items) meeting
  cell_meeting row branches up kept e meetings made c low tree at meeting read =
      let trees = columns.trees.items in
      let lists = map kept_of trees in
      let size = count H columns.branches.items trees is.trees in
      let order = subst AreMarksInOrder (sym e) (marks_ordered row.kept.items up.kept.order) in
      let here = made lists size order (lists_ordered H columns.branches.items trees is.trees) is.stops c (omega (arith, low, size)) in
      let list : list_at lists c ≡ tree.kept.items = list_is H columns.branches.items trees is.trees c tree low ∙ sym (ap kept_of at) in
      let one = subst (λ (l : List (ℕ × Mark)). IsMeetingSoFar l (list_at lists c) (length l) (get_or meetings c Meeting.Unknown)) e here in
      let two =
      subst (λ (l : List (ℕ × Mark)). IsMeetingSoFar row.kept.items l (length row.kept.items) (get_or meetings c Meeting.Unknown)) list
      one in
      subst (IsMeetingSoFar row.kept.items tree.kept.items (length row.kept.items)) (sym read) two

  -- the way that was found between the source of a row and target c
  pub cell_found : (row : Row) → IsRowTree H links row → (kept : List (ℕ × Mark)) → kept ≡ row.tree.kept.items →
      (meetings : List Meeting) → ((lists : List (List (ℕ × Mark))) → length lists ≡ length columns.trees.items → AreMarksInOrder kept →
      All AreMarksInOrder lists → AreStops columns.stops lists → AreMeetings kept lists (length kept) meetings) → (c : ℕ) →
      c < length columns.trees.items → (tree : Tree) → tree ≡ get_or columns.trees.items c tree → (meeting : Meeting) →
      meeting ≡ get_or meetings c Meeting.Unknown → (listed : List ℕ) (found : Found) → ((a b : List Branch) →
      AreBranches Up H links a → AreBranches Down H links b → IsTree Up H a row.tree → IsTree Down H b tree →
      IsMeetingSoFar row.tree.kept.items tree.kept.items (length row.tree.kept.items) meeting →
      IsFound H links a b row.tree.source tree.source listed found) →
      IsFound H links row.branches.items columns.branches.items row.tree.source tree.source listed found
  cell_found row row_is kept e meetings made c low tree at meeting read listed found find =
      find row.branches.items columns.branches.items row_is.branches is.branches row_is.tree
      (subst (IsTree Down H columns.branches.items) (sym at) (is.trees c tree low).1)
      (cell_meeting row.tree row.branches.items row_is.tree kept e meetings made c low tree at meeting read)
