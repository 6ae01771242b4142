-- The search spaces of the nodes of a list: those that are held, and those that were found.
use Rattle.std.proofs.Common.{◌≡◌, ℕ, ◌<◌, ◌≤◌, List, [], length, map, Vec, get_or, Contains, Option, sym, subst, arith}
use Rattle.std.specs.Prelude.{All, slice_index, slice_index_or}
use Rattle.std.specs.List.{AllZip}
use Rattle.std.specs.declared.alloc.Global.{Global}
use Rattle.std.proofs.lemmas.List.Elements.{Contains-get_or}
use Rattle.std.proofs.lemmas.Slice.Zip.{AllZip-long}
use Rattle.ch_graph.specs.declared.limits.TheConstants.{MOST_LISTED, MOST_SUM, MOST_WEIGHT}
use Rattle.ch_graph.proofs.Lists.{zipped_at, zipped_map}
use Rattle.ch_hierarchy.specs.Hierarchy.{LevelsAndLegs, nodes_of, IsLevelled}
use Rattle.ch_hierarchy.specs.declared.side.Side.{Side}
use Rattle.ch_hierarchy.proofs.code.Ranked.{rank_below}
use Rattle.ch_query.specs.Distance.{IsKeptForSome}
use Rattle.ch_query.specs.SearchSpace.{IsRankedSpace}
use Rattle.ch_query.specs.SearchSpaceLaws.{IsSharedSum}
use Rattle.ch_rows.specs.Buckets.{AreRanksApart, HoldSpaces}
use Rattle.ch_rows.proofs.Orders.{key_once}

-- the weights and ranks of a space
module _ {H : LevelsAndLegs} {side : Side} {limit : Option ℕ} {s : ℕ} {space : List (ℕ × ℕ)} (is : IsRankedSpace H side limit s space) where
  pub space_weight : (rank x : ℕ) → Contains space (rank, x) → x ≤ MOST_WEIGHT
  space_weight rank x h = let path = (is.sound rank x h).3 in let low = path.1.weight in let same = path.2 in omega arith

  -- the ranks are below the number of nodes
  pub rank_within : IsLevelled H → (rank x : ℕ) → Contains space (rank, x) → rank < nodes_of H
  rank_within levelled rank x h =
      let node = is.sound rank x h in subst (λ q. q < nodes_of H) node.2 (rank_below H levelled node.0 node.1)

  -- a rank occurs only once
  pub rank_once : (rank x y : ℕ) → Contains space (rank, x) → Contains space (rank, y) → x ≡ y
  rank_once = key_once space is.distinct

-- a sum that two spaces share is at most the sum of two weights of paths
pub shared_low : {H : LevelsAndLegs} {side side' : Side} {limit limit' : Option ℕ} {s t : ℕ} {ups downs : List (ℕ × ℕ)} →
    IsRankedSpace H side limit s ups → IsRankedSpace H side' limit' t downs → (x : ℕ) → IsSharedSum ups downs x → x ≤ MOST_SUM
shared_low up down x sum =
    let a = space_weight up sum.0 sum.1 sum.3 in
    let b = space_weight down sum.0 sum.2 sum.4 in
    let all = sum.5 in omega arith

-- the spaces that are held
module _ {H : LevelsAndLegs} {side : Side} {limit : Option ℕ} {nodes : List ℕ} {Held : List (List (ℕ × ℕ)) → Type 0}
    (hold : HoldSpaces H side limit nodes Held) where
  pub spaces_count : length hold.spaces ≡ length nodes
  spaces_count = AllZip-long (IsRankedSpace H side limit) nodes hold.spaces hold.each

  pub space_at : (j : ℕ) → j < length nodes → IsRankedSpace H side limit (slice_index nodes j) (slice_index_or hold.spaces j [])
  space_at j lt = zipped_at (IsRankedSpace H side limit) nodes hold.spaces j 0 [] hold.each lt

-- lists of ranks and weights that were found for nodes, as vectors
module _ (R : ℕ → List (ℕ × ℕ) → Type 0) (nodes : List ℕ) (lists : List (Vec (ℕ × ℕ) Global))
    (each : AllZip (λ node (list : Vec (ℕ × ℕ) Global). R node list.items) nodes lists) where
  found_count : length lists ≡ length nodes
  found_count = AllZip-long (λ node (list : Vec (ℕ × ℕ) Global). R node list.items) nodes lists each

  found_at : (k : ℕ) (d : Vec (ℕ × ℕ) Global) → k < length lists → R (get_or nodes k 0) (get_or lists k d).items
  found_at k d lt =
      let size = found_count in
      zipped_at (λ node (list : Vec (ℕ × ℕ) Global). R node list.items) nodes lists k 0 d each (omega arith)

  -- there are at most as many lists as a list of nodes may be long
  pub found_few : length nodes ≤ MOST_LISTED → length lists ≤ MOST_LISTED
  found_few few = let size = found_count in omega (arith, size, few)

  -- the ranks in the lists are below a number
  pub found_below : (n : ℕ) → ((k : ℕ) → k < length nodes → (list : List (ℕ × ℕ)) → R (get_or nodes k 0) list → (rank x : ℕ) →
      Contains list (rank, x) → rank < n) → All (λ (list : Vec (ℕ × ℕ) Global). All (λ (entry : ℕ × ℕ). entry.0 < n) list.items) lists
  found_below n low k d lt k' d' lt' =
      let size = found_count in
      let list = (get_or lists k d).items in
      let entry = get_or list k' d' in
      low k (omega arith) list (found_at k d lt) entry.0 entry.1 (Contains-get_or list k' d' lt')

  -- they are different
  pub found_apart : ((s : ℕ) (list : List (ℕ × ℕ)) → R s list → AreRanksApart list) →
      All (λ (list : Vec (ℕ × ℕ) Global). AreRanksApart list.items) lists
  found_apart apart k d lt = apart (get_or nodes k 0) (get_or lists k d).items (found_at k d lt)

-- the spaces that were found
module _ (H : LevelsAndLegs) (side : Side) (limit : Option ℕ) (nodes : List ℕ) (spaces : List (Vec (ℕ × ℕ) Global))
    (each : AllZip (λ node (space : Vec (ℕ × ℕ) Global). IsRankedSpace H side limit node space.items) nodes spaces) where
  pub spaces_few : length nodes ≤ MOST_LISTED → length spaces ≤ MOST_LISTED
  spaces_few = found_few (IsRankedSpace H side limit) nodes spaces each

  pub spaces_apart : All (λ (space : Vec (ℕ × ℕ) Global). AreRanksApart space.items) spaces
  spaces_apart = found_apart (IsRankedSpace H side limit) nodes spaces each (λ s list space. space.distinct)

  pub spaces_within : IsLevelled H → (n : ℕ) → n ≡ nodes_of H →
      All (λ (space : Vec (ℕ × ℕ) Global). All (λ (entry : ℕ × ℕ). entry.0 < n) space.items) spaces
  spaces_within levelled n is = found_below (IsRankedSpace H side limit) nodes spaces each n
      (λ k lt list space rank x h. subst (λ m. rank < m) (sym is) (rank_within space levelled rank x h))

  -- what holds the lists holds the search spaces
  pub spaces_held : IsKeptForSome H → length nodes ≤ MOST_LISTED → (Held : ℕ → List (List (ℕ × ℕ)) → Type 0) (n : ℕ) → n ≡ nodes_of H →
      Held n (map (λ (space : Vec (ℕ × ℕ) Global). space.items) spaces) → HoldSpaces H side limit nodes (Held (nodes_of H))
  spaces_held kept few Held n is held =
      let items : Vec (ℕ × ℕ) Global → List (ℕ × ℕ) = λ list. list.items in
      record {
        kept = kept;
        few = few;
        spaces = map items spaces;
        each = zipped_map (IsRankedSpace H side limit) items nodes spaces each;
        held = subst (λ n. Held n (map items spaces)) is held;
      }
