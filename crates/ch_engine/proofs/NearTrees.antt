-- What trees of kept places, and routes, tell of the pairs of near rows.
use Rattle.std.proofs.Common.{◌≡◌, ◌≢◌, ℕ, ◌^◌, ◌<◌, ◌≤◌, ◌⊎◌, List, [], get_or, length, Contains, Option, Some, None}
use Rattle.std.proofs.Common.{inl, inr, refl, sym, ◌∙◌, ap, subst}
use Rattle.std.specs.Prelude.{MatchOption, option_map, ⊤}
use Rattle.std.proofs.lemmas.Option.{none-some, same_Some}
use Rattle.ch_graph.specs.declared.cost.Cost.{Cost}
use Rattle.ch_graph.specs.Walk.{IsLeast}
use Rattle.ch_graph.proofs.Lists.{contains_none}
use Rattle.ch_graph.proofs.WalkCosts.{IsLeast_unique}
use Rattle.ch_hierarchy.specs.Hierarchy.{LevelsAndLegs, nodes_of}
use Rattle.ch_hierarchy.specs.KeptLaws.{IsLeastMeeting}
use Rattle.ch_hierarchy.specs.Turned.{turned_hierarchy}
use Rattle.ch_hierarchy.specs.declared.side.Side.{Side}
use Rattle.ch_hierarchy.proofs.theory.KeptWalks.{meetings_are_distances}
use Rattle.ch_query.specs.Distance.{IsKeptForSome}
use Rattle.ch_query.specs.Limits.{IsDistanceWithin}
use Rattle.ch_query.specs.declared.routes.Route.{Route}
use Rattle.ch_query.proofs.one_side.TightNodes.{least_meeting_turned}
use Rattle.ch_hierarchy.specs.declared.direction.Direction.{Direction}
use Rattle.ch_hierarchy.specs.declared.direction.Direction.TheVariants.{To, From}
use Rattle.ch_hierarchy.specs.Direction.{facing, source_side, target_side}
use Rattle.ch_rows.specs.Kept.{asked_by}
use Rattle.ch_rows.specs.Near.{IsDistanceTo}
use Rattle.ch_rows.specs.Searched.{Asked}
use Rattle.ch_rows.specs.declared.kept.KeptTargets.{KeptTargets}
use Rattle.ch_rows.proofs.Distances.{least_of}
use Rattle.ch_engine.specs.declared.place_trees.PlaceTrees.{PlaceTrees}
use Rattle.ch_engine.specs.declared.source_tree.SourceTree.{SourceTree}
use Rattle.ch_engine.specs.declared.sum_meets.Meeting.{Meeting}
use Rattle.ch_engine.specs.declared.sum_trees.Branch.{Branch}
use Rattle.ch_engine.specs.Held.{Held, only}
use Rattle.ch_engine.specs.LegSums.{unknown}
use Rattle.ch_engine.specs.Lines.{IsOfSome, Lines}
use Rattle.ch_engine.specs.NearSums.{IsNearPair, IsNearSum, IsNearSumTooLarge, ends_in, ends_of}
use Rattle.ch_engine.specs.PlaceTrees.{AreKeptTrees, AreTreesOf, IsFirstMeeting, IsSourceTree}
use Rattle.ch_engine.specs.RouteSums.{IsPairSum, IsPairTooLarge, IsSumAlong}
use Rattle.ch_engine.specs.Routes.{IsFound, weight_word}
use Rattle.ch_engine.specs.TableSums.{AreBranches}
use Rattle.ch_engine.proofs.Meetings.{meeting_turned, trees_pair}

-- a distance to or from a place is the weight of the least paths between the ends of its route
near_least : (direction : Direction) (H : LevelsAndLegs) (limit : Option ℕ) (s t x : ℕ) →
    IsDistanceWithin (facing direction H) limit s t (Some x) →
    (c : Cost) × IsLeastMeeting H (ends_in direction s t).0 (ends_in direction s t).1 c × (c.weight ≡ x)
near_least To H limit s t x d = let m = least_of H limit s t x d in (m.0, m.1, m.2)
near_least From H limit s t x d =
    let m = least_of (turned_hierarchy H) limit s t x d in (m.0, least_meeting_turned (turned_hierarchy H) s t m.0 m.1, m.2)

-- the route that was found between the ends weighs as much
found_weight : (H : LevelsAndLegs) (k : IsKeptForSome H) (s t w : ℕ) (answer : Option Route) →
    (c : Cost) × IsLeastMeeting H s t c × (c.weight ≡ w) → IsFound H s t answer → w ≡ weight_word answer
found_weight H k s t w None least found = absurd (found.chosen least.1.meets.0 least.0 least.1.meets.1)
found_weight H k s t w (Some route) least found =
    let is = found.walk k.0 k.1 k.2 in
    let best : IsLeast k.0 s t least.0 = ((meetings_are_distances k.0 H k.1 k.2).least s t least.0).1 least.1 in
    let same = IsLeast_unique k.0 s t least.0 _ best is.0.least in
    sym least.2 ∙ ap (λ (q : Cost). q.weight) same ∙ sym is.1

-- where the route of two nodes ends is a node
end_low : (direction : Direction) (n s t : ℕ) → s < n → t < n → (ends_in direction s t).1 < n
end_low To n s t first second = second
end_low From n s t first second = first

-- the first meeting of the trees of a source and a place has the sum along their route, if it is known
pair_between : (direction : Direction) (H : LevelsAndLegs) (lines : Lines) → IsOfSome H lines → (values : List ℕ) (s t : ℕ) →
    (ends_in direction s t).1 < nodes_of H → (own far : List Branch) → AreBranches (source_side direction) H lines values s own →
    AreBranches (target_side direction) H lines values t far → (met : Option Meeting) → IsFirstMeeting own far met → (x : Meeting) →
    met ≡ Some x → x.sum ≢ unknown →
    IsPairSum (only H lines) values (ends_in direction s t).0 (ends_in direction s t).1 x.cost.weight x.sum
pair_between To H lines of values s t low own far near there met first x is known =
    trees_pair H lines values s t of low own far near there met first x is known
pair_between From H lines of values s t low own far near there met first x is known =
    trees_pair H lines values t s of low far own there near met (meeting_turned own far met first) x is known

module _ (held : Held) (of : IsOfSome held.hierarchy held.lines) (s : ℕ) (low : s < nodes_of held.hierarchy) (place w : ℕ)
    (near : IsNearPair held s (w, place)) where
  -- what holds of the kept places and of the kept values
  at_kept : (P : Asked → List ℕ → Type 0) → ((asked : Asked) (values : List ℕ) →
      IsDistanceTo (facing asked.direction held.hierarchy) asked.limit asked.targets s (w, place) →
      get_or asked.targets place 0 < nodes_of held.hierarchy → held.near ≡ Some asked → held.values ≡ Some values → P asked values) →
      MatchOption held.near ⊤ (λ asked. MatchOption held.values ⊤ (λ values. P asked values))
  at_kept P holds = at held.near held.values near refl refl
    where
      at : (o : Option Asked) (v : Option (List ℕ)) → MatchOption o ⊥ (λ asked.
          IsDistanceTo (facing asked.direction held.hierarchy) asked.limit asked.targets s (w, place)
          × (get_or asked.targets place 0 < nodes_of held.hierarchy)) → held.near ≡ o → held.values ≡ v →
          MatchOption o ⊤ (λ asked. MatchOption v ⊤ (λ values. P asked values))
      at None v is first second = tt
      at (Some asked) None is first second = tt
      at (Some asked) (Some values) is first second = holds asked values is.0 is.1 first second

  -- the first meeting of the trees of both ends tells the sum
  pub meeting_told : (tree : SourceTree) → IsSourceTree held s tree → (far : List Branch) →
      MatchOption held.near ⊤ (λ asked. MatchOption held.values ⊤ (λ values.
      AreBranches (target_side asked.direction) held.hierarchy held.lines values (get_or asked.targets place 0) far)) →
      (met : Option Meeting) → IsFirstMeeting tree.branches.items far met → (x : Meeting) → met ≡ Some x → x.sum ≢ unknown →
      IsNearSum held s place w x.sum
  meeting_told tree source far there met first x some known = at_kept
      (λ asked values. IsPairSum held values (ends_of asked s place).0 (ends_of asked s place).1 w x.sum)
      (λ asked values is node first_is second_is.
      let d = asked.direction in
      let H = held.hierarchy in
      let t = get_or asked.targets place 0 in
      let own = subst (λ (v : Option (List ℕ)). MatchOption v ⊤ (λ l. AreOwn asked l)) second_is
      (subst (λ (o : Option Asked). MatchOption o ⊤ (λ a. MatchOption held.values ⊤ (λ l. AreOwn a l))) first_is source.branches) in
      let second = subst (λ (v : Option (List ℕ)). MatchOption v ⊤ (λ l. AreBranches (target_side d) H held.lines l t far)) second_is
      (subst (λ (o : Option Asked). MatchOption o ⊤ (λ a. MatchOption held.values ⊤ (λ l.
      AreBranches (target_side a.direction) H held.lines l (get_or a.targets place 0) far))) first_is there) in
      let m = first.is x some in
      let one : AreBranches (source_side d) H held.lines values s tree.branches.items = elim own [
        | inl none ↦ absurd (contains_none m.a (subst (λ (l : List Branch). Contains l m.a) none m.first))
        | inr made ↦ made
      ] in
      let found : IsPairSum held values (ends_of asked s place).0 (ends_of asked s place).1 x.cost.weight x.sum =
      pair_between d H held.lines of values s t (end_low d (nodes_of H) s t low node) tree.branches.items far one second met first x
      some known in (
        found.0,
        found.1,
        found_weight H (of.0, of.1, of.2) (ends_of asked s place).0 (ends_of asked s place).1 w found.0
            (near_least d H asked.limit s t w is.1) found.1,
        found.3,
      ))
    where
      AreOwn : Asked → List ℕ → Type 0
      AreOwn asked values = (tree.branches.items ≡ [])
          ⊎ AreBranches (source_side asked.direction) held.hierarchy held.lines values s tree.branches.items

  -- so does the route that was found
  pub route_told : (from to : ℕ) (answer : Option Route) (sum : ℕ) → MatchOption held.near ⊤ (λ asked.
      (from, to) ≡ ends_of asked s place) → IsFound held.hierarchy from to answer → MatchOption held.values ⊤ (λ values.
      IsSumAlong held.hierarchy held.lines values answer sum) → IsNearSum held s place w sum
  route_told from to answer sum ends found along = at_kept
      (λ asked values. IsPairSum held values (ends_of asked s place).0 (ends_of asked s place).1 w sum)
      (λ asked values is node first second.
      let H = held.hierarchy in
      let t = get_or asked.targets place 0 in
      let both = subst (λ (o : Option Asked). MatchOption o ⊤ (λ a. (from, to) ≡ ends_of a s place)) first ends in
      let sums = subst (λ (v : Option (List ℕ)). MatchOption v ⊤ (λ l. IsSumAlong H held.lines l answer sum)) second along in
      let own : IsFound H (ends_of asked s place).0 (ends_of asked s place).1 answer =
      subst (λ (e : ℕ × ℕ). IsFound H e.0 e.1 answer) both found in (
        answer,
        own,
        found_weight H (of.0, of.1, of.2) (ends_of asked s place).0 (ends_of asked s place).1 w answer
            (near_least asked.direction H asked.limit s t w is.1) own,
        sums,
      ))

  -- and the sum that is too large
  pub route_too_large : (from to : ℕ) (answer : Option Route) (sum : ℕ) → MatchOption held.near ⊤ (λ asked.
      (from, to) ≡ ends_of asked s place) → IsFound held.hierarchy from to answer → MatchOption held.values ⊤ (λ values.
      IsSumAlong held.hierarchy held.lines values answer sum) → 2 ^ 64 ≤ sum → IsNearSumTooLarge held s place
  route_too_large from to answer sum ends found along large = at_kept
      (λ asked values. IsPairTooLarge held values (ends_of asked s place).0 (ends_of asked s place).1)
      (λ asked values is node first second. (
        answer,
        sum,
        subst (λ (e : ℕ × ℕ). IsFound held.hierarchy e.0 e.1 answer)
            (subst (λ (o : Option Asked). MatchOption o ⊤ (λ a. (from, to) ≡ ends_of a s place)) first ends) found,
        subst (λ (v : Option (List ℕ)). MatchOption v ⊤ (λ l. IsSumAlong held.hierarchy held.lines l answer sum)) second along,
        large,
      ))

-- the tree of a kept place, for the kept values
pub kept_branches : (held : Held) (trees : PlaceTrees) (place : ℕ) (far : List Branch) → AreKeptTrees held trees →
    ((side : Side) (H : LevelsAndLegs) (lines : Lines) (values nodes : List ℕ) → AreTreesOf side H lines values nodes trees →
    AreBranches side H lines values (get_or nodes place 0) far) →
    MatchOption held.near ⊤ (λ asked. MatchOption held.values ⊤ (λ values.
    AreBranches (target_side asked.direction) held.hierarchy held.lines values (get_or asked.targets place 0) far))
kept_branches held trees place far kept are = at held.near held.values kept
  where
    at : (o : Option Asked) (v : Option (List ℕ)) → MatchOption o ⊤ (λ asked. MatchOption v ⊤ (λ values.
        AreTreesOf (target_side asked.direction) held.hierarchy held.lines values asked.targets trees)) →
        MatchOption o ⊤ (λ asked. MatchOption v ⊤ (λ values.
        AreBranches (target_side asked.direction) held.hierarchy held.lines values (get_or asked.targets place 0) far))
    at None v is = tt
    at (Some asked) None is = tt
    at (Some asked) (Some values) is = are (target_side asked.direction) held.hierarchy held.lines values asked.targets is

-- what holds of the targets that are kept holds of what is asked
pub mapped : (P : Asked → Type 0) (kept : Option KeptTargets) → MatchOption kept ⊤ (λ k. P (asked_by k)) →
    MatchOption (option_map asked_by kept) ⊤ P
mapped P None is = tt
mapped P (Some k) is = is

-- a direction and places are those that are kept
abbrev pub AreAsked : Direction → List ℕ → Asked → Type 0
AreAsked direction places asked = (direction ≡ asked.direction) × (places ≡ asked.targets)

-- the ends that they give are those of the route
pub ends_told : (near : Option Asked) (direction : Direction) (places : List ℕ) (s place node : ℕ) (both : ℕ × ℕ) →
    MatchOption near ⊤ (AreAsked direction places) → node ≡ get_or places place 0 → both ≡ ends_in direction s node →
    MatchOption near ⊤ (λ asked. both ≡ ends_of asked s place)
ends_told None direction places s place node both is here made = tt
ends_told (Some asked) direction places s place node both is here made =
    made ∙ ap (λ (d : Direction). ends_in d s node) is.0
    ∙ ap (ends_in asked.direction s) (here ∙ ap (λ (l : List ℕ). get_or l place 0) is.1)

-- trees that stay for all values stay for the kept ones
pub kept_still : (near : Option Asked) (values : Option (List ℕ)) (H : LevelsAndLegs) (lines : Lines) (old new : Option PlaceTrees) →
    ((side : Side) (G : LevelsAndLegs) (own : Lines) (list nodes : List ℕ) → MatchOption old ⊤ (AreTreesOf side G own list nodes) →
    MatchOption new ⊤ (AreTreesOf side G own list nodes)) →
    MatchOption old ⊤ (AreKeptTrees (record { hierarchy = H; lines = lines; near = near; values = values })) →
    MatchOption new ⊤ (AreKeptTrees (record { hierarchy = H; lines = lines; near = near; values = values }))
kept_still None values H lines old None keeps are = tt
kept_still None values H lines old (Some new) keeps are = tt
kept_still (Some asked) None H lines old None keeps are = tt
kept_still (Some asked) None H lines old (Some new) keeps are = tt
kept_still (Some asked) (Some list) H lines old new keeps are =
    keeps (target_side asked.direction) H lines list asked.targets are

-- one more tree is that of its place for the kept values
pub kept_more : (near : Option Asked) (values : Option (List ℕ)) (H : LevelsAndLegs) (lines : Lines) (direction : Direction)
    (places : List ℕ) (place node : ℕ) (own : List ℕ) (branches : List Branch) (old new : PlaceTrees) →
    MatchOption near ⊤ (AreAsked direction places) → node ≡ get_or places place 0 → values ≡ Some own →
    AreBranches (target_side direction) H lines own node branches →
    ((side : Side) (G : LevelsAndLegs) (ls : Lines) (list nodes : List ℕ) → AreBranches side G ls list (get_or nodes place 0) branches →
    AreTreesOf side G ls list nodes old → AreTreesOf side G ls list nodes new) →
    AreKeptTrees (record { hierarchy = H; lines = lines; near = near; values = values }) old →
    AreKeptTrees (record { hierarchy = H; lines = lines; near = near; values = values }) new
kept_more None values H lines direction places place node own branches old new is here known made grows are = tt
kept_more (Some asked) None H lines direction places place node own branches old new is here known made grows are =
    absurd (none-some own known)
kept_more (Some asked) (Some list) H lines direction places place node own branches old new is here known made grows are =
    grows (target_side asked.direction) H lines list asked.targets
    (subst (λ (d : Direction). AreBranches (target_side d) H lines list (get_or asked.targets place 0) branches) is.0
    (subst (λ (n : ℕ). AreBranches (target_side direction) H lines list n branches)
    (here ∙ ap (λ (l : List ℕ). get_or l place 0) is.1)
    (subst (λ (l : List ℕ). AreBranches (target_side direction) H lines l node branches) (sym (same_Some _ _ known)) made))) are

-- the place of a near pair is one of the places
pub place_low : (held : Held) (s : ℕ) (pair : ℕ × ℕ) (direction : Direction) (places : List ℕ) → IsNearPair held s pair →
    MatchOption held.near ⊤ (AreAsked direction places) → pair.1 < length places
place_low held s pair direction places near asked = at held.near near asked
  where
    at : (o : Option Asked) → MatchOption o ⊥ (λ a. IsDistanceTo (facing a.direction held.hierarchy) a.limit a.targets s pair
        × (get_or a.targets pair.1 0 < nodes_of held.hierarchy)) → MatchOption o ⊤ (AreAsked direction places) → pair.1 < length places
    at None none is = absurd none
    at (Some a) near is = subst (λ (l : List ℕ). pair.1 < length l) (sym is.1) near.0.0

-- what was added up along a route between nodes is so for an engine's network and for its values
pub along_kept : (held : Held) (network : LevelsAndLegs × Lines) (values list : List ℕ) (answer : Option Route) (sum : ℕ) →
    network ≡ (held.hierarchy, held.lines) → held.values ≡ Some values → list ≡ values →
    IsSumAlong network.0 network.1 list answer sum →
    MatchOption held.values ⊤ (λ l. IsSumAlong held.hierarchy held.lines l answer sum)
along_kept held network values list answer sum is known same along =
    subst (λ (o : Option (List ℕ)). MatchOption o ⊤ (λ l. IsSumAlong held.hierarchy held.lines l answer sum)) (sym known)
    (subst (λ (n : LevelsAndLegs × Lines). IsSumAlong n.0 n.1 values answer sum) is
    (subst (λ (l : List ℕ). IsSumAlong network.0 network.1 l answer sum) same along))
