-- Branches: further ones change none that are there, and each is the way back that a route goes.
use Rattle.std.proofs.Common.{◌≡◌, ◌≢◌, ℕ, zero, suc, ◌+◌, ◌<◌, ◌≤◌, List, [], ◌∷◌, ◌++◌, length, map, take, Option, Some, None}
use Rattle.std.proofs.Common.{MatchOption, inl, inr}
use Rattle.std.proofs.Common.{refl, sym, ◌∙◌, ap, subst, arith}
use Rattle.std.specs.Prelude.{⊤}
use Rattle.std.specs.Option.{option_map_or}
use Rattle.std.proofs.lemmas.Bool.{cases_lt}
use Rattle.std.proofs.lemmas.List.{get_or_append_left, get_or_push, length-append, map_push, take_more}
use Rattle.ch_graph.specs.declared.cost.Cost.{Cost}
use Rattle.ch_graph.specs.Cost.{no_cost}
use Rattle.ch_hierarchy.specs.Hierarchy.{LevelsAndLegs}
use Rattle.ch_hierarchy.specs.declared.side.Side.{Side}
use Rattle.ch_hierarchy.specs.declared.side.Side.TheVariants.{Down}
use Rattle.ch_hierarchy.specs.Side.{rows_of}
use Rattle.ch_query.specs.Parents.{IsChosen}
use Rattle.ch_query.specs.Routes.{DescentStep, IsDescent}
use Rattle.ch_flows.specs.declared.gathering.Branch.{Branch}
use Rattle.ch_flows.specs.declared.gathering.Step.{Step}
use Rattle.ch_flows.specs.declared.plan.Link.{Link}
use Rattle.ch_flows.specs.declared.tree.Mark.{Mark}
use Rattle.ch_flows.specs.declared.tree.Reach.{Reach}
use Rattle.ch_flows.specs.declared.tree.Tree.{Tree}
use Rattle.ch_flows.specs.Gathering.{AreStepsBack, branch_at, way_of, way_within}
use Rattle.ch_flows.specs.Trees.{AreBranches, AreLegsAt, AreMoreBranches, AreSpots, GoesOn, IsBranchAt, IsStepTo, IsWayBack}
use Rattle.ch_flows.specs.Trees.{IsLegAt, IsReach, IsSlot, IsTree, entry_at, mark_at, no_mark, plain, step_at}
use Rattle.ch_flows.proofs.Trees.{step_chosen}

-- the same branches
pub more_none : (branches : List Branch) → AreMoreBranches branches branches
more_none branches = record { long = omega arith; same = λ k low. refl }

pub more_trans : (a b c : List Branch) → AreMoreBranches a b → AreMoreBranches b c → AreMoreBranches a c
more_trans a b c p q = record {
  long = omega (arith, p.long, q.long);
  same = λ k low. q.same k (omega (arith, low, p.long)) ∙ p.same k low;
}

-- one more branch
pub more_one : (old new : List Branch) (branch : Branch) → new ≡ old ++ branch ∷ [] → AreMoreBranches old new
more_one old new branch is = subst (AreMoreBranches old) (sym is) (record {
  long = omega (arith, length-append old (branch ∷ []));
  same = λ k low. get_or_append_left old (branch ∷ []) _ k low;
})

-- a branch stays where it is
pub branch_stays : (old new : List Branch) → AreMoreBranches old new → (s v k : ℕ) → IsBranchAt old s v k → IsBranchAt new s v k
branch_stays old new more s v k at =
    let same = more.same k at.0 in (
      omega (arith, at.0, more.long),
      ap (λ (b : Branch). b.source) same ∙ at.1,
      ap (λ (b : Branch). b.node) same ∙ at.2,
    )

pub spots_stay : (old new : List Branch) → AreMoreBranches old new → (s : ℕ) (kept : List (ℕ × Mark)) → AreSpots old s kept →
    AreSpots new s kept
spots_stay old new more s kept are k spot low is = branch_stays old new more s (mark_at kept k).0 spot (are k spot low is)

pub tree_stays : (H : LevelsAndLegs) (old new : List Branch) → AreMoreBranches old new → (tree : Tree) → IsTree Down H old tree →
    IsTree Down H new tree
tree_stays H old new more tree is = record {
  kept = is.kept;
  spots = spots_stay old new more tree.source tree.kept.items is.spots;
}

-- one more entry is marked
pub marks_more : (kept : List (ℕ × Cost)) (k : ℕ) (old new : List (ℕ × Mark)) (entry : ℕ × Mark) → k < length kept →
    plain entry ≡ entry_at kept k → new ≡ old ++ entry ∷ [] → map plain old ≡ take k kept → map plain new ≡ take (k + 1) kept
marks_more kept k old new entry low same is before =
    ap (map plain) is ∙ map_push plain old entry ∙ ap (λ (l : List (ℕ × Cost)). l ++ plain entry ∷ []) before
    ∙ ap (λ (e : ℕ × Cost). take k kept ++ e ∷ []) same ∙ sym (take_more kept k (0, no_cost) low)

-- its branch is the way back from its node
pub spots_more : (branches : List Branch) (s : ℕ) (old new : List (ℕ × Mark)) (entry : ℕ × Mark) → new ≡ old ++ entry ∷ [] →
    MatchOption entry.1.spot ⊤ (λ (spot : ℕ). IsBranchAt branches s entry.0 spot) → AreSpots branches s old → AreSpots branches s new
spots_more branches s old new entry is at are k spot low known =
    let size : length new ≡ length old + 1 = omega (arith, ap length is, length-append old (entry ∷ [])) in
    let read = ap (λ (l : List (ℕ × Mark)). mark_at l k) is in
    elim (cases_lt k (length old)) [
      | inl less ↦ (
          let e : mark_at new k ≡ mark_at old k = read ∙ get_or_append_left old (entry ∷ []) (0, no_mark) k less in
          subst (λ (v : ℕ). IsBranchAt branches s v spot) (sym (ap (λ (m : ℕ × Mark). m.0) e))
          (are k spot less (sym (ap (λ (m : ℕ × Mark). m.1.spot) e) ∙ known)))
      | inr past ↦ (
          let last : length old ≡ k = omega (arith, past, low, size) in
          let e : mark_at new k ≡ entry = read ∙ get_or_push old entry (0, no_mark) k last in
          let here : entry.1.spot ≡ Some spot = sym (ap (λ (m : ℕ × Mark). m.1.spot) e) ∙ known in
          subst (λ (v : ℕ). IsBranchAt branches s v spot) (sym (ap (λ (m : ℕ × Mark). m.0) e))
          (subst (λ (o : Option ℕ). MatchOption o ⊤ (λ (spot : ℕ). IsBranchAt branches s entry.0 spot)) here at))
    ]

module _ (side : Side) (H : LevelsAndLegs) (links : List Link) where
  -- a branch still goes on from the one before it
  goes_on_still : (old new : List Branch) → AreMoreBranches old new → (n : ℕ) → n ≤ length old → (branch : Branch) →
      GoesOn side H links old n branch → GoesOn side H links new n branch
  goes_on_still old new more n most branch = at branch.step
    where
      at : (last : Option Step) → MatchOption last (branch.node ≡ branch.source)
          (λ (s : Step). (s.before < n) × IsStepTo side H links (branch_at old s.before) branch s.leg_place) →
          MatchOption last (branch.node ≡ branch.source)
          (λ (s : Step). (s.before < n) × IsStepTo side H links (branch_at new s.before) branch s.leg_place)
      at None is = is
      at (Some s) is = (
        is.0,
        subst (λ (b : Branch). IsStepTo side H links b branch s.leg_place) (sym (more.same s.before (omega (arith, is.0, most)))) is.1,
      )

  -- one more branch goes on from those that are there
  pub branches_more : (old new : List Branch) (branch : Branch) → new ≡ old ++ branch ∷ [] → AreBranches side H links old →
      GoesOn side H links old (length old) branch → AreBranches side H links new
  branches_more old new branch is are next k low =
      let more = more_one old new branch is in
      let size : length new ≡ length old + 1 = omega (arith, ap length is, length-append old (branch ∷ [])) in
      elim (cases_lt k (length old)) [
        | inl less ↦ subst (GoesOn side H links new k) (sym (more.same k less))
            (goes_on_still old new more k (omega (arith, less)) (branch_at old k) (are k less))
        | inr past ↦ (
            let last : length old ≡ k = omega (arith, past, low, size) in
            let here : branch_at new k ≡ branch = ap (λ (l : List Branch). branch_at l k) is ∙ get_or_push old branch _ k last in
            subst (GoesOn side H links new k) (sym here)
            (goes_on_still old new more k (omega (arith, last)) branch
            (subst (λ (n : ℕ). GoesOn side H links old n branch) last next)))
      ]

  -- each step comes from an earlier branch
  pub steps_back : (branches : List Branch) → AreBranches side H links branches → (legs : ℕ) → length links ≡ legs →
      AreStepsBack legs branches
  steps_back branches are legs count k s low is =
      let on = subst (λ (last : Option Step). MatchOption last ((branch_at branches k).node ≡ (branch_at branches k).source)
      (λ (b : Step). (b.before < k) × IsStepTo side H links (branch_at branches b.before) (branch_at branches k) b.leg_place)) is
      (are k low) in
      (on.0, omega (arith, on.1.place.0, count))

  -- the steps that a route goes back from a branch, over these legs
  abbrev IsBackOf : List Branch → ℕ → List ℕ → Type 0
  IsBackOf branches k way = (steps : List DescentStep)
      × IsDescent (rows_of H side) (branch_at branches k).source (branch_at branches k).node steps × AreLegsAt side links steps way

  back_by : (branches : List Branch) (n k : ℕ) (last : Option Step) →
      MatchOption last ((branch_at branches k).node ≡ (branch_at branches k).source)
      (λ (s : Step). (s.before < k) × IsStepTo side H links (branch_at branches s.before) (branch_at branches k) s.leg_place) →
      ((b : ℕ) → b < k → IsBackOf branches b (way_within branches n b)) →
      IsBackOf branches k (option_map_or (λ (s : Step). s.leg_place ∷ way_within branches n s.before) last [])
  back_by branches n k None is before = ([], is, refl)
  back_by branches n k (Some s) is before =
      let rest = before s.before is.0 in
      let from = (branch_at branches s.before).node in
      let step : DescentStep = record { low = from; leg = is.1.leg } in (
        step ∷ rest.0,
        (is.1.differs, is.1.chosen, subst (λ (a : ℕ). IsDescent (rows_of H side) a from rest.0) is.1.source rest.1),
        (is.1.place, rest.2),
      )

  back_of : (branches : List Branch) → AreBranches side H links branches → (n k : ℕ) → k < n → k < length branches →
      IsBackOf branches k (way_within branches n k)
  back_of branches are zero k low inside = absurd (omega (arith, low))
  back_of branches are (suc n) k low inside =
      back_by branches n k (branch_at branches k).step (are k inside)
      (λ b before. back_of branches are n b (omega (arith, before, low)) (omega (arith, before, inside)))

  -- the way of a branch is the way back from its node
  pub way_back : (branches : List Branch) → AreBranches side H links branches → (s v k : ℕ) → IsBranchAt branches s v k → (old : List ℕ) →
      IsWayBack side H links s v old (old ++ way_of branches k)
  way_back branches are s v k at old =
      let rows = rows_of H side in
      let back = back_of branches are (length branches) k at.0 at.0 in (
        back.0,
        way_of branches k,
        subst (λ (a : ℕ). IsDescent rows a v back.0) at.1
            (subst (λ (x : ℕ). IsDescent rows (branch_at branches k).source x back.0) at.2 back.1),
        back.2,
        refl,
      )

  -- the branch of an entry goes on from that of the entry before it
  pub next_goes_on : (reach : Reach) → IsReach side H links reach → (branches : List Branch) (place node k : ℕ) (step : Step) →
      place < length reach.entries.items → node ≡ (entry_at reach.entries.items place).0 →
      step_at reach.steps.items place ≡ Some step → node ≢ reach.source → step.before < length reach.entries.items →
      IsBranchAt branches reach.source (entry_at reach.entries.items step.before).0 k →
      GoesOn side H links branches (length branches) (record {
        node = node;
        source = reach.source;
        step = Some (record { before = k; leg_place = step.leg_place });
      })
  next_goes_on reach is branches place node k step low same has differs inside at =
      let entries = reach.entries.items in
      let slot = subst (IsSlot side H links entries (length entries) place) has (is.steps place low) in
      let from = (entry_at entries step.before).0 in
      let chosen = step_chosen side H links entries reach.source is.spread place step low inside slot.1 in (
        at.0,
        record {
          source = at.1;
          differs = differs;
          leg = slot.1.leg;
          chosen = subst (λ (x : ℕ). IsChosen (rows_of H side) reach.source x (branch_at branches k).node slot.1.leg) (sym same)
              (subst (λ (u : ℕ). IsChosen (rows_of H side) reach.source (entry_at entries place).0 u slot.1.leg) (sym at.2) chosen);
          place = subst (λ (u : ℕ). IsLegAt side links u slot.1.leg step.leg_place) (sym at.2) slot.1.place;
        },
      )
