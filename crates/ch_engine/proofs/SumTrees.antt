-- Sums along the ways back in a search tree: one step more adds the sum of its leg.
use Rattle.std.proofs.Common.{◌≡◌, ℕ, ◌+◌, ◌<◌, List, [], ◌∷◌, ◌++◌, length, take, get_or, Contains}
use Rattle.std.proofs.Common.{inl, inr, refl, sym, ◌∙◌, ap, subst, arith}
use Rattle.std.proofs.lemmas.List.{take_more}
use Rattle.std.proofs.lemmas.List.Elements.{Contains-append_left, Contains-push, Contains-push_cases}
use Rattle.ch_graph.proofs.Lists.{contains_none}
use Rattle.ch_hierarchy.specs.declared.leg.Leg.{Leg}
use Rattle.ch_hierarchy.specs.Hierarchy.{IsLevelled, LevelsAndLegs}
use Rattle.ch_hierarchy.specs.Rows.{row}
use Rattle.ch_hierarchy.specs.declared.side.Side.{Side}
use Rattle.ch_hierarchy.specs.Side.{rows_of}
use Rattle.ch_query.specs.declared.sides.growing.TreeNode.{TreeNode}
use Rattle.ch_query.specs.Routes.{DescentStep, IsDescent}
use Rattle.ch_query.specs.SearchTree.{FollowsParents, IsSearchTree}
use Rattle.ch_query.proofs.one_side.Expanding.{reached_arcs}
use Rattle.ch_query.proofs.routing.Rows.{row_one, rows_ordered}
use Rattle.ch_engine.specs.declared.sum_trees.Branch.{Branch}
use Rattle.ch_engine.specs.LegSums.{IsRowLegSum, IsStepsSum}
use Rattle.ch_engine.specs.Lines.{Lines}
use Rattle.ch_engine.specs.TableSums.{AreBranches, AreSummed, IsSumBack}

module _ (side : Side) (H : LevelsAndLegs) (lines : Lines) (values : List ℕ) (s : ℕ) (parents : List ℕ) where
  -- nothing is on the way from the source to itself
  pub back_none : (v : ℕ) → v ≡ s → IsSumBack side H lines values s parents v 0
  back_none v here known [] d f = refl
  back_none v here known (step ∷ steps) d f = absurd (d.0 here)

  -- the sum of each way back over a leg
  pub back_more : IsLevelled H → (v p : ℕ) → (v ≡ s → ⊥) → p ≡ get_or parents v 0 → (leg : Leg) → Contains (row (rows_of H side) p) leg →
      leg.node ≡ v → (a b sum : ℕ) → IsRowLegSum side H lines values p leg a →
      ((steps : List DescentStep) → IsDescent (rows_of H side) s p steps → FollowsParents parents p steps →
      IsStepsSum side H lines values steps b) → sum ≡ a + b → (steps : List DescentStep) → IsDescent (rows_of H side) s v steps →
      FollowsParents parents v steps → IsStepsSum side H lines values steps sum
  back_more k v p ne read leg has node a b sum word rest total [] d f = absurd (ne d)
  back_more k v p ne read leg has node a b sum word rest total (step ∷ steps) d f =
      let at : p ≡ step.low = read ∙ f.0 in
      let last = d.1.last in
      let own : Contains (row (rows_of H side) step.low) leg = subst (λ (n : ℕ). Contains (row (rows_of H side) n) leg) at has in
      let same : leg ≡ step.leg =
      row_one (row (rows_of H side) step.low) (rows_ordered H k side step.low) leg step.leg own last.0 (node ∙ sym last.1) in (
        a,
        b,
        subst (λ (l : Leg). IsRowLegSum side H lines values step.low l a) same
            (subst (λ (n : ℕ). IsRowLegSum side H lines values n leg a) at word),
        rest steps (subst (λ (n : ℕ). IsDescent (rows_of H side) s n steps) (sym at) d.2)
            (subst (λ (n : ℕ). FollowsParents parents n steps) (sym at) f.1),
        total,
      )

  -- before the first node of a tree
  pub summed_none : (branches : List Branch) → branches ≡ [] → AreSummed side H lines values s parents [] branches
  summed_none branches none = record {
    sound = λ e has. absurd (contains_none e (subst (λ (l : List Branch). Contains l e) none has));
    whole = λ e has. absurd (contains_none e has);
    sums = λ e has. absurd (contains_none e (subst (λ (l : List Branch). Contains l e) none has));
  }

  -- one more node
  pub summed_more : (nodes : List TreeNode) (i : ℕ) (entry : TreeNode) → i < length nodes → entry ≡ get_or nodes i entry →
      (branches new : List Branch) (sum : ℕ) → new ≡ branches ++ (record { node = entry.node; cost = entry.cost; sum = sum }) ∷ [] →
      AreSummed side H lines values s parents (take i nodes) branches → IsSumBack side H lines values s parents entry.node sum →
      AreSummed side H lines values s parents (take (i + 1) nodes) new
  summed_more nodes i entry low at branches new sum is are back =
      let branch : Branch = record { node = entry.node; cost = entry.cost; sum = sum } in
      let split : take (i + 1) nodes ≡ take i nodes ++ entry ∷ [] =
      take_more nodes i entry low ∙ ap (λ (e : TreeNode). take i nodes ++ e ∷ []) (sym at) in
      subst (λ (ns : List TreeNode). AreSummed side H lines values s parents ns new) (sym split)
      (subst (AreSummed side H lines values s parents (take i nodes ++ entry ∷ [])) (sym is) (record {
        sound = λ e has. elim (Contains-push_cases branches branch e has) [
          | inl before ↦ (
              let old = are.sound e before in
              (old.0, Contains-append_left (take i nodes) (entry ∷ []) (record { node = e.node; cost = e.cost; parent = old.0 }) old.1))
          | inr here ↦ (
            entry.parent,
            subst (λ (b : Branch). Contains (take i nodes ++ entry ∷ [])
                (record { node = b.node; cost = b.cost; parent = entry.parent })) here
                (Contains-push (take i nodes) entry),
          )
        ];
        whole = λ e has. elim (Contains-push_cases (take i nodes) entry e has) [
          | inl before ↦ (
              let old = are.whole e before in
              (old.0, Contains-append_left branches (branch ∷ []) (record { node = e.node; cost = e.cost; sum = old.0 }) old.1))
          | inr here ↦ (
            sum,
            subst (λ (n : TreeNode). Contains (branches ++ branch ∷ []) (record { node = n.node; cost = n.cost; sum = sum })) here
                (Contains-push branches branch),
          )
        ];
        sums = λ e has. elim (Contains-push_cases branches branch e has) [
          | inl before ↦ are.sums e before
          | inr here ↦ subst (λ (b : Branch). IsSumBack side H lines values s parents b.node b.sum) here back
        ];
      }))

-- all nodes of a search tree with their sums are the branches of its source
pub branches_are : (side : Side) (H : LevelsAndLegs) → IsLevelled H → (lines : Lines) (values : List ℕ) (s : ℕ) (nodes : List TreeNode)
    (tree : IsSearchTree H side s nodes) (branches : List Branch) → AreSummed side H lines values s tree.parents nodes branches →
    AreBranches side H lines values s branches
branches_are side H k lines values s nodes tree branches are = record {
  sound = λ e has.
      let from = are.sound e has in
      let is = tree.sound (record { node = e.node; cost = e.cost; parent = from.0 }) from.1 in
      let arcs = reached_arcs H k side s e.node e.cost is.1 in
      record {
        node = is.0;
        path = is.1;
        arcs = omega (arith, arcs);
        sum_is = λ tight known.
            let way = tree.traced e.node e.cost tight in
            (way.0, way.1, are.sums e has known way.0 way.1 way.2);
      };
  whole = λ v c tight.
      let from = tree.whole v c tight in
      are.whole (record { node = v; cost = c; parent = from.0 }) from.1;
}
