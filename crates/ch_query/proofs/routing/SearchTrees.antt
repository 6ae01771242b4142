-- The tree of a search that stalls and has ended: which nodes it has, and that parents lead back as a route does.
use Rattle.std.proofs.Common.{◌≡◌, ℕ, zero, suc, ◌+◌, ◌<◌, ◌≤◌, List, [], ◌∷◌, ◌++◌, length, take, get_or, All, Contains, Option}
use Rattle.std.proofs.Common.{Some, None, refl, sym, ◌∙◌, ap, subst, arith, inl, inr}
use Rattle.std.specs.Prelude.{◌⊎◌, slice_index}
use Rattle.std.proofs.lemmas.Bool.{cases_eq}
use Rattle.std.proofs.lemmas.Option.{none-some, same_Some}
use Rattle.std.proofs.lemmas.List.{take_more}
use Rattle.std.proofs.lemmas.List.Elements.{All-push, Contains-append_left, Contains-push, Contains-push_cases}
use Rattle.ch_graph.specs.declared.cost.Cost.{Cost}
use Rattle.ch_graph.specs.Cost.{IsAtMost, cost_sum, cost_at}
use Rattle.ch_graph.proofs.CostOrder.{IsAtMost_refl}
use Rattle.ch_graph.proofs.CostSums.{cost_sum_assoc, cost_sum-no_cost}
use Rattle.ch_graph.proofs.Lists.{contains_none}
use Rattle.ch_hierarchy.specs.declared.leg.Leg.{Leg}
use Rattle.ch_hierarchy.specs.Hierarchy.{LevelsAndLegs, nodes_of, IsLevelled}
use Rattle.ch_hierarchy.specs.Paths.{IsLeastUpwardPath, IsUpwardPath, path_cost}
use Rattle.ch_hierarchy.specs.Ranked.{rank_of}
use Rattle.ch_hierarchy.specs.declared.side.Side.{Side}
use Rattle.ch_hierarchy.specs.Side.{rows_of}
use Rattle.ch_hierarchy.proofs.code.Ranked.{rank_one}
use Rattle.ch_hierarchy.proofs.theory.LegPaths.{path_cost-cons}
use Rattle.ch_query.specs.declared.sides.growing.TreeNode.{TreeNode}
use Rattle.ch_query.specs.declared.question.Question.{Question}
use Rattle.ch_query.specs.declared.sides.search.Search.{Search}
use Rattle.ch_query.specs.ByNode.{costs_of, keys_of, parents_of}
use Rattle.ch_query.specs.Descents.{HasReached}
use Rattle.ch_query.specs.Distance.{IsKeptForSome}
use Rattle.ch_query.specs.Meeting.{IsFresh}
use Rattle.ch_query.specs.Parents.{IsParent, IsChosen}
use Rattle.ch_query.specs.Routes.{DescentStep, IsDescent}
use Rattle.ch_query.specs.Questions.{stalling}
use Rattle.ch_query.specs.Search.{IsEmpty, IsSettled}
use Rattle.ch_query.specs.SearchTree.{AreKnownNodes, AreUnstalled, FollowsParents, IsKnownNode, IsSearchTree}
use Rattle.ch_query.specs.SearchSpace.{IsTight}
use Rattle.ch_query.specs.Underway.{idle_of, IsUnderway, KeepsSettled}
use Rattle.ch_query.proofs.one_side.ByNode.{by_node-at, by_node-some}
use Rattle.ch_query.proofs.one_side.End.{settled}
use Rattle.ch_query.proofs.one_side.Expanding.{leg_up}
use Rattle.ch_query.proofs.one_side.Parents.{chosen, parent, parent_least}
use Rattle.ch_query.proofs.one_side.Popping.{IsPopped, key_within, with_queue}
use Rattle.ch_query.proofs.one_side.Steps.{popped_settled}
use Rattle.ch_query.proofs.one_side.TightNodes.{tight_reached}

-- what is not some cost is none
pub no_cost_of : (known : Option Cost) → ((c : Cost) → known ≡ Some c → ⊥) → known ≡ None
no_cost_of None never = refl
no_cost_of (Some c) never = absurd (never c refl)

-- before any node is settled none is found
pub unstalled_none : (H : LevelsAndLegs) (asked : Question) (x : Search) (ranks : List ℕ) → IsFresh H x → ranks ≡ [] →
    AreUnstalled H asked x ranks
unstalled_none H asked x ranks fresh none = record {
  within = subst (All (λ rank. rank < nodes_of H)) (sym none) (λ i d low. absurd (omega (arith, low)));
  whole = λ v c is. absurd (fresh v c is);
}

-- a node left the queue and was settled
module _ (H : LevelsAndLegs) (asked : Question) (x : Search) (q : List (Option Cost)) (v : ℕ) (c : Cost) (u : IsUnderway H asked x)
    (p : IsPopped H x q v c) (z : Search) (settled : KeepsSettled H (with_queue x q) z) where
  pub unstalled_more : (old new : List ℕ) → AreUnstalled H asked x old → ((r : ℕ) → Contains old r → Contains new r) →
      All (λ rank. rank < nodes_of H) new → idle_of H asked v c ⊎ Contains new (rank_of H v) → AreUnstalled H asked z new
  unstalled_more old new are keeps within here = record {
    within = within;
    whole = λ w d is.
        elim (popped_settled _ _ _ _ _ u.search v c p.key.has p.key.least (key_within (keys_of H x) v c p.key.has) w d
        (subst (λ r. IsSettled (costs_of H x) r w d) p.rest (settled w d is))) [
          | inl was ↦ elim (are.whole w d was) [
            | inl idle ↦ inl idle
            | inr has ↦ inr (keeps (rank_of H w) has)
          ]
          | inr now ↦ subst (λ n. idle_of H asked n d ⊎ Contains new (rank_of H n)) (sym now.0)
              (subst (λ e. idle_of H asked v e ⊎ Contains new (rank_of H v)) (sym now.1) here)
        ];
  }

  -- it is found
  pub unstalled_push : (old new : List ℕ) (rank : ℕ) → AreUnstalled H asked x old → rank < nodes_of H → rank_of H v ≡ rank →
      new ≡ old ++ rank ∷ [] → AreUnstalled H asked z new
  unstalled_push old new rank are low at is = subst (AreUnstalled H asked z) (sym is)
      (unstalled_more old (old ++ rank ∷ []) are (λ r has. Contains-append_left old (rank ∷ []) r has)
      (All-push (λ r. r < nodes_of H) old rank are.within low)
      (inr (subst (Contains (old ++ rank ∷ [])) (sym at) (Contains-push old rank))))

  -- it is idle
  pub unstalled_skip : (old : List ℕ) → AreUnstalled H asked x old → idle_of H asked v c → AreUnstalled H asked z old
  unstalled_skip old are idle = unstalled_more old old are (λ r has. has) are.within (inl idle)

module _ (H : LevelsAndLegs) (levelled : IsLevelled H) (x : Search) where
  -- before the first rank no node is listed
  pub known_none : (tree : List TreeNode) → tree ≡ [] → AreKnownNodes H x [] tree
  known_none tree none = record {
    sound = λ e has. absurd (contains_none e (subst (λ l. Contains l e) none has));
    whole = λ v c low has known. absurd (contains_none (rank_of H v) has);
  }

  module _ (ranks : List ℕ) (i rank : ℕ) (inside : i < length ranks) (at : rank ≡ get_or ranks i 0) (tree : List TreeNode)
      (are : AreKnownNodes H x (take i ranks) tree) where
    split : take (i + 1) ranks ≡ take i ranks ++ rank ∷ []
    split = take_more ranks i 0 inside ∙ ap (λ r. take i ranks ++ r ∷ []) (sym at)

    cases : (r : ℕ) → Contains (take (i + 1) ranks) r → Contains (take i ranks) r ⊎ (rank ≡ r)
    cases r has = Contains-push_cases (take i ranks) rank r (subst (λ l. Contains l r) split has)

    -- a rank without a cost
    pub known_skip : cost_at x.labels.costs rank ≡ None → AreKnownNodes H x (take (i + 1) ranks) tree
    known_skip none = record {
      sound = are.sound;
      whole = λ v c low has known. elim (cases (rank_of H v) has) [
        | inl before ↦ are.whole v c low before known
        | inr here ↦ absurd (none-some c
            (sym none ∙ ap (cost_at x.labels.costs) here ∙ sym (by_node-at H x.labels.costs None None v low) ∙ known))
      ];
    }

    -- one more node is listed
    pub known_more : (new : List TreeNode) (e : TreeNode) → new ≡ tree ++ e ∷ [] → e.node < nodes_of H → rank_of H e.node ≡ rank →
        Some e.cost ≡ cost_at x.labels.costs rank → e.parent ≡ slice_index x.labels.parents rank →
        AreKnownNodes H x (take (i + 1) ranks) new
    known_more new e is low rank_is cost read =
        let known : cost_at (costs_of H x) e.node ≡ Some e.cost =
        by_node-at H x.labels.costs None None e.node low ∙ ap (cost_at x.labels.costs) rank_is ∙ sym cost in
        let parent_is : e.parent ≡ slice_index (parents_of H x) e.node =
        read ∙ ap (slice_index x.labels.parents) (sym rank_is) ∙ sym (by_node-at H x.labels.parents 0 0 e.node low) in
        subst (AreKnownNodes H x (take (i + 1) ranks)) (sym is) (record {
          sound = λ f has. elim (Contains-push_cases tree e f has) [
            | inl before ↦ are.sound f before
            | inr here ↦ subst (IsKnownNode H x) here (low, known, parent_is)
          ];
          whole = λ v c within has there. elim (cases (rank_of H v) has) [
            | inl before ↦ (
                let old = are.whole v c within before there in
                (old.0, Contains-append_left tree (e ∷ []) (record { node = v; cost = c; parent = old.0 }) old.1))
            | inr here ↦ (
                let node : e.node ≡ v = rank_one H levelled e.node v low within (rank_is ∙ here) in
                let same : e.cost ≡ c = same_Some _ _ (sym known ∙ ap (cost_at (costs_of H x)) node ∙ there) in (
                  e.parent,
                  subst (λ n. Contains (tree ++ e ∷ []) (record { node = n; cost = c; parent = e.parent })) node
                      (subst (λ k. Contains (tree ++ e ∷ []) (record { node = e.node; cost = k; parent = e.parent })) same
                      (Contains-push tree e)),
                ))
          ];
        })

-- from a node on a least path to m the parents lead back to the source as a route does
module _ (H : LevelsAndLegs) (asked : Question) (y : Search) (m : ℕ) (c : Cost) (r : HasReached H asked y m c) where
  -- x has its least cost, and is on a path to m of cost c
  record IsOn (x : ℕ) : Type 0 where
    cost : Cost
    known : cost_at (costs_of H y) x ≡ Some cost
    least : IsLeastUpwardPath (rows_of H asked.side) asked.source x cost
    tail : List Leg
    path : IsUpwardPath (rows_of H asked.side) x m tail
    cheap : IsAtMost (cost_sum cost (path_cost tail)) c

  -- one step back
  record StepsBack (x : ℕ) : Type 0 where
    leg : Leg
    choice : IsChosen (rows_of H asked.side) asked.source x (slice_index (parents_of H y) x) leg
    on : IsOn (slice_index (parents_of H y) x)
    lower : slice_index H.level (slice_index (parents_of H y) x) < slice_index H.level x

  step_back : (x : ℕ) → IsOn x → (x ≡ asked.source → ⊥) → StepsBack x
  step_back x t ne =
      let light : c.weight ≤ asked.most = r.underway.search.light m c r.known in
      let of : IsParent (rows_of H asked.side) (costs_of H y) (keys_of H y) x t.cost (slice_index (parents_of H y) x) =
      parent _ _ _ _ _ _ r.underway.search r.underway.parents m c light r.past r.avoids x ne t.cost t.known t.least t.tail t.path t.cheap in
      let total : cost_sum of.cost (path_cost (of.leg ∷ t.tail)) ≡ cost_sum t.cost (path_cost t.tail) =
      ap (cost_sum of.cost) (path_cost-cons of.leg t.tail) ∙ sym (cost_sum_assoc of.cost of.leg.cost (path_cost t.tail))
      ∙ ap (λ q. cost_sum q (path_cost t.tail)) of.sum in
      record {
        leg = of.leg;
        choice = chosen _ _ _ _ _ _ r.underway.search r.underway.parents m c light r.past r.avoids x ne t.cost t.known t.least t.tail t.path
            t.cheap;
        on = record {
          cost = of.cost;
          known = of.settled.0;
          least = parent_least _ _ _ _ _ _ r.underway.search r.underway.parents m c light r.past r.avoids x ne t.cost t.known t.least t.tail
              t.path t.cheap;
          tail = of.leg ∷ t.tail;
          path = (of.has, subst (λ q. IsUpwardPath (rows_of H asked.side) q m t.tail) (sym of.node) t.path);
          cheap = subst (λ q. IsAtMost q c) (sym total) t.cheap;
        };
        lower =
            let up = leg_up H r.underway.levelled asked.side (slice_index (parents_of H y) x) of.leg of.has in
            let higher = up.higher in
            let at = ap (slice_index H.level) of.node in
            omega (arith, higher, at);
      }

  -- the way that a route goes back from x, along parents
  abbrev IsTracedTo : ℕ → Type 0
  IsTracedTo x = (steps : List DescentStep) × IsDescent (rows_of H asked.side) asked.source x steps × FollowsParents (parents_of H y) x
      steps

  -- there is one from each node whose level is at most n
  traced_from : (n x : ℕ) → slice_index H.level x ≤ n → IsOn x → IsTracedTo x
  traced_from zero x low on = elim (cases_eq x asked.source) [
    | inl here ↦ ([], here, tt)
    | inr ne ↦ absurd (let s = step_back x on ne in let less = s.lower in omega (arith, low, less))
  ]
  traced_from (suc n) x low on = elim (cases_eq x asked.source) [
    | inl here ↦ ([], here, tt)
    | inr ne ↦ (
        let s = step_back x on ne in
        let less = s.lower in
        let rest = traced_from n (slice_index (parents_of H y) x) (omega (arith, low, less)) s.on in
        (record { low = slice_index (parents_of H y) x; leg = s.leg } ∷ rest.0, (ne, s.choice, rest.1), (refl, rest.2)))
  ]

  pub traced : IsTracedTo m
  traced = traced_from (slice_index H.level m) m (omega arith) (record {
    cost = c;
    known = r.known;
    least = r.least;
    tail = [];
    path = refl;
    cheap = subst (λ q. IsAtMost q c) (sym (cost_sum-no_cost c)) (IsAtMost_refl c);
  })

-- a search that stalls and has ended, with the ranks of the nodes where it did not stall, and the list of these nodes
module _ (H : LevelsAndLegs) (k : IsKeptForSome H) (side : Side) (s : ℕ) (x : Search) (u : IsUnderway H (stalling side s) x)
    (done : IsEmpty x.queue) (ranks : List ℕ) (are : AreUnstalled H (stalling side s) x ranks) (tree : List TreeNode)
    (listed : AreKnownNodes H x ranks tree) where
  -- the search has reached each tight node
  at : (v : ℕ) (c : Cost) → IsTight H side s v c → HasReached H (stalling side s) x v c
  at v c tight = tight_reached H k side s x u v c tight (λ w d key. absurd (done (rank_of H w) d (by_node-some H x.queue w d key).1))

  -- the list is the tree
  pub tree_is : IsSearchTree H side s tree
  tree_is = record {
    parents = parents_of H x;
    sound = λ e has. let is = listed.sound e has in (is.0, u.search.sound e.node e.cost is.1, is.2);
    whole = λ v c tight.
        let r = at v c tight in
        let is = settled _ _ _ _ _ u.search v c (u.search.light v c r.known) r.past r.avoids v c r.known (IsAtMost_refl c) in
        let low = (by_node-some H x.labels.costs v c r.known).0 in
        elim (are.whole v c is) [
          | inl idle ↦ absurd (r.avoids v c [] idle refl (subst (λ q. IsAtMost q c) (sym (cost_sum-no_cost c)) (IsAtMost_refl c)))
          | inr has ↦ listed.whole v c low has r.known
        ];
    traced = λ v c tight. traced H (stalling side s) x v c (at v c tight);
  }
