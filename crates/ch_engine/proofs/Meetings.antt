-- The first meeting of two lists of branches: with one more branch, and what it tells of the route between the sources of two trees.
use Rattle.std.proofs.Common.{◌≡◌, ◌≢◌, ℕ, ◌+◌, ◌<◌, List, [], ◌∷◌, ◌++◌, Contains, Option, Some, None}
use Rattle.std.proofs.Common.{inl, inr, refl, sym, ◌∙◌, ap, subst, arith}
use Rattle.std.specs.Prelude.{MatchOption, ⊤}
use Rattle.std.proofs.lemmas.Option.{none-some, same_Some}
use Rattle.std.proofs.lemmas.List.Elements.{Contains-append_cases, Contains-append_left, Contains-append_right}
use Rattle.ch_graph.specs.Cost.{IsAtMost, IsSumTooLarge, cost_sum}
use Rattle.ch_graph.proofs.CostOrder.{IsAtMost_refl}
use Rattle.ch_graph.proofs.CostSums.{cost_sum_comm}
use Rattle.ch_graph.proofs.Lists.{contains_cons, contains_head, contains_none}
use Rattle.ch_hierarchy.specs.Hierarchy.{LevelsAndLegs, nodes_of}
use Rattle.ch_hierarchy.specs.declared.side.Side.TheVariants.{Up, Down}
use Rattle.ch_query.specs.TwoSided.{MeetsFirst}
use Rattle.ch_query.proofs.two_sides.MeetingSteps.{first_trans}
use Rattle.ch_engine.specs.declared.source_tree.SourceTree.{SourceTree}
use Rattle.ch_engine.specs.declared.sum_meets.Meeting.{Meeting}
use Rattle.ch_engine.specs.declared.sum_trees.Branch.{Branch}
use Rattle.ch_engine.specs.Held.{only}
use Rattle.ch_engine.specs.LegSums.{unknown}
use Rattle.ch_engine.specs.Lines.{IsOfSome, Lines}
use Rattle.ch_engine.specs.PlaceTrees.{IsFirstMeeting, IsMeetingOf, IsTreeBySlot}
use Rattle.ch_engine.specs.RouteSums.{IsPairSum}
use Rattle.ch_engine.specs.TableSums.{AreBranches, Covers, IsBranch, IsCell, IsFirstMet}
use Rattle.ch_engine.proofs.MeetingTrees.{tree_pair}
use Rattle.ch_engine.proofs.SumMeets.{cell_route, covers_by, first_old}

-- with no branches there is no meeting
pub meeting_none : (own : List Branch) → IsFirstMeeting own [] None
meeting_none own = record {
  is = λ x at. absurd (none-some x at);
  covers = λ a b first second same fits. absurd (contains_none b second);
}

-- a meeting is one with a longer list
meeting_wider : (own far more : List Branch) → ((b : Branch) → Contains far b → Contains more b) → (x : Meeting) →
    IsMeetingOf own far x → IsMeetingOf own more x
meeting_wider own far more wider x m = record {
  a = m.a;
  b = m.b;
  first = m.first;
  second = wider m.b m.second;
  node = m.node;
  same = m.same;
  cost = m.cost;
  sum = m.sum;
}

module _ (own far more : List Branch) where
  -- such as both lists together
  meeting_left : (x : Meeting) → IsMeetingOf own far x → IsMeetingOf own (far ++ more) x
  meeting_left = meeting_wider own far (far ++ more) (Contains-append_left far more)

  module _ (old new : Option Meeting) (before : IsFirstMeeting own far old) (here : IsFirstMeeting own more new) where
    -- the first meeting stays, if there is none with the other list
    pub meeting_kept : new ≡ None → IsFirstMeeting own (far ++ more) old
    meeting_kept none = record {
      is = λ x at. meeting_left x (before.is x at);
      covers = λ a b first second same fits. elim (Contains-append_cases far more b second) [
        | inl there ↦ before.covers a b first there same fits
        | inr there ↦ absurd (subst (λ (o : Option Meeting). Covers o a.node (cost_sum a.cost b.cost)) none
            (here.covers a b first there same fits))
      ];
    }

    -- or it is the first of both
    pub meeting_more : (y : Meeting) → new ≡ Some y → (result : Option Meeting) → IsFirstMet old y result →
        IsFirstMeeting own (far ++ more) result
    meeting_more y some result chosen = record {
      is = λ x at. elim chosen.chosen [
        | inl is ↦ (
            let equal : y ≡ x = same_Some _ _ (sym is ∙ at) in
            subst (IsMeetingOf own (far ++ more)) equal
            (meeting_wider own more (far ++ more) (Contains-append_right far more) y (here.is y some)))
        | inr is ↦ meeting_left x (before.is x (sym is ∙ at))
      ];
      covers = λ a b first second same fits.
          let cost = cost_sum a.cost b.cost in
          elim (Contains-append_cases far more b second) [
            | inl there ↦ first_old old result y chosen a.node cost (before.covers a b first there same fits)
            | inr there ↦ (
                let own_first : MeetsFirst (y.cost, y.node) (cost, a.node) =
                subst (λ (o : Option Meeting). Covers o a.node cost) some (here.covers a b first there same fits) in
                let e = chosen.covers_new in
                covers_by result e.0 a.node cost e.1
                (first_trans (e.0.cost, e.0.node) (y.cost, y.node) (cost, a.node) e.2 own_first))
          ];
    }

-- with a list of one branch: the only branch at its node makes the meeting, or there is none
module _ (own : List Branch) (one : Branch) (at : Option Branch)
    (all : (a : Branch) → Contains own a → a.node ≡ one.node → at ≡ Some a) where
  at_node : (a b : Branch) → Contains own a → Contains (one ∷ []) b → a.node ≡ b.node → (one ≡ b) × (at ≡ Some a)
  at_node a b first second node =
      let same : one ≡ b = elim (contains_cons one b [] second) [ inl equal ↦ equal | inr none ↦ absurd (contains_none b none) ] in
      (same, all a first (node ∙ sym (ap (λ (e : Branch). e.node) same)))

  pub none_there : at ≡ None → IsFirstMeeting own (one ∷ []) None
  none_there none = record {
    is = λ x some. absurd (none-some x some);
    covers = λ a b first second same fits. absurd (none-some a (sym none ∙ (at_node a b first second same).1));
  }

  module _ (there : Branch) (is : at ≡ Some there) where
    same_there : (a b : Branch) → Contains own a → Contains (one ∷ []) b → a.node ≡ b.node → (one ≡ b) × (there ≡ a)
    same_there a b first second node =
        let both = at_node a b first second node in (both.0, same_Some _ _ (sym is ∙ both.1))

    pub none_fits : IsSumTooLarge there.cost one.cost → IsFirstMeeting own (one ∷ []) None
    none_fits large = record {
      is = λ x some. absurd (none-some x some);
      covers = λ a b first second same fits.
          let both = same_there a b first second same in
          absurd (fits (subst (λ (e : Branch). IsSumTooLarge e.cost b.cost) both.1
          (subst (λ (e : Branch). IsSumTooLarge there.cost e.cost) both.0 large)));
    }

    pub one_meets : Contains own there → there.node ≡ one.node → (x : Meeting) → x.node ≡ there.node →
        x.cost ≡ cost_sum there.cost one.cost →
        (x.sum ≢ unknown → (there.sum ≢ unknown) × (one.sum ≢ unknown) × (x.sum ≡ there.sum + one.sum)) →
        IsFirstMeeting own (one ∷ []) (Some x)
    one_meets has node x here cost sum = record {
      is = λ y some. subst (IsMeetingOf own (one ∷ [])) (same_Some _ _ some) (record {
        a = there;
        b = one;
        first = has;
        second = contains_head one [];
        node = here;
        same = node;
        cost = cost;
        sum = sum;
      });
      covers = λ a b first second same fits.
          let both = same_there a b first second same in
          subst (λ (e : Branch). MeetsFirst (x.cost, x.node) (cost_sum e.cost b.cost, e.node)) both.1
          (subst (λ (e : Branch). MeetsFirst (x.cost, x.node) (cost_sum there.cost e.cost, there.node)) both.0
          (subst (IsAtMost x.cost) cost (IsAtMost_refl x.cost), λ tie. omega (arith, here)));
    }

-- a first meeting is that of the lists the other way round
pub meeting_turned : (own far : List Branch) (met : Option Meeting) → IsFirstMeeting own far met → IsFirstMeeting far own met
meeting_turned own far met first = record {
  is = λ x some.
      let m = first.is x some in
      record {
        a = m.b;
        b = m.a;
        first = m.second;
        second = m.first;
        node = m.node ∙ m.same;
        same = sym m.same;
        cost = m.cost ∙ cost_sum_comm m.a.cost m.b.cost;
        sum = λ known. let s = m.sum known in (s.1, s.0, omega (arith, s.2));
      };
  covers = λ a b has there same fits.
      let turned : IsSumTooLarge b.cost a.cost → IsSumTooLarge a.cost b.cost =
      λ large. elim large [ inl weight ↦ inl (omega (arith, weight)) | inr arcs ↦ inr (omega (arith, arcs)) ] in
      subst (λ (v : ℕ). Covers met v (cost_sum a.cost b.cost)) (sym same)
      (subst (Covers met b.node) (cost_sum_comm b.cost a.cost) (first.covers b a there has (sym same) (λ large. fits (turned large))));
}

module _ (H : LevelsAndLegs) (lines : Lines) (values : List ℕ) (s t : ℕ) where
  -- the first meeting of the trees of both ends is where a route would meet
  trees_cell : (ups downs : List Branch) → AreBranches Up H lines values s ups → AreBranches Down H lines values t downs →
      (met : Option Meeting) → IsFirstMeeting ups downs met → IsCell H lines values s t met
  trees_cell ups downs rise fall met first = record {
    offer = λ x is.
        let m = first.is x is in
        let up = rise.sound m.a m.first in
        let down = fall.sound m.b m.second in
        record {
          up = m.a.cost;
          down = m.b.cost;
          first = m.a.sum;
          second = m.b.sum;
          rise = subst (λ (v : ℕ). IsBranch Up H lines values s v m.a.cost m.a.sum) (sym m.node) up;
          fall = subst (λ (v : ℕ). IsBranch Down H lines values t v m.b.cost m.b.sum) (sym (m.node ∙ m.same)) down;
          cost = m.cost;
          sum = m.sum;
        };
    covers = λ v a b up down.
        let own = rise.whole v a up in
        let far = fall.whole v b down in
        let e : Branch = record { node = v; cost = a; sum = own.0 } in
        let f : Branch = record { node = v; cost = b; sum = far.0 } in
        let p = rise.sound e own.1 in
        let q = fall.sound f far.1 in
        first.covers e f own.1 far.1 refl (λ large. elim large [
          | inl weighs ↦ absurd (omega (arith, weighs, p.path.weight, q.path.weight))
          | inr many ↦ absurd (omega (arith, many, p.arcs, q.arcs))
        ]);
  }

  -- if its sum is known, it is that along the route
  pub trees_pair : IsOfSome H lines → t < nodes_of H → (ups downs : List Branch) → AreBranches Up H lines values s ups →
      AreBranches Down H lines values t downs → (met : Option Meeting) → IsFirstMeeting ups downs met → (x : Meeting) → met ≡ Some x →
      x.sum ≢ unknown → IsPairSum (only H lines) values s t x.cost.weight x.sum
  trees_pair of low ups downs rise fall met first x is known = tree_pair (only H lines) values s t of low (x.cost.weight, x.sum)
      (cell_route H (of.0, of.1, of.2) lines values s t met (trees_cell ups downs rise fall met first) x is known)

  -- so it is with the tree of the source by slot
  pub noted_pair : IsOfSome H lines → t < nodes_of H → (tree : SourceTree) → IsTreeBySlot Up H lines values s tree → (downs : List Branch) →
      AreBranches Down H lines values t downs → (met : Option Meeting) → IsFirstMeeting tree.branches.items downs met → (x : Meeting) →
      met ≡ Some x → x.sum ≢ unknown → IsPairSum (only H lines) values s t x.cost.weight x.sum
  noted_pair of low tree noted downs fall met first x is known = elim noted.branches [
    | inl none ↦ absurd (let m = first.is x is in contains_none m.a (subst (λ (l : List Branch). Contains l m.a) none m.first))
    | inr rise ↦ trees_pair of low tree.branches.items downs rise fall met first x is known
  ]

-- what is known of a meeting is right if its weight and its sum are
pub told_if : (known : Option (ℕ × ℕ)) (met : Option Meeting) (P : ℕ × ℕ → Type 0) → MatchOption known ⊤ (λ found.
    MatchOption met ⊥ (λ x. (found ≡ (x.cost.weight, x.sum)) × (x.sum ≢ unknown))) →
    ((x : Meeting) → met ≡ Some x → x.sum ≢ unknown → P (x.cost.weight, x.sum)) → MatchOption known ⊤ P
told_if None met P is holds = tt
told_if (Some found) None P is holds = absurd is
told_if (Some found) (Some x) P is holds = subst P (sym is.0) (holds x refl is.1)
