-- The stops of trees, and the trees that are met at the stops of a node.
use Rattle.std.proofs.Common.{◌≡◌, ℕ, ◌+◌, ◌<◌, List, [], ◌++◌, length, get_or, set, All, Contains, inl, inr, refl, sym}
use Rattle.std.proofs.Common.{◌∙◌, ap, subst, arith}
use Rattle.std.specs.Prelude.{◌==◌}
use Rattle.std.specs.List.{filter}
use Rattle.std.proofs.lemmas.Bool.{cases_eq, cases_lt, eqb-true}
use Rattle.std.proofs.lemmas.Bool.Decides.{nat_tests}
use Rattle.std.proofs.lemmas.List.{get_or-set_other, get_or-set_same, get_or_default}
use Rattle.std.proofs.lemmas.List.Elements.{All-contains, Contains-append_cases, Contains-append_left, Contains-append_right}
use Rattle.std.proofs.lemmas.List.Elements.{Contains-get_or}
use Rattle.ch_graph.specs.Cost.{cost_sum}
use Rattle.ch_graph.specs.Rows.{AreRowsOf, pairs_at}
use Rattle.ch_graph.proofs.Lists.{contains_filter, contains_filter_of, contains_map, contains_map_of}
use Rattle.ch_flows.specs.declared.meeting.Meet.{Meet}
use Rattle.ch_flows.specs.declared.meeting.Meeting.{Meeting}
use Rattle.ch_flows.specs.Meetings.{AreMeetings, ArePairs, AreStops, AreStopsAt, IsFirstOf, IsMeetingSoFar, IsMetBefore, IsNearer}
use Rattle.ch_flows.specs.Meetings.{list_at, shared_cost, stop_at}
use Rattle.ch_flows.specs.declared.tree.Mark.{Mark}
use Rattle.ch_flows.specs.Trees.{AreMarksInOrder, mark_at, no_mark}
use Rattle.ch_flows.proofs.Meetings.{meet_again, meet_goes_on, meet_stays}

module _ (lists : List (List (ℕ × Mark))) where
  -- before the first list there are no pairs
  pub pairs_none : ArePairs lists 0 []
  pairs_none = record {
    sound = λ v c mark has. absurd (let low = has.1 in omega (arith, low));
    whole = λ v c mark low has. absurd (omega (arith, low));
  }

  -- the pairs of one more list
  pub pairs_more : (n : ℕ) (pairs new : List (ℕ × (ℕ × Mark))) → new ≡ pairs ++ pairs_at n (list_at lists n) → ArePairs lists n pairs →
      ArePairs lists (n + 1) new
  pairs_more n pairs new is are =
      let put : ℕ × Mark → ℕ × (ℕ × Mark) = λ p. (p.0, (n, p.1)) in
      let here = pairs_at n (list_at lists n) in
      subst (ArePairs lists (n + 1)) (sym is) (record {
        sound = λ v c mark has. elim (Contains-append_cases pairs here (v, (c, mark)) has) [
          | inl before ↦ (let old = are.sound v c mark before in (omega (arith, old.0), old.1))
          | inr there ↦ (
              let r = contains_map_of put (list_at lists n) (v, (c, mark)) there in
              let at : n ≡ c = ap (λ (e : ℕ × (ℕ × Mark)). e.1.0) r.2 in
              let key : r.0.0 ≡ v = ap (λ (e : ℕ × (ℕ × Mark)). e.0) r.2 in
              let value : r.0.1 ≡ mark = ap (λ (e : ℕ × (ℕ × Mark)). e.1.1) r.2 in
              let entry : r.0 ≡ (v, mark) = λ i. (key i, value i) in (
                omega (arith, at),
                subst (λ (m : ℕ). Contains (list_at lists m) (v, mark)) at (subst (Contains (list_at lists n)) entry r.1),
              ))
        ];
        whole = λ v c mark low has. elim (cases_lt c n) [
          | inl less ↦ Contains-append_left pairs here (v, (c, mark)) (are.whole v c mark less has)
          | inr more ↦ (
              let at : c ≡ n = omega (arith, low, more) in
              Contains-append_right pairs here (v, (c, mark))
              (subst (λ (m : ℕ). Contains here (v, (m, mark))) (sym at)
              (contains_map put (list_at lists n) (v, mark) (subst (λ (m : ℕ). Contains (list_at lists m) (v, mark)) at has))))
        ];
      })

  module _ (pairs : List (ℕ × (ℕ × Mark))) (are : ArePairs lists (length lists) pairs) where
    -- the nodes of all pairs are below a bound
    pub pairs_low : (nodes : ℕ) → All (λ (list : List (ℕ × Mark)). All (λ (e : ℕ × Mark). e.0 < nodes) list) lists →
        All (λ (p : ℕ × (ℕ × Mark)). p.0 < nodes) pairs
    pairs_low nodes low k d inside =
        let p = get_or pairs k d in
        let is = are.sound p.0 p.1.0 p.1.1 (Contains-get_or pairs k d inside) in
        All-contains (λ (e : ℕ × Mark). e.0 < nodes) (list_at lists p.1.0) (p.0, p.1.1) (low p.1.0 [] is.0) is.1

    -- the rows of the pairs are the stops
    pub stops_are : (nodes : ℕ) (stops : List (List (ℕ × Mark))) → AreRowsOf nodes pairs stops → AreStops stops lists
    stops_are nodes stops made v inside =
        let count = made.count in
        let at = made.each v (omega (arith, inside, count)) in
        record {
          sound = λ c mark has.
              let here = subst (λ (l : List (ℕ × Mark)). Contains l (c, mark)) at has in
              let r = contains_map_of (λ (e : ℕ × (ℕ × Mark)). e.1) (filter (λ e. e.0 == v) pairs) (c, mark) here in
              let s = contains_filter_of (λ e. e.0 == v) pairs r.0 r.1 in
              let is : r.0 ≡ (v, (c, mark)) = λ i. (eqb-true _ _ s.1 i, r.2 i) in
              are.sound v c mark (subst (Contains pairs) is s.0);
          whole = λ c mark low has. subst (λ (l : List (ℕ × Mark)). Contains l (c, mark)) (sym at)
              (contains_map (λ (e : ℕ × (ℕ × Mark)). e.1) (filter (λ e. e.0 == v) pairs) (v, (c, mark))
              (contains_filter (λ e. e.0 == v) pairs (v, (c, mark)) (are.whole v c mark low has)
              (let e : v ≡ v = refl in grind (arith, nat_tests))));
        }

module _ (ups : List (ℕ × Mark)) (lists : List (List (ℕ × Mark))) (n node : ℕ) (mark : Mark) (stops : List (ℕ × Mark))
    (low : n < length ups) (entry : mark_at ups n ≡ (node, mark)) (order : AreMarksInOrder ups) (orders : All AreMarksInOrder lists)
    (are : AreStopsAt lists node stops) where
  -- before the first stop
  pub met_none : (meetings : List Meeting) → AreMeetings ups lists n meetings → (c : ℕ) → c < length lists →
      IsMetBefore ups (list_at lists c) n stops 0 c (get_or meetings c Meeting.Unknown)
  met_none meetings before c inside = inr ((λ k less. absurd (omega (arith, less))), before c inside)

  module _ (j tree : ℕ) (other : Mark) (stop : (tree, other) ≡ stop_at stops j) (less : j < length stops) where
    abbrev pub there : (tree < length lists) × Contains (list_at lists tree) (node, other)
    there = are.sound tree other
        (j, less, get_or_default stops j (tree, other) (0, no_mark) less ∙ sym stop)

    abbrev pub k : ℕ
    k = there.1.0

    abbrev pub downs : List (ℕ × Mark)
    downs = list_at lists tree

    at : mark_at downs k ≡ (node, other)
    at = get_or_default downs k (0, no_mark) (node, other) there.1.1 ∙ there.1.2

    same_node : (mark_at downs k).0 ≡ (mark_at ups n).0
    same_node = ap (λ (e : ℕ × Mark). e.0) at ∙ sym (ap (λ (e : ℕ × Mark). e.0) entry)

    met : (old result : Meeting) →
        IsNearer old (record { cost = cost_sum mark.cost other.cost; up = mark.spot; down = other.spot }) result →
        IsMetBefore ups downs n stops j tree old → IsMeetingSoFar ups downs (n + 1) result
    met old result (inl unknown) before = subst (IsMeetingSoFar ups downs (n + 1)) (sym unknown) tt
    met old result (inr first) before =
        let new : Meet = record {
          cost = shared_cost ups downs n k;
          up = (mark_at ups n).1.spot;
          down = (mark_at downs k).1.spot;
        } in
        let own : Meet = record { cost = cost_sum mark.cost other.cost; up = mark.spot; down = other.spot } in
        let e : own ≡ new = λ i. record {
          cost = cost_sum (sym entry i).1.cost (sym at i).1.cost;
          up = (sym entry i).1.spot;
          down = (sym at i).1.spot;
        } in
        let is = subst (λ (m : Meet). IsFirstOf old m result) e first in
        let ordered = orders tree [] there.0 in
        elim before [
          | inl seen ↦ meet_again ups downs n order ordered low k there.1.1 same_node old result seen is
          | inr unseen ↦ meet_goes_on ups downs n order ordered low k there.1.1 same_node old result unseen.1 is
        ]

    -- one more stop
    pub met_more : (old new : List Meeting) (d result : Meeting) → length old ≡ length lists →
        IsNearer (get_or old tree d) (record { cost = cost_sum mark.cost other.cost; up = mark.spot; down = other.spot }) result →
        new ≡ set old tree result →
        ((c : ℕ) → c < length lists → IsMetBefore ups (list_at lists c) n stops j c (get_or old c Meeting.Unknown)) →
        (c : ℕ) → c < length lists → IsMetBefore ups (list_at lists c) n stops (j + 1) c (get_or new c Meeting.Unknown)
    met_more old new d result long nearer is before c inside = elim (cases_eq c tree) [
      | inl same ↦ (
          let value : get_or new c Meeting.Unknown ≡ result =
          ap (λ (l : List Meeting). get_or l c Meeting.Unknown) is
          ∙ ap (λ (m : ℕ). get_or (set old tree result) m Meeting.Unknown) same
          ∙ get_or-set_same old tree result Meeting.Unknown (omega (arith, there.0, long)) in
          let read : get_or old tree d ≡ get_or old tree Meeting.Unknown =
          get_or_default old tree d Meeting.Unknown (omega (arith, there.0, long)) in
          let own = subst (IsMetBefore ups downs n stops j tree) (sym read) (before tree there.0) in
          let now : IsMeetingSoFar ups downs (n + 1) result = met (get_or old tree d) result nearer own in
          inl (subst (λ (m : ℕ). IsMeetingSoFar ups (list_at lists m) (n + 1) (get_or new c Meeting.Unknown)) (sym same)
          (subst (IsMeetingSoFar ups downs (n + 1)) (sym value) now)))
      | inr differs ↦ (
          let value : get_or new c Meeting.Unknown ≡ get_or old c Meeting.Unknown =
          ap (λ (l : List Meeting). get_or l c Meeting.Unknown) is ∙ get_or-set_other old tree c result Meeting.Unknown differs in
          subst (IsMetBefore ups (list_at lists c) n stops (j + 1) c) (sym value) (elim (before c inside) [
            | inl seen ↦ inl seen
            | inr unseen ↦ inr (
              (λ m fewer. elim (cases_lt m j) [
                | inl lower ↦ unseen.0 m lower
                | inr more ↦ (
                    let here : m ≡ j = omega (arith, fewer, more) in
                    λ is_c. differs (sym is_c ∙ ap (λ (i : ℕ). (stop_at stops i).0) here ∙ sym (ap (λ (e : ℕ × Mark). e.0) stop)))
              ]),
              unseen.1,
            )
          ]))
    ]

  -- behind the last stop
  pub met_all : (meetings : List Meeting) → ((c : ℕ) → c < length lists →
      IsMetBefore ups (list_at lists c) n stops (length stops) c (get_or meetings c Meeting.Unknown)) →
      AreMeetings ups lists (n + 1) meetings
  met_all meetings before c inside = elim (before c inside) [
    | inl seen ↦ seen
    | inr unseen ↦ (
        let downs = list_at lists c in
        meet_stays ups downs n order (orders c [] inside) low (λ j less same.
        let e = mark_at downs j in
        let node_is : e.0 ≡ node = same ∙ ap (λ (p : ℕ × Mark). p.0) entry in
        let has : Contains downs (e.0, e.1) = (j, less, get_or_default downs j (get_or downs j (0, no_mark)) (0, no_mark) less) in
        let stop = are.whole c e.1 inside (subst (λ (m : ℕ). Contains downs (m, e.1)) node_is has) in
        unseen.0 stop.0 stop.1
        (ap (λ (p : ℕ × Mark). p.0) (get_or_default stops stop.0 (0, no_mark) (c, e.1) stop.1 ∙ stop.2)))
        (get_or meetings c Meeting.Unknown) unseen.1)
  ]
