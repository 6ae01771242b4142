-- The first leg whose pair of nodes is faulty.
use Rattle.std.proofs.Common.{◌≡◌, ℕ, ◌+◌, ◌<◌, ◌≤◌, ◌⊎◌, inl, inr, List, [], ◌∷◌, length, take, get_or, Contains, Option, Some}
use Rattle.std.proofs.Common.{None, refl, sym, ◌∙◌, ap, subst, arith}
use Rattle.std.specs.Prelude.{AllPairs, slice_get, slice_index, unwrap_or, MatchOption}
use Rattle.std.proofs.lemmas.Bool.{cases_eq, cases_lt}
use Rattle.std.proofs.lemmas.Option.{none-some, same_Some, slice_get-get_or, slice_get_within, get_or_from_slice_get}
use Rattle.std.proofs.lemmas.List.{get_or-take, get_or_default, length-take-le, take_all}
use Rattle.std.proofs.lemmas.List.Elements.{Contains-get_or, Contains-append_left, Contains-append_right, Contains-append_cases}
use Rattle.ch_graph.specs.declared.saved.SavedLeg.{SavedLeg}
use Rattle.ch_graph.proofs.Lists.{contains_head, contains_cons, contains_none, pairs_append}
use Rattle.ch_hierarchy.specs.declared.placing.Placed.{Placed}
use Rattle.ch_hierarchy.specs.Saved.{IsOrderOf, AreLevelsOf, JoinsNodes, IsSamePair, HasPairFault}
use Rattle.ch_hierarchy.specs.Placing.{no_saved_leg, from_of, to_of, IsPlacedBy, ArePlaced, IsPushedWhereUp}
use Rattle.ch_hierarchy.specs.Sorting.{IsEarlier, AreInOrder, IsSortOf, IsPlacedBelow}
use Rattle.ch_hierarchy.specs.Doubles.{IsLessened, IsTwin}
use Rattle.ch_hierarchy.specs.Assembling.{IsFirstFailing, IsFirstPairFault, IsSide, ArePairs}
use Rattle.ch_hierarchy.proofs.theory.SavedLevels.{one_is_higher}

-- the entries of the first i legs, in the order of the list
pub record ArePlacedBefore (low high : SavedLeg → ℕ) (levels : List ℕ) (legs : List SavedLeg) (i : ℕ) (entries : List Placed) : Type 0 where
  pub sound : (e : Placed) → Contains entries e → IsPlacedBy low high levels legs e × (e.place < i)
  pub whole : (e : Placed) → IsPlacedBy low high levels legs e → e.place < i → Contains entries e
  pub order : AllPairs IsEarlier entries

module _ (low high : SavedLeg → ℕ) (levels : List ℕ) (legs : List SavedLeg) where
  -- before the first leg there are no entries
  pub placed_none : ArePlacedBefore low high levels legs 0 []
  placed_none = record {
    sound = λ e h. absurd (contains_none e h);
    whole = λ e is lt. absurd (omega arith);
    order = λ i j d lt within. absurd (omega arith);
  }

  -- an entry is determined by its place
  same_entry : (e : Placed) (i : ℕ) → IsPlacedBy low high levels legs e → e.place ≡ i →
      record { lower = low (get_or legs i no_saved_leg); higher = high (get_or legs i no_saved_leg); place = i } ≡ e
  same_entry e i is same = λ k. record {
    lower = (ap (λ j. low (get_or legs j no_saved_leg)) (sym same) ∙ sym is.1) k;
    higher = (ap (λ j. high (get_or legs j no_saved_leg)) (sym same) ∙ sym is.2) k;
    place = (sym same) k;
  }

  -- the entries of one more leg
  pub placed_more : (i : ℕ) (old new : List Placed) → ArePlacedBefore low high levels legs i old → i < length legs →
      IsPushedWhereUp levels (record {
        lower = low (get_or legs i no_saved_leg);
        higher = high (get_or legs i no_saved_leg);
        place =
            i;
      }) old new → ArePlacedBefore low high levels legs (i + 1) new
  placed_more i old new p lt (inl up) =
      let x : Placed = record { lower = low (get_or legs i no_saved_leg); higher = high (get_or legs i no_saved_leg); place = i } in
      record {
        sound = λ e h. elim (Contains-append_cases old (x ∷ []) e (subst (λ q. Contains q e) up.1 h)) [
          | inl here ↦ (let s = p.sound e here in let less = s.1 in (s.0, omega arith))
          | inr there ↦ elim (contains_cons x e [] there) [
            | inl is ↦ subst (λ (q : Placed). IsPlacedBy low high levels legs q × (q.place < i + 1)) is
                ((lt, refl, refl, up.0), omega arith)
            | inr none ↦ absurd (contains_none e none)
          ]
        ];
        whole = λ e is less. subst (λ q. Contains q e) (sym up.1) (elim (cases_eq e.place i) [
          | inl same ↦ Contains-append_right old (x ∷ []) e (subst (Contains (x ∷ [])) (same_entry e i is same) (contains_head x []))
          | inr apart ↦ Contains-append_left old (x ∷ []) e (p.whole e is (omega arith))
        ]);
        order = subst (AllPairs IsEarlier) (sym up.1)
            (pairs_append IsEarlier old (x ∷ []) p.order (λ j k d less within. absurd (omega arith))
            (λ a b ha hb. elim (contains_cons x b [] hb) [
              | inl is ↦ (let s = (p.sound a ha).1 in subst (λ (q : Placed). a.place < q.place) is s)
              | inr none ↦ absurd (contains_none b none)
            ]));
      }
  placed_more i old new p lt (inr level) = record {
    sound = λ e h. (let s = p.sound e (subst (λ q. Contains q e) level.1 h) in let less = s.1 in (s.0, omega arith));
    whole = λ e is less. subst (λ q. Contains q e) (sym level.1) (elim (cases_eq e.place i) [
      | inl same ↦ absurd (let up = subst (λ (q : Placed). slice_index levels q.lower < slice_index levels q.higher)
          (sym (same_entry e i is same)) is.3 in let not = level.0 in omega arith)
      | inr apart ↦ p.whole e is (omega arith)
    ]);
    order = subst (AllPairs IsEarlier) (sym level.1) p.order;
  }

  -- the entries of all legs
  pub placed_all : (i : ℕ) (entries : List Placed) → length legs ≤ i → ArePlacedBefore low high levels legs i entries →
      ArePlaced low high levels legs entries × AllPairs IsEarlier entries
  placed_all i entries le p = (λ e. (λ h. (p.sound e h).0, λ is. p.whole e is (let lt = is.0 in omega arith)), p.order)

  -- the sorted entries are entries of the same legs
  pub placed_sorted : (entries sorted : List Placed) → ArePlaced low high levels legs entries → IsSortOf entries sorted →
      ArePlaced low high levels legs sorted
  placed_sorted entries sorted placed s e = (λ h. (placed e).0 ((s.each e).0 h), λ is. (s.each e).1 ((placed e).1 is))

  -- if the legs are between nodes below n, so are the entries
  pub placed_below : (n : ℕ) (entries : List Placed) → ArePlaced low high levels legs entries →
      ((l : SavedLeg) → Contains legs l → (low l < n) × (high l < n)) → (e : Placed) → Contains entries e → IsPlacedBelow n e
  placed_below n entries placed below e h =
      let is = (placed e).0 h in
      let b = below (get_or legs e.place no_saved_leg) (Contains-get_or legs e.place no_saved_leg is.0) in
      (subst (λ q. q < n) (sym is.1) b.0, subst (λ q. q < n) (sym is.2) b.1)

  -- a twin has the two nodes of an earlier leg
  pub twin_legs : (entries : List Placed) → ArePlaced low high levels legs entries → (p : ℕ) → IsTwin entries p →
      (i : ℕ) × (i < p) × (p < length legs) × (low (get_or legs i no_saved_leg) ≡ low (get_or legs p no_saved_leg))
      × (high (get_or legs i no_saved_leg) ≡ high (get_or legs p no_saved_leg))
  twin_legs entries placed p t =
      let a = (placed t.0).0 t.2 in
      let b = (placed t.1).0 t.3 in
      let lower = sym a.1 ∙ t.4 ∙ b.1 in
      let higher = sym a.2 ∙ t.5 ∙ b.2 in (
        t.0.place,
        (let lt = t.6 in let is = t.7 in omega arith),
        (let lt = b.0 in let is = t.7 in omega arith),
        subst (λ q. low (get_or legs t.0.place no_saved_leg) ≡ low (get_or legs q no_saved_leg)) t.7 lower,
        subst (λ q. high (get_or legs t.0.place no_saved_leg) ≡ high (get_or legs q no_saved_leg)) t.7 higher,
      )

  -- two legs that go up between the same two nodes are a twin
  pub legs_twin : (entries : List Placed) → ArePlaced low high levels legs entries → (i j : ℕ) → i < j → j < length legs →
      low (get_or legs i no_saved_leg) ≡ low (get_or legs j no_saved_leg) →
      high (get_or legs i no_saved_leg) ≡ high (get_or legs j no_saved_leg) →
      slice_index levels (low (get_or legs j no_saved_leg)) < slice_index levels (high (get_or legs j no_saved_leg)) → IsTwin entries j
  legs_twin entries placed i j lt within lower higher up =
      let a : Placed = record { lower = low (get_or legs j no_saved_leg); higher = high (get_or legs j no_saved_leg); place = i } in
      let b : Placed = record { lower = low (get_or legs j no_saved_leg); higher = high (get_or legs j no_saved_leg); place = j } in
      (a, b, (placed a).1 (omega arith, sym lower, sym higher, up), (placed b).1 (within, refl, refl, up), refl, refl, lt, refl)

module _ (n : ℕ) (order levels : List ℕ) (is : IsOrderOf n order) (are : AreLevelsOf order levels) (legs : List SavedLeg)
    (ups downs : List Placed)
    (joins : (l : SavedLeg) → Contains legs l → JoinsNodes n l) (up : ArePlaced from_of to_of levels legs ups)
    (down : ArePlaced to_of from_of levels legs downs) where
  -- a leg whose pair occurred before is a twin
  pub stood_twin : (i j : ℕ) → i < j → j < length legs → IsSamePair (get_or legs i no_saved_leg) (get_or legs j no_saved_leg) →
      IsTwin ups j ⊎ IsTwin downs j
  stood_twin i j lt within same =
      let l = get_or legs j no_saved_leg in
      let nodes = joins l (Contains-get_or legs j no_saved_leg within) in
      elim (one_is_higher n order levels is are l.from l.to nodes.0 nodes.1 nodes.2) [
        | inl rise ↦ inl (legs_twin from_of to_of levels legs ups up i j lt within same.0 same.1 rise)
        | inr fall ↦ inr (legs_twin to_of from_of levels legs downs down i j lt within same.1 same.0 fall)
      ]

  -- if there is no twin, each pair occurs once
  pub pairs_once : ((p : ℕ) → IsTwin ups p ⊎ IsTwin downs p → ⊥) → AllPairs (λ k l. IsSamePair k l → ⊥) legs
  pairs_once none i j d lt within same =
      let first = get_or_default legs i d no_saved_leg (omega arith) in
      let second = get_or_default legs j d no_saved_leg within in
      none j (stood_twin i j lt within (subst (λ (q : SavedLeg). IsSamePair q (get_or legs j no_saved_leg)) first
      (subst (IsSamePair (get_or legs i d)) second same)))

-- the first i legs
module _ (legs : List SavedLeg) (end : ℕ) (within : end ≤ length legs) where
  pub fair_length : length (take end legs) ≡ end
  fair_length = length-take-le end legs within

  -- a leg of them is in the whole list
  fair_at : (i : ℕ) → i < end → slice_get legs i ≡ Some (get_or (take end legs) i no_saved_leg)
  fair_at i lt = slice_get-get_or legs i no_saved_leg (omega arith) ∙ ap Some (sym (get_or-take end legs i no_saved_leg lt))

  -- a leg of the whole list, before the end, is one of them
  at_fair : (i : ℕ) (l : SavedLeg) → i < end → slice_get legs i ≡ Some l → get_or (take end legs) i no_saved_leg ≡ l
  at_fair i l lt at = get_or-take end legs i no_saved_leg lt ∙ get_or_from_slice_get legs i l no_saved_leg at

  -- a twin among them has a faulty pair
  twin_fault : (n : ℕ) (p : ℕ) →
      (i : ℕ) × (i < p) × (p < length (take end legs))
      × IsSamePair (get_or (take end legs) i no_saved_leg) (get_or (take end legs) p no_saved_leg) →
      HasPairFault n legs p
  twin_fault n p t =
      let size = fair_length in
      let less = t.1 in
      let inside = t.2 in (
        get_or (take end legs) p no_saved_leg,
        fair_at p (omega arith),
        inr (t.0, get_or (take end legs) t.0 no_saved_leg, less, fair_at t.0 (omega arith), t.3),
      )

-- the first legs join nodes, and the next one, if there is one, does not
abbrev pub EndsAt : ℕ → List SavedLeg → Option ℕ → Type 0
EndsAt n legs faulty = MatchOption faulty ((l : SavedLeg) → Contains legs l → JoinsNodes n l) (IsFirstFailing (JoinsNodes n) legs)

module _ (n : ℕ) (legs : List SavedLeg) where
  pub end_within : (faulty : Option ℕ) → EndsAt n legs faulty → unwrap_or faulty (length legs) ≤ length legs
  end_within None all = omega arith
  end_within (Some k) first = let lt = first.within in omega arith

  pub fair_join : (faulty : Option ℕ) → EndsAt n legs faulty → (l : SavedLeg) → Contains (take (unwrap_or faulty (length legs)) legs) l →
      JoinsNodes n l
  fair_join None all l h = all l (subst (λ q. Contains q l) (take_all (length legs) legs (omega arith)) h)
  fair_join (Some k) first l h =
      let size = fair_length legs k (let lt = first.within in omega arith) in
      let less = h.1 in
      subst (JoinsNodes n) (sym (get_or-take k legs h.0 l (omega arith)) ∙ h.2) (first.before h.0 l (omega arith))

  pub fair_joins : (faulty : Option ℕ) (end : ℕ) → EndsAt n legs faulty → end ≡ unwrap_or faulty (length legs) → (l : SavedLeg) →
      Contains (take end legs) l → JoinsNodes n l
  fair_joins faulty end ends is l h = fair_join faulty ends l (subst (λ e. Contains (take e legs) l) is h)

  -- the leg at the end does not join nodes
  end_fault : (k : ℕ) → IsFirstFailing (JoinsNodes n) legs k → HasPairFault n legs k
  end_fault k first = (get_or legs k no_saved_leg, slice_get-get_or legs k no_saved_leg first.within, inl (first.fails no_saved_leg))

  -- a leg that does not join nodes is not before the end
  end_covers : (faulty : Option ℕ) → EndsAt n legs faulty → (j : ℕ) (l : SavedLeg) → slice_get legs j ≡ Some l → (JoinsNodes n l → ⊥) →
      (k : ℕ) × (faulty ≡ Some k) × (k ≤ j)
  end_covers None all j l at bad = absurd (bad (all l (j, slice_get_within legs j l at, get_or_from_slice_get legs j l l at)))
  end_covers (Some k) first j l at bad = elim (cases_lt j k) [
    | inl lt ↦ absurd (bad (subst (JoinsNodes n) (get_or_from_slice_get legs j l l at) (first.before j l lt)))
    | inr ge ↦ (k, refl, ge)
  ]

  -- a leg at the end or after it exists only if some leg does not join nodes
  past_end : (faulty : Option ℕ) → (j : ℕ) → j < length legs → unwrap_or faulty (length legs) ≤ j → (k : ℕ) × (faulty ≡ Some k) × (k ≤ j)
  past_end None j lt le = absurd (omega arith)
  past_end (Some k) j lt le = (k, refl, le)

  -- if each leg joins nodes, the first legs are all legs
  all_fair : (faulty : Option ℕ) → EndsAt n legs faulty → faulty ≡ None →
      ((l : SavedLeg) → Contains legs l → JoinsNodes n l) × (take (unwrap_or faulty (length legs)) legs ≡ legs)
  all_fair None all e = (all, take_all (length legs) legs (omega arith))
  all_fair (Some k) first e = absurd (none-some k (sym e))

-- the least place of a leg that does not join nodes, or of a twin in either direction
module _ (n : ℕ) (order levels : List ℕ) (is : IsOrderOf n order) (are : AreLevelsOf order levels) (legs : List SavedLeg)
    (faulty first least : Option ℕ) (ends : EndsAt n legs faulty)
    (fair : List SavedLeg) (fair_is : fair ≡ take (unwrap_or faulty (length legs)) legs) (ups downs : List Placed)
    (up : ArePlaced from_of to_of levels fair ups) (down : ArePlaced to_of from_of levels fair downs)
    (a : IsLessened (IsTwin ups) faulty first) (b : IsLessened (IsTwin downs) first least) where
  end : ℕ
  end = unwrap_or faulty (length legs)

  within : unwrap_or faulty (length legs) ≤ length legs
  within = end_within n legs faulty ends

  up_there : ArePlaced from_of to_of levels (take (unwrap_or faulty (length legs)) legs) ups
  up_there = subst (λ q. ArePlaced from_of to_of levels q ups) fair_is up

  down_there : ArePlaced to_of from_of levels (take (unwrap_or faulty (length legs)) legs) downs
  down_there = subst (λ q. ArePlaced to_of from_of levels q downs) fair_is down

  -- this place has a faulty pair
  is_fault : (p : ℕ) → least ≡ Some p → HasPairFault n legs p
  is_fault p e = elim (b.is p e) [
    | inl before ↦ elim (a.is p before) [
      | inl bad ↦ end_fault n legs p (subst (λ q. EndsAt n legs q) bad ends)
      | inr twin ↦
          let t = twin_legs from_of to_of levels (take (unwrap_or faulty (length legs)) legs) ups up_there p twin in
          twin_fault legs (unwrap_or faulty (length legs)) within n p (t.0, t.1, t.2, (t.3, t.4))
    ]
    | inr twin ↦
        let t = twin_legs to_of from_of levels (take (unwrap_or faulty (length legs)) legs) downs down_there p twin in
        twin_fault legs (unwrap_or faulty (length legs)) within n p (t.0, t.1, t.2, (t.4, t.3))
  ]

  -- this place is at most each of those places
  covers_end : (k : ℕ) → faulty ≡ Some k → (p : ℕ) × (least ≡ Some p) × (p ≤ k)
  covers_end k e =
      let x = a.covers_known k e in
      let y = b.covers_known x.0 x.1 in
      let l = x.2 in
      let m = y.2 in
      (y.0, y.1, omega arith)

  covers_twin : (q : ℕ) → IsTwin ups q ⊎ IsTwin downs q → (p : ℕ) × (least ≡ Some p) × (p ≤ q)
  covers_twin q (inl t) =
      let x = a.covers_new q t in
      let y = b.covers_known x.0 x.1 in
      let l = x.2 in
      let m = y.2 in
      (y.0, y.1, omega arith)
  covers_twin q (inr t) = b.covers_new q t

  covers : (j : ℕ) → HasPairFault n legs j → (p : ℕ) × (least ≡ Some p) × (p ≤ j)
  covers j (l, at, inl bad) =
      let k = end_covers n legs faulty ends j l at bad in
      let c = covers_end k.0 k.1 in
      let x = k.2 in
      let y = c.2 in
      (c.0, c.1, omega arith)
  covers j (l, at, inr stood) = elim (cases_lt j (unwrap_or faulty (length legs))) [
    | inl lt ↦
        let fore = stood.2 in
        let low = at_fair legs (unwrap_or faulty (length legs)) within stood.0 stood.1 (omega arith) stood.3 in
        let high = at_fair legs (unwrap_or faulty (length legs)) within j l lt at in
        let size = fair_length legs (unwrap_or faulty (length legs)) within in
        covers_twin j (stood_twin n order levels is are (take (unwrap_or faulty (length legs)) legs) ups downs
        (fair_join n legs faulty ends) up_there down_there stood.0 j fore (omega arith)
        (subst (λ (q : SavedLeg). IsSamePair q (get_or (take (unwrap_or faulty (length legs)) legs) j no_saved_leg)) (sym low)
        (subst (IsSamePair stood.1) (sym high) stood.4)))
    | inr ge ↦
        let k = past_end n legs faulty j (slice_get_within legs j l at) ge in
        let c = covers_end k.0 k.1 in
        let x = k.2 in
        let y = c.2 in
        (c.0, c.1, omega arith)
  ]

  -- it is the place of the first faulty pair
  pub first_pair_fault : (p : ℕ) → least ≡ Some p → IsFirstPairFault n legs p
  first_pair_fault p e = record {
    has = is_fault p e;
    first = λ j lt h. (let c = covers j h in let same : c.0 ≡ p = same_Some c.0 p (sym c.1 ∙ e) in let le = c.2 in omega arith);
  }

  -- if there is no such place, the pairs are right
  pub all_pairs : least ≡ None → AreInOrder ups → AreInOrder downs → ArePairs n levels legs ups downs
  all_pairs none x y =
      let no_end : faulty ≡ None = at faulty refl in
      let all = all_fair n legs faulty ends no_end in
      record {
        joins = all.0;
        up = record {
          placed = subst (λ q. ArePlaced from_of to_of levels q ups) all.1 up_there;
          order = x;
          single =
              λ p t. never p (covers_twin p (inl t));
        };
        down = record {
          placed = subst (λ q. ArePlaced to_of from_of levels q downs) all.1 down_there;
          order = y;
          single =
              λ p t. never p (covers_twin p (inr t));
        };
      }
    where
      never : (q : ℕ) → (p : ℕ) × (least ≡ Some p) × (p ≤ q) → ⊥
      never q c = none-some c.0 (sym none ∙ c.1)

      at : (o : Option ℕ) → faulty ≡ o → faulty ≡ None
      at None e = e
      at (Some k) e = absurd (never k (covers_end k e))

-- if the legs make pairs, none has a faulty pair
pub no_pair_fault : (n : ℕ) (order levels : List ℕ) → IsOrderOf n order → AreLevelsOf order levels →
    (legs : List SavedLeg) (ups downs : List Placed) → ArePairs n levels legs ups downs → (i : ℕ) → HasPairFault n legs i → ⊥
no_pair_fault n order levels is are legs ups downs pairs i (l, at, inl bad) =
    bad (pairs.joins l (i, slice_get_within legs i l at, get_or_from_slice_get legs i l l at))
no_pair_fault n order levels is are legs ups downs pairs i (l, at, inr (j, k, less, there, same)) =
    pairs_once n order levels is are legs ups downs pairs.joins pairs.up.placed pairs.down.placed
    (λ p t. elim t [ inl up ↦ pairs.up.single p up | inr down ↦ pairs.down.single p down ]) j i l less (slice_get_within legs i l at)
    (subst (λ (q : SavedLeg). IsSamePair q (get_or legs i l)) (sym (get_or_from_slice_get legs j k l there))
    (subst (IsSamePair k) (sym (get_or_from_slice_get legs i l l at)) same))

-- the entries of pairs are within the nodes and the list
pub side_below : (n : ℕ) (low high : SavedLeg → ℕ) (levels : List ℕ) (legs : List SavedLeg) (entries : List Placed) →
    IsSide low high levels legs entries → ((l : SavedLeg) → Contains legs l → (low l < n) × (high l < n)) →
    (e : Placed) → Contains entries e → (e.lower < n) × (e.place < length legs)
side_below n low high levels legs entries side ends e h =
    ((placed_below low high levels legs n entries side.placed ends e h).0, ((side.placed e).0 h).0)
