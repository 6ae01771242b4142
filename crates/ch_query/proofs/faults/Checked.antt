-- The answers of `check`.
use Rattle.std.proofs.Common.{get_or, ◌≡◌, ℕ, ◌<◌, All, Contains, Option, Some, None, refl, sym, subst, inl, inr}
use Rattle.std.specs.Prelude.{slice_get, Result, Ok, Err, IfOk, IfErr}
use Rattle.std.proofs.lemmas.Bool.{false≢true}
use Rattle.std.proofs.lemmas.Option.{slice_get_within, slice_get-get_or}
use Rattle.std.proofs.lemmas.List.Elements.{All-contains}
use Rattle.ch_graph.specs.declared.arc.InArc.{InArc}
use Rattle.ch_graph.specs.declared.cost.Cost.{Cost}
use Rattle.ch_graph.specs.declared.saved.SavedLeg.{SavedLeg}
use Rattle.ch_graph.specs.Graph.{Network}
use Rattle.ch_graph.specs.Saved.{OrderAndLegs}
use Rattle.ch_hierarchy.specs.declared.fault.CheckFault.TheVariants.{Base, Middle, Arc, Lower}
use Rattle.ch_hierarchy.specs.declared.fault.CheckError.{CheckError}
use Rattle.ch_hierarchy.specs.declared.fault.CheckError.TheVariants.{Fault, NoMemory}
use Rattle.ch_hierarchy.specs.Hierarchy.{LevelsAndLegs, nodes_of}
use Rattle.ch_hierarchy.specs.Kept.{IsFounded, HasLegWithin, IsCovered, IsKept}
use Rattle.ch_hierarchy.specs.Assembling.{IsFirstFailing}
use Rattle.ch_hierarchy.specs.Saved.{NamesFor, HasFault, IsFaultless, IsFirstFault, NamesKept}
use Rattle.ch_hierarchy.specs.declared.side.Side.TheVariants.{Down}
use Rattle.ch_hierarchy.proofs.theory.OneSaved.{one_saved}
use Rattle.ch_hierarchy.proofs.theory.SavedFaults.{HasNoneBelow, none_more, first_at, none_early, no_fault, Checks, checks_value}
use Rattle.ch_hierarchy.proofs.theory.SavedFaults.{checks_fault, checks_no_memory}
use Rattle.ch_query.specs.Checking.{IsOkWhere, IsArcIfBase, IsIfFault, IsSumIfShortcut, IsServed, NamesFounded}
use Rattle.ch_query.specs.Covering.{IsFirstUncovered}
use Rattle.ch_query.proofs.faults.FirstFailing.{held_at}
use Rattle.ch_query.proofs.routing.Rows.{has_row}

some_or_none : (v : ℕ) (m : Option ℕ) → m ≡ Some v → m ≡ None → ⊥
some_or_none v m e f = cc

-- the default leg of a read past the end
no_leg : SavedLeg
no_leg = record { from = 0; to = 0; cost = record { weight = 0; arcs = 0 }; middle = None }

no_arc : InArc
no_arc = record { from = 0; to = 0; weight = 0 }

module _ (g : Network) (s : OrderAndLegs) (H : LevelsAndLegs) (named : NamesFor g s H) where
  -- if the leg at a place is right, it has no fault
  base_gone : (p : ℕ) → ((l : SavedLeg) → slice_get s.legs p ≡ Some l → IsArcIfBase g l) → HasFault g s (Base p) → ⊥
  base_gone p right (l, none, (at, (K, names, bad))) = bad (subst (IsFounded g K l.from l.to l.cost) (sym none) (right l at none))

  middle_gone : (p : ℕ) → ((l : SavedLeg) → slice_get s.legs p ≡ Some l → IsSumIfShortcut H l) → HasFault g s (Middle p) → ⊥
  middle_gone p right (l, v, some, (at, (K, names, bad))) =
      bad (subst (λ q. IsFounded g q l.from l.to l.cost l.middle) (one_saved s H K named.0 names)
      (subst (IsFounded g H l.from l.to l.cost) (sym some) (right l at v some)))

  arc_gone : (p : ℕ) → ((a : InArc) → slice_get g.arcs p ≡ Some a → IsServed H a) → HasFault g s (Arc p) → ⊥
  arc_gone p right (a, at, apart, (K, names, bad)) = bad (subst (λ q. HasLegWithin q a) (one_saved s H K named.0 names) (right a at apart))

  lower_gone : (v : ℕ) → IsCovered H v → HasFault g s (Lower v) → ⊥
  lower_gone v right (lt, (K, names, bad)) = bad (subst (λ q. IsCovered q v) (one_saved s H K named.0 names) right)

  -- if the leg at a place is wrong, it has the fault
  base_there : (i : ℕ) → IsFirstFailing (IsArcIfBase g) s.legs i → HasFault g s (Base i)
  base_there i f = at l.middle refl
    where
      l : SavedLeg
      l = get_or s.legs i no_leg

      at : (m : Option ℕ) → l.middle ≡ m → HasFault g s (Base i)
      at None none = (
        l,
        none,
        (
          slice_get-get_or s.legs i no_leg f.within,
          (H, named.0, λ founded. f.fails no_leg (λ _. subst (IsFounded g H l.from l.to l.cost) none founded)),
        ),
      )
      at (Some v) some = absurd (f.fails no_leg (λ none. absurd (some_or_none v l.middle some none)))

  middle_there : (i : ℕ) → IsFirstFailing (IsSumIfShortcut H) s.legs i → HasFault g s (Middle i)
  middle_there i f = at l.middle refl
    where
      l : SavedLeg
      l = get_or s.legs i no_leg

      at : (m : Option ℕ) → l.middle ≡ m → HasFault g s (Middle i)
      at None none = absurd (f.fails no_leg (λ v some. absurd (some_or_none v l.middle some none)))
      at (Some v) some = (
        l,
        v,
        some,
        (
          slice_get-get_or s.legs i no_leg f.within,
          (H, named.0, λ founded. f.fails no_leg (λ u is. subst (IsFounded g H l.from l.to l.cost) is founded)),
        ),
      )

  arc_there : (i : ℕ) → IsFirstFailing (IsServed H) g.arcs i → HasFault g s (Arc i)
  arc_there i f = (
    get_or g.arcs i no_arc,
    slice_get-get_or g.arcs i no_arc f.within,
    λ same. f.fails no_arc (λ apart. absurd (apart same)),
    (H, named.0, λ served. f.fails no_arc (λ apart. served)),
  )

  -- the first such fault is the first of all, if no earlier kind has a fault
  pub base_first : (i : ℕ) → IsFirstFailing (IsArcIfBase g) s.legs i → IsFirstFault g s (Base i)
  base_first i f = first_at g s (Base i) (none_early g s H named) (base_there i f)
      (λ p lt h. base_gone p (λ l at. held_at (IsArcIfBase g) s.legs p l (λ d. f.before p d lt) at) h)

  module _ (bases : All (IsArcIfBase g) s.legs) where
    no_base : HasNoneBelow g s 4
    no_base = none_more g s 3 (none_early g s H named) (λ p h.
        base_gone p (λ l at. held_at (IsArcIfBase g) s.legs p l (λ d. bases p d (slice_get_within s.legs p l at)) at) h)

    pub middle_first : (i : ℕ) → IsFirstFailing (IsSumIfShortcut H) s.legs i → IsFirstFault g s (Middle i)
    middle_first i f = first_at g s (Middle i) no_base (middle_there i f)
        (λ p lt h. middle_gone p (λ l at. held_at (IsSumIfShortcut H) s.legs p l (λ d. f.before p d lt) at) h)

    module _ (sums : All (IsSumIfShortcut H) s.legs) where
      no_middle : HasNoneBelow g s 5
      no_middle = none_more g s 4 no_base
          (λ p h. middle_gone p (λ l at. held_at (IsSumIfShortcut H) s.legs p l (λ d. sums p d (slice_get_within s.legs p l at)) at) h)

      pub arc_first : (i : ℕ) → IsFirstFailing (IsServed H) g.arcs i → IsFirstFault g s (Arc i)
      arc_first i f = first_at g s (Arc i) no_middle (arc_there i f)
          (λ p lt h. arc_gone p (λ a at. held_at (IsServed H) g.arcs p a (λ d. f.before p d lt) at) h)

      module _ (served : All (IsServed H) g.arcs) where
        no_arc_fault : HasNoneBelow g s 6
        no_arc_fault = none_more g s 5 no_middle
            (λ p h. arc_gone p (λ a at. held_at (IsServed H) g.arcs p a (λ d. served p d (slice_get_within g.arcs p a at)) at) h)

        pub lower_first : (v : ℕ) → IsFirstUncovered H v → IsFirstFault g s (Lower v)
        lower_first v f =
            first_at g s (Lower v) no_arc_fault (subst (λ n. v < n) named.1 f.within, (H, named.0, f.fails))
            (λ p lt h. lower_gone p (f.first p lt) h)

        founded : (u w : ℕ) (c : Cost) (m : Option ℕ) → Contains s.legs (record { from = u; to = w; cost = c; middle = m }) →
            IsFounded g H u w c m
        founded u w c None has = All-contains (IsArcIfBase g) s.legs (record { from = u; to = w; cost = c; middle = None }) bases has refl
        founded u w c (Some v) has = All-contains (IsSumIfShortcut H) s.legs
            (record { from = u; to = w; cost = c; middle = Some v }) sums has v refl

        -- if there is no such fault, the hierarchy is right for the graph
        pub all_kept : ((v : ℕ) → v < nodes_of H → IsCovered H v) → IsKept g H
        all_kept covered = record {
          nodes = named.1;
          levelled = named.0.levelled;
          founded = λ u w c m leg. founded u w c m ((named.0.legs u w c m).0 leg);
          arcs = λ a has apart. All-contains (IsServed H) g.arcs a served has apart;
          covered = λ v a b ha hb apart. covered v (has_row H named.0.levelled Down v a ha) a b ha hb apart;
        }

-- a result with the answers of `check` is Ok exactly if there is no fault
pub accepted_by : (g : Network) (s : OrderAndLegs) (r : Result LevelsAndLegs CheckError) → Checks g s r → IsOkWhere r (IsFaultless g s)
accepted_by g s (Ok H) checks = (λ _. no_fault g s H ((checks.0 H).0 refl), λ _. inl refl)
accepted_by g s (Err (Fault f)) checks = (λ ok. absurd (false≢true ok), λ none. absurd (none f ((checks.1 f).0 refl).has))
accepted_by g s (Err NoMemory) checks = (λ ok. absurd (false≢true ok), λ _. inr refl)

-- its value is the named hierarchy, and is right for the graph
pub kept_by : (g : Network) (s : OrderAndLegs) (r : Result LevelsAndLegs CheckError) → Checks g s r → IfOk r (NamesKept g s)
kept_by g s (Ok H) checks = (checks.0 H).0 refl
kept_by g s (Err e) checks = tt

-- from a hierarchy whose legs and arcs are right, the answer of the search for pairs gives the answer of `check`
pub checks_founded : (g : Network) (s : OrderAndLegs) (H : LevelsAndLegs) (r : Result LevelsAndLegs CheckError) → NamesFounded g s H →
    IfOk r (λ K. (K ≡ H) × ((v : ℕ) → v < nodes_of K → IsCovered K v)) →
    IfErr r (IsIfFault (λ f. (v : ℕ) × (f ≡ Lower v) × IsFirstUncovered H v)) → Checks g s r
checks_founded g s H (Ok K) founded value fault =
    let covered = subst (λ q. (v : ℕ) → v < nodes_of q → IsCovered q v) value.0 value.1 in
    subst (λ q. Checks g s (Ok q)) (sym value.0)
    (checks_value g s H (founded.names.0, all_kept g s H founded.names founded.bases founded.sums founded.served covered))
checks_founded g s H (Err (Fault f)) founded value fault =
    let (v, is, first) = fault f refl in
    checks_fault g s f (subst (IsFirstFault g s) (sym is)
    (lower_first g s H founded.names founded.bases founded.sums founded.served v first))
checks_founded g s H (Err NoMemory) founded value fault = checks_no_memory g s
