-- The box owns the memory behind the pointer.
use Rattle.ch_c.proofs.Steps.{◌≡◌, [], ◌∷◌, refl, sym, ap, ◌∙◌, proved, full_share, id⊢, emp, ftrue, fact, fact_i, tables, ‵, raw}
use Rattle.ch_c.proofs.Steps.{◌⊛◌, some, later, at_ret, ◌$◌, ◌∵◌, !, qed, done, move, keep, drop, use0, use1, use2, split, join}
use Rattle.ch_c.proofs.Steps.{fsplit, feq_i, pick, await, rewrite, suffices, enter, of_opd, stop, fld, whole, sub, no_more}
use Rattle.ch_c.proofs.Steps.{and_then, first, blocks, exec, returns, alloc_all, pass_all, free_all, look_at, get, get_in, sets}
use Rattle.ch_c.proofs.Steps.{lands_last, env, yes, no, plain, nothing, owned, heard, peeks, calls_at_last, triple_of, framed}
use Rattle.ch_c.proofs.Steps.{Stays, walk_of, says, stay_dropped, Goes-dropped, ends_at}
use Rattle.std.specs.Prelude.{Option, None, Some, IsSome}
use Rattle.std.proofs.lemmas.Bool.{false≢true}
use mir.Raw.{raw as bare}
use base.Fml.{flft}
use contract.BorrowLft.{◌⊑◌, ⊑_static}
use types.Tokens.{lft_new}
use denote.Laws.{shows}
use denote.Param.{arg, layout, param}
use denote.Param.Laws.{Laws, arg_laws}
use denote.Param.NoDrop.{glues}
use denote.RattleType.{RattleType}
use denote.RawPtr.{ptr_val}
use denote.Struct.Laws as struct
use denote.Struct.OwningLaws as owning
use denote.Triple.Clauses.{Lasts, lasts}
use Rattle.ch_c.specs.ErasedTopology.{owns_topology}
use Rattle.ch_c.proofs.Words.{Boxed, box_laws, word, heap_word, heap_is, word_fits, ptr_fits, Z, LZ, let_go}
use Rattle.ch_c.specs.contracts.erased_topology.ErasedTopology.into_box as f
use Rattle.ch_c.proofs.erased_topology.ErasedTopology.into_box.Statement.{statement}
use Rattle.ch_c.proofs.erased_topology.ErasedTopology.into_box.Code as code
use Rattle.ch_c.specs.contracts.erased_topology.ErasedTopology as Erased
use Rattle.ch_c.proofs.erased_topology.ErasedTopology.TheLaws as erased
use Rattle.ch_engine.specs.contracts.topology.Topology as Topology
use Rattle.ch_engine.proofs.topology.Topology.TheLaws as topology
use Rattle.std_alloc.specs.contracts.boxed.Box as Box
use Rattle.std_alloc.specs.contracts.boxed.Box.from_raw as g
use Rattle.std_alloc.proofs.boxed.Box.from_raw.Met.{met}
use Rattle.std_heap.specs.contracts.Global as Heap
use Rattle.std_heap.specs.contracts.GlobalAllocator.TheImpl.{ghosts, dict}
use Rattle.std_heap.proofs.GlobalAllocator.TheImpl.Met.{passed}
use Rattle.std_heap.proofs.Global.TheLaws as heap

abbrev stayed : Stays f.ended.signature.params f.ended.kept
stayed = (stay_dropped (plain (λ _. Erased.the_row)) yes, tt)

-- the topology as a type argument of a call, with its laws
abbrev X : RattleType
X = arg (bare (layout Topology.the_row)) no Topology.the_row

abbrev LX : Laws X
LX = arg_laws (bare (layout Topology.the_row)) no Topology.the_row topology.the_row_laws refl

-- a box of a topology
abbrev Whole : RattleType
Whole = Box.the_row Topology.the_row Heap.the_row ghosts

-- the value of an option that has one
the_some : {A : Type 0} (o : Option A) → IsSome o → (x : A) × (o ≡ Some x)
the_some None is = absurd (false≢true is)
the_some (Some x) is = (x, refl)

pub into_box_spec : {M : Type 1} → statement M
unfolding Rattle.ch_c.proofs.Destruct++none.drop.Code.code
into_box_spec {M} 𝓤 𝓛 𝓜 𝓡 wired =
    let c = f.clauses 𝓛 𝓜.mem 𝓡.returns in let W = walk_of 𝓛 f.ended stayed c in let 𝓣 = tables 𝓤 𝓛.H 𝓜 𝓡 𝓡.env in
    let γ = 𝓡.env in
    let known = met 𝓤 𝓛 𝓜 𝓡 (code.calls-std_alloc::boxed::Box::from_raw γ wired) X Z LX LZ ghosts dict let_go
    (passed γ (code.calls-std_heap::GlobalAllocator::allocate γ wired) (code.calls-std_heap::GlobalAllocator::deallocate γ wired)
    (code.calls-std_heap::GlobalAllocator::grow γ wired) (code.calls-std_heap::GlobalAllocator::shrink γ wired) M 𝓤 𝓛 𝓜 𝓡)
    (glues "ch_c::Destruct++none::drop" γ (code.calls-ch_c::Destruct++none::drop γ wired) Z LZ M 𝓤 𝓛 𝓜 𝓡) in
    proved 𝓛 f.ended stayed c 𝓜 𝓡 (Goes-dropped 𝓛 0 (plain (λ _. Erased.the_row)) yes (λ κs x w. refl), tt)
    f.Key.name code.function (code.unfolded 𝓤 𝓛.H 𝓜 𝓡 wired)
    (λ κs. (owning.vals Erased.the_type erased.the_laws, tt)) (λ κs. (owning.tells Erased.the_type erased.the_laws, tt))
    (λ κs qs bounds a n are.
    let v = a.0 in let w = word v.at v.alloc in
    let y : W.Ghost = ((κs, qs, bounds, a, (w ∷ [], tt)), n) in
    let G = triple_of 𝓛 (g.signature X Z ghosts dict let_go) (g.spec X Z ghosts dict let_go 𝓛 𝓜.mem 𝓡.returns) in
    qed 𝓛 ((‵ ftrue ⊛ ‵ (Erased.the_row.own_val v (w ∷ [])) ⊛ ‵ ftrue) ∷ raw (fact 𝓤 (IsSome v.arcs)) ∷ []) ∵
    split ! $ drop ! $ split ! $ keep ! (2 ∷ 0 ∷ []) $ heard ! _ (λ some_topology. let found = the_some v.arcs some_topology in
    let x = found.0 in
    fsplit ! $ drop ! $ rewrite ! 0 (λ (o : Option Topology.the_row.Denot). ‵ (owns_topology v.alloc v.at o)) found.1 refl $
    enter ! _ _ _ _ _ $ alloc_all ! (λ l. pass_all ! refl (word_fits v.at, tt) $
    sets ! (of_opd ! (get_in ! (fld ! refl (stop !)) (sub ! 0 refl (whole !)))) refl (ptr_fits v.at) $
    sets ! (of_opd ! (get_in ! (fld ! refl (stop !)) (sub ! 1 refl (whole !)))) refl (tt, ((tt, tt), tt)) $
    first ! $ blocks ! $ sets ! (of_opd ! (get ! refl)) refl (ptr_fits v.at) $
    lft_new ! tt (λ α. lft_new ! tt (λ β.
    let z : G.Ghost = (
      (
        (α ∷ [], (β ∷ [], tt)),
        (full_share, (full_share, tt)),
        tt,
        (v.alloc, (v.at, tt)),
        (heap_word v.alloc ∷ [], (ptr_val v.at ∷ [], tt)),
      ),
      x,
    ) in
    -- [the token of the allocator's lifetime; that of the topology's; the memory]
    use0 𝓛 (raw (fact 𝓤 ((β ∷ []) ⊑ Z.lives))) (fact_i 𝓤 _ (emp 𝓤) (⊑_static (β ∷ []))) $ use0 𝓛 (raw (fact 𝓤 ((α ∷ []) ⊑ X.lives)))
    (fact_i 𝓤 _ (emp 𝓤) (⊑_static (α ∷ []))) $
    move ! (1 ∷ 4 ∷ []) $ join ! $ move ! (1 ∷ 0 ∷ []) $ join ! $
    nothing ! $ feq_i ! _ (ptr_val v.at ∷ []) _ refl $ join ! $ owned ! Heap.the_row _ (struct.makes Heap.the_type heap.the_plain 𝓛)
    v.alloc (heap_word v.alloc ∷ []) (heap_is v.alloc) $ join ! $
    nothing ! $ move ! (3 ∷ 0 ∷ []) $ join ! $ move ! (3 ∷ 0 ∷ []) $ join ! $ join ! $ use2 𝓛 (raw (G.pre z)) (id⊢ 𝓤 _) $
    calls_at_last ! (framed 𝓤 𝓛.H 𝓜 𝓣) G known z (and_then ! (get ! refl) (and_then ! (get ! refl) (no_more !))) (λ u.
    use1 𝓛 (later (some (λ (r : (Boxed Topology.the_row).D). ((‵ (flft (α ∷ []) full_share) ⊛ ‵ (flft (β ∷ []) full_share) ⊛ ‵ ftrue)
    ⊛ ‵ ((Box.the_row (param 0 X) (param 1 Z) ghosts).own_val r (u ∷ []))) ⊛
    some (λ (ws : Lasts (g.ended X Z ghosts dict let_go) z.0.0 z.0.3). ‵ (lasts (g.ended X Z ghosts dict let_go) z.0.0 z.0.3 ws)
    ⊛ (raw (fact 𝓤 (r.value ≡ x)) ⊛ raw (fact 𝓤 (r.alloc ≡ v.alloc))))))) (id⊢ 𝓤 _) $
    await ! tt $ pick ! (λ r. split ! $ split ! $ drop ! $ move ! (1 ∷ []) $ pick !
    (λ ws. split ! $ drop ! $ split ! $ heard ! _ (λ same. drop ! $
    use1 𝓛 (‵ (Whole.own_val r (u ∷ []))) (id⊢ 𝓤 _) $ peeks ! Whole _ (shows 𝓛 Whole) r (u ∷ []) (λ is.
    let fits = ((owning.lawful (Boxed Topology.the_row) (box_laws Topology.the_row) 𝓛).typed r (u ∷ []) is).0 in
    lands_last ! refl fits $ exec ! 𝓣.C 𝓣.Λ (env code.Mir.locals l) code.Mir.t-4 (at_ret _ (W.post y)) $
    sets ! (of_opd ! (get ! refl)) refl fits $ returns ! (look_at ! 0 refl) $ free_all ! refl $
    suffices ! _ (ends_at 𝓛 f.ended stayed c y u r (tt, tt) (tt, tt)) $ says ! (found.1 ∙ ap Some (sym same)) $
    nothing ! $ nothing ! $ join ! $ nothing ! $ done !))))))))))
