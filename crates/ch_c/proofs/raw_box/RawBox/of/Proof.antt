-- The parts of a box own the same as the box.
use Rattle.ch_c.proofs.Steps.{◌≡◌, [], ◌∷◌, refl, ap, proved, full_share, id⊢, emp, ftrue, fact, fact_i, tables, ‵, raw, ◌⊛◌, some}
use Rattle.ch_c.proofs.Steps.{later, ◌$◌, ◌∵◌, !, qed, done, move, keep, drop, use0, use1, use2, split, join, fjoin, pick, await}
use Rattle.ch_c.proofs.Steps.{suffices, enter, of_opd, stop, fld, whole, sub, no_more, and_then, agg, returns, alloc_all, pass_all}
use Rattle.ch_c.proofs.Steps.{free_all, look_at, get, get_in, sets, lands_as, no, plain, nothing, owned, facts, only, calls_at}
use Rattle.ch_c.proofs.Steps.{triple_of, framed, Stays, walk_of, says, stay_dropped, ends_at}
use mir.Syntax.{Args, Dict, a_type, dcons, dnil}
use mir.MapTy.{inst_fn}
use base.Fml.{flft}
use contract.BorrowLft.{◌⊑◌, ⊑_static}
use types.Tokens.{lft_new}
use denote.Laws.{shows}
use denote.Param.{bounded, param}
use denote.Param.NoDrop.{glues}
use denote.RattleType.{RattleType}
use denote.RawPtr.{Ptr, RawPtr}
use denote.Struct.Laws as struct
use denote.Struct.OwningLaws as owning
use denote.Struct.Tuple.{Tuple}
use denote.Triple.Clauses.{Lasts, lasts}
use Rattle.std.proofs.alloc.Calls.{Goes-blank}
use Rattle.ch_c.specs.Erased.{owns_boxed}
use Rattle.ch_c.proofs.Words.{Boxed, box_laws, word, word_fits, ptr_fits, pair_word, parts_word, Z, LZ, let_go}
use Rattle.ch_c.specs.contracts.raw_box.RawBox.of as f
use Rattle.ch_c.proofs.raw_box.RawBox.of.Statement.{statement}
use Rattle.ch_c.proofs.raw_box.RawBox.of.Code as code
use Rattle.ch_c.specs.contracts.raw_box.RawBox as RawBox
use Rattle.ch_c.specs.contracts.raw_box.RawBox.TheFields as Parts
use Rattle.ch_c.proofs.raw_box.RawBox.TheFields.TheLaws as parts
use Rattle.std_alloc.specs.contracts.boxed.Box as Box
use Rattle.std_alloc.specs.contracts.boxed.Box.into_raw_with_allocator as g
use Rattle.std_alloc.proofs.boxed.Box.into_raw_with_allocator.Met.{met}
use Rattle.std_heap.specs.contracts.Global as Heap
use Rattle.std_heap.specs.contracts.GlobalAllocator.TheImpl.{ghosts, dict}
use Rattle.std_heap.proofs.GlobalAllocator.TheImpl.Met.{passed}

abbrev args : RattleType → Dict → Args
args X dx = bounded (a_type ∷ []) (X, tt) (dcons dx dnil)

abbrev stayed : (X : RattleType) (dx : Dict) → Stays (f.ended X dx).signature.params (f.ended X dx).kept
stayed X dx = (stay_dropped (plain (λ _. Box.the_row (param 0 X) Heap.the_row ghosts)) no, tt)

pub of_spec : {M : Type 1} → statement M
unfolding Rattle.ch_c.proofs.Destruct++none.drop.Code.code
of_spec {M} 𝓤 𝓛 𝓜 𝓡 wired X LX dx glue =
    let R : RattleType = param 0 X in
    let c = f.clauses X dx 𝓛 𝓜.mem 𝓡.returns in let W = walk_of 𝓛 (f.ended X dx) (stayed X dx) c in
    let γ = 𝓡.env in
    let known = met 𝓤 𝓛 𝓜 𝓡 (code.calls-std_alloc::boxed::Box::into_raw_with_allocator γ wired) X Z LX LZ ghosts dict let_go dx
    (passed γ (code.calls-std_heap::GlobalAllocator::allocate γ wired) (code.calls-std_heap::GlobalAllocator::deallocate γ wired)
    (code.calls-std_heap::GlobalAllocator::grow γ wired) (code.calls-std_heap::GlobalAllocator::shrink γ wired) M 𝓤 𝓛 𝓜 𝓡)
    (glues "ch_c::Destruct++none::drop" γ (code.calls-ch_c::Destruct++none::drop γ wired) Z LZ M 𝓤 𝓛 𝓜 𝓡) glue in
    proved 𝓛 (f.ended X dx) (stayed X dx) c 𝓜 𝓡 (Goes-blank 𝓛 1 (plain (λ _. Box.the_row R Heap.the_row ghosts)) no (λ κs x e. tt), tt)
    (f.Key.name (args X dx)) (inst_fn (args X dx) code.function) (code.unfolded 𝓤 𝓛.H 𝓜 𝓡 wired (X, tt) dx)
    (λ κs. (owning.vals (Boxed R) (box_laws R), tt)) (λ κs. (owning.tells (Boxed R) (box_laws R), tt)) (λ κs qs bounds a n are.
    let v = a.0 in let w = word v.ptr v.alloc in
    let y : W.Ghost = ((κs, qs, bounds, a, (w ∷ [], tt)), n) in
    let G = triple_of 𝓛 (g.signature X Z ghosts dict let_go dx) (g.spec X Z ghosts dict let_go dx 𝓛 𝓜.mem 𝓡.returns) in
    qed 𝓛 (((‵ (flft κs.0 qs.0) ⊛ ‵ ftrue) ⊛ ‵ ((Box.the_row R Heap.the_row ghosts).own_val v (w ∷ [])) ⊛ ‵ ftrue)
    ∷ (raw (fact 𝓤 (κs.0 ⊑ X.lives)) ⊛ ‵ ftrue) ∷ []) ∵
    split ! $ split ! $ move ! (2 ∷ []) $ split ! $ move ! (4 ∷ []) $ split ! $ keep ! (2 ∷ 4 ∷ 0 ∷ []) $
    -- [the box; the token; that it lives]
    enter ! _ _ _ _ _ $ alloc_all ! (λ l. pass_all ! refl (word_fits v.ptr, tt) $
    sets ! (of_opd ! (get ! refl)) refl (word_fits v.ptr) $
    lft_new ! tt (λ α.
    -- [the box; the token of the value's lifetime; that of the allocator's; that each lives]
    let z : G.Ghost = (((κs.0, (α ∷ [], tt)), (qs.0, (full_share, tt)), tt, (v, tt), (w ∷ [], tt)), tt) in
    use0 𝓛 (raw (fact 𝓤 ((α ∷ []) ⊑ Z.lives))) (fact_i 𝓤 _ (emp 𝓤) (⊑_static (α ∷ []))) $ move ! (2 ∷ 3 ∷ 1 ∷ 4 ∷ 0 ∷ []) $
    nothing ! $ move ! (1 ∷ 0 ∷ []) $ join ! $
    nothing ! $ move ! (3 ∷ 0 ∷ []) $ join ! $ move ! (2 ∷ 0 ∷ []) $ join ! $ join ! $
    nothing ! $ move ! (3 ∷ 0 ∷ []) $ join ! $ move ! (2 ∷ 0 ∷ []) $ join ! $ move ! (1 ∷ 0 ∷ []) $ use2 𝓛 (raw (G.pre z)) (id⊢ 𝓤 _) $
    calls_at ! (framed 𝓤 𝓛.H 𝓜 (tables 𝓤 𝓛.H 𝓜 𝓡 𝓡.env)) G known z (and_then ! (get ! refl) (no_more !)) (λ u.
    use1 𝓛 (later (some (λ (r : Ptr × Heap.the_row.Denot). ((‵ (flft κs.0 qs.0) ⊛ ‵ (flft (α ∷ []) full_share) ⊛ ‵ ftrue)
    ⊛ ‵ ((Tuple (RawPtr ∷ param 1 Z ∷ [])).own_val r (u ∷ []))) ⊛
    some (λ (ws : Lasts (g.ended X Z ghosts dict let_go dx) z.0.0 z.0.3).
    ‵ (lasts (g.ended X Z ghosts dict let_go dx) z.0.0 z.0.3 ws)
    ⊛ (raw (fact 𝓤 (r.1 ≡ v.alloc)) ⊛ ‵ (owns_boxed R v.alloc r.0 v.value)))))) (id⊢ 𝓤 _) $
    await ! tt $ pick ! (λ r. split ! $ split ! $ move ! (1 ∷ []) $ facts ! (Tuple (RawPtr ∷ param 1 Z ∷ [])) _
    (shows 𝓛 (Tuple (RawPtr ∷ param 1 Z ∷ []))) r (u ∷ []) (λ is.
    move ! (1 ∷ []) $ pick ! (λ ws. split ! $ drop ! $ split ! $ drop ! $
    -- [the memory; the tokens]
    move ! (1 ∷ []) $ split ! $ move ! (1 ∷ []) $ drop ! $
    lands_as ! (ap only (pair_word r.0 r.1 (u ∷ []) is)) refl (word_fits r.0) $
    sets ! (of_opd ! (get_in ! (fld ! refl (stop !)) (sub ! 0 refl (whole !)))) refl (ptr_fits r.0) $
    sets ! (of_opd ! (get_in ! (fld ! refl (stop !)) (sub ! 1 refl (whole !)))) refl (tt, ((tt, tt), tt)) $
    sets ! (agg ! (and_then ! (get ! refl) (and_then ! (get ! refl) (no_more !)))) refl (word_fits r.0) $
    returns ! (look_at ! 0 refl) $ free_all ! refl $ move ! (1 ∷ []) $
    let made : (RawBox.the_row R).Denot = record { at = r.0; alloc = r.1; value = v.value } in
    owned ! (Parts.the_row R) _ (struct.makes (Parts.the_type R) (parts.the_plain R) 𝓛) (record { at = r.0; alloc = r.1 })
    (word r.0 r.1 ∷ []) (parts_word R r.0 r.1) $ fjoin ! $
    use1 𝓛 (‵ ((RawBox.the_row R).own_val made (word r.0 r.1 ∷ []))) (id⊢ 𝓤 _) $
    suffices ! _ (ends_at 𝓛 (f.ended X dx) (stayed X dx) c y (word r.0 r.1) made (tt, tt) (tt, tt)) $ says ! refl $
    nothing ! $ nothing ! $ join ! $ nothing ! $ move ! (3 ∷ 0 ∷ []) $ join ! $ done !)))))))
