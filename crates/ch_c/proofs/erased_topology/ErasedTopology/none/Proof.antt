-- A null pointer owns nothing.
use Rattle.ch_c.proofs.Steps.{[], ◌∷◌, refl, proved, emp, raw, ‵, id⊢, use1, lit<, ◌$◌, ◌∵◌, !, qed, done, drop, join, fjoin}
use Rattle.ch_c.proofs.Steps.{suffices, enter, lit, no_more, and_then, agg, returns, alloc_all, pass_all, free_all, look_at, get}
use Rattle.ch_c.proofs.Steps.{sets, yes, plain, nothing, owned, on_entry, Stays, walk_of, says, stay_dropped, Goes-dropped, ends_at}
use Rattle.std.specs.Prelude.{None}
use denote.RawPtr.{null_ptr}
use denote.Struct.Laws as struct
use Rattle.ch_c.proofs.Words.{word, heap_word, fields_word}
use Rattle.ch_c.specs.contracts.erased_topology.ErasedTopology.none as f
use Rattle.ch_c.proofs.erased_topology.ErasedTopology.none.Statement.{statement}
use Rattle.ch_c.proofs.erased_topology.ErasedTopology.none.Code as code
use Rattle.ch_c.specs.contracts.erased_topology.ErasedTopology as Erased
use Rattle.std_heap.specs.contracts.Global as Heap
use Rattle.std_heap.proofs.Global.TheLaws as heap
use Rattle.ch_c.specs.contracts.erased_topology.ErasedTopology.TheFields as Fields
use Rattle.ch_c.proofs.erased_topology.ErasedTopology.TheFields.TheLaws as fields

abbrev stayed : Stays f.ended.signature.params f.ended.kept
stayed = (stay_dropped _ yes, tt)

pub none_spec : {M : Type 1} → statement M
none_spec 𝓤 𝓛 𝓜 𝓡 wired =
    let c = f.clauses 𝓛 𝓜.mem 𝓡.returns in let W = walk_of 𝓛 f.ended stayed c in
    proved 𝓛 f.ended stayed c 𝓜 𝓡 (Goes-dropped 𝓛 0 (plain (λ _. Heap.the_row)) yes (λ κs x w. refl), tt)
    f.Key.name code.function (code.unfolded 𝓤 𝓛.H 𝓜 𝓡 wired)
    (λ κs. (struct.vals Heap.the_type heap.the_laws, tt)) (λ κs. (struct.tells Heap.the_type heap.the_laws, tt)) (λ κs qs bounds a n are.
    let y : W.Ghost = ((κs, qs, bounds, a, (heap_word a.0 ∷ [], tt)), n) in
    qed 𝓛 (raw (on_entry 𝓛 f.signature κs qs a y.0.4) ∷ raw (emp 𝓤) ∷ []) ∵ drop ! $ drop ! $
    enter ! _ _ _ _ _ $ alloc_all ! (λ l. pass_all ! refl ((tt, ((tt, tt), tt)), tt) $
    sets ! (agg ! (and_then ! (lit ! tt) (and_then ! (get ! refl) (no_more !)))) refl
    (tt, (record { fits = lit< tt }, (((tt, tt), tt), tt))) $
    returns ! (look_at ! 0 refl) $ free_all ! refl $
    nothing ! $ owned ! Fields.the_row _ (struct.makes Fields.the_type fields.the_plain 𝓛) (record { at = null_ptr; alloc = a.0 })
    (word null_ptr a.0 ∷ []) (fields_word null_ptr a.0) $ fjoin ! $
    use1 𝓛 (‵ (Erased.the_row.own_val (record { at = null_ptr; alloc = a.0; arcs = None }) (word null_ptr a.0 ∷ []))) (id⊢ 𝓤 _) $
    suffices ! _ (ends_at 𝓛 f.ended stayed c y (word null_ptr a.0) (record { at = null_ptr; alloc = a.0; arcs = None }) (tt, tt)
    (tt, tt)) $ says ! refl $
    nothing ! $ nothing ! $ join ! $ nothing ! $ done !))
