-- The pointer loses its type, and owns the same as the parts.
use Rattle.ch_c.proofs.Steps.{[], ◌∷◌, refl, proved, ftrue, ‵, ◌⊛◌, id⊢, use1, ◌$◌, ◌∵◌, !, qed, done, drop, keep, split, join}
use Rattle.ch_c.proofs.Steps.{fsplit, fjoin, suffices, enter, of_opd, stop, fld, whole, sub, no_more, and_then, agg, returns}
use Rattle.ch_c.proofs.Steps.{alloc_all, pass_all, free_all, look_at, get, get_in, sets, yes, plain, nothing, owned, Stays, walk_of}
use Rattle.ch_c.proofs.Steps.{says, stay_dropped, Goes-dropped, ends_at}
use Rattle.std.specs.Prelude.{Some}
use denote.Struct.Laws as struct
use denote.Struct.OwningLaws as owning
use Rattle.ch_c.proofs.Words.{word, fields_word, ptr_fits, word_fits}
use Rattle.ch_c.specs.contracts.erased_topology.ErasedTopology.of as f
use Rattle.ch_c.proofs.erased_topology.ErasedTopology.of.Statement.{statement}
use Rattle.ch_c.proofs.erased_topology.ErasedTopology.of.Code as code
use Rattle.ch_c.specs.contracts.erased_topology.ErasedTopology as Erased
use Rattle.ch_c.specs.contracts.erased_topology.ErasedTopology.TheFields as Fields
use Rattle.ch_c.proofs.erased_topology.ErasedTopology.TheFields.TheLaws as fields
use Rattle.ch_c.specs.contracts.raw_box.RawBox as RawBox
use Rattle.ch_c.proofs.raw_box.RawBox.TheLaws as raw_box
use Rattle.ch_engine.specs.contracts.topology.Topology as Topology
use Rattle.ch_engine.proofs.topology.Topology.TheLaws as topology

abbrev stayed : Stays f.ended.signature.params f.ended.kept
stayed = (stay_dropped _ yes, tt)

pub of_spec : {M : Type 1} → statement M
of_spec 𝓤 𝓛 𝓜 𝓡 wired =
    let c = f.clauses 𝓛 𝓜.mem 𝓡.returns in let W = walk_of 𝓛 f.ended stayed c in
    let L = raw_box.the_laws Topology.the_row topology.the_row_laws in
    proved 𝓛 f.ended stayed c 𝓜 𝓡 (Goes-dropped 𝓛 0 (plain (λ _. RawBox.the_row Topology.the_row)) yes (λ κs x w. refl), tt)
    f.Key.name code.function (code.unfolded 𝓤 𝓛.H 𝓜 𝓡 wired)
    (λ κs. (owning.vals (RawBox.the_type Topology.the_row) L, tt)) (λ κs. (owning.tells (RawBox.the_type Topology.the_row) L, tt))
    (λ κs qs bounds a n are.
    let raw = a.0 in let w = word raw.at raw.alloc in
    let made : Erased.the_row.Denot = record { at = raw.at; alloc = raw.alloc; arcs = Some raw.value } in
    let y : W.Ghost = ((κs, qs, bounds, a, (w ∷ [], tt)), n) in
    qed 𝓛 ((‵ ftrue ⊛ ‵ ((RawBox.the_row Topology.the_row).own_val raw (w ∷ [])) ⊛ ‵ ftrue) ∷ ‵ ftrue ∷ []) ∵
    split ! $ drop ! $ split ! $ keep ! (0 ∷ []) $ fsplit ! $ drop ! $
    enter ! _ _ _ _ _ $ alloc_all ! (λ l. pass_all ! refl (word_fits raw.at, tt) $
    sets ! (of_opd ! (get_in ! (fld ! refl (stop !)) (sub ! 0 refl (whole !)))) refl (ptr_fits raw.at) $
    sets ! (of_opd ! (get_in ! (fld ! refl (stop !)) (sub ! 1 refl (whole !)))) refl (tt, ((tt, tt), tt)) $
    sets ! (of_opd ! (get ! refl)) refl (ptr_fits raw.at) $
    sets ! (agg ! (and_then ! (get ! refl) (and_then ! (get ! refl) (no_more !)))) refl (word_fits raw.at) $
    returns ! (look_at ! 0 refl) $ free_all ! refl $
    owned ! Fields.the_row _ (struct.makes Fields.the_type fields.the_plain 𝓛) (record { at = raw.at; alloc = raw.alloc }) (w ∷ [])
    (fields_word raw.at raw.alloc) $ fjoin ! $
    use1 𝓛 (‵ (Erased.the_row.own_val made (w ∷ []))) (id⊢ 𝓤 _) $
    suffices ! _ (ends_at 𝓛 f.ended stayed c y w made (tt, tt) (tt, tt)) $ says ! refl $
    nothing ! $ nothing ! $ join ! $ nothing ! $ done !))
