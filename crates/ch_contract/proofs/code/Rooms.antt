-- Rooms that keep the shortcuts of judged nodes.
use Rattle.std.proofs.Common.{◌≡◌, ℕ, ◌+◌, ◌<◌, List, [], ◌∷◌, ◌++◌, length, set, get_or, sym, ◌∙◌, ap, subst, arith, inl, inr}
use Rattle.std.proofs.Common.{length-append}
use Rattle.std.specs.Prelude.{◌⊎◌, ◌≢◌, map, slice_index}
use Rattle.std.specs.Global.{Vec}
use Rattle.std.proofs.Math.Seq.{get_or-append_seam}
use Rattle.std.proofs.lemmas.Bool.{cases_eq}
use Rattle.std.proofs.lemmas.List.{length-map, length-set, map-set, map-append, get_or-set_same, get_or-set_other, get_or_append_left}
use Rattle.ch_contract.specs.declared.room.Room.{Room}
use Rattle.ch_contract.specs.declared.shortcut.Shortcut.{Shortcut}
use Rattle.ch_contract.specs.Legs.{Legs}
use Rattle.ch_contract.specs.Contraction.{AreShortcuts}
use Rattle.ch_contract.specs.Rooms.{IsReady, AreIdle, list_at}

abbrev pub views : List (Vec Shortcut) → List (List Shortcut)
views lists = map (λ v. v.items) lists

-- the room after one more node is judged: its shortcuts come after those that are kept
pub ready_more : (n h : ℕ) (L : Legs) (old new : Room) (mid : List (Vec Shortcut)) (v : ℕ) (list : Vec Shortcut) →
    IsReady n h L old → AreIdle new.searches →
    new.judged.items ≡ old.judged.items ++ v ∷ [] → new.lists.items ≡ set mid (length old.judged.items) list →
    length old.judged.items < length mid →
    ((k : ℕ) → k < length old.judged.items → get_or (views mid) k [] ≡ list_at old k) → AreShortcuts n h L v list.items → IsReady n h L new
ready_more n h L old new mid v list ready idle judged lists inside same are = record {
  idle = idle;
  places = omega (
    arith,
    ap length judged,
    length-append old.judged.items (v ∷ []),
    ap length lists,
    length-set mid (length old.judged.items) list,
  );
  kept = λ k lt. kept k (cases_eq k (length old.judged.items)) (omega (arith, ap length judged, length-append old.judged.items (v ∷ [])));
}
  where
    views_are : views new.lists.items ≡ set (views mid) (length old.judged.items) list.items
    views_are = ap views lists ∙ map-set (λ (w : Vec Shortcut). w.items) mid (length old.judged.items) list

    kept : (k : ℕ) → (k ≡ length old.judged.items) ⊎ (k ≢ length old.judged.items) → k < length old.judged.items + 1 →
        AreShortcuts n h L (slice_index new.judged.items k) (list_at new k)
    kept k (inl e) lt =
        let here : slice_index new.judged.items k ≡ v = ap (slice_index new.judged.items) e
        ∙ ap (λ z. slice_index z (length old.judged.items)) judged ∙ get_or-append_seam old.judged.items v [] 0 in
        let there : list_at new k ≡ list.items = ap (list_at new) e ∙ ap (λ z. get_or z (length old.judged.items) []) views_are
        ∙ get_or-set_same (views mid) (length old.judged.items) list.items []
        (omega (arith, length-map mid (λ (w : Vec Shortcut). w.items))) in
        subst (λ x. AreShortcuts n h L x (list_at new k)) (sym here) (subst (AreShortcuts n h L v) (sym there) are)
    kept k (inr ne) lt =
        let early : k < length old.judged.items = omega arith in
        let here : slice_index new.judged.items k ≡ slice_index old.judged.items k =
        ap (λ z. slice_index z k) judged ∙ get_or_append_left old.judged.items (v ∷ []) 0 k early in
        let there : list_at new k ≡ list_at old k = ap (λ z. get_or z k []) views_are
        ∙ get_or-set_other (views mid) (length old.judged.items) k list.items [] ne ∙ same k early in
        subst (λ x. AreShortcuts n h L x (list_at new k)) (sym here)
        (subst (AreShortcuts n h L (slice_index old.judged.items k)) (sym there) (ready.kept k early))

-- one more spare list leaves the other lists as they are
pub spare_more : (lists mid : List (Vec Shortcut)) (list : Vec Shortcut) (k : ℕ) → mid ≡ lists ++ list ∷ [] → k < length lists →
    get_or (views mid) k [] ≡ get_or (views lists) k []
spare_more lists mid list k is lt =
    ap (λ z. get_or (views z) k []) is ∙ ap (λ z. get_or z k []) (map-append (λ (v : Vec Shortcut). v.items) lists (list ∷ []))
    ∙ get_or_append_left (views lists) (list.items ∷ []) [] k (omega (arith, length-map lists (λ (v : Vec Shortcut). v.items)))
