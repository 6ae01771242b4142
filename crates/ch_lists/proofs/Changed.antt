-- The list at a place after an insert or a removal.
use Rattle.std.proofs.Common.{◌≡◌, ℕ, ◌+◌, ◌-◌, ◌^◌, ◌<◌, ◌≤◌, inl, List, length, get_or, set, take, drop, refl, ap, arith, sym, ◌∙◌}
use Rattle.std.specs.List.{insert, remove}
use Rattle.std.proofs.lemmas.Bool.{cases_lt}
use Rattle.std.proofs.lemmas.List.{same_lists, length-set, get_or-set_other, drop-set-add}
use Rattle.std.proofs.Math.Seq.{take-set-lt}
use Rattle.std.proofs.lemmas.List.Edits.{length-insert, length-remove, get_or-insert_below, get_or-insert_at, get_or-insert_above}
use Rattle.std.proofs.lemmas.List.Edits.{get_or-remove_below, get_or-remove_above}
use Rattle.std.proofs.Math.Logic.{⊎_elim}
use Rattle.ch_lists.specs.declared.place.Place.{Place}
use Rattle.ch_lists.specs.Places.{values_at, HasInserted, HasRemoved, HasRoom, HasEdited}
use Rattle.ch_lists.proofs.Found.{cases, length-values_at, get_or-values_at}

module _ {X : Type 0} where
  -- the place after this one, written in two ways
  next : (values : List X) (start k : ℕ) (d : X) → get_or values (start + k + 1) d ≡ get_or values (start + (k + 1)) d
  next values start k d = ap (λ i. get_or values i d) (omega arith)

  -- the values that remain after a removal
  left : (old new : List X) (was now : Place) (index : ℕ) → index < was.len → now.start ≡ was.start → now.len + 1 ≡ was.len →
      was.start + was.len ≤ length old
      → HasRemoved old new (was.start + index) (was.start + was.len) → values_at new now ≡ remove (values_at old was) index
  left old new was now index low start len within edit =
      let n = length-values_at new now (omega (arith, edit.size)) in
      let o = length-values_at old was within in
      let inside : index < length (values_at old was) = omega arith in
      same_lists (values_at new now) (remove (values_at old was) index)
      (omega (arith, length-remove (values_at old was) index inside))
      (λ k d here.
      let below : k < now.len = omega arith in
      get_or-values_at new now k d below
      ∙ ap (λ i. get_or new (i + k) d) start
      ∙ ⊎_elim
      (λ (before : k < index).
      edit.below (was.start + k) d (omega arith)
      ∙ sym (get_or-values_at old was k d (omega arith))
      ∙ sym (get_or-remove_below (values_at old was) index d k before inside))
      (λ (behind : index ≤ k).
      edit.moved (was.start + k) d (omega arith) (omega arith)
      ∙ next old was.start k d
      ∙ sym (get_or-values_at old was (k + 1) d (omega arith))
      ∙ sym (get_or-remove_above (values_at old was) index d k behind inside))
      (cases_lt k index))

  -- a removal is an edit in the same room
  pub removed : (old new : List X) (was : Place) (index : ℕ) → index < was.len → was.len ≤ was.room →
      was.start + was.room ≤ length old → length old < 2 ^ 32
      → HasRemoved old new (was.start + index) (was.start + was.len) → HasEdited old new was
      (record { start = was.start; len = was.len - 1; room = was.room }) (remove (values_at old was) index)
  removed old new was index low fits within small edit = record {
    size = omega (arith, edit.size);
    small = omega (arith, edit.size);
    fits = omega arith;
    within = omega (arith, edit.size);
    room = inl (refl, refl);
    edited = left old new was (record { start = was.start; len = was.len - 1; room = was.room }) index low refl (omega arith)
        (omega arith) edit;
    below = λ k d before. edit.below k d (omega arith);
    above = λ k d behind inside. edit.above k d (omega arith);
  }

  -- a value that is written over is an edit in the same room
  pub written : (old : List X) (was : Place) (index : ℕ) (value : X) → index < was.len → was.len ≤ was.room →
      was.start + was.room ≤ length old → length old < 2 ^ 32 →
      HasEdited old (set old (was.start + index) value) was was (set (values_at old was) index value)
  written old was index value low fits within small =
      let size = length-set old (was.start + index) value in
      record {
        size = omega arith;
        small = omega arith;
        fits = fits;
        within = omega arith;
        room = inl (refl, refl);
        edited = ap (take was.len) (drop-set-add was.start old index value) ∙ take-set-lt was.len (drop was.start old) index value low;
        below = λ k d before. get_or-set_other old (was.start + index) k value d (omega arith);
        above = λ k d behind inside. get_or-set_other old (was.start + index) k value d (omega arith);
      }

  -- the values of the list after an insert
  joined : (old middle new : List X) (was room now : Place) (index : ℕ) (value : X) → index ≤ was.len →
      was.start + was.len ≤ length old → HasRoom old middle was room
      → now.start ≡ room.start → now.len ≡ was.len + 1 → HasInserted middle new (room.start + index) (room.start + room.len) value →
      values_at new now ≡ insert (values_at old was) index value
  joined old middle new was room now index value low within has start len edit =
      let n = length-values_at new now (omega (arith, edit.size, has.counted, has.spare, has.within)) in
      let o = length-values_at old was within in
      let inside : index ≤ length (values_at old was) = omega arith in
      same_lists (values_at new now) (insert (values_at old was) index value)
      (omega (arith, length-insert (values_at old was) index value inside))
      (λ k d here.
      let below : k < now.len = omega arith in
      get_or-values_at new now k d below
      ∙ ap (λ i. get_or new (i + k) d) start
      ∙ ⊎_elim
      (λ (before : k < index).
      edit.below (room.start + k) d (omega arith)
      ∙ has.copied k d (omega arith)
      ∙ sym (get_or-values_at old was k d (omega arith))
      ∙ sym (get_or-insert_below (values_at old was) index value d k before inside))
      (λ (behind : index ≤ k). cases k index
      (λ at.
      ap (λ i. get_or new (room.start + i) d) at
      ∙ edit.here d
      ∙ sym (get_or-insert_at (values_at old was) index value d inside)
      ∙ ap (λ i. get_or (insert (values_at old was) index value) i d) (sym at))
      (λ differ. moved k d behind (omega arith) inside (omega arith)))
      (cases_lt k index))
    where
      -- each value after the new one has moved by one
      moved : (k : ℕ) (d : X) → index ≤ k → index < k → index ≤ length (values_at old was) → k < was.len + 1 →
          get_or new (room.start + k) d ≡ get_or (insert (values_at old was) index value) k d
      moved k d behind above inside below =
          let back : k ≡ (k - 1) + 1 = omega arith in
          ap (λ i. get_or new i d) (let e : room.start + k ≡ room.start + (k - 1) + 1 = omega arith in e)
          ∙ edit.moved (room.start + (k - 1)) d (omega arith) (omega (arith, has.counted))
          ∙ has.copied (k - 1) d (omega arith)
          ∙ sym (get_or-values_at old was (k - 1) d (omega arith))
          ∙ sym (get_or-insert_above (values_at old was) index value d (k - 1) (omega arith) inside)
          ∙ ap (λ i. get_or (insert (values_at old was) index value) i d) (sym back)

  -- an insert is an edit in the room with space for it
  pub inserted : (old middle new : List X) (was room : Place) (index : ℕ) (value : X) → index ≤ was.len → was.len ≤ was.room →
      was.start + was.room ≤ length old → HasRoom old middle was room
      → HasInserted middle new (room.start + index) (room.start + room.len) value → HasEdited old new was
      (record { start = room.start; len = room.len + 1; room = room.room }) (insert (values_at old was) index value)
  inserted old middle new was room index value low fits within has edit = record {
    size = omega (arith, has.size, edit.size);
    small = omega (arith, has.small, edit.size);
    fits = omega (arith, has.spare);
    within = omega (arith, has.within, edit.size);
    room = has.room;
    edited = joined old middle new was room (record { start = room.start; len = room.len + 1; room = room.room }) index value low
        (omega arith) has refl (omega (arith, has.counted)) edit;
    below = λ k d before. below k d before;
    above = λ k d behind inside. above k d behind inside;
  }
    where
      below : (k : ℕ) (d : X) → k < was.start → get_or new k d ≡ get_or old k d
      below k d before =
          ⊎_elim
          (λ (w : (room.start ≡ was.start) × (room.room ≡ was.room)). edit.below k d (omega arith))
          (λ (w : length old ≤ room.start). edit.below k d (omega arith))
          has.room
          ∙ has.kept k d (omega arith)

      above : (k : ℕ) (d : X) → was.start + was.room ≤ k → k < length old → get_or new k d ≡ get_or old k d
      above k d behind inside =
          ⊎_elim
          (λ (w : (room.start ≡ was.start) × (room.room ≡ was.room)). edit.above k d (omega (arith, has.spare)))
          (λ (w : length old ≤ room.start). edit.below k d (omega arith))
          has.room
          ∙ has.kept k d inside
