-- Without the leg at its place the row is in order and has no leg at the node, and it had none if no leg is there.
use Rattle.std.proofs.Common.{◌≡◌, ◌<◌, ◌≤◌, ℕ, List, [], length, get_or, set, sym, ◌∙◌, ap, subst, arith}
use Rattle.std.specs.Prelude.{◌≢◌}
use Rattle.std.specs.List.{remove}
use Rattle.std.proofs.lemmas.List.{get_or-set_same}
use Rattle.ch_hierarchy.specs.declared.leg.Leg.{Leg}
use Rattle.ch_hierarchy.specs.Rows.{row}
use Rattle.ch_hierarchy.proofs.theory.NoLeg.{no_leg}
use Rattle.ch_contract.proofs.code.RowEdits.{taken, not_there}
use Rattle.ch_contract.proofs.leg_lists.take_leg.Goals.{After-remove, else-place-legs-via-then-place-legs+else-legs-place}
use Rattle.ch_contract.proofs.leg_lists.take_leg.Goals.{else-place-legs-via-else-place-legs}
use Rattle.ch_contract.proofs.leg_lists.take_leg.Goals as goal

-- the row after the leg is taken out
now : (c : After-remove) → row c.remove.new.self c.args.list ≡ remove (row c.args.lists.now c.args.list) c.place_of-place.result
now c =
    ap (λ l. row l c.args.list) c.remove.ensures
    ∙ get_or-set_same c.args.lists.now c.args.list (remove (row c.args.lists.now c.args.list) c.place_of-place.result) [] c.requires.list

pub returns-then-legs-place : goal.returns-then-legs-place
returns-then-legs-place c =
    let i = c.place_of-place.result in
    let e = c.at-legs.ensures in
    let node = c.args.node in
    let legs = row c.args.lists.now c.args.list in
    let inside = subst (λ (z : List Leg). i < length z) e c.if-place-legs.true in
    let before = subst (λ (z : List Leg). (k : ℕ) (d : Leg) → k < i → (get_or z k d).node < node) e c.place_of-place.ensures.before in
    let here : (get_or legs i no_leg).node ≡ node = subst (λ (z : List Leg). (get_or z i no_leg).node ≡ node) e c.if-legs-place.true in
    let is = taken legs (row c.remove.new.self c.args.list) i node no_leg c.requires.row inside before here (now c) in
    record { edited = c.remove.ensures ∙ ap (set c.args.lists.now c.args.list) (sym (now c)); row = is.0; legs = is.1 }

pub returns-else-place-legs-clause-legs : goal.returns-else-place-legs-clause-legs
returns-else-place-legs-clause-legs c =
    let i = c.place_of-place.result in
    let e = c.at-legs.ensures in
    let node = c.args.node in
    let legs = row c.args.lists.now c.args.list in
    let bound = subst (λ (z : List Leg). i ≤ length z) e c.place_of-place.ensures.bound in
    let before = subst (λ (z : List Leg). (k : ℕ) (d : Leg) → k < i → (get_or z k d).node < node) e c.place_of-place.ensures.before in
    let after = subst (λ (z : List Leg). (k : ℕ) (d : Leg) → i ≤ k → k < length z → node ≤ (get_or z k d).node) e
    c.place_of-place.ensures.after in
    not_there legs i node no_leg c.requires.row bound before (λ lt. elim c.else-place-legs.branch [
      | else-place-legs-via-then-place-legs+else-legs-place w ↦
          let le = after i no_leg (omega arith) lt in
          let other : (get_or legs i no_leg).node ≢ node =
          subst (λ (z : List Leg). (get_or z i no_leg).node ≢ node) e w.if-legs-place.false in
          omega arith
      | else-place-legs-via-else-place-legs w ↦ absurd (let size = ap length e in omega (arith, w.if-place-legs.false, size))
    ])
