-- A leg that is written over the one at its node keeps the row in order, and if none is there the row has no leg at the node.
use Rattle.std.proofs.Common.{◌≡◌, ◌<◌, ◌≤◌, ℕ, List, [], true, length, get_or, set, refl, sym, ◌∙◌, ap, subst, arith}
use Rattle.std.specs.Prelude.{◌≢◌, ◌==◌, None, if◌then◌else◌}
use Rattle.std.proofs.lemmas.Bool.Decides.{nat_tests}
use Rattle.std.proofs.lemmas.List.{get_or-set_same}
use Rattle.ch_hierarchy.specs.declared.leg.Leg.{Leg}
use Rattle.ch_hierarchy.specs.Rows.{row}
use Rattle.ch_hierarchy.proofs.theory.NoLeg.{no_leg}
use Rattle.ch_contract.specs.LegRows.{row_leg}
use Rattle.ch_contract.proofs.code.RowEdits.{replaced, not_there}
use Rattle.ch_contract.proofs.leg_lists.replace_leg.Goals.{else-place-legs-via-then-place-legs+else-legs-place}
use Rattle.ch_contract.proofs.leg_lists.replace_leg.Goals.{else-place-legs-via-else-place-legs}
use Rattle.ch_contract.proofs.leg_lists.replace_leg.Goals as goal

pub returns-then-legs-place-clause-replaced : goal.returns-then-legs-place-clause-replaced
returns-then-legs-place-clause-replaced c there =
    let i = c.place_of-place.result in
    let e = c.at-legs.ensures in
    let node = c.args.leg.node in
    let legs = row c.args.lists.now c.args.list in
    let inside = subst (λ (z : List Leg). i < length z) e c.if-place-legs.true in
    let before = subst (λ (z : List Leg). (k : ℕ) (d : Leg) → k < i → (get_or z k d).node < node) e c.place_of-place.ensures.before in
    let here : (get_or legs i no_leg).node ≡ node = subst (λ (z : List Leg). (get_or z i no_leg).node ≡ node) e c.if-legs-place.true in
    let now = ap (λ l. row l c.args.list) c.set.ensures
    ∙ get_or-set_same c.args.lists.now c.args.list (set legs i c.args.leg) [] c.requires.list in
    let is = replaced legs (row c.set.new.self c.args.list) i c.args.leg no_leg c.requires.row inside before here now in
    record { edited = c.set.ensures ∙ ap (set c.args.lists.now c.args.list) (sym now); ordered = is.0; legs = is.1 }

pub returns-clause-free : goal.returns-clause-free
returns-clause-free c away =
    let i = c.place_of-place.result in
    let e = c.at-legs.ensures in
    let node = c.args.leg.node in
    let legs = row c.args.lists.now c.args.list in
    let bound = subst (λ (z : List Leg). i ≤ length z) e c.place_of-place.ensures.bound in
    let before = subst (λ (z : List Leg). (k : ℕ) (d : Leg) → k < i → (get_or z k d).node < node) e c.place_of-place.ensures.before in
    let after = subst (λ (z : List Leg). (k : ℕ) (d : Leg) → i ≤ k → k < length z → node ≤ (get_or z k d).node) e
    c.place_of-place.ensures.after in
    let same : (node == node) ≡ true = grind (arith, nat_tests) in
    let none = not_there legs i node no_leg c.requires.row bound before (λ lt. elim c.else-place-legs.branch [
      | else-place-legs-via-then-place-legs+else-legs-place w ↦
          let le = after i no_leg (omega arith) lt in
          let other : (get_or legs i no_leg).node ≢ node =
          subst (λ (z : List Leg). (get_or z i no_leg).node ≢ node) e w.if-legs-place.false in
          omega arith
      | else-place-legs-via-else-place-legs w ↦ absurd (let size = ap length e in omega (arith, w.if-place-legs.false, size))
    ]) in
    (refl, none node ∙ ap (λ z. if z then None else row_leg legs node) same)
