-- A leg that is inserted before the first leg of a higher node keeps the row in order, and is the leg at its node.
use Rattle.std.proofs.Common.{◌<◌, ◌≤◌, ℕ, List, [], length, get_or, set, sym, ◌∙◌, ap, subst}
use Rattle.std.specs.List.{insert}
use Rattle.std.proofs.lemmas.List.{get_or-set_same, length-set}
use Rattle.ch_hierarchy.specs.declared.leg.Leg.{Leg}
use Rattle.ch_hierarchy.specs.Rows.{row}
use Rattle.ch_contract.proofs.code.RowEdits.{inserted}
use Rattle.ch_contract.proofs.leg_lists.insert_leg.Goals as goal

pub insert-requires-clause-place : goal.insert-requires-clause-place
insert-requires-clause-place c = subst (λ (z : List Leg). c.place_of-place.result ≤ length z) c.at.ensures c.place_of-place.ensures.bound

pub returns : goal.returns
returns c =
    let old = row c.args.lists.now c.args.list in
    let i = c.place_of-place.result in
    let e = c.at.ensures in
    let node = c.args.leg.node in
    let bound = subst (λ (z : List Leg). i ≤ length z) e c.place_of-place.ensures.bound in
    let before = subst (λ (z : List Leg). (k : ℕ) (d : Leg) → k < i → (get_or z k d).node < node) e c.place_of-place.ensures.before in
    let after = subst (λ (z : List Leg). (k : ℕ) (d : Leg) → i ≤ k → k < length z → node ≤ (get_or z k d).node) e
    c.place_of-place.ensures.after in
    let set_is = c.in_ok-insert.ensures.ok in
    let here = ap (λ l. row l c.args.list) set_is
    ∙ get_or-set_same c.args.lists.now c.args.list (insert old i c.args.leg) [] c.requires.list in
    let is = inserted old (row c.insert.new.self c.args.list) i c.args.leg c.requires.row bound before after c.requires.free here in
    record {
      size = ap length set_is ∙ length-set c.args.lists.now c.args.list (insert old i c.args.leg);
      edited =
          set_is ∙ ap (set c.args.lists.now c.args.list) (sym here);
      row = is.0;
      legs = is.1;
    }
