-- The legs of the node are now in its list set aside, its own list is empty, and all other lists stay as they are.
use Rattle.std.proofs.Common.{◌≡◌, ◌+◌, ◌<◌, ℕ, List, [], length, set, take, drop, ◌∙◌, ap, subst, arith}
use Rattle.std.proofs.Math.Seq.{take-set-lt}
use Rattle.std.proofs.lemmas.List.{take-set-le, drop-set-lt, drop-set-add, length-take, length-drop, length-set, get_or-set_same}
use Rattle.std.proofs.lemmas.List.{get_or-set_other}
use Rattle.ch_hierarchy.specs.declared.leg.Leg.{Leg}
use Rattle.ch_hierarchy.specs.Rows.{row}
use Rattle.ch_contract.specs.LegLists.{NodeLegs, IsReplaced}
use Rattle.ch_contract.proofs.code.ListEdits.{list_within, list_row}
use Rattle.ch_contract.proofs.leg_lists.LegLists.set_aside.Goals as goal

pub hand_over-requires : goal.hand_over-requires
hand_over-requires c =
    let rows = ap (λ (m : NodeLegs). m.rows) c.self.view_is in
    let within = list_within _ _ _ _ rows c.requires in
    let below : c.args.node < c.self.inside.nodes =
    omega (arith, ap length rows, length-take c.self.inside.nodes c.self.inside.lists, c.requires) in
    let size = c.self.invariant.0 in
    record { from = within; to = omega arith; two = omega arith }

-- one of the first n lists is handed over to the list n places further on
module _ (n node : ℕ) (all new : List (List Leg)) (below : node < n) (is : new ≡ set (set all (n + node) (row all node)) node []) where
  handed_rows : take n new ≡ set (take n all) node []
  handed_rows =
      ap (take n) is ∙ take-set-lt n (set all (n + node) (row all node)) node [] below
      ∙ ap (λ l. set l node []) (take-set-le n all (n + node) (row all node) (omega arith))

  aside_is : drop n new ≡ set (drop n all) node (row all node)
  aside_is = ap (drop n) is ∙ drop-set-lt n (set all (n + node) (row all node)) node [] below ∙ drop-set-add n all node (row all node)

  handed_aside : length all ≡ n + n → IsReplaced node (row all node) (drop n all) (drop n new)
  handed_aside size = record {
    size = ap length aside_is ∙ length-set (drop n all) node (row all node);
    here = ap (λ l. row l node) aside_is ∙ get_or-set_same (drop n all) node (row all node) [] (omega (arith, size, length-drop n all));
    kept = λ x ne. ap (λ l. row l x) aside_is ∙ get_or-set_other (drop n all) node x (row all node) [] ne;
  }

pub returns : goal.returns
returns c =
    let n = c.self.inside.nodes in
    let all = c.self.inside.lists in
    let new = c.hand_over.new.self in
    let rows = ap (λ (m : NodeLegs). m.rows) c.self.view_is in
    let aside = ap (λ (m : NodeLegs). m.aside) c.self.view_is in
    let below : c.args.node < n = omega (arith, ap length rows, length-take n all, c.requires) in
    let put = handed_aside n c.args.node all new below c.hand_over.ensures c.self.invariant.0 in
    record {
      rows = handed_rows n c.args.node all new below c.hand_over.ensures ∙ ap (λ l. set l c.args.node []) rows;
      aside = subst (λ l. IsReplaced c.args.node l c.args.self.now.aside (drop n new))
          (list_row n c.args.node all _ rows c.requires)
          (subst (λ l. IsReplaced c.args.node (row all c.args.node) l (drop n new)) aside put);
    }
