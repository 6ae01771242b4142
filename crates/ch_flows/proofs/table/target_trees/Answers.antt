-- One more target has its tree.
use Rattle.std.proofs.Common.{◌≡◌, ◌+◌, ◌<◌, [], ◌∷◌, ℕ, List, length, get_or, ap, sym, subst, ◌∙◌, arith, inl, inr}
use Rattle.std.proofs.lemmas.Bool.{cases_lt}
use Rattle.std.proofs.lemmas.List.{get_or_append_left, get_or_push, length-append, with_items_is}
use Rattle.ch_hierarchy.specs.Hierarchy.{nodes_of}
use Rattle.ch_hierarchy.specs.declared.side.Side.TheVariants.{Down as DownSide}
use Rattle.ch_flows.specs.declared.tree.Tree.{Tree as AnyTree}
use Rattle.ch_flows.specs.Trees.{IsTree}
use Rattle.ch_flows.proofs.Branches.{tree_stays}
use Rattle.ch_flows.proofs.table.target_trees.Goals as goal

pub loop-i-preserved : goal.loop-i-preserved
loop-i-preserved c =
    let H = c.args.hierarchy.now in
    let targets = c.args.targets.now in
    let inv = c.loop-i.invariant in
    let i = c.loop-i.i in
    let old = c.loop-i.trees.items in
    let made = c.in_ok-tree.ensures {u = tt} in
    let same : length c.grow.new.places ≡ length c.loop-i.places.items = made.places ∙ ap length c.as_mut_slice.ensures.value in
    let tree = c.in_ok-tree.tree in
    let new = (c.in_ok-push.ensures {u = tt}).items in
    let one : List AnyTree = tree ∷ [] in
    let size : length c.push.new.self.items ≡ i + 1 = omega (arith, ap length new, length-append old one, inv.trees.0) in
    let low : get_or targets i 0 < nodes_of H = c.requires.targets i 0 c.loop-i-test.true in
    let more = made.more in
    let new_branches = c.grow.new.branches.items in
    let Is : ℕ → AnyTree → Type 0 = λ n t.
    (t.source ≡ get_or targets n 0) × (t.source < nodes_of H) × IsTree DownSide H new_branches t in
    let each : (n : ℕ) (d : AnyTree) → n < i + 1 → Is n (get_or c.push.new.self.items n d) = λ n d less.
    subst (λ (l : List AnyTree). Is n (get_or l n d)) (sym new) (elim (cases_lt n i) [
      | inl fewer ↦ (
          let inside : n < length old = omega (arith, fewer, inv.trees.0) in
          subst (Is n) (sym (get_or_append_left old one d n inside)) (
            inv.trees.1 n d fewer,
            (inv.nodes n d inside).0,
            tree_stays H c.loop-i.branches.items new_branches more (get_or old n d) (inv.nodes n d inside).1,
          ))
      | inr more ↦ (
          let at : n ≡ i = omega (arith, more, less) in
          let last : length old ≡ n = omega (arith, at, inv.trees.0) in
          subst (Is n) (sym (get_or_push old tree d n last))
          (made.source ∙ ap (λ (k : ℕ). get_or targets k 0) (sym at), omega (arith, made.source, low), made.tree))
    ]) in
    record {
      scratch = made.scratch ∙ inv.scratch;
      places = ap length (with_items_is c.loop-i.places c.grow.new.places (same ∙ sym c.loop-i.places.ok.0)) ∙ same ∙ inv.places;
      trees = (size, λ n d less. (each n d less).0);
      nodes = λ n d less. (let is = each n d (omega (arith, less, size)) in (is.1, is.2));
      branches = made.branches inv.branches;
    }
