-- One more node adds its reach, and the rows that hold the reaches of all nodes are the buckets.
use Rattle.std.proofs.Common.{ℕ, ◌<◌, ◌≤◌, ◌∷◌, ◌++◌, [], List, Vec, length, map, take, take_all, get_or, sym, ◌∙◌, subst}
use Rattle.std.specs.Prelude.{All}
use Rattle.std.specs.declared.alloc.Global.{Global}
use Rattle.std.specs.List.{AllZip}
use Rattle.std.proofs.lemmas.List.{take_more}
use Rattle.std.proofs.lemmas.Slice.Zip.{all_zipped_more}
use Rattle.ch_hierarchy.specs.declared.leg.Leg.{Leg}
use Rattle.ch_hierarchy.specs.Side.{rows_of}
use Rattle.std.specs.Prelude.{Option}
use Rattle.ch_rows.specs.Buckets.{HoldLists, IsReach}
use Rattle.ch_rows.proofs.HeldSpaces.{found_apart, found_few}
use Rattle.ch_rows.proofs.Reaches.{are_buckets, reaches_within, rows_up}
use Rattle.ch_rows.proofs.buckets.Buckets.fill_side.Goals as goal

-- the lists are the reaches of the nodes
abbrev AreReaches : List (List Leg) → Option ℕ → List ℕ → List (Vec (ℕ × ℕ) Global) → Type 0
AreReaches rows limit = AllZip (λ node (list : Vec (ℕ × ℕ) Global). IsReach rows limit node list.items)

-- the lists of the first nodes are those of all nodes in the end
all_reaches : (rows : List (List Leg)) (limit : Option ℕ) (nodes : List ℕ) (i : ℕ) (lists : List (Vec (ℕ × ℕ) Global)) → length nodes ≤ i →
    AreReaches rows limit (take i nodes) lists → AreReaches rows limit nodes lists
all_reaches rows limit nodes i lists past = subst (λ some. AreReaches rows limit some lists) (take_all i nodes past)

pub loop-node-preserved : goal.loop-node-preserved
loop-node-preserved c =
    let a = c.args in
    let rows = rows_of a.hierarchy.now a.side in
    let i = c.loop-node.node-index in
    let nodes = a.nodes.now in
    let node = get_or nodes i 0 in
    record {
      scratch = c.reach.ensures.scratch ∙ c.loop-node.invariant.scratch;
      lists = subst (λ some. AreReaches rows a.within some c.push.new.self.items) (sym (take_more nodes i 0 c.loop-node-test.true))
          (subst (AreReaches rows a.within (take i nodes ++ node ∷ [])) (sym c.in_ok-push.ensures.items)
          (all_zipped_more (λ x (list : Vec (ℕ × ℕ) Global). IsReach rows a.within x list.items) (take i nodes) c.loop-node.lists.items node
          c.in_ok-reach.field-0 c.loop-node.invariant.lists c.in_ok-reach.ensures.reach));
    }

pub gathered-requires-clause-listed : goal.gathered-requires-clause-listed
gathered-requires-clause-listed c =
    let a = c.args in
    let rows = rows_of a.hierarchy.now a.side in
    let lists = c.loop-node.lists.items in
    found_few (IsReach rows a.within) a.nodes.now lists
    (all_reaches rows a.within a.nodes.now c.loop-node.node-index lists c.loop-node-test.false c.loop-node.invariant.lists) c.requires.count

pub gathered-requires-clause-ranks : goal.gathered-requires-clause-ranks
gathered-requires-clause-ranks c =
    let a = c.args in
    let H = a.hierarchy.now in
    let rows = rows_of H a.side in
    let lists = c.loop-node.lists.items in
    subst (λ n. All (λ (list : Vec (ℕ × ℕ) Global). All (λ (entry : ℕ × ℕ). entry.0 < n) list.items) lists) (sym c.nodes-2.ensures.nodes)
    (reaches_within rows a.within a.nodes.now lists
    (all_reaches rows a.within a.nodes.now c.loop-node.node-index lists c.loop-node-test.false c.loop-node.invariant.lists) H
    (rows_up H a.side c.nodes-2.ensures.levelled) c.requires.nodes)

pub returns : goal.returns
returns c =
    let a = c.args in
    let H = a.hierarchy.now in
    let rows = rows_of H a.side in
    let lists = c.loop-node.lists.items in
    let each = all_reaches rows a.within a.nodes.now c.loop-node.node-index lists c.loop-node-test.false c.loop-node.invariant.lists in
    let made = c.in_ok-rows.ensures in
    are_buckets rows a.within a.nodes.now lists each c.in_ok-rows.rows
    (subst (λ n. HoldLists n (λ rank. rank) (map (λ (list : Vec (ℕ × ℕ) Global). list.items) lists) c.in_ok-rows.rows)
    (c.nodes-2.ensures.nodes ∙ sym (rows_up H a.side c.nodes-2.ensures.levelled).0) made.held)
    (made.order (found_apart (IsReach rows a.within) a.nodes.now lists each (λ s list reach. reach.apart)))
