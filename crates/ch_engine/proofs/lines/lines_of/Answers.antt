-- The lines seen from one more node give the word of each of its legs, so in the end each leg has its line.
use Rattle.std.proofs.Common.{◌≡◌, ◌∙◌, ℕ, ◌+◌, ◌<◌, List, [], ◌∷◌, ◌++◌, get_or, length, slice_index, sym, ap, subst, arith}
use Rattle.std.proofs.lemmas.List.{length-append}
use Rattle.ch_graph.specs.declared.arc.InArc.{InArc}
use Rattle.ch_graph.specs.Rows.{AreRowsOf}
use Rattle.ch_hierarchy.specs.declared.leg.Leg.{Leg}
use Rattle.ch_hierarchy.specs.Rows.{row, IsRow}
use Rattle.ch_hierarchy.specs.Side.{rows_of}
use Rattle.ch_query.proofs.one_side.Expanding.{rows_size}
use Rattle.ch_query.proofs.routing.Rows.{rows_ordered}
use Rattle.ch_engine.specs.Lines.{IsLineWord, IsSeen, Leads, ended_lines, head_of, node_at, tail_of}
use Rattle.ch_engine.proofs.SeenLines.{row_low, rows_pushed, seen_word}
use Rattle.ch_engine.proofs.lines.lines_of.Goals as goal

pub find_lines-requires : goal.find_lines-requires
find_lines-requires c =
    let g = c.args.graph.now in
    let side = c.args.side in
    let arcs = c.arcs-arcs.result.now in
    let node = c.loop-node.node in
    let seen = c.in_ok-seen.seen in
    let long = ap length c.arcs-arcs.ensures.arcs in
    let are : AreRowsOf g.nodes (ended_lines side arcs) seen =
    subst (λ (them : List InArc). AreRowsOf g.nodes (ended_lines side them) seen) (sym c.arcs-arcs.ensures.arcs) c.in_ok-seen.ensures in
    let low : node < g.nodes = omega (arith, c.loop-node-test.true, c.nodes-node-end.ensures.nodes, c.requires) in
    record {
      few = omega (arith, long, c.arcs-arcs.ensures.limits.size.1);
      seen = subst (λ (r : List ℕ). (i : ℕ) → i < length r → slice_index r i < length arcs) (sym c.row.ensures)
          (row_low side arcs g.nodes seen are node low);
      order = subst IsRow (sym c.legs-legs.ensures.row) (rows_ordered c.args.hierarchy.now c.legs-legs.ensures.levelled side node);
    }

pub returns : goal.returns
returns c =
    let H = c.args.hierarchy.now in
    let side = c.args.side in
    let v = c.loop-node.invariant in
    let words = c.loop-node.rows in
    let size = rows_size H c.nodes-node-end.ensures.levelled side in
    let end = c.loop-node-test.false in
    record {
      count = omega (arith, v.count, size, end, c.loop-node.auto.node-end, c.nodes-node-end.ensures.nodes);
      long = λ n low. v.long n (omega (arith, size, end, low, c.nodes-node-end.ensures.nodes));
      each = λ n k low inside.
          subst (λ (them : List InArc).
          IsLineWord them (Leads them (tail_of side n (node_at (row (rows_of H side) n) k))
          (head_of side n (node_at (row (rows_of H side) n) k))) (slice_index (get_or words n []) k))
          c.arcs-arcs.ensures.arcs (v.each n k (omega (arith, size, end, low, c.nodes-node-end.ensures.nodes)) inside);
    }

pub loop-node-preserved : goal.loop-node-preserved
loop-node-preserved c =
    let g = c.args.graph.now in
    let H = c.args.hierarchy.now in
    let side = c.args.side in
    let arcs = c.arcs-arcs.result.now in
    let l = c.loop-node in
    let v = l.invariant in
    let node = l.node in
    let seen = c.in_ok-seen.seen in
    let rows = c.push.new.self in
    let made = c.find_lines.new.row.items in
    let are : AreRowsOf g.nodes (ended_lines side arcs) seen =
    subst (λ (them : List InArc). AreRowsOf g.nodes (ended_lines side them) seen) (sym c.arcs-arcs.ensures.arcs) c.in_ok-seen.ensures in
    let low : node < g.nodes = omega (arith, c.loop-node-test.true, c.nodes-node-end.ensures.nodes, c.requires) in
    let Fits : ℕ → List ℕ → Type 0 = λ n words. (length words ≡ length (row (rows_of H side) n))
    × ((k : ℕ) → k < length (row (rows_of H side) n) →
    IsLineWord arcs (Leads arcs (tail_of side n (node_at (row (rows_of H side) n) k))
    (head_of side n (node_at (row (rows_of H side) n) k))) (slice_index words k)) in
    let Made : List Leg → List ℕ → Type 0 = λ legs from. (length made ≡ length legs) × ((k : ℕ) → k < length legs →
    IsLineWord arcs (IsSeen arcs side from (length from) (node_at legs k)) (slice_index made k)) in
    let found : Made (row (rows_of H side) node) (get_or seen node []) =
    subst (λ (legs : List Leg). Made legs (get_or seen node [])) c.legs-legs.ensures.row
    (subst (Made c.legs-legs.result.now) c.row.ensures
    ((c.in_ok-find_lines.ensures {u = tt}).long, (c.in_ok-find_lines.ensures {u = tt}).each)) in
    let here : Fits node made = (
      found.0,
      λ k inside. seen_word side arcs g.nodes seen are node low (node_at (row (rows_of H side) node) k)
          (slice_index made k) (found.1 k inside),
    ) in
    let is : rows ≡ l.rows ++ made ∷ [] =
    (c.in_ok-push.ensures {u = tt}).ok ∙ ap (λ (r : List ℕ). l.rows ++ r ∷ []) c.deref.ensures.value in
    let all : (n : ℕ) → n < node + 1 → Fits n (get_or rows n []) =
    subst (λ (rs : List (List ℕ)). (n : ℕ) → n < node + 1 → Fits n (get_or rs n [])) (sym is)
    (rows_pushed Fits l.rows made node v.count (λ n less. (v.long n less, λ k inside. v.each n k less inside)) here) in
    record {
      count = omega (arith, ap length is, length-append l.rows (made ∷ []), v.count);
      long = λ n less. (all n less).0;
      each = λ n k less inside. (all n less).1 k inside;
    }
