-- One more arc has its end written, and the places before and behind those of the arcs are as before.
use Rattle.std.proofs.Common.{◌∙◌, ◌+◌, ◌<◌, length, arith}
use Rattle.std.proofs.lemmas.List.{get_or-set_other, length-set}
use Rattle.ch_graph.specs.declared.arc.InArc.{InArc}
use Rattle.ch_engine.proofs.Ways.{heads_more}
use Rattle.ch_engine.proofs.routes.write_heads.Goals as goal

pub loop-j-preserved : goal.loop-j-preserved
loop-j-preserved c =
    let l = c.loop-j in
    let v = l.invariant in
    let arcs = c.args.arcs.now in
    let begin = c.args.begin in
    let low = c.loop-j-test.true in
    let inside : begin + l.j < length l.nodes = omega (arith, c.requires, v.long, low) in
    let none : InArc = record { from = 0; to = 0; weight = 0 } in
    record {
      long = length-set l.nodes (begin + l.j) _ ∙ v.long;
      holds = heads_more arcs begin l.j l.nodes none low inside v.holds;
      before = λ k less. get_or-set_other l.nodes (begin + l.j) k _ 0 (λ same. omega arith) ∙ v.before k less;
      behind = λ k from. get_or-set_other l.nodes (begin + l.j) k _ 0 (λ same. omega arith) ∙ v.behind k from;
    }
