-- One more arc has its flow on its line.
use Rattle.std.proofs.Common.{◌≡◌, ◌+◌, ◌<◌, ℕ, List, length, get_or, ap, sym, subst, ◌∙◌, arith}
use Rattle.std.proofs.Math.ListN.{length-set}
use Rattle.ch_hierarchy.specs.Hierarchy.{nodes_of}
use Rattle.ch_engine.specs.Flows.{ArePut, IsPut}
use Rattle.ch_engine.proofs.LineFlows.{head_within, line_by, line_inside, place_first, put_more, put_past, tail_within}
use Rattle.ch_engine.proofs.network.Network.put_flows.Goals.{in-Some, in_default}
use Rattle.ch_engine.proofs.network.Network.put_flows.Goals as goal

pub line-line-requires-clause-from : goal.line-line-requires-clause-from
line-line-requires-clause-from c =
    let H = c.args.self.now.0 in
    let low : c.loop-place.place < length c.args.plan.now.parts.items = omega (arith, c.loop-place-test.true, c.legs-place-end.ensures) in
    subst (λ (n : ℕ). n < nodes_of H) (sym (c.in-Some.ensures {u = tt}).1)
    (tail_within H c.args.plan.now c.requires.plan c.loop-place.place low)

pub line-line-requires-clause-to : goal.line-line-requires-clause-to
line-line-requires-clause-to c =
    let H = c.args.self.now.0 in
    let low : c.loop-place.place < length c.args.plan.now.parts.items = omega (arith, c.loop-place-test.true, c.legs-place-end.ensures) in
    subst (λ (n : ℕ). n < nodes_of H) (sym (c.in-Some.ensures {u = tt}).2)
    (head_within H c.args.plan.now c.requires.plan c.loop-place.place low)

pub bounds-out-line : goal.bounds-out-line
bounds-out-line c =
    let v = c.args.self.now in
    let plan = c.args.plan.now in
    let n = c.loop-place.place in
    let e = c.in-Some.ensures {u = tt} in
    let low : n < length plan.parts.items = omega (arith, c.loop-place-test.true, c.legs-place-end.ensures) in
    let by = line_by v.0 plan c.requires.plan n low v.1 c.in-Some.from c.in-Some.to c.line-line.result e.1 e.2 c.line-line.ensures in
    let inside = line_inside v.0 plan c.requires.plan n low v.1 c.requires.kept e.0 c.line-line.result by in
    omega (arith, inside, c.loop-place.invariant.long, c.requires.lines)

pub loop-place-preserved : goal.loop-place-preserved
loop-place-preserved c =
    let v = c.args.self.now in
    let plan = c.args.plan.now in
    let legs = c.args.legs.now in
    let n = c.loop-place.place in
    let old = c.loop-place.out in
    let inv = c.loop-place.invariant in
    let low : n < length plan.parts.items = omega (arith, c.loop-place-test.true, c.legs-place-end.ensures) in
    elim c.match-arc.branch [
      | in-Some w ↦ (
          let word = w.line-line.result in
          let e = w.in-Some.ensures {u = tt} in
          let by = line_by v.0 plan c.requires.plan n low v.1 w.in-Some.from w.in-Some.to word e.1 e.2 w.line-line.ensures in
          let inside = line_inside v.0 plan c.requires.plan n low v.1 c.requires.kept e.0 word by in
          record {
            long = ap length w.out-is ∙ length-set old word (get_or legs n 0) ∙ inv.long;
            put = λ g within kept are. put_more g.arcs plan legs n word old c.match-arc.out e.0
                (place_first v.0 plan c.requires.plan n low g v.1 within kept are e.0 word by)
                (omega (arith, inside, inv.long, c.requires.lines)) w.out-is (inv.put g within kept are);
          })
      | in_default w ↦ record {
        long = ap length w.out-is ∙ inv.long;
        put = λ g within kept are line less.
            let two = w.in_default.ensures {u = tt} in
            let long = ap length w.out-is in
            subst (λ (l : List ℕ). IsPut g.arcs plan legs (n + 1) line (get_or l line 0)) (sym w.out-is)
            (put_past g.arcs plan legs n line (get_or old line 0) two.0 two.1 (inv.put g within kept are line (omega (arith, less, long))));
      }
    ]

pub returns-clause-put : goal.returns-clause-put
returns-clause-put c =
    let v = c.args.self.now in
    let plan = c.args.plan.now in
    let all : c.loop-place.place ≡ length plan.parts.items = omega (arith, c.loop-place-test.false, c.legs-place-end.ensures) in
    subst (λ (n : ℕ). ArePut v.0 v.1 plan c.args.legs.now n c.loop-place.out) all c.loop-place.invariant.put
