-- New weights hold for what comes after them, or the run ends in their fault.
use Rattle.std.proofs.Common.{refl, sym, ◌∙◌, ap}
use Rattle.ch_graph.specs.Graph.{Network}
use Rattle.ch_run.proofs.Owed.{ends_as}
use Rattle.ch_run.proofs.Served.{served_as, served_none, serves_memory, weights_hold, weights_refused}
use Rattle.ch_run.specs.Ask.{no_places}
use Rattle.ch_run.specs.Serving.{situation_of}
use Rattle.ch_run.proofs.run.serving.serve_all.Goals as goal

pub loop-init : goal.loop-init
loop-init g c = record {
  buffer = refl;
  frame = refl;
  graph = refl;
  nodes = rw c.requires.reader refl;
  kept = tt;
  served = rw (c.requires.reader, c.requires.none.0, c.requires.none.1) served_none;
  reads = refl;
}

pub returns-in_err-current : goal.returns-in_err-current
returns-in_err-current g c =
    let same_frame = c.loop.invariant.frame in
    let same_nodes = c.loop.invariant.graph in
    let before = served_as c.args.options.now (sym same_frame) (sym same_nodes) c.loop.invariant.served in
    let after = rw c.in-Some.is at c.in_ok-weights.ensures.served in
    let waits = served_as c.args.options.now same_frame same_nodes
    (after c.args.requests.now (situation_of c.args.checked no_places) c.args.output.now before) in
    rw (ends_as _ _ c.from_residual-in_err-current.ensures.1) (weights_refused c.args.options.now c.args.checked.frame waits
    same_frame c.in_err-current.field-0.0 c.in_err-current.ensures.refused)

pub loop-preserved : goal.loop-preserved
loop-preserved g c =
    let same_frame = c.loop.invariant.frame in
    let same_nodes = c.loop.invariant.graph in
    let before = served_as c.args.options.now (sym same_frame) (sym same_nodes) c.loop.invariant.served in
    let after = rw c.in-Some.is at c.in_ok-weights.ensures.served in
    let waits = served_as c.args.options.now same_frame same_nodes
    (after c.args.requests.now (situation_of c.args.checked no_places) c.args.output.now before) in
    let weighed = c.in_ok-current.ensures.weighed in
    record {
      buffer = c.serve_by.ensures.buffer ∙ c.loop.invariant.buffer;
      frame = weighed.frame ∙ same_frame;
      graph = ap (λ (n : Network). n.nodes) weighed.graph ∙ same_nodes;
      nodes = c.serve_by.ensures.nodes ∙ c.loop.invariant.nodes;
      kept = rw same_nodes at c.in_ok-weights.ensures.kept;
      served = weights_hold c.args.options.now c.args.checked.frame waits same_frame _ weighed;
      reads = c.in_ok-weights.ensures.reads ∙ c.loop.invariant.reads;
    }

pub returns : goal.returns
returns g c = serves_memory c.loop.invariant.served
