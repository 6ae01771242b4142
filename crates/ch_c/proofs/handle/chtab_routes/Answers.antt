-- The network behind the handle is the one whose routes are answered.
use Rattle.std.proofs.Common.{◌≡◌, sym, subst}
use Rattle.ch_engine.specs.Held.{Held}
use Rattle.ch_c.specs.Calls.{AreRoutesAnswered, OfNetwork}
use Rattle.ch_c.proofs.handle.chtab_routes.Goals as goal

pub returns-clause-answered : goal.returns-clause-answered
returns-clause-answered c =
    let status = c.write_routes-status.result in
    let args = c.args in
    let new = c.write_routes-status.new in
    let Says : Held → Type 0 =
    λ held. AreRoutesAnswered held args.sources.now args.targets.now
    (record {
      routes = args.routes.now;
      weights = args.weights.now;
      ends = args.ends.now;
      nodes = args.nodes.now;
      lines =
          args.lines.now;
    }) (record
    { routes = new.routes; weights = new.weights; ends = new.ends; nodes = new.nodes; lines = new.lines }) status in
    subst (λ network. OfNetwork network status
    ((new.routes ≡ args.routes.now) × (new.weights ≡ args.weights.now) × (new.ends ≡ args.ends.now)
    × (new.nodes ≡ args.nodes.now) × (new.lines ≡ args.lines.now)) Says) (sym c.in-Some.ensures.taken)
    (c.in-Some.ensures.kept, subst Says c.deref_mut.ensures.value c.write_routes-status.ensures.answered)
