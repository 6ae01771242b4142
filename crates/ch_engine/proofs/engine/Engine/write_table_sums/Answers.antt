-- What is written for the network is so for the engine.
use Rattle.std.proofs.Common.{◌≡◌, refl, ap, ◌∙◌}
use Rattle.ch_engine.specs.Held.{Held}
use Rattle.ch_engine.proofs.TableSums.{written_by}
use Rattle.ch_engine.proofs.engine.Engine.write_table_sums.Goals as goal

pub returns-clause-written : goal.returns-clause-written
returns-clause-written c =
    let held = c.args.self.now in
    let values = c.args.kept.now.values.items in
    let network : c.deref.result.now ≡ (held.hierarchy, held.lines) =
    c.deref.ensures ∙ ap (λ (h : Held). (h.hierarchy, h.lines)) c.self.view_is in
    written_by held c.deref.result.now c.args.sources.now c.args.targets.now values values c.write_table.new.weights
    c.write_table.new.sums c.write_table.result network refl c.write_table.ensures.written
