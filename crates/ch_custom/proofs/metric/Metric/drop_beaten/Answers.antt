-- The beaten legs of all rows are taken out.
use Rattle.ch_custom.specs.LegPairs.{unbeaten_pair}
use Rattle.ch_custom.proofs.theory.Flat.{rows_mapped_over}
use Rattle.ch_custom.proofs.metric.Metric.drop_beaten.Goals as goal

pub returns : goal.returns
returns c = rows_mapped_over unbeaten_pair c.self.inside.starts.items c.self.inside.pairs.items c.deref_mut.result.now
    c.drop_beaten.new.row c.args.self.now c.self.inside.pairs.len c.self.inside.pairs.ok.0 c.self.view_is c.deref_mut.ensures.value
    c.drop_beaten.ensures
