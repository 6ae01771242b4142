-- The hierarchy over the topology is customized in the order of the frame.
use Rattle.std.proofs.Common.{sym, ap, ◌∙◌}
use Rattle.ch_run.specs.Frames.{OrderAndTopology}
use Rattle.ch_run.proofs.Frames.{customized_over}
use Rattle.ch_run.proofs.frame.Frame.hierarchy.Goals as goal

pub returns-in-Some-clause-customized : goal.returns-in-Some-clause-customized
returns-in-Some-clause-customized g c =
    let same = ap (λ (f : OrderAndTopology). f.topology) (sym c.self.view_is) ∙ c.in-Some.is in
    customized_over c.args.graph.now c.args.self.now c.in-Some.topology c.customize_by.result c.requires.fits same
    c.customize_by.ensures.hierarchy c.customize_by.ensures.kept
