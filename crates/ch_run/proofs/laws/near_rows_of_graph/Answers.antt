-- Near rows by a saved hierarchy are those of the graph.
use Rattle.ch_run.specs.Run.{reading}
use Rattle.ch_run.proofs.OneRun.{near_of_graph}
use Rattle.ch_run.proofs.laws.near_rows_of_graph.Goals as goal

pub returns : goal.returns
returns g c = λ graph graph' saved saved' sources sources' targets targets'.
    near_of_graph _ _ _ (reading g.L.Input.read_gives targets targets')
