-- The bytes that were read name the graph, or have its first fault, or could not be read.
use Rattle.ch_read.specs.declared.form.Form.TheVariants as Form
use Rattle.ch_read.specs.Names.{NamesGraph}
use Rattle.ch_run.specs.Story.{IsRefused}
use Rattle.ch_run.specs.Run.{reading}
use Rattle.ch_run.specs.declared.fault.Which.{Which}
use Rattle.ch_run.proofs.Judged.{value_judged}
use Rattle.ch_run.proofs.run.inputs.graph_from.Goals as goal

pub returns-clause-read : goal.returns-clause-read
returns-clause-read g c =
    let input = reading g.I.Input.read_gives c.args.input.now c.bytes_from.new.input in
    let all : input.all c.deref.result.now = rw c.deref.ensures.value c.in_ok-bytes.ensures.bytes in
    rw c.judged.ensures
    (value_judged Which.Graph input (IsRefused Form.Graph) c.deref.result.now all
    NamesGraph _ (λ value. (c.read_graph_by.ensures.value value).0)
    (λ fault. (c.read_graph_by.ensures.fault fault).0))
