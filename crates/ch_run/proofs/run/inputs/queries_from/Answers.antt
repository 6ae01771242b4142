-- The bytes that were read name the queries, or have their first fault, or could not be read.
use Rattle.ch_read.specs.declared.form.Form.TheVariants as Form
use Rattle.ch_read.specs.Names.{NamesQueries}
use Rattle.ch_run.specs.Story.{IsRefused}
use Rattle.ch_run.specs.Run.{reading}
use Rattle.ch_run.specs.declared.fault.Which.{Which}
use Rattle.ch_run.proofs.Judged.{list_judged}
use Rattle.ch_run.proofs.run.inputs.queries_from.Goals as goal

pub returns-clause-read : goal.returns-clause-read
returns-clause-read g c =
    let input = reading g.I.Input.read_gives c.args.input.now c.bytes_from.new.input in
    let all : input.all c.deref.result.now = rw c.deref.ensures.value c.in_ok-bytes.ensures.bytes in
    rw (c.judged.ensures, ← c.nodes.ensures.nodes)
    (list_judged Which.Queries input (IsRefused (Form.Queries c.nodes.result)) c.deref.result.now all
    (λ given pairs. NamesQueries given c.nodes.result pairs) _ c.read_queries.ensures.value
    (λ fault. (c.read_queries.ensures.fault fault).0))
