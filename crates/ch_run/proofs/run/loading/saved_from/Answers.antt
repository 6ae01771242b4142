-- The bytes that were read name the saved hierarchy, or have its first fault, or could not be read.
use Rattle.ch_read.specs.Names.{NamesSaved}
use Rattle.ch_run.specs.Story.{IsSavedRefusedOn}
use Rattle.ch_run.specs.Run.{reading}
use Rattle.ch_run.specs.declared.fault.Which.{Which}
use Rattle.ch_run.proofs.Judged.{value_judged}
use Rattle.ch_run.proofs.run.loading.saved_from.Goals as goal

pub returns-clause-read : goal.returns-clause-read
returns-clause-read g c =
    let input = reading g.S.Input.read_gives c.args.input.now c.bytes_from.new.input in
    let all : input.all c.deref.result.now = rw c.deref.ensures.value c.in_ok-bytes.ensures.bytes in
    rw c.judged.ensures
    (value_judged Which.Saved input (IsSavedRefusedOn c.args.graph.now) c.deref.result.now all
    (λ given saved. NamesSaved given c.args.graph.now.nodes saved) _
    (λ value. (rw c.nodes.ensures.nodes at c.read_saved_by.ensures.value value).0)
    (λ fault is. rw c.nodes.ensures.nodes at (c.read_saved_by.ensures.fault fault).0 is))
