-- The bytes that were read name the order, or have its first fault, or could not be read.
use Rattle.ch_read.specs.Names.{NamesOrder}
use Rattle.ch_read.specs.declared.form.Form.TheVariants as Form
use Rattle.ch_run.specs.Story.{IsRefused}
use Rattle.ch_run.specs.Run.{reading}
use Rattle.ch_run.specs.declared.fault.Which.{Which}
use Rattle.ch_run.proofs.Judged.{list_judged}
use Rattle.ch_run.proofs.run.loading.order_from.Goals as goal

pub returns-clause-read : goal.returns-clause-read
returns-clause-read g c =
    let input = reading g.S.Input.read_gives c.args.input.now c.bytes_from.new.input in
    let all : input.all c.deref.result.now = rw c.deref.ensures.value c.in_ok-bytes.ensures.bytes in
    rw c.judged.ensures
    (list_judged Which.Order input (IsRefused (Form.Saved c.args.graph.now.nodes)) c.deref.result.now all
    (λ given order. NamesOrder given c.args.graph.now.nodes order) _
    (λ items. rw c.nodes.ensures.nodes at c.read_order_by.ensures.value items)
    (λ fault is. rw c.nodes.ensures.nodes at (c.read_order_by.ensures.fault fault).0 is))
