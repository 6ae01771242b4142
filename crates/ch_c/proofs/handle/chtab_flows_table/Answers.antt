-- The network behind the handle is the one whose table of flows is answered.
use Rattle.std.proofs.Common.{◌≡◌, sym, subst}
use Rattle.ch_engine.specs.Held.{Held}
use Rattle.ch_c.specs.Calls.{AreTableFlowsAnswered, OfNetwork}
use Rattle.ch_c.proofs.handle.chtab_flows_table.Goals as goal

pub returns-clause-answered : goal.returns-clause-answered
returns-clause-answered c =
    let status = c.write_table_flows-status.result in
    let args = c.args in
    let new = c.write_table_flows-status.new in
    let Says : Held → Type 0 = λ held. AreTableFlowsAnswered held args.sources.now args.targets.now args.demands.now
    (record { missed = args.missed.now; flows = args.flows.now })
    (record { missed = new.missed; flows = new.flows }) status in
    subst (λ network. OfNetwork network status ((new.missed ≡ args.missed.now) × (new.flows ≡ args.flows.now)) Says)
    (sym c.in-Some.ensures.taken)
    (c.in-Some.ensures.kept, subst Says c.deref_mut.ensures.value c.write_table_flows-status.ensures.answered)
