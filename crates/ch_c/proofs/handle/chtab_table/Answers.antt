-- The network behind the handle is the one whose table is answered.
use Rattle.std.proofs.Common.{◌≡◌, sym, subst}
use Rattle.ch_engine.specs.Held.{Held}
use Rattle.ch_c.specs.Calls.{IsTableAnswered, OfNetwork}
use Rattle.ch_c.proofs.handle.chtab_table.Goals as goal

pub returns-clause-answered : goal.returns-clause-answered
returns-clause-answered c =
    let status = c.write_table-status.result in
    let before = c.args.out.now in
    let after = c.write_table-status.new.out in
    let Says : Held → Type 0 =
    λ held. IsTableAnswered held.hierarchy c.args.limit c.args.sources.now c.args.targets.now before after status in
    subst (λ network. OfNetwork network status (after ≡ before) Says) (sym c.in-Some.ensures.taken)
    (c.in-Some.ensures.kept, subst Says c.deref_mut.ensures.value c.write_table-status.ensures.answered)
