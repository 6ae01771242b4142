-- One more part follows those before it, and a failed write ends the text within its part.
use Rattle.std.proofs.Common.{◌+◌, Ok, Err, [], ap, ◌∙◌, take}
use Rattle.ch_text.proofs.Moves.{took-counts}
use Rattle.ch_run.proofs.Owed.{ends_as}
use Rattle.ch_run.proofs.Parts.{bytes_of, one_more, part_failed, written_then}
use Rattle.ch_run.proofs.run.output.write_parts.Goals as goal

pub loop-part-preserved : goal.loop-part-preserved
loop-part-preserved g c =
    let gives = g.O.Output.write_gives in
    let so_far = c.loop-part.invariant in
    let first = bytes_of (take c.loop-part.part-index c.args.parts.now) in
    let same = c.deref.ensures.value ∙ ap (λ p. p.items) c.part-item.is in
    let wrote = rw same at c.in_ok-write_more.ensures.more in
    let more = rw (one_more gives c.args.output.now c.args.parts.now c.loop-part.part-index c.part-item.result c.loop-part-test.true) at
    (written_then gives c.args.output.now _ _ c.loop-part.written _ first _ (Ok tt) tt so_far.taken so_far.written wrote) in
    let counts = took-counts gives g.O.Output.failed g.O.Output.idle g.met.O.Output.counts _ _ [] _ wrote.0 in
    record { taken = more.0; written = more.1; failed = counts.0 ∙ so_far.failed; idle = counts.1 ∙ so_far.idle }

pub returns-in_err-write_more : goal.returns-in_err-write_more
returns-in_err-write_more g c =
    let gives = g.O.Output.write_gives in
    let old = c.args.output.now in
    let parts = c.args.parts.now in
    let i = c.loop-part.part-index in
    let so_far = c.loop-part.invariant in
    let new = c.write_more.new in
    let e = c.in_err-write_more.field-0.0 in
    let own = c.in_err-write_more.ensures.own in
    let same = c.deref.ensures.value ∙ ap (λ p. p.items) c.part-item.is in
    let more = rw (same, one_more gives old parts i c.part-item.result c.loop-part-test.true) at
    (written_then gives old c.loop-part.output new.output c.loop-part.written new.written (bytes_of (take i parts)) c.deref.result.now
    (Err e) own so_far.taken so_far.written c.in_err-write_more.ensures.more).0 in
    record { wrote = rw (ends_as _ e c.from_residual.ensures.1) (part_failed gives old parts (i + 1) _ e own c.requires.length more) }
