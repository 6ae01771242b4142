-- The bytes that one more write takes follow those before it, and a write that fails or takes none ends the text there.
use Rattle.std.proofs.Common.{◌∙◌, arith}
use Rattle.std.proofs.lemmas.Grind.{common_steps}
use Rattle.ch_text.proofs.Moves.{counted-some, took-fault, took-more}
use Rattle.ch_text.proofs.device.write_all.Goals as goal

pub loop-count-preserved : goal.loop-count-preserved
loop-count-preserved g c =
    let wrote = c.in-Ok.ensures in
    let count = counted-some g.O.Output.write_gives g.O.Output.failed g.O.Output.idle g.met.O.Output.counts _ _ _ _
    c.if-taken-gt0.true wrote.made in
    record {
      within = grind (arith, common_steps, wrote.fits);
      failed = count.0 ∙ c.loop-count.invariant.failed;
      idle = count.1 ∙ c.loop-count.invariant.idle;
      taken = took-more g.O.Output.write_gives _ _ _ _ _ _ c.loop-count.invariant.taken wrote.made c.if-taken-gt0.true wrote.fits;
    }

pub returns-in_default-clause-part : goal.returns-in_default-clause-part
returns-in_default-clause-part g c =
    let none = c.if-taken-gt0.false in
    took-fault g.O.Output.write_gives _ _ _ _ _ _ c.loop-count.invariant.taken c.write.ensures.made c.loop-count-test.true
    (rw c.in-Ok.is (omega arith))

pub returns-in_default-2-clause-part : goal.returns-in_default-2-clause-part
returns-in_default-2-clause-part g c = took-fault g.O.Output.write_gives _ _ _ _ _ _ c.loop-count.invariant.taken
    c.write.ensures.made c.loop-count-test.true (rw c.in_default.is tt)
