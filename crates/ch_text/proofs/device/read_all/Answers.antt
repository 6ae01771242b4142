-- The bytes of one more read follow those before it, and if there is no memory for them the input has still given them.
use Rattle.std.proofs.Common.{refl, ap, ◌∙◌, ◌++◌, arith, rules}
use Rattle.ch_text.proofs.Bytes.{front-of-written}
use Rattle.ch_text.proofs.Moves.{counted-none, gave-memory, gave-more}
use Rattle.ch_text.proofs.device.read_all.Goals as goal

pub loop-bytes-preserved : goal.loop-bytes-preserved
loop-bytes-preserved g c =
    let read = c.in_ok-count.ensures in
    record {
      room = c.loop-bytes.invariant.room;
      failed = counted-none g.I.Input.read_gives g.I.Input.failed g.met.I.Input.counts _ _ _ _ read.made ∙ c.loop-bytes.invariant.failed;
      same = search rules;
      given = gave-more g.I.Input.read_gives _ _ _ _ _ _ _ c.loop-bytes.invariant.given read.made
          (omega (arith, c.if-count-eq0.false)) read.fits
          (c.in_ok-extend_from_slice.ensures.items ∙ ap (λ fs. c.loop-bytes.bytes.items ++ fs)
          (rw c.deref.ensures.value (front-of-written _ _ _ _ read.fits (omega (arith, read.fits)))));
    }

pub returns-in_err-extend_from_slice-clause-part : goal.returns-in_err-extend_from_slice-clause-part
returns-in_err-extend_from_slice-clause-part g c =
    let read = c.in_ok-count.ensures in
    gave-memory g.I.Input.read_gives c.from_residual-in_err-extend_from_slice.result _ _ _
    c.from_residual-in_err-extend_from_slice.ensures.1
    (gave-more g.I.Input.read_gives _ _ _ _ _ _ _ c.loop-bytes.invariant.given read.made (omega (arith, c.if-count-eq0.false))
    read.fits refl)
