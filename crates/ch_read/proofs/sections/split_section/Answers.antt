-- A cut after a line feed cuts no line, and leaves fewer bytes.
use Rattle.std.proofs.Common.{◌+◌, arith, length-drop}
use Rattle.std.proofs.lemmas.List.{take_rest}
use Rattle.ch_read.proofs.Cuts.{lines_cut}
use Rattle.ch_read.proofs.sections.split_section.Goals as goal

pub returns : goal.returns
returns c =
    let within = c.in_ok-at.ensures.0 in
    rw (take_rest c.args.bytes.now (c.in_ok-at.at + 1)) (
      lines_cut c.args.bytes.now c.in_ok-at.at within c.in_ok-at.ensures.1,
      omega (arith, length-drop (c.in_ok-at.at + 1) c.args.bytes.now),
    )
