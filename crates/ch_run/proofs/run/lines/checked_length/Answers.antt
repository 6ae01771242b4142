-- Parts whose length passes the check have fewer than 2^64 bytes.
use Rattle.std.proofs.Common.{ℕ, ◌<◌, ◌^◌, List, Vec, length, subst}
use Rattle.std.specs.declared.alloc.Global.{Global}
use Rattle.ch_run.proofs.Parts.{bytes_of, fewer}
use Rattle.ch_run.proofs.run.lines.checked_length.Goals as goal

pub returns-clause-length : goal.returns-clause-length
returns-clause-length c =
    subst (λ (parts : List (Vec ℕ Global)). length (bytes_of parts) < 2 ^ 64) c.deref.ensures.value
    (fewer c.deref.result.now c.length_of.result c.length_of.ensures c.if-length_of.false)
