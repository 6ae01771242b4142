-- No file before the current one has the name that is looked for.
use Rattle.std.proofs.Common.{◌≡◌, drop}
use Rattle.ch_line.specs.Files.{state_among}
use Rattle.ch_line.proofs.files.memory.MemoryFilesFiles.open.Given as goal

-- no file before this one has the name
abbrev pub invariant-loop-file : goal.invariant-loop-file
invariant-loop-file l = state_among l.self.files.now l.name ≡ state_among (drop l.file-index l.self.files.now) l.name
