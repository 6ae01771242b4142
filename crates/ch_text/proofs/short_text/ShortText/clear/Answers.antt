-- A text that starts at the end of its bytes is empty.
use Rattle.std.proofs.Common.{arith}
use Rattle.std.proofs.lemmas.List.{drop_all}
use Rattle.ch_text.proofs.short_text.ShortText.clear.Goals as goal

pub returns : goal.returns
returns c = (let size = c.self.told in drop_all 112 c.self.inside.bytes (omega arith))
