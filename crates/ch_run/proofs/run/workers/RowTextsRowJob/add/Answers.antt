-- The line of one more row follows the text of the rows before it.
use Rattle.std.proofs.lemmas.Result.{on_ok_weaker}
use Rattle.ch_text.specs.TableText.{row_text}
use Rattle.ch_text.proofs.RowTexts.{row_written}
use Rattle.ch_run.proofs.run.workers.RowTextsRowJob.add.Goals as goal

pub returns : goal.returns
returns c =
    on_ok_weaker c.push_row.result (λ more sources rows same so_far. row_written row_text sources rows c.args.source c.args.cells.now
    c.args.gathered.now.items c.push_row.new.text.items same so_far more) c.push_row.ensures
