-- The streams that the run works on are the very ones that were given.
use Rattle.chtab.proofs.system.start.Goals as goal

pub returns : goal.returns
returns g c =
    let told = c.words_of-words.ensures in
    let run = c.run.ensures in (
      told.0,
      c.words_of-words.result,
      run.0,
      c.new.result,
      c.run.new.files,
      c.new-2.result,
      c.run.new.requests,
      c.new-3.result,
      c.run.new.output,
      c.new-4.result,
      c.run.new.errors,
      c.new.ensures,
      rw c.new-2.ensures.reader (rw c.new-3.ensures.writer (rw c.new-4.ensures.writer c.streams_once-input.ensures.made)),
      told.1,
      told.2,
      run.1,
      run.2,
    )
