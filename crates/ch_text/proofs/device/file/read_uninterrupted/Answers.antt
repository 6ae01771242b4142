-- One more interrupted read extends those before it, and the last read gives the answer.
use Rattle.std.proofs.Common.{inl, inr, arith, rules}
use Rattle.ch_text.specs.Calls.{IsOneRead}
use Rattle.ch_text.proofs.Calls.{AreInterrupted-more}
use Rattle.ch_text.proofs.device.file.read_uninterrupted.Goals as goal

pub returns-in_default-clause-made : goal.returns-in_default-clause-made
returns-in_default-clause-made g c = record {
  calls = c.loop.counter;
  last = (c.loop.reader, c.loop.buffer);
  before = c.loop.invariant.interrupted;
  answer = c.in-Err.ensures.made;
  done = inl (search rules);
}

pub returns-in_default-2-clause-made : goal.returns-in_default-2-clause-made
returns-in_default-2-clause-made g c = record {
  calls = c.loop.counter;
  last = (c.loop.reader, c.loop.buffer);
  before = c.loop.invariant.interrupted;
  answer = c.read_once.ensures.made;
  done = inl (search rules);
}

pub loop-preserved : goal.loop-preserved
loop-preserved g c = record {
  room = omega arith;
  interrupted = AreInterrupted-more (IsOneRead g.D.ReadOnce.read_gives) c.loop.counter
      (c.args.reader.now, c.args.buffer.now) (c.loop.reader, c.loop.buffer) (c.read_once.new.self, c.read_once.new.buffer)
      c.in-Err.error c.loop.invariant.interrupted c.in-Err.ensures.made (search rules);
}

pub returns-clause-made : goal.returns-clause-made
returns-clause-made g c = record {
  calls = c.loop.counter;
  last = (c.loop.reader, c.loop.buffer);
  before = c.loop.invariant.interrupted;
  answer = c.read_once-2.ensures.made;
  done = inr (omega arith);
}
