-- All whole requests are answered before each read, and a fault, new weights or a failed read end the answers there.
use Rattle.std.proofs.Common.{◌≡◌, ◌<◌, ◌∙◌, ap, arith, false, length, sym, true}
use Rattle.ch_read.specs.Requests.{Standing}
use Rattle.ch_run.proofs.Owed.{ends_as}
use Rattle.ch_run.proofs.Served.{answered_on, end_read, no_weights, one_read, serves_all, serves_memory, serves_refused, serves_stopped}
use Rattle.ch_run.proofs.run.serving.serve_in.Goals.{then-count-eq0, else-count-eq0+in_ok-feed}
use Rattle.ch_run.proofs.run.serving.serve_in.Goals as goal

pub returns-in_err-weights-clause-served : goal.returns-in_err-weights-clause-served
returns-in_err-weights-clause-served g c =
    rw (ends_as _ _ c.from_residual.ensures.1) (λ start first old h.
    let had = c.loop.invariant.served start first old h in
    serves_stopped had (c.in_err-weights.ensures.answered had.read first old had.has))

pub returns-then-stream-clause-served : goal.returns-then-stream-clause-served
returns-then-stream-clause-served g c =
    let none = no_weights c.in_ok-weights.field-0 c.in_default.not-Some in
    let ended : c.loop.stream.ended ≡ true = sym c.answer_whole.ensures.ended ∙ c.if-stream.true in
    λ start first old h.
    let had = c.loop.invariant.served start first old h in
    serves_all (rw (none, ended) at (answered_on had c.in_ok-weights.ensures.answered))
    (rw ended at (c.in_ok-weights.ensures.used_up none))

pub returns-in_err-count-clause-served : goal.returns-in_err-count-clause-served
returns-in_err-count-clause-served g c =
    let none = no_weights c.in_ok-weights.field-0 c.in_default.not-Some in
    let unended : c.loop.stream.ended ≡ false = sym c.answer_whole.ensures.ended ∙ c.if-stream.false in
    let failed = c.in_err-count.ensures.failed in
    rw (ends_as _ _ c.from_residual-in_err-count.ensures.1, c.in_err-count.ensures.own) (λ start first old h.
    let had = c.loop.invariant.served start first old h in
    serves_refused (rw (none, unended) at (answered_on had c.in_ok-weights.ensures.answered)) c.read_once.new.buffer failed.0
    (rw unended at (c.in_ok-weights.ensures.used_up none)) failed.1)

pub returns-in_err-feed-clause-served : goal.returns-in_err-feed-clause-served
returns-in_err-feed-clause-served g c =
    let none = no_weights c.in_ok-weights.field-0 c.in_default.not-Some in
    let unended : c.loop.stream.ended ≡ false = sym c.answer_whole.ensures.ended ∙ c.if-stream.false in
    rw (ends_as _ _ c.from_residual-in_err-feed.ensures.1) (λ start first old h.
    let had = c.loop.invariant.served start first old h in
    let answered = rw (none, unended) at (answered_on had c.in_ok-weights.ensures.answered) in
    serves_memory (one_read answered c.in_ok-count.ensures.given (omega arith) c.in_ok-count.ensures.fits))

pub loop-preserved : goal.loop-preserved
loop-preserved g c =
    let none = no_weights c.in_ok-weights.field-0 c.in_default.not-Some in
    let unended : c.loop.stream.ended ≡ false = sym c.answer_whole.ensures.ended ∙ c.if-stream.false in
    let same_size = c.read_once.ensures.buffer ∙ c.loop.invariant.buffer in
    let some : 0 < length c.read_once.new.buffer = (let room = c.requires.buffer in omega arith) in
    let same_nodes = c.answer_whole.ensures.nodes ∙ c.loop.invariant.nodes in
    let no_failure : g.J.Input.failed c.read_once.new.requests ≡ g.J.Input.failed c.args.requests.now =
    c.in_ok-count.ensures.failures ∙ (let so_far = c.loop.invariant.reads in omega arith) in
    elim c.if-count-eq0.branch [
      | then-count-eq0 w ↦ record {
        buffer = same_size;
        kept = c.in_ok-weights.ensures.room;
        nodes = rw w.stream-is same_nodes;
        served = λ start first old h.
            let had = c.loop.invariant.served start first old h in
            let answered = rw (none, unended) at (answered_on had c.in_ok-weights.ensures.answered) in
            rw w.stream-is (end_read answered c.read_once.new.buffer some (rw w.if-count-eq0.true at c.in_ok-count.ensures.given));
        reads = no_failure;
      }
      | else-count-eq0+in_ok-feed w ↦ record {
        buffer = same_size;
        kept = c.in_ok-weights.ensures.room;
        nodes = rw w.stream-is (ap (λ (s : Standing). s.nodes) w.in_ok-feed.ensures.fed ∙ same_nodes);
        served = λ start first old h.
            let had = c.loop.invariant.served start first old h in
            let answered = rw (none, unended) at (answered_on had c.in_ok-weights.ensures.answered) in
            rw (w.stream-is, w.in_ok-feed.ensures.fed, c.if-stream.false)
            (one_read answered c.in_ok-count.ensures.given (omega arith) c.in_ok-count.ensures.fits);
        reads = no_failure;
      }
    ]

pub returns-clause-served : goal.returns-clause-served
returns-clause-served g c = λ start first old h. serves_memory (c.loop.invariant.served start first old h)
