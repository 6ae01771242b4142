-- One more line is noted beside its leg, so in the end each word is the best line that was seen for its leg.
use Rattle.std.proofs.Common.{◌≡◌, ◌∙◌, ◌<◌, ℕ, length, slice_index, inr, subst, arith}
use Rattle.ch_engine.specs.Lines.{IsLineWord, IsSeen, node_at}
use Rattle.ch_engine.proofs.FirstLines.{line_or_none, noted}
use Rattle.ch_engine.proofs.lines.note_lines.Goals as goal

pub loop-i-init : goal.loop-i-init
loop-i-init c = record {
  long = c.requires.long;
  each = λ k low. inr (c.requires.none k (omega (arith, low, c.requires.long)), λ line among. absurd (let past = among.1 in omega arith));
}

pub note_line-requires : goal.note_line-requires
note_line-requires c =
    let l = c.loop-i in
    let arcs = c.args.arcs.now in
    record {
      line = c.requires.seen l.i c.loop-i-test.true;
      order = c.requires.order;
      long = l.invariant.long;
      words = λ k low. line_or_none arcs (IsSeen arcs c.args.side c.args.seen.now l.i (node_at c.args.legs.now k)) (slice_index l.row k)
          (λ line among. subst (λ n. n < length arcs) among.2
          (c.requires.seen among.0 (omega (arith, among.1, c.loop-i-test.true))))
          (l.invariant.each k (omega (arith, low, l.invariant.long)));
    }

pub loop-i-preserved : goal.loop-i-preserved
loop-i-preserved c =
    let l = c.loop-i in
    let arcs = c.args.arcs.now in
    let new = c.note_line.new.row in
    record {
      long = c.note_line.ensures.long ∙ l.invariant.long;
      each = λ k low. noted arcs c.args.side c.args.seen.now l.i (node_at c.args.legs.now k) (slice_index l.row k)
          (slice_index new k) c.requires.few
          (λ line among. subst (λ n. n < length arcs) among.2
          (c.requires.seen among.0 (omega (arith, among.1, c.loop-i-test.true)))) (l.invariant.each k low)
          (c.note_line.ensures.here k low) (c.note_line.ensures.others k low);
    }

pub returns-clause-each : goal.returns-clause-each
returns-clause-each c =
    let arcs = c.args.arcs.now in
    let seen = c.args.seen.now in
    let legs = c.args.legs.now in
    let end : c.loop-i.i ≡ length seen = omega (arith, c.loop-i-test.false, c.loop-i.auto.i-end) in
    subst (λ (n : ℕ). (k : ℕ) → k < length legs → IsLineWord arcs (IsSeen arcs c.args.side seen n (node_at legs k))
    (slice_index c.loop-i.row k)) end c.loop-i.invariant.each
