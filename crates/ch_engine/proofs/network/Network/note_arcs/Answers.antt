-- One more arc has its line, and the places before and behind those of the arcs are as before.
use Rattle.std.proofs.Common.{◌≢◌, ◌∙◌, ◌+◌, ◌<◌, ℕ, get_or, length, set, inl, inr, sym, subst, arith}
use Rattle.std.proofs.lemmas.Bool.{cases_order}
use Rattle.std.proofs.lemmas.List.{get_or_default, get_or-set_other, get_or-set_same, length-set}
use Rattle.ch_graph.specs.declared.arc.InArc.{InArc}
use Rattle.ch_engine.specs.Lines.{IsLineBy}
use Rattle.ch_engine.proofs.network.Network.note_arcs.Goals as goal

pub loop-j-preserved : goal.loop-j-preserved
loop-j-preserved c =
    let l = c.loop-j in
    let v = l.invariant in
    let arcs = c.args.arcs.now in
    let begin = c.args.begin in
    let network = c.args.self.now in
    let word = c.line.result in
    let low = c.loop-j-test.true in
    let none : InArc = record { from = 0; to = 0; weight = 0 } in
    let inside : begin + l.j < length l.lines = omega (arith, c.requires.room, v.long, low) in
    let Lined : InArc → ℕ → Type 0 = λ a line. a.from ≢ a.to → IsLineBy network.0 network.1 a.from a.to line in
    let here : Lined (get_or arcs l.j none) word = c.line.ensures in
    record {
      long = length-set l.lines (begin + l.j) word ∙ v.long;
      lined = λ k d less. elim (cases_order k l.j) as
          (λ _. Lined (get_or arcs k d) (get_or (set l.lines (begin + l.j) word) (begin + k) 0)) [
            | inl same ↦ subst (λ (n : ℕ). Lined (get_or arcs n d) (get_or (set l.lines (begin + l.j) word) (begin + n) 0)) (sym same)
                (subst (Lined (get_or arcs l.j d)) (sym (get_or-set_same l.lines (begin + l.j) word 0 inside))
                (subst (λ (a : InArc). Lined a word) (get_or_default arcs l.j none d low) here))
            | inr (inl fewer) ↦ subst (Lined (get_or arcs k d))
                (sym (get_or-set_other l.lines (begin + l.j) (begin + k) word 0 (λ same. omega arith))) (v.lined k d fewer)
            | inr (inr past) ↦ absurd (omega arith)
          ];
      before = λ k less. get_or-set_other l.lines (begin + l.j) k word 0 (λ same. omega arith) ∙ v.before k less;
      behind = λ k from. get_or-set_other l.lines (begin + l.j) k word 0 (λ same. omega arith) ∙ v.behind k from;
    }
