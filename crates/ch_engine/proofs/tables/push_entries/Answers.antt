-- One more entry is appended after the slot of its rank.
use Rattle.std.proofs.Common.{◌≡◌, ◌<◌, ℕ, List, ◌++◌, [], ◌∷◌, get_or, length, sym, ap, ◌∙◌, subst}
use Rattle.std.specs.Prelude.{All}
use Rattle.std.proofs.lemmas.List.{take_more}
use Rattle.ch_engine.specs.Slots.{named}
use Rattle.ch_engine.proofs.SparseSets.{appended_more, named_more, slots_more}
use Rattle.ch_engine.proofs.tables.push_entries.Goals as goal

pub loop-entry-preserved : goal.loop-entry-preserved
loop-entry-preserved c =
    let l = c.loop-entry in
    let i = l.entry-index in
    let space = c.args.space.now in
    let entry = get_or space i (0, 0) in
    let value : ℕ × ℕ = (c.args.place, entry.1) in
    let old = l.slots.names in
    let new = c.slot_or_next.new.self.names in
    let pairs = l.pairs.items in
    let slot = c.in_ok-slot.slot in
    let more = c.slot_or_next.ensures.more in
    let own = c.in_ok-slot.ensures.slot in
    let is : c.push.new.self.items ≡ pairs ++ (slot, value) ∷ [] = c.in_ok-push.ensures.items in
    record {
      numbers = c.slot_or_next.ensures.numbers ∙ l.invariant.numbers;
      low = subst (All (λ (p : ℕ × (ℕ × ℕ)). p.0 < length new)) (sym is)
          (slots_more entry.0 old new more pairs l.invariant.low slot own value);
      adds = ap (named new) is ∙ named_more entry.0 old new more pairs l.invariant.low slot own value
          ∙ ap (λ (ps : List (ℕ × (ℕ × ℕ))). ps ++ (entry.0, value) ∷ []) l.invariant.adds
          ∙ appended_more (λ (p : ℕ × ℕ). (p.0, (c.args.place, p.1))) (named c.args.slots.now.names c.args.pairs.now.items) space i entry
          (take_more space i (0, 0) c.loop-entry-test.true);
    }
