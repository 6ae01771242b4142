-- One more section adds its two lists of items.
use Rattle.std.proofs.Common.{[], ◌∷◌, ◌++◌, sym, ◌∙◌, ap, append_assoc}
use Rattle.ch_read.proofs.Cuts.{lists_more}
use Rattle.ch_read.proofs.sections.lists_of.Goals as goal

pub loop-section-preserved : goal.loop-section-preserved
loop-section-preserved g c =
    let next = c.in-Some.ensures.steps.0 in (
      rw (c.in_ok-push.ensures.items, c.in_ok-push-2.ensures.items) (lists_more c.loop-section.yielded c.loop-section.firsts.items
          c.loop-section.seconds.items c.in-Some.section (c.in-Some-section.first, c.in-Some-section.second)
          c.in-Some-section.is c.loop-section.invariant.0),
      c.loop-section.invariant.1 ∙ ap (λ xs. c.loop-section.yielded ++ xs) next
          ∙ sym (append_assoc c.loop-section.yielded (c.in-Some.section ∷ []) c.next.new.self.rest.items),
    )
