-- The lines of the legs to higher nodes are the text of these legs.
use Rattle.std.proofs.Common.{◌++◌, ap, sym, ◌∙◌}
use Rattle.ch_hierarchy.specs.Written.{leg_up}
use Rattle.ch_text.specs.SaveText.{leg_text}
use Rattle.ch_text.proofs.Growing.{all_grown}
use Rattle.ch_text.proofs.Saving.{text_of_turned}
use Rattle.ch_text.proofs.hierarchy_text.push_ups.Goals as goal

pub returns : goal.returns
returns c =
    all_grown (λ leg. leg_text (leg_up c.args.node leg)) c.args.legs.now c.loop-leg.leg-index c.args.text.now.items
    c.loop-leg.text.items c.loop-leg-test.false c.loop-leg.invariant
    ∙ ap (λ t. c.args.text.now.items ++ t) (sym (text_of_turned leg_text (leg_up c.args.node) c.args.legs.now))
