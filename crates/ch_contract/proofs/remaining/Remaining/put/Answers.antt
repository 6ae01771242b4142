-- Shortcuts that are put in on both sides override the legs between their ends and keep the limits.
use Rattle.std.proofs.Common.{◌≡◌, ◌<◌, ℕ, All, sym, ◌∙◌, ap, subst}
use Rattle.std.proofs.lemmas.List.Elements.{All-from_get_or}
use Rattle.ch_contract.specs.declared.held_cost.TheConstants.{MOST_LIGHT}
use Rattle.ch_contract.specs.declared.shortcut.Shortcut.{Shortcut}
use Rattle.ch_contract.specs.Legs.{IsLegWithin}
use Rattle.ch_contract.specs.Contraction.{leg_after_shortcuts, shortcut_label}
use Rattle.ch_contract.specs.LegLists.{IsWithinLimits, legs_from}
use Rattle.ch_contract.specs.Remaining.{RemainingLegs, legs_of}
use Rattle.ch_contract.proofs.code.ClearedLists.{putting_leaves}
use Rattle.ch_contract.proofs.code.LightLegs.{put_light}
use Rattle.ch_contract.proofs.code.ListEdits.{no_shortcut}
use Rattle.ch_contract.proofs.remaining.Remaining.put.Goals.{In_ok-put_shortcuts, then-light, else-light}
use Rattle.ch_contract.proofs.remaining.Remaining.put.Goals as goal

pub put_shortcuts-requires-clause-from : goal.put_shortcuts-requires-clause-from
put_shortcuts-requires-clause-from c =
    let within = subst (λ (m : RemainingLegs). All (λ (s : Shortcut). IsLegWithin m.nodes s.from s.to (shortcut_label c.args.v s))
    c.args.shortcuts.now) (sym c.self.view_is) c.requires.within in
    subst (λ n. All (λ (s : Shortcut). s.from < n) c.args.shortcuts.now) (sym c.self.invariant.0.sizes.0)
    (All-from_get_or (λ (s : Shortcut). s.from < c.self.inside.nodes) c.args.shortcuts.now no_shortcut
    (λ i lt. (within i no_shortcut lt).ends.0))

pub put_shortcuts-requires-clause-to : goal.put_shortcuts-requires-clause-to
put_shortcuts-requires-clause-to c =
    let within = subst (λ (m : RemainingLegs). All (λ (s : Shortcut). IsLegWithin m.nodes s.from s.to (shortcut_label c.args.v s))
    c.args.shortcuts.now) (sym c.self.view_is) c.requires.within in
    subst (λ n. All (λ (s : Shortcut). s.to < n) c.args.shortcuts.now) (sym c.self.invariant.0.sizes.1)
    (All-from_get_or (λ (s : Shortcut). s.to < c.self.inside.nodes) c.args.shortcuts.now no_shortcut
    (λ i lt. (within i no_shortcut lt).ends.1))

-- both sides keep the limits
left : (c : In_ok-put_shortcuts) → IsWithinLimits c.self.inside.nodes c.put_shortcuts.new.outs.rows c.put_shortcuts.new.ins.rows
left c =
    let within = subst (λ (m : RemainingLegs). All (λ (s : Shortcut). IsLegWithin m.nodes s.from s.to (shortcut_label c.args.v s))
    c.args.shortcuts.now) (sym c.self.view_is) c.requires.within in
    putting_leaves c.self.inside.nodes c.self.inside.outs.rows c.self.inside.ins.rows c.self.invariant.0 c.args.v
    c.args.shortcuts.now within _ _ c.in_ok-put_shortcuts.ensures.outs c.in_ok-put_shortcuts.ensures.ins

pub invariant_of-result : goal.invariant_of-result
invariant_of-result c = (
  left (goal.at.invariant_of-result c).In_ok-put_shortcuts,
  λ yes. elim c.if-light.branch [
    | then-light w ↦ put_light MOST_LIGHT (legs_from c.self.inside.outs.rows) c.args.v c.args.shortcuts.now
        (legs_from c.put_shortcuts.new.outs.rows) (c.self.invariant.1 w.if-light.true) (w.are_light.ensures (sym w.result-is ∙ yes))
        c.in_ok-put_shortcuts.ensures.outs.legs
    | else-light w ↦ let no = sym w.result-is ∙ yes in cc
  ],
)

pub returns : goal.returns
unfolding legs_of
returns c = record {
  nodes = ap (λ (m : RemainingLegs). m.nodes) c.self.view_is;
  legs = subst (λ (m : RemainingLegs). (u w : ℕ) → legs_from c.put_shortcuts.new.outs.rows u w ≡ leg_after_shortcuts c.args.v
      c.args.shortcuts.now u w (legs_of m u w)) c.self.view_is c.in_ok-put_shortcuts.ensures.outs.legs;
  aside = (
    c.in_ok-put_shortcuts.ensures.aside.0 ∙ ap (λ (m : RemainingLegs). m.ups) c.self.view_is,
    c.in_ok-put_shortcuts.ensures.aside.1 ∙ ap (λ (m : RemainingLegs). m.downs) c.self.view_is,
  );
}
