-- A given node that few legs touch is contracted in its turn, and another one waits.
use Rattle.std.proofs.Common.{refl, sym, subst, arith}
use Rattle.std.proofs.lemmas.List.{take_more}
use Rattle.ch_order.specs.Quick.{IsBegunWith}
use Rattle.ch_order.proofs.QuickSteps.{ready_for, begun_next, begun_skip, given_key}
use Rattle.ch_order.proofs.construction.Construction.take_if_small.Goals as goal

pub is_small-requires : goal.is_small-requires
is_small-requires c = omega (arith, c.requires.begun.0.nodes, c.requires.given.0 c.args.place 0 c.requires.place)

pub returns-then-not-is_small : goal.returns-then-not-is_small
returns-then-not-is_small c =
    subst (λ l. IsBegunWith c.args.graph.now c.args.hops.number l c.args.self)
    (sym (take_more c.args.given.now c.args.place 0 c.requires.place))
    (begun_skip _ _ _ _ _ c.requires.begun (c.if-not-is_small.ensures.large refl))

pub take_within-requires : goal.take_within-requires
take_within-requires c = record {
  next = ready_for _ _ _ _ c.requires.begun.0 _ (given_key _ _ _ _ _ c.requires.given c.requires.place c.requires.begun);
}

pub returns : goal.returns
returns c =
    subst (λ l. IsBegunWith c.args.graph.now c.args.hops.number l c.in_ok-taken.taken)
    (sym (take_more c.args.given.now c.args.place 0 c.requires.place))
    (begun_next _ _ _ _ c.requires.begun.0 _ (given_key _ _ _ _ _ c.requires.given c.requires.place c.requires.begun)
    c.requires.begun.1 (c.if-not-is_small.ensures.small refl) _ c.in_ok-taken.ensures)
