-- An item whose numbers are in range and light passes all checks, and any other fails the first of them that it breaks.
use Rattle.std.proofs.Common.{sym, refl, arith}
use Rattle.ch_read.proofs.Judging.{read_item, out_of_range, too_heavy, passes_as_item, values_small}
use Rattle.ch_read.proofs.check.check_values.Goals as goal

pub returns-then-not-are_in_range : goal.returns-then-not-are_in_range
returns-then-not-are_in_range c ws capped =
    let read = read_item c.args.form c.args.part _ c.args.heading c.args.count c.of.result _ ws
    c.args.values.now refl (omega arith) refl capped c.of.ensures c.if-count-of.false in
    out_of_range _ _ _ _ _ _ _ read (sym c.if-not-are_in_range.ensures)

pub returns-then-not-is_light : goal.returns-then-not-is_light
returns-then-not-is_light c ws capped =
    let read = read_item c.args.form c.args.part _ c.args.heading c.args.count c.of.result _ ws
    c.args.values.now refl (omega arith) refl capped c.of.ensures c.if-count-of.false in
    too_heavy _ _ _ _ _ _ _ read (sym c.if-not-are_in_range.ensures) (sym c.if-not-is_light.ensures)

pub item_of-requires-clause-second : goal.item_of-requires-clause-second
item_of-requires-clause-second c =
    let read = read_item c.args.form c.args.part _ c.args.heading c.args.count c.of.result _ c.requires.0
    c.args.values.now refl (omega arith) refl c.requires.1 c.of.ensures c.if-count-of.false in
    (values_small _ _ _ _ _ _ _ read (sym c.if-not-are_in_range.ensures) (sym c.if-not-is_light.ensures)).1

pub item_of-requires-clause-middle : goal.item_of-requires-clause-middle
item_of-requires-clause-middle c =
    let read = read_item c.args.form c.args.part _ c.args.heading c.args.count c.of.result _ c.requires.0
    c.args.values.now refl (omega arith) refl c.requires.1 c.of.ensures c.if-count-of.false in
    (values_small _ _ _ _ _ _ _ read (sym c.if-not-are_in_range.ensures) (sym c.if-not-is_light.ensures)).2

pub returns : goal.returns
returns c ws capped =
    let read = read_item c.args.form c.args.part _ c.args.heading c.args.count c.of.result _ ws
    c.args.values.now refl (omega arith) refl capped c.of.ensures c.if-count-of.false in
    rw (c.item_of.ensures) (passes_as_item _ _ _ _ _ _ _ read (sym c.if-not-are_in_range.ensures) (sym c.if-not-is_light.ensures))
