-- The cell is known by its meeting, or its route is found and its values are added up.
use Rattle.std.proofs.Common.{ℕ, Option, subst}
use Rattle.std.specs.Prelude.{MatchOption, ⊤}
use Rattle.ch_engine.specs.Held.{only}
use Rattle.ch_engine.specs.RouteSums.{IsPairSum}
use Rattle.ch_engine.proofs.network.Network.cell_sum.Goals as goal

pub sum_along-requires-clause-route : goal.sum_along-requires-clause-route
sum_along-requires-clause-route c = (c.args.source, c.args.target, c.in-Ok.ensures.route.walk)

pub sum_along-requires-clause-kept : goal.sum_along-requires-clause-kept
sum_along-requires-clause-kept c = c.requires.lines

pub returns-in-Some-clause-cell : goal.returns-in-Some-clause-cell
returns-in-Some-clause-cell c =
    let v = c.args.self.now in
    let held = only v.0 v.1 in
    let values = c.args.kept.now.values.items in
    subst (λ (o : Option (ℕ × ℕ)). MatchOption o ⊤ (λ found. IsPairSum held values c.args.source c.args.target found.0 found.1))
    c.in-Some.is
    (c.known_cell.ensures v.0 v.1 values c.args.source c.args.target c.requires.lines c.requires.target c.requires.met)
