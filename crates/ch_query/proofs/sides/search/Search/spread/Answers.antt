-- A search that ran until no key is left has reached each node at the least cost of an upward path.
use Rattle.std.proofs.Common.{refl, sym, subst}
use Rattle.std.proofs.lemmas.Result.{IfOk-weaker}
use Rattle.ch_hierarchy.specs.Side.{rows_of}
use Rattle.ch_query.specs.Spread.{IsSpread}
use Rattle.ch_query.proofs.one_side.Spreads.{underway_room, spread_of}
use Rattle.ch_query.proofs.sides.search.Search.spread.Goals as goal

pub explore-requires : goal.explore-requires
explore-requires c = record { underway = c.begin.ensures.underway _ refl c.most_within.ensures.limits }

pub listed-list-requires : goal.listed-list-requires
listed-list-requires c = record { underway = (_, c.explore.ensures.underway) }

pub clean-requires : goal.clean-requires
clean-requires c = record { room = underway_room _ _ _ c.explore.ensures.underway }

pub returns-clause-spread : goal.returns-clause-spread
returns-clause-spread c =
    let H = c.args.hierarchy.now in
    let start = c.args.start in
    IfOk-weaker _ _ _ (λ list found. subst (IsSpread (rows_of H start.side) start.within start.source) (sym found.2)
    (spread_of H _ c.explore.new.self found.0 start.within c.most_within.ensures c.explore.ensures.underway refl c.explore.ensures.done
    found.1)) c.listed-list.ensures
