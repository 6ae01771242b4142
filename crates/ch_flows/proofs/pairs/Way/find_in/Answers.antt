-- A way that is known needs no legs that are listed.
use Rattle.std.proofs.Common.{ℕ, List, sym, subst}
use Rattle.ch_flows.specs.Found.{IsFound}
use Rattle.ch_flows.proofs.pairs.Way.find_in.Goals as goal

pub returns-in-Some-clause-found : goal.returns-in-Some-clause-found
returns-in-Some-clause-found c = λ row columns row_are columns_are up down so.
    let args = c.args in
    let H = args.hierarchy.now in
    let links = args.plan.now.layout.links.items in
    let ups = args.ups.now in
    let downs = args.downs.now in
    subst (λ (l : List ℕ). IsFound H links row columns ups.source downs.source l c.in-Some.found) (sym c.clear.ensures.items)
    ((c.in-Some.ensures {u = tt}) H links args.plan.now.parts.items row columns ups downs c.requires.kept c.requires.plan.is row_are
    columns_are up down so)
