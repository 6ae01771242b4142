-- One more stop is met.
use Rattle.std.proofs.Common.{◌≡◌, ◌<◌, ℕ, None, get_or, length, set, refl, ◌∙◌, subst, arith}
use Rattle.std.proofs.Math.ListN.{length-set}
use Rattle.std.proofs.lemmas.List.{get_or_default}
use Rattle.std.proofs.lemmas.List.Elements.{Contains-get_or}
use Rattle.ch_graph.specs.Cost.{cost_sum}
use Rattle.ch_engine.specs.declared.sum_meets.Stop.{Stop}
use Rattle.ch_engine.specs.TableSums.{Covers, CoverStops, met_at}
use Rattle.ch_engine.proofs.SumMeets.{covers_new, covers_still, offer_of, offers_more, stops_more}
use Rattle.ch_engine.proofs.sum_meets.meet_stops.Goals as goal

pub loop-j-init : goal.loop-j-init
loop-j-init c = record {
  long = refl;
  keeps = λ i v cost covers. covers;
  covers = λ k d low. absurd (omega (arith, low));
  offers = λ H lines values targets s size branch stops are. are;
}

pub loop-j-preserved : goal.loop-j-preserved
loop-j-preserved c =
    let l = c.loop-j in
    let inv = l.invariant in
    let stops = c.args.stops.now in
    let none : Stop = record { place = 0; cost = record { weight = 0; arcs = 0 }; sum = 0 } in
    let stop = get_or stops l.j none in
    let row = l.row in
    let old = get_or row stop.place None in
    let met = c.meet-met.result in
    let result = c.put_first.new.cell in
    let new = set row stop.place result in
    let first = c.put_first.ensures in
    let inside : stop.place < length row = (let low = c.requires.stops l.j none c.loop-j-test.true in omega (arith, low.0, inv.long)) in
    let made = c.meet-met.ensures in
    record {
      long = length-set row stop.place result ∙ inv.long;
      keeps = λ i v cost covers.
          covers_still row new stop.place old result met inside refl refl first i v cost (inv.keeps i v cost covers);
      covers = stops_more c.args.branch.node c.args.branch.cost stops l.j row new inv.covers
          (covers_still row new stop.place old result met inside refl refl first)
          (λ d. subst (λ (x : Stop). Covers (met_at new x.place) c.args.branch.node (cost_sum c.args.branch.cost x.cost))
          (get_or_default stops l.j none d c.loop-j-test.true)
          (subst (λ v. Covers (met_at new stop.place) v (cost_sum c.args.branch.cost stop.cost)) made.node
          (subst (Covers (met_at new stop.place) met.node) made.cost
          (covers_new row new stop.place old result met inside refl refl first))));
      offers = λ H lines values targets s size branch of_stops are.
          let at = of_stops stop (Contains-get_or stops l.j none c.loop-j-test.true) in
          offers_more H lines values targets s row new stop.place old result met inside refl refl first
          (offer_of H lines values targets s c.args.branch stop met branch at.1 made.node made.cost made.sum)
          (length-set row stop.place result) (inv.offers H lines values targets s size branch of_stops are);
    }

pub returns-clause-covers : goal.returns-clause-covers
returns-clause-covers c =
    let l = c.loop-j in
    let end : l.j ≡ length c.args.stops.now = omega (arith, c.loop-j-test.false, l.auto.j-end) in
    subst (λ (n : ℕ). CoverStops c.args.branch.node c.args.branch.cost c.args.stops.now n l.row) end l.invariant.covers
