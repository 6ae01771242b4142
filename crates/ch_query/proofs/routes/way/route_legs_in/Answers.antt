-- A meet of both sides gives the legs of the route, and without a meet there are none.
use Rattle.std.proofs.Common.{Vec, Global, true, sym, subst, ap, ◌∙◌}
use Rattle.std.specs.Prelude.{IfOk}
use Rattle.ch_query.specs.Ways.{AreLegsFound}
use Rattle.ch_query.specs.declared.routes.unpacking.PendingLeg.{PendingLeg as AnyLeg}
use Rattle.ch_query.proofs.routing.RouteAnswers.{legs_found, legs_missing}
use Rattle.ch_query.proofs.routes.way.route_legs_in.Goals.{in-Some+in-Ok, in-Some+in-Err, in-None}
use Rattle.ch_query.proofs.routes.way.route_legs_in.Goals as goal

pub returns-clause-legs : goal.returns-clause-legs
returns-clause-legs c =
    let H = c.args.hierarchy.now in
    let s = c.args.start in
    let t = c.args.end in
    let legs = c.match-meet.legs in
    elim c.match-meet.branch [
      | in-Some+in-Ok w ↦ (
          let over = (w.in-Ok.ensures {u = tt}).legs in
          let found = legs_found H c.requires.kept s t _ w.legs_over.new.legs over in
          subst (λ r. IfOk r (λ found. AreLegsFound H s t found legs.items)) (sym w.found-is)
          (subst (λ (l : Vec AnyLeg Global). AreLegsFound H s t true l.items) (sym w.legs-is) found))
      | in-Some+in-Err w ↦ subst (λ r. IfOk r (λ found. AreLegsFound H s t found legs.items)) (sym w.found-is) tt
      | in-None w ↦ subst (λ r. IfOk r (λ found. AreLegsFound H s t found legs.items)) (sym w.found-is)
          (legs_missing H s t legs.items (w.in-None.ensures {u =
          tt}).least (ap (λ (l : Vec AnyLeg Global). l.items) w.legs-is ∙ c.clear.ensures.items))
    ]
