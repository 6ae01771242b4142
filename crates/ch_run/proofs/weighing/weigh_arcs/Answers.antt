-- One more arc has its weight, and its key is in the set if the map has it.
use Rattle.std.proofs.Common.{◌≡◌, ℕ, get_or, sym, ap, take, Option, Some, None}
use Rattle.std.specs.Ordering.{nat_cmp}
use Rattle.std.specs.BTreeMap.{get}
use Rattle.std.proofs.lemmas.List.{take_more}
use Rattle.ch_run.specs.Weighing.{key_of, with_weight}
use Rattle.ch_run.proofs.NewWeights.{arcs_more, met_more, met_same, no_arc}
use Rattle.ch_run.proofs.weighing.weigh_arcs.Goals as goal
use Rattle.ch_run.proofs.weighing.weigh_arcs.Goals.{in-Some+in_ok-insert, in_default}

pub loop-arc-preserved : goal.loop-arc-preserved
loop-arc-preserved c =
    let arcs = c.args.arcs.now in
    let i = c.loop-arc.arc-index in
    let arc = get_or arcs i no_arc in
    let found = c.args.found.now in
    rw (take_more arcs i no_arc c.loop-arc-test.true) (elim c.match-get.branch [
      | in-Some+in_ok-insert w ↦
          let has : get nat_cmp found (key_of arc.from arc.to) ≡ Some w.in-Some.new.now =
          rw (← c.key_of-key.ensures) (sym w.in-Some.ensures.value) in
          record {
            weighed = arcs_more found (take i arcs) arc c.match-get.weight c.loop-arc.weighed.items c.push.new.self.items
                c.loop-arc.invariant.weighed c.in_ok-push.ensures.items
                (rw (w.weight-is) (sym (ap (λ (o : Option ℕ). with_weight o arc) has)));
            met = rw (w.met-is) (met_more found (take i arcs) arc c.loop-arc.met w.insert.new.self c.loop-arc.invariant.met
                (rw c.key_of-key.ensures at w.in_ok-insert.ensures.updates).0);
          }
      | in_default w ↦
          let none : get nat_cmp found (key_of arc.from arc.to) ≡ None =
          rw (← c.key_of-key.ensures) (sym w.in_default.ensures.value) in
          record {
            weighed = arcs_more found (take i arcs) arc c.match-get.weight c.loop-arc.weighed.items c.push.new.self.items
                c.loop-arc.invariant.weighed c.in_ok-push.ensures.items
                (rw (w.weight-is) (sym (ap (λ (o : Option ℕ). with_weight o arc) none)));
            met = rw (w.met-is) (met_same found (take i arcs) arc c.loop-arc.met c.loop-arc.invariant.met none);
          }
    ])
