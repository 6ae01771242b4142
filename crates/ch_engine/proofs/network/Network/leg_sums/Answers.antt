-- One more node has the words of its legs, first up and then down.
use Rattle.std.proofs.Common.{◌≡◌, ◌<◌, ℕ, List, [], ◌∷◌, ◌++◌, get_or, length, ◌∙◌, ap, arith}
use Rattle.std.proofs.lemmas.List.{get_or_default, length-append}
use Rattle.ch_hierarchy.specs.declared.side.Side.TheVariants.{Up, Down}
use Rattle.ch_engine.proofs.LegSums.{legs_pushed}
use Rattle.ch_engine.proofs.network.Network.leg_sums.Goals as goal

pub sum_legs-requires-in-loop-i-clause-sums : goal.sum_legs-requires-in-loop-i-clause-sums
sum_legs-requires-in-loop-i-clause-sums c =
    let v = c.args.self.now in
    let l = c.loop-i in
    let order = l.sums.order.items in
    let low : l.i < length order = omega (arith, c.loop-i-test.true, l.invariant.order) in
    let node : c.index-node.result.now ≡ get_or order l.i 0 =
    c.index-node.ensures ∙ get_or_default order l.i c.index-node.result.now 0 low in
    let made = c.sum_legs.new.row.items in
    let is : c.push.new.self ≡ l.sums.ups ++ made ∷ [] =
    (c.in_ok-push.ensures {u = tt}).ok ∙ ap (λ (r : List ℕ). l.sums.ups ++ r ∷ []) c.deref.ensures.value in
    record {
      up = legs_pushed v.0 v.1 c.args.values.now Up order l.sums.ups c.push.new.self made l.i c.index-node.result.now l.invariant.ups is
          l.invariant.sums.up (c.in_ok-sum_legs.ensures {u = tt}) node;
      down = l.invariant.sums.down;
    }

pub loop-i-preserved : goal.loop-i-preserved
loop-i-preserved c =
    let v = c.args.self.now in
    let l = c.loop-i in
    let order = l.sums.order.items in
    let low : l.i < length order = omega (arith, c.loop-i-test.true, l.invariant.order) in
    let node : c.index-node.result.now ≡ get_or order l.i 0 =
    c.index-node.ensures ∙ get_or_default order l.i c.index-node.result.now 0 low in
    let made = c.sum_legs.new.row.items in
    let more = c.sum_legs-in-loop-i.new.row.items in
    let is : c.push.new.self ≡ l.sums.ups ++ made ∷ [] =
    (c.in_ok-push.ensures {u = tt}).ok ∙ ap (λ (r : List ℕ). l.sums.ups ++ r ∷ []) c.deref.ensures.value in
    let are : c.push-in-loop-i.new.self ≡ l.sums.downs ++ more ∷ [] =
    (c.in_ok-push-2.ensures {u = tt}).ok ∙ ap (λ (r : List ℕ). l.sums.downs ++ r ∷ []) c.deref-in-loop-i.ensures.value in
    record {
      order = l.invariant.order;
      few = l.invariant.few;
      nodes = l.invariant.nodes;
      ups = omega (arith, ap length is, length-append l.sums.ups (made ∷ []), l.invariant.ups);
      downs = omega (arith, ap length are, length-append l.sums.downs (more ∷ []), l.invariant.downs);
      sums = record {
        up = legs_pushed v.0 v.1 c.args.values.now Up order l.sums.ups c.push.new.self made l.i c.index-node.result.now l.invariant.ups is
            l.invariant.sums.up (c.in_ok-sum_legs.ensures {u = tt}) node;
        down = legs_pushed v.0 v.1 c.args.values.now Down order l.sums.downs c.push-in-loop-i.new.self more l.i
            c.index-node.result.now l.invariant.downs are l.invariant.sums.down (c.in_ok-sum_legs-2.ensures {u = tt}) node;
      };
    }
