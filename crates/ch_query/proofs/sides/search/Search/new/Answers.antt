-- A search without costs, keys and touched nodes is clean.
use Rattle.std.proofs.Common.{◌≡◌, ℕ, length, replicate, Option, None, ap, sym, ◌∙◌}
use Rattle.std.proofs.lemmas.Option.{none-some}
use Rattle.std.proofs.lemmas.List.{length-replicate}
use Rattle.ch_graph.specs.declared.cost.Cost.{Cost}
use Rattle.ch_graph.specs.Cost.{cost_at}
use Rattle.ch_query.specs.Labels.{CostsAndParents}
use Rattle.ch_query.proofs.one_side.Touched.{none_known, untouched}
use Rattle.ch_query.proofs.sides.search.Search.new.Goals as goal

pub returns : goal.returns
returns c =
    let t = c.in_ok-touched.ensures in
    let labels = c.in_ok-labels.labels in
    let costs : labels.costs ≡ replicate c.args.nodes None = ap (λ (q : CostsAndParents). q.costs) c.in_ok-labels.ensures in
    let size : length labels.costs ≡ c.args.nodes = ap length costs ∙ length-replicate {A = Option Cost} c.args.nodes None in
    let keys : length c.in_ok-queue.queue ≡ c.args.nodes =
    ap length c.in_ok-queue.ensures ∙ length-replicate {A = Option Cost} c.args.nodes None in
    let parents : length labels.parents ≡ c.args.nodes = ap (λ (q : CostsAndParents). length q.parents) c.in_ok-labels.ensures
    ∙ length-replicate {A = ℕ} c.args.nodes 0 in
    record {
      clean = record {
        nodes = size;
        room = record {
          queue = keys ∙ sym size;
          parents = parents ∙ sym size;
          touched =
              untouched c.args.nodes _ _ costs t.items t.len t.capacity;
        };
        queue = λ v k e. none-some k (sym (ap (λ q. cost_at q v) c.in_ok-queue.ensures ∙ none_known c.args.nodes v) ∙ e);
        nothing = t.len;
      };
    }
