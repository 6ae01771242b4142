-- A search without weights, keys and touched states is clean.
use Rattle.std.proofs.Common.{rules, ◌≡◌, ◌*◌, replicate, refl}
use Rattle.ch_graph.specs.declared.cost.TheConstants.{UNREACHED}
use Rattle.ch_query.proofs.by_weight.Clean.{clean_at_first}
use Rattle.ch_query.proofs.weights.search.WeightSearch.new.Goals as goal

pub returns : goal.returns
returns c =
    let touched = c.in_ok-touched.ensures in
    let known : c.in_ok-known.known.items ≡ replicate (2 * c.args.nodes) UNREACHED = search rules in
    clean_at_first c.args.nodes (2 * c.args.nodes) _ refl known c.in_ok-queue.ensures touched.items touched.len touched.capacity
