-- A touched state that loses its weight leaves the list of touched states, so in the end the search is clean.
use Rattle.std.proofs.Common.{rules, ◌≡◌, refl, arith, vec_len}
use Rattle.std.specs.Prelude.{vec_capacity}
use Rattle.std.proofs.lemmas.List.{length-map}
use Rattle.ch_query.specs.Weights.{known_cost}
use Rattle.ch_query.proofs.one_side.Touched.{last_within}
use Rattle.ch_query.proofs.by_weight.Clean.{one_less, listed_alike}
use Rattle.ch_query.proofs.weights.search.WeightSearch.clean.Goals as goal

pub index_mut-requires : goal.index_mut-requires
index_mut-requires c =
    let e = c.in-Some.ensures in
    let lt = last_within _ _ c.pop.new.self c.loop-state.invariant.sized.1.touched c.in-Some.state e.items e.cases e.capacity in
    let size = length-map c.loop-state.self.known.items known_cost in
    omega arith

pub loop-state-preserved : goal.loop-state-preserved
loop-state-preserved c =
    let i = c.loop-state.invariant in
    let e = c.in-Some.ensures in
    record {
      sized = (i.sized.0, one_less i.sized.0 c.loop-state.self _ c.in-Some.state i.sized.1 refl refl e.items e.cases e.capacity);
      sizes = λ n s. one_less n c.loop-state.self _ c.in-Some.state (i.sizes n s) refl refl e.items e.cases e.capacity;
      queue = i.queue;
    }

pub returns : goal.returns
returns c = λ n s.
    let i = c.loop-state.invariant in
    let sizes = i.sizes n s in
    let items : c.pop.new.self.items ≡ c.loop-state.self.touched.items = search rules in
    let same : vec_len c.pop.new.self ≡ vec_len c.loop-state.self.touched = search rules in
    let capacity : vec_capacity c.pop.new.self ≡ vec_capacity c.loop-state.self.touched = search rules in
    let none : vec_len c.pop.new.self ≡ 0 = search rules in
    record {
      sizes = record {
        known = sizes.known;
        queue = sizes.queue;
        touched =
            listed_alike _ _ _ sizes.touched items same capacity;
      };
      queue = i.queue;
      nothing = none;
    }
