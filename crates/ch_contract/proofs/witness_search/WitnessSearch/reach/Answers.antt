-- One more round makes the least costs of chains of one more leg known, so after all rounds those within the bound are.
use Rattle.std.proofs.Common.{true, refl, sym, ◌∙◌, ap, subst, arith, length, All, List, map}
use Rattle.std.specs.Prelude.{◌≡◌, ◌<◌, ◌≤◌}
use Rattle.ch_graph.specs.declared.limits.TheConstants.{MOST_HOPS}
use Rattle.ch_hierarchy.specs.Rows.{row}
use Rattle.ch_contract.specs.KnownCosts.{ChainStart, Lowers, IsOnly, IsOnlyWhere, IsOneMoreOf, IsRoomFor, AreLeastCosts, known_of}
use Rattle.ch_contract.specs.KnownCosts.{chain_start_of}
use Rattle.ch_contract.specs.LegLists.{legs_into}
use Rattle.std.proofs.lemmas.List.{length-map}
use Rattle.ch_contract.proofs.code.KnownViews.{all_mapped}
use Rattle.ch_contract.proofs.code.Lowering.{lowers_as}
use Rattle.ch_contract.proofs.code.KnownRounds.{rounds_start, rounds_next, steps_room}
use Rattle.ch_contract.proofs.witness_search.WitnessSearch.reach.Goals as goal

pub loop-round-init : goal.loop-round-init
loop-round-init g c =
    let cost = g.K.HeldCost.cost in
    let clean = c.requires.clean in
    let most = c.requires.most in
    let end = c.args.wanted.end in
    let start = known_of cost
    (record { costs = c.args.self.now.known.costs; touched = c.args.self.now.known.touched; next = c.clear.new.self }) in
    let new = known_of cost c.lower.new.self in
    let none = cost c.of-none.result in
    let first = subst (λ z. Lowers (IsOnlyWhere true end none) z new) c.reserve.ensures.known c.lower.ensures.lowers in
    let only = lowers_as (IsOnlyWhere true end none) (IsOnly end none) start new (λ x d m. m.1) (λ x d m. (refl, m)) first in
    let low = subst (λ z. Lowers (IsOnly end z) start new) c.of-none.ensures only in
    rounds_start (length c.args.lists.now.rows) (legs_into c.args.lists.now.rows) c.args.wanted _ (known_of cost c.lower.new.self)
    c.requires.end.1 (most.weight, omega (arith, most.arcs)) c.requires.end.0
    (record { size = clean.size; rest = clean.rest; touched = clean.touched })
    (ap (map (chain_start_of cost)) c.clear.ensures.items) low

pub spread_all-requires : goal.spread_all-requires
spread_all-requires g c =
    let cost = g.K.HeldCost.cost in
    let limit = g.K.HeldCost.limit in
    let lists = c.args.lists.now.rows in
    let n = length lists in
    let u = c.loop-round.invariant in
    let front = c.as_slice.ensures.value ∙ ap (λ v. v.items) c.swap.ensures.x_after in
    let few : c.loop-round._round ≤ MOST_HOPS = omega (arith, c.loop-round-test.true, c.requires.rounds) in
    let room = steps_room limit lists n c.args.wanted c.loop-round._round (known_of cost c.loop-round.self.known).next
    c.requires.rows c.requires.limits c.requires.light c.requires.nodes few c.requires.end.0 c.requires.most u.steps in
    let steps = all_mapped (λ f. (f.node < n) × IsRoomFor limit n (row lists f.node) f) (chain_start_of cost)
    c.loop-round.self.known.next.items room in
    record {
      size = sym (length-map c.loop-round.self.known.costs.items cost) ∙ u.size;
      nodes = subst (λ z. All (λ f. f.node < n) z) (sym front) (λ k d lt. (steps k d lt).0);
      room = subst (λ z. All (λ f. IsRoomFor limit n (row lists f.node) (chain_start_of cost f)) z) (sym front)
          (λ k d lt. (steps k d lt).1);
      most = c.requires.most;
    }

pub loop-round-preserved : goal.loop-round-preserved
loop-round-preserved g c =
    let cost = g.K.HeldCost.cost in
    let lists = c.args.lists.now.rows in
    let front = ap (map (chain_start_of cost)) (c.as_slice.ensures.value ∙ ap (λ v. v.items) c.swap.ensures.x_after) in
    let before = known_of cost c.loop-round.self.known in
    let mid = known_of cost
    (record {
      costs = c.loop-round.self.known.costs;
      touched = c.loop-round.self.known.touched;
      next =
          c.clear-in-loop-round.new.self;
    }) in
    let new = known_of cost c.spread_all.new.self in
    let low = subst (λ (z : List ChainStart). Lowers (IsOneMoreOf lists z c.args.wanted) mid new) front c.in_ok-spread_all.ensures in
    rounds_next lists (length lists) c.args.wanted c.loop-round._round before mid new c.requires.rows refl refl
    (ap (map (chain_start_of cost)) c.clear-in-loop-round.ensures.items) c.loop-round.invariant low

pub returns-clause-least : goal.returns-clause-least
returns-clause-least g c =
    let rounds : c.loop-round._round ≡ c.args.rounds = omega (arith, c.loop-round-test.false, c.loop-round.auto._round-end) in
    subst (λ k. AreLeastCosts (legs_into c.args.lists.now.rows) c.args.wanted k
    (known_of g.K.HeldCost.cost c.loop-round.self.known)) rounds c.loop-round.invariant.least
