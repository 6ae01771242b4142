-- Where each node has the cost of never, no chain is known.
use Rattle.std.proofs.Common.{◌≡◌, ◌∙◌, ℕ, List, [], ◌∷◌, ◌++◌, length, get_or, map, replicate, ap, arith, inl, inr}
use Rattle.std.proofs.lemmas.Bool.{cases_lt}
use Rattle.std.proofs.lemmas.List.{map-append, replicate_more, get_or-replicate, get_or_past, length-replicate}
use Rattle.ch_graph.specs.declared.cost.Cost.{Cost}
use Rattle.ch_contract.specs.HeldCosts.{never}
use Rattle.ch_contract.proofs.known_costs.KnownCosts.new.Goals as goal

-- no cost is known where each cost is `never`
none_known : (n x : ℕ) → get_or (replicate n never) x never ≡ never
none_known n x = elim (cases_lt x n) [
  | inl lt ↦ get_or-replicate n x never never lt
  | inr past ↦ get_or_past (replicate n never) x never (omega (arith, length-replicate {A = Cost} n never))
]

pub loop-preserved : goal.loop-preserved
loop-preserved g c =
    let cost = g.K.HeldCost.cost in
    ap (map cost) c.in_ok-push.ensures.items ∙ map-append cost c.loop.costs.items (c.never.result ∷ [])
    ∙ ap (λ (l : List Cost). l ++ cost c.never.result ∷ []) c.loop.invariant
    ∙ ap (λ (k : Cost). replicate c.loop.counter never ++ k ∷ []) c.never.ensures ∙ replicate_more c.loop.counter never

pub returns : goal.returns
returns g c =
    let all = c.loop.invariant in
    let end : c.loop.counter ≡ c.args.nodes = omega arith in
    record {
      size = ap length all ∙ length-replicate {A = Cost} c.loop.counter never ∙ end;
      rest = λ x. ap (λ (l : List Cost). get_or l x never) all ∙ none_known c.loop.counter x;
      touched = c.new.ensures.items;
    }
