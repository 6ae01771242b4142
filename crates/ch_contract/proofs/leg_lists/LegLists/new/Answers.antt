-- Of twice as many empty lists as nodes, the first half are the nodes' own and the others are those set aside.
use Rattle.std.proofs.Common.{◌≡◌, ◌+◌, ◌-◌, ℕ, List, [], take, drop, replicate, ◌∙◌, ap, arith}
use Rattle.std.proofs.lemmas.List.{take-replicate, drop-replicate}
use Rattle.ch_hierarchy.specs.declared.leg.Leg.{Leg}
use Rattle.ch_contract.specs.LegLists.{NodeLegs}
use Rattle.ch_contract.proofs.leg_lists.LegLists.new.Goals as goal

-- of twice n empty lists, the first n are the lists of the nodes and the others are set aside
no_legs : (n : ℕ) (lists : List (List Leg)) → lists ≡ replicate (n + n) [] →
    ◌≡◌ {A = NodeLegs} (record { rows = take n lists; aside = drop n lists }) (record { rows = replicate n []; aside = replicate n [] })
no_legs n lists is =
    let rest : (n + n) - n ≡ n = omega arith in
    let rows = ap (take n) is ∙ take-replicate n (n + n) [] (omega arith) in
    let aside = ap (drop n) is ∙ drop-replicate n (n + n) [] ∙ ap (λ k. replicate k []) rest in
    λ i. record { rows = rows i; aside = aside i }

pub returns : goal.returns
returns c = no_legs c.args.nodes c.in_ok-lists.lists (c.in_ok-lists.ensures ∙ ap (λ k. replicate k []) c.requires.rooms)
