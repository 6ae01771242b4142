-- The greatest cost so far bounds one more pair of legs, so in the end it bounds the cost of each candidate.
use Rattle.std.proofs.Common.{◌++◌, ◌∷◌, [], take, get_or, length, ◌≤◌, sym, subst, arith}
use Rattle.std.proofs.lemmas.List.{take_more, take_all}
use Rattle.ch_contract.specs.Candidates.{AreBounded}
use Rattle.ch_hierarchy.proofs.theory.NoLeg.{no_leg}
use Rattle.ch_contract.proofs.code.Candidates.{bounded_more, bounded_skip}
use Rattle.ch_contract.proofs.remaining.candidates.most_cost.Goals.{in-Some, in_default}
use Rattle.ch_contract.proofs.remaining.candidates.most_cost.Goals as goal

pub loop-second-preserved : goal.loop-second-preserved
loop-second-preserved c =
    let up = c.args.up.now in
    let i = c.loop-second.second-index in
    let l = get_or up i no_leg in
    rw (take_more up i no_leg c.loop-second-test.true)
    (elim c.match-candidate_cost.branch [
      | in-Some w ↦
          let is = rw w.in-Some.is at c.candidate_cost.ensures in
          subst (AreBounded c.args.nodes c.args.first (take i up ++ l ∷ [])) (sym w.most-is)
          (bounded_more c.args.nodes c.args.first l (take i up) c.loop-second.most w.in-Some.cost w.greatest.result is.0 is.1
          w.greatest.ensures.cost w.greatest.ensures.so_far c.loop-second.invariant)
      | in_default w ↦
          let is = rw w.in_default.is at c.candidate_cost.ensures in
          subst (AreBounded c.args.nodes c.args.first (take i up ++ l ∷ [])) (sym w.most-is)
          (bounded_skip c.args.nodes c.args.first l (take i up) c.loop-second.most is c.loop-second.invariant)
    ])

pub returns : goal.returns
returns c =
    let past : length c.args.up.now ≤ c.loop-second.second-index = omega arith in
    subst (λ z. AreBounded c.args.nodes c.args.first z c.loop-second.most) (take_all c.loop-second.second-index c.args.up.now past)
    c.loop-second.invariant
