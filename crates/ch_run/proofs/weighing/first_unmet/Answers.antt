-- One more new weight has its key in the set, and in the end all have.
use Rattle.std.proofs.Common.{◌≤◌, All, get_or, length, sym, take, arith}
use Rattle.std.specs.Prelude.{IsTrue}
use Rattle.std.specs.Ordering.{nat_cmp}
use Rattle.std.specs.BTreeSet.{contains}
use Rattle.std.proofs.lemmas.List.{take_all, take_more}
use Rattle.std.proofs.lemmas.List.Elements.{All-push}
use Rattle.ch_read.specs.declared.new_weights.NewWeight.{NewWeight}
use Rattle.ch_run.specs.Weighing.{key_of}
use Rattle.ch_run.proofs.NewWeights.{no_weight}
use Rattle.ch_run.proofs.weighing.first_unmet.Goals as goal

pub loop-new-preserved : goal.loop-new-preserved
loop-new-preserved c =
    let listed = c.args.listed.now in
    let i = c.loop-new.new-index in
    rw (take_more listed i no_weight c.loop-new-test.true)
    (All-push (λ (new : NewWeight). IsTrue (contains nat_cmp c.args.met.now (key_of new.from new.to))) (take i listed)
    (get_or listed i no_weight) c.loop-new.invariant (rw (← c.key_of.ensures) (sym c.if-not-contains.ensures)))

pub returns : goal.returns
returns c =
    let listed = c.args.listed.now in
    let past : length listed ≤ c.loop-new.new-index = omega arith in
    rw (take_all c.loop-new.new-index listed past) at c.loop-new.invariant
