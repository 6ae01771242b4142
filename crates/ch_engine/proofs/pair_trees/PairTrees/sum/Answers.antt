-- The first meeting of the trees of both ends tells the sum.
use Rattle.std.proofs.Common.{subst}
use Rattle.std.specs.Prelude.{MatchOption, ⊤}
use Rattle.ch_hierarchy.specs.declared.side.Side.TheVariants.{Down}
use Rattle.ch_engine.specs.Held.{only}
use Rattle.ch_engine.specs.RouteSums.{IsPairSum}
use Rattle.ch_engine.specs.TableSums.{AreBranches}
use Rattle.ch_engine.proofs.Meetings.{noted_pair, told_if}
use Rattle.ch_engine.proofs.pair_trees.PairTrees.sum.Goals as goal

pub returns-clause-sum : goal.returns-clause-sum
returns-clause-sum c = λ H lines values trees of low.
    let s = c.args.source in
    let t = c.args.target in
    let new = c.note.new.self in
    let pairs = c.note.ensures.trees H lines values trees in
    let noted = pairs.noted s (c.note.ensures.noted c.if-not-note.false) in
    let downs = subst (λ o. MatchOption o ⊤ (λ b. AreBranches Down H lines values t b.now)) c.in-Some.is
    (c.branches.ensures Down H lines values pairs.down) in
    told_if c.known_meeting.result c.first_meeting.result (λ found. IsPairSum (only H lines) values s t found.0 found.1)
    c.known_meeting.ensures (λ x some known. noted_pair H lines values s t of low new.tree noted c.in-Some.branches.now downs
    c.first_meeting.result (c.first_meeting.ensures noted.slots) x some known)
