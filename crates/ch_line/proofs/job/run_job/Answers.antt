-- Each question's run has the story of the job, over the same inputs.
use Rattle.std.proofs.Common.{refl}
use Rattle.ch_job.specs.declared.job.Question.{Question}
use Rattle.ch_line.proofs.Paired.{paired_sources}
use Rattle.ch_line.proofs.job.run_job.Goals as goal

pub returns-in-Queries-clause-went : goal.returns-in-Queries-clause-went
returns-in-Queries-clause-went g c =
    rw c.in-Queries.is ((Question.Queries (_, c.run_dist.new.queries), (refl, refl), (c.run_dist.ensures.went, refl)))

pub returns-in-Queries-clause-same : goal.returns-in-Queries-clause-same
returns-in-Queries-clause-same g c = let same = c.run_dist.ensures.same in rw (c.in-Queries.is, same.0, same.1, same.2) refl

pub returns-in-Table-clause-went : goal.returns-in-Table-clause-went
returns-in-Table-clause-went g c =
    let run = c.run_table in
    rw c.in-Table.is ((Question.Table (_, run.new.sources) (_, run.new.targets), (refl, refl), (run.ensures.went, refl)))

pub returns-in-Table-clause-same : goal.returns-in-Table-clause-same
returns-in-Table-clause-same g c = let same = c.run_table.ensures.same in rw (c.in-Table.is, same.0, same.1, same.2, same.3) refl

pub returns-in-Near-clause-went : goal.returns-in-Near-clause-went
returns-in-Near-clause-went g c =
    let run = c.run_near in
    let ran = paired_sources g.I.Input.origin c.in-Near.from run.new.sources run.ensures.same.2 in
    rw c.in-Near.is
    (Question.Near ran.0 (c.in-Near.to, run.new.targets), (rw ran.1 refl, rw ran.2 refl), (rw (ran.1, ran.2) run.ensures.went, refl))

pub returns-in-Near-clause-same : goal.returns-in-Near-clause-same
returns-in-Near-clause-same g c = let same = c.run_near.ensures.same in rw (c.in-Near.is, same.0, same.1, same.2, same.3) refl

pub returns-in-Hierarchy-clause-went : goal.returns-in-Hierarchy-clause-went
returns-in-Hierarchy-clause-went g c = rw c.in-Hierarchy.is ((Question.Hierarchy, (refl, refl), (c.run_save.ensures.went, refl)))

pub returns-in-Hierarchy-clause-same : goal.returns-in-Hierarchy-clause-same
returns-in-Hierarchy-clause-same g c = let same = c.run_save.ensures.same in rw (c.in-Hierarchy.is, same.0, same.1) refl

pub returns-in-Requests-clause-went : goal.returns-in-Requests-clause-went
returns-in-Requests-clause-went g c = rw c.in-Requests.is ((Question.Requests, (refl, refl), c.run_ask.ensures.went))

pub returns-in-Requests-clause-same : goal.returns-in-Requests-clause-same
returns-in-Requests-clause-same g c = let same = c.run_ask.ensures.same in rw (c.in-Requests.is, same.0, same.1) refl
