-- The run either stops at a file that can't be opened, or opens, uses and closes all files, and reports each failed call once.
use Rattle.std.proofs.Common.{inl, inr, refl}
use Rattle.ch_run.specs.Run.{IsWrite}
use Rattle.ch_run.proofs.Counted.{writes_once}
use Rattle.ch_run.proofs.Owed.{ends_as, err_as, err_is}
use Rattle.ch_line.specs.Line.{named_in}
use Rattle.ch_line.proofs.Opening.{stops_no_write}
use Rattle.ch_line.proofs.Told.{run_counts}
use Rattle.ch_line.proofs.run.run_line.Goals as goal

-- a file isn't opened
pub returns-in_err-job-clause-went : goal.returns-in_err-job-clause-went
returns-in_err-job-clause-went g c = inl (err_as _ _ _ c.from_residual.ensures.1 c.in_err-job.ensures.stopped, refl, refl)

pub returns-in_err-job-clause-output : goal.returns-in_err-job-clause-output
returns-in_err-job-clause-output g c =
    let ends = ends_as _ _ c.from_residual.ensures.1 in
    let none = stops_no_write g.F.Files.opens (named_in c.args.line.now.job) _ _ _ c.in_err-job.ensures.stopped in
    writes_once g.met.O.Output.counts (inr (λ wrote. none (err_is _ IsWrite _ wrote ends), inl refl))

-- all files are opened, used and closed
pub returns : goal.returns
returns g c =
    let run = c.run_job-result in
    let job = c.in_ok-job in
    let e = run.ensures in
    let counts = run_counts g.F.Input.Input.read_gives g.J.Input.read_gives g.O.Output.write_gives c.args.requests.now run.new.requests
    c.args.output.now run.new.output run.result job.job run.new.job e.went g.met.J.Input.counts g.met.O.Output.counts in
    record {
      went = inr (job.job, run.new.job, _, job.ensures.opened, job.ensures.same, e.went, e.same, c.close_job.ensures);
      requests_once = counts.0;
      output = counts.1;
    }
