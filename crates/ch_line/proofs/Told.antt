-- What the story of a run over inputs tells.
use Rattle.std.proofs.Common.{◌≡◌, ℕ, inl, ap}
use Rattle.std.specs.Prelude.{Result}
use Rattle.ch_text.specs.Device.{CountsAtMostOne}
use Rattle.ch_job.specs.declared.job.Job.{Job}
use Rattle.ch_job.specs.declared.job.Question.{Question}
use Rattle.ch_job.specs.declared.options.Options.{Options}
use Rattle.ch_run.specs.declared.fault.RunFault.{RunFault}
use Rattle.ch_run.specs.Run.{Reading, SourceReading, WritesOnce, reading}
use Rattle.ch_run.specs.Source.{source_reading}
use Rattle.ch_run.specs.Told.{Calls}
use Rattle.ch_run.proofs.AskStory.{ask_told}
use Rattle.ch_run.proofs.Counted.{CountsCalls, CountsReads, reads_once, writes_once}
use Rattle.ch_run.proofs.Stories.{dist_told, near_told, save_told, table_told}
use Rattle.ch_line.specs.Inputs.{RunsFor, RunsOver, TellsFor, TellsOver}

module _ {I J O : Type 0} (gives : Calls I) (gives_requests : Calls J) (takes : Calls O) (requests requests' : J) (output output' : O)
    (r : Result Unit RunFault) where
  module _ (options : Options) (graph : Reading) (source : SourceReading) (same : Type 0) where
    -- the story of the run for a question tells of its inputs, of the requests and of the output
    asked_told : (asked : Question (I × I)) →
        RunsFor options graph source same gives asked gives_requests requests requests' takes output output' r →
        TellsFor options graph source same gives asked gives_requests requests requests' takes output output' r
    asked_told (Question.Queries queries) (went, unasked) = (dist_told options went, unasked)
    asked_told (Question.Table from to) (went, unasked) = (table_told options went, unasked)
    asked_told (Question.Near from to) (went, unasked) = (near_told options _ went, unasked)
    asked_told Question.Hierarchy (went, unasked) = (save_told options went, unasked)
    asked_told Question.Requests went = ask_told options went

    -- so no failed read of the requests is tried again, and a failed write is reported
    asked_counts : {failed : J → ℕ} {failures idle : O → ℕ} → CountsReads gives_requests failed → CountsCalls takes failures idle →
        (asked : Question (I × I)) →
        TellsFor options graph source same gives asked gives_requests requests requests' takes output output' r →
        CountsAtMostOne (failed requests) (failed requests') × WritesOnce r failures idle output output'
    asked_counts {failed} reads writes (Question.Queries queries) (told, unasked) =
        (inl (ap failed unasked), writes_once writes told.later.1.calls)
    asked_counts {failed} reads writes (Question.Table from to) (told, unasked) =
        (inl (ap failed unasked), writes_once writes told.later.1.1.1.calls)
    asked_counts {failed} reads writes (Question.Near from to) (told, unasked) =
        (inl (ap failed unasked), writes_once writes told.later.1.1.calls)
    asked_counts {failed} reads writes Question.Hierarchy (told, unasked) =
        (inl (ap failed unasked), writes_once writes told.later.calls)
    asked_counts reads writes Question.Requests told =
        ((reads_once reads (λ at. at) told.later.0).once, writes_once writes told.later.1)

  module _ (old new : Job I) (went : RunsOver gives old new gives_requests requests requests' takes output output' r) where
    abbrev source : SourceReading
    source = source_reading gives old.source new.source

    abbrev graph : Reading
    graph = reading gives old.graph new.graph

    -- the story of the run of a job tells of each of its inputs, and of the output
    pub run_tells : TellsOver gives old new gives_requests requests requests' takes output output' r
    run_tells = (went.0, went.1, asked_told old.options graph source (new.source ≡ old.source) went.0 went.2)

    -- and no failed read of the requests is tried again, and a failed write is reported
    pub run_counts : {failed : J → ℕ} {failures idle : O → ℕ} → CountsReads gives_requests failed → CountsCalls takes failures idle →
        CountsAtMostOne (failed requests) (failed requests') × WritesOnce r failures idle output output'
    run_counts reads writes = asked_counts old.options graph source (new.source ≡ old.source) reads writes run_tells.0 run_tells.2
