-- A job with other files, and the limits of the numbers of a job.
use Rattle.std.specs.Prelude.{◌≤◌, ℕ, IfSome}
use Rattle.ch_graph.specs.declared.limits.TheConstants.{MOST_LISTED, MOST_WEIGHT}
use Rattle.ch_work.specs.Plan.{IsWithinLimits}
use Rattle.ch_job.specs.declared.job.Job.{Job}
use Rattle.ch_job.specs.declared.job.Question.{Question}
use Rattle.ch_job.specs.declared.options.Options.{Options}
use Rattle.ch_job.specs.declared.source.Source.{Source}
use Rattle.ch_job.specs.declared.sources.Sources.{Sources}

-- the same source of a hierarchy, with f of its file
abbrev pub source_map : {F G : Type 0} → (F → G) → Source F → Source G
source_map f Source.Built = Source.Built
source_map f (Source.Saved file) = Source.Saved (f file)
source_map f (Source.Like order fresh hops) = Source.Like (f order) fresh hops
source_map f (Source.Customized order hops) = Source.Customized (f order) hops
source_map f (Source.Dissected hops) = Source.Dissected hops

-- the same sources of near rows, with f of their file
abbrev pub sources_map : {F G : Type 0} → (F → G) → Sources F → Sources G
sources_map f Sources.All = Sources.All
sources_map f (Sources.Listed file) = Sources.Listed (f file)

-- the same question, with f of each file
abbrev pub question_map : {F G : Type 0} → (F → G) → Question F → Question G
question_map f (Question.Queries queries) = Question.Queries (f queries)
question_map f (Question.Table sources targets) = Question.Table (f sources) (f targets)
question_map f (Question.Near sources targets) = Question.Near (sources_map f sources) (f targets)
question_map f Question.Hierarchy = Question.Hierarchy
question_map f Question.Requests = Question.Requests

-- the same job, with f of each file
abbrev pub job_map : {F G : Type 0} → (F → G) → Job F → Job G
job_map f job = record {
  graph = f job.graph;
  source = source_map f job.source;
  question = question_map f job.question;
  options = job.options;
  plan = job.plan;
}

-- a near row may have this number as the most targets
abbrev pub IsCount : ℕ → Type 0
IsCount most = (1 ≤ most) × (most ≤ MOST_LISTED)

-- the limits that the options give to tables and near rows are within the program's own. The type of their bound on hops says its range
pub record AreAllowed (options : Options) : Type 0 where
  pub limit : IfSome options.within (λ most. most ≤ MOST_WEIGHT)
  pub count : IfSome options.count IsCount

-- the numbers of a job are within the program's limits
pub record IsAllowed {F : Type 0} (job : Job F) : Type 0 where
  pub options : AreAllowed job.options
  pub plan : IsWithinLimits job.plan
