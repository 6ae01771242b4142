-- The story of each run says which faults end it, what was refused, which failed calls are reported, and what was written.
use Rattle.ch_run.proofs.AskStory.{ask_told}
use Rattle.ch_run.proofs.Stories.{dist_told, near_told, save_told, table_told}
use Rattle.ch_run.proofs.laws.stories_tell.Goals as goal

pub returns-clause-dist : goal.returns-clause-dist
returns-clause-dist g c = λ options graph graph' source source' queries queries' output output' result went. dist_told options went

pub returns-clause-table : goal.returns-clause-table
returns-clause-table g c = λ options graph graph' source source' sources sources' targets targets' output output' result went.
    table_told options went

pub returns-clause-near : goal.returns-clause-near
returns-clause-near g c = λ options graph graph' source source' sources sources' targets targets' output output' result went.
    near_told options _ went

pub returns-clause-save : goal.returns-clause-save
returns-clause-save g c = λ options graph graph' source source' output output' result went. save_told options went

pub returns-clause-ask : goal.returns-clause-ask
returns-clause-ask g c = λ options graph graph' source source' requests requests' output output' result went. ask_told options went
