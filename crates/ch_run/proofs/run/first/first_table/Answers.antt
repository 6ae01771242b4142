-- The text of the table of these lists answers the request.
use Rattle.ch_read.specs.declared.request.Request.TheVariants.{Table}
use Rattle.ch_run.proofs.Gathered.{one_answered}
use Rattle.ch_run.proofs.run.first.first_table.Goals as goal

pub returns : goal.returns
returns g c = λ places rest.
    let right = c.hierarchy.ensures.right in
    let text = rw (
      c.hierarchy.ensures.hierarchy,
      c.sources-sources.ensures,
      c.targets-targets.ensures,
      c.limit_of-within.ensures,
      c.within.ensures,
    ) at c.in_ok-text.ensures in
    one_answered (Table c.args.lists.now) (text c.args.by.now.checked.now.graph right.limits right.kept)
