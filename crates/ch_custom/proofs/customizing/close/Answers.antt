-- The rows are the legs of the arrays.
use Rattle.ch_hierarchy.specs.declared.side.Side.TheVariants.{Up, Down}
use Rattle.ch_custom.specs.LegPairs.{rows_at}
use Rattle.ch_custom.proofs.customizing.close.Goals as goal

pub closed-requires-clause-rows : goal.closed-requires-clause-rows
closed-requires-clause-rows c = record {
  ups = rows_at Up c.args.metric;
  downs = rows_at Down c.args.metric;
  metric = c.requires.metric;
  up = c.in_ok-rows_up.ensures;
  down = c.in_ok-rows_down.ensures;
}
