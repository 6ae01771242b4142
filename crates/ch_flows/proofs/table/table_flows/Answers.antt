-- Before any cell nothing is counted.
use Rattle.ch_flows.proofs.table.table_flows.Goals as goal

pub fill_table-requires-clause-none : goal.fill_table-requires-clause-none
fill_table-requires-clause-none c = (c.in-Ok-no_sums.ensures {u = tt}).none c.args.hierarchy.now
