-- Each list of bytes names one value or has one fault, for each form of file.
use Rattle.ch_read.proofs.OneAnswer.{graph_answer, queries_answer, nodes_answer, saved_answer}
use Rattle.ch_read.proofs.laws.one_answer.Goals as goal

pub returns-clause-graph : goal.returns-clause-graph
returns-clause-graph c = graph_answer

pub returns-clause-queries : goal.returns-clause-queries
returns-clause-queries c = queries_answer

pub returns-clause-nodes : goal.returns-clause-nodes
returns-clause-nodes c = nodes_answer

pub returns-clause-saved : goal.returns-clause-saved
returns-clause-saved c = saved_answer
