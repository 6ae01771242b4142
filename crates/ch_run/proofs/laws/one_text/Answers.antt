-- The definitions name one text of answers, of a table, of near rows and of a hierarchy.
use Rattle.ch_run.specs.Run.{OrderFile, reading}
use Rattle.ch_run.proofs.OneRun.{answers_one, nears_one, saves_one, tables_one}
use Rattle.ch_run.proofs.laws.one_text.Goals as goal

pub returns-clause-answers : goal.returns-clause-answers
returns-clause-answers g c = λ graph graph' source source' queries queries'. answers_one _ _ (reading g.J.Input.read_gives queries queries')

pub returns-clause-tables : goal.returns-clause-tables
returns-clause-tables g c = λ graph graph' source source' sources sources' targets targets'.
    tables_one _ _ (reading g.J.Input.read_gives sources sources') (reading g.L.Input.read_gives targets targets')

pub returns-clause-rows : goal.returns-clause-rows
returns-clause-rows g c = λ graph graph' source source' sources sources' targets targets'.
    nears_one _ _ _ (reading g.L.Input.read_gives targets targets')

pub returns-clause-hierarchies : goal.returns-clause-hierarchies
returns-clause-hierarchies g c = λ graph graph' source source'. saves_one _ _

pub returns-clause-orders : goal.returns-clause-orders
returns-clause-orders g c = λ graph graph' order order' fresh hops.
    saves_one (reading g.I.Input.read_gives graph graph') (OrderFile (reading g.S.Input.read_gives order order') fresh hops)
