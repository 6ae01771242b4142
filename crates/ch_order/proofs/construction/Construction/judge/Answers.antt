-- A node that is judged again gets another key, and all else stays.
use Rattle.ch_order.specs.Construction.{progress_of}
use Rattle.ch_order.proofs.QuickSteps.{key_stays, rekeyed_set}
use Rattle.ch_order.proofs.construction.Construction.judge.Goals as goal

pub returns-in-Some-clause-rekeyed : goal.returns-in-Some-clause-rekeyed
returns-in-Some-clause-rekeyed c = rekeyed_set (progress_of c.args.self.now) c.set.new.self c.args.node _ c.requires.node c.set.ensures

pub returns-in-None-clause-rekeyed : goal.returns-in-None-clause-rekeyed
returns-in-None-clause-rekeyed c = rekeyed_set (progress_of c.args.self.now) c.set.new.self c.args.node _ c.requires.node c.set.ensures

pub returns-in-None-clause-first : goal.returns-in-None-clause-first
returns-in-None-clause-first c =
    key_stays (progress_of c.args.self.now) _ c.args.node
    (rekeyed_set (progress_of c.args.self.now) c.set.new.self c.args.node _ c.requires.node c.set.ensures) c.requires.node
