-- The list of the other direction at a node has exactly the legs that lead to it.
use Rattle.std.proofs.Common.{sym, subst}
use Rattle.ch_contract.specs.Legs.{AreLegsWithin}
use Rattle.ch_contract.specs.LegRows.{AreLegsTo}
use Rattle.ch_contract.specs.Remaining.{legs_of}
use Rattle.ch_contract.specs.LegLists.{legs_from}
use Rattle.ch_contract.proofs.code.Candidates.{to_rows}
use Rattle.ch_contract.proofs.remaining.Remaining.in_legs.Goals as goal

pub returns-clause-legs : goal.returns-clause-legs
unfolding legs_of
returns-clause-legs c =
    subst (λ m. AreLegsTo (legs_from m.rows) c.args.v c.at.result.now) c.self.view_is
    (subst (AreLegsTo (legs_from c.self.inside.outs.rows) c.args.v) (sym c.at.ensures) (to_rows _ _ _ c.self.invariant.0 c.args.v))

pub returns-clause-limits : goal.returns-clause-limits
unfolding legs_of
returns-clause-limits c = subst (λ m. AreLegsWithin m.nodes (legs_from m.rows)) c.self.view_is c.self.invariant.0.legs
