-- A closed handle that opens with a topology.
use Rattle.std.proofs.Common.{◌≡◌, ℕ, List, inl, refl, sym, ap, ◌∙◌, subst}
use Rattle.std.specs.Prelude.{Option, None, Some}
use Rattle.ch_engine.specs.Held.{Held, KeepsNothing, only}
use Rattle.ch_engine.specs.Topologies.{EndsAndPairs, IsOpenedWith}
use Rattle.ch_c.specs.declared.faults.Fault.{Fault}
use Rattle.ch_c.specs.declared.status.TheConstants.{OK}
use Rattle.ch_c.specs.Topologies.{IsCustomizing}

-- an engine that keeps nothing is its hierarchy with its lines alone
only_it : (held : Held) → KeepsNothing held → held ≡ only held.hierarchy held.lines
only_it held none = ap (λ near. record { hierarchy = held.hierarchy; lines = held.lines; near = near; values = held.values }) none.0
    ∙ ap (λ values. record { hierarchy = held.hierarchy; lines = held.lines; near = None; values = values }) none.1

-- the handle has the network of the topology with these weights
pub opened_with : (topology : Option EndsAndPairs) (weights : List ℕ) (before after : Option Held) (fault : Fault) (t : EndsAndPairs)
    (held : Held) → topology ≡ Some t → before ≡ None → after ≡ Some held →
    KeepsNothing held × IsOpenedWith t weights held.hierarchy held.lines → IsCustomizing topology weights before after fault fault OK
opened_with topology weights before after fault t held opened closed put value =
    subst (λ (o : Option EndsAndPairs). IsCustomizing o weights before after fault fault OK) (sym opened)
    (subst (λ (o : Option Held). IsCustomizing (Some t) weights o after fault fault OK) (sym closed)
    (inl (refl, (held.hierarchy, held.lines, put ∙ ap Some (only_it held value.0), value.1), refl)))
