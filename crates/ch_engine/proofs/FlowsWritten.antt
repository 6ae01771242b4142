-- Flows that were found for a hierarchy are written for the engine that holds it.
use Rattle.std.proofs.Common.{◌≡◌, ℕ, List, Result, subst}
use Rattle.std.specs.Prelude.{IfErr, IfOk}
use Rattle.ch_hierarchy.specs.Hierarchy.{LevelsAndLegs}
use Rattle.ch_flows.specs.declared.pairs.FlowError.{FlowError}
use Rattle.ch_flows.specs.declared.pairs.LegFlows.{LegFlows}
use Rattle.ch_flows.specs.declared.plan.Plan.{Plan}
use Rattle.ch_flows.specs.Plans.{AreFlowsOf, IsRefusal}
use Rattle.ch_engine.specs.declared.flows.Flowed.{Flowed}
use Rattle.ch_engine.specs.Flows.{AreFlowsWritten}
use Rattle.ch_engine.specs.Held.{Held, only}
use Rattle.ch_engine.specs.Lines.{Lines}

-- places that are kept do not matter
held_written : (held : Held) (sources targets demands before after : List ℕ) (flowed : Flowed) →
    AreFlowsWritten (only held.hierarchy held.lines) sources targets demands before after flowed →
    AreFlowsWritten held sources targets demands before after flowed
held_written held sources targets demands before after (Flowed.All missed) is = is
held_written held sources targets demands before after Flowed.TooLarge is = is
held_written held sources targets demands before after Flowed.NoMemory is = is

-- what is written of flows that were found for a plan
abbrev pub AreWrittenIfFound : Plan → Result LegFlows FlowError → List ℕ → List ℕ → Flowed → LevelsAndLegs × Lines → Type 0
AreWrittenIfFound plan found before after flowed n = (sources targets demands : List ℕ) →
    IfOk found (λ (f : LegFlows). AreFlowsOf n.0 plan sources targets demands f.legs.items f.missed) →
    IfErr found (IsRefusal n.0 plan sources targets demands) → AreFlowsWritten (only n.0 n.1) sources targets demands before after flowed

pub found_written : (held : Held) (n : LevelsAndLegs × Lines) (H : LevelsAndLegs) (plan : Plan) (found : Result LegFlows FlowError)
    (sources targets demands before after : List ℕ) (flowed : Flowed) → n ≡ (held.hierarchy, held.lines) → H ≡ held.hierarchy →
    AreWrittenIfFound plan found before after flowed n →
    IfOk found (λ (f : LegFlows). AreFlowsOf H plan sources targets demands f.legs.items f.missed) →
    IfErr found (IsRefusal H plan sources targets demands) → AreFlowsWritten held sources targets demands before after flowed
found_written held n H plan found sources targets demands before after flowed network hierarchy written flows refused =
    held_written held sources targets demands before after flowed
    (subst (AreWrittenIfFound plan found before after flowed) network written sources targets demands
    (subst (λ (h : LevelsAndLegs). IfOk found (λ (f : LegFlows). AreFlowsOf h plan sources targets demands f.legs.items f.missed)) hierarchy
    flows)
    (subst (λ (h : LevelsAndLegs). IfErr found (IsRefusal h plan sources targets demands)) hierarchy refused))
