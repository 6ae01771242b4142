-- What a branch hands on counts as much as what it held.
use Rattle.std.proofs.Common.{◌≡◌, ◌+◌, ◌*◌, ℕ, length, get_or, set, refl, arith}
use Rattle.ch_flows.specs.Gathering.{IsFull, IsHandedOn, IsOver, gathered, worth}
use Rattle.ch_flows.specs.Handing.{weighed}
use Rattle.ch_flows.proofs.HeldDemands.{handed_back, nothing_at_source, nothing_handed, over_before, over_leg}
use Rattle.ch_flows.proofs.Results.{on_err, on_err-map, on_ok-map}
use Rattle.ch_flows.proofs.gathering.hand_back.Goals as goal

pub returns-in_default-clause-handed : goal.returns-in_default-clause-handed
returns-in_default-clause-handed c =
    let branches = c.args.branches.now in
    let held = c.args.held.now in
    let place = c.args.place in
    nothing_handed branches held c.args.flows.now place (omega (arith, c.requires.place, c.requires.held))
    (nothing_at_source branches held place c.in_default.is)

pub returns-in_err-add-clause-over : goal.returns-in_err-add-clause-over
returns-in_err-add-clause-over c =
    let branches = c.args.branches.now in
    let held = c.args.held.now in
    let flows = c.args.flows.now in
    on_err c.from_residual.result (IsOver (length flows) (λ share. weighed share flows + gathered share branches held))
    (over_leg (length flows) branches c.requires.steps held flows c.args.place c.requires.held c.requires.place c.in-Some.step c.in-Some.is
    refl (c.in_err-add.ensures {u = tt}).passed)

pub returns-clause-handed : goal.returns-clause-handed
returns-clause-handed c =
    let branches = c.args.branches.now in
    let held = c.args.held.now in
    let flows = c.args.flows.now in
    let place = c.args.place in
    let step = c.in-Some.step in
    let new = c.hold.new.held in
    on_ok-map c.hold.result ((share : ℕ → ℕ) → gathered share branches new
    ≡ gathered share branches (set held place 0) + get_or held place 0 * worth share branches step.before)
    (IsHandedOn branches place held flows new c.add.new.flows)
    (λ added. handed_back (length flows) branches c.requires.steps held flows place c.requires.held c.requires.place step c.in-Some.is
    new c.add.new.flows (c.requires.steps place step c.requires.place c.in-Some.is).1 (c.in_ok-add.ensures {u = tt}).added added
    c.hold.ensures.others) c.hold.ensures.added

pub returns-clause-over : goal.returns-clause-over
returns-clause-over c =
    let branches = c.args.branches.now in
    let held = c.args.held.now in
    let flows = c.args.flows.now in
    let place = c.args.place in
    let step = c.in-Some.step in
    on_err-map c.hold.result (IsFull branches (set held place 0) step.before (get_or held place 0))
    (IsOver (length flows) (λ share. weighed share flows + gathered share branches held))
    (over_before (length flows) branches c.requires.steps held flows place c.requires.held c.requires.place step c.in-Some.is)
    c.hold.ensures.full
