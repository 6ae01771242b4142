-- Both sides lose the legs that touch the node, whose own legs are set aside, and keep the limits.
use Rattle.std.proofs.Common.{◌≡◌, ◌<◌, ℕ, [], length, List, All, sym, ◌∙◌, ap, subst, arith}
use Rattle.ch_contract.specs.declared.held_cost.TheConstants.{MOST_LIGHT}
use Rattle.ch_hierarchy.specs.declared.leg.Leg.{Leg}
use Rattle.ch_hierarchy.specs.Rows.{row}
use Rattle.ch_contract.specs.Legs.{Legs, AreLegsWithin, SameLegs, turned_legs}
use Rattle.ch_contract.specs.Contraction.{legs_after_contraction}
use Rattle.ch_contract.specs.LegRows.{AreLegsFrom}
use Rattle.ch_contract.specs.LegLists.{HaveAll, IsReplaced, IsWithinLimits, legs_from}
use Rattle.ch_contract.specs.Remaining.{RemainingLegs, IsSetAside, legs_of}
use Rattle.ch_contract.proofs.code.ClearedLists.{outs_at, ins_at, outs_within, ins_within, aside_rows, aside_size, aside_all}
use Rattle.ch_contract.proofs.code.ClearedLists.{clearing_leaves}
use Rattle.ch_contract.proofs.code.Candidates.{from_rows, to_rows}
use Rattle.ch_contract.proofs.code.LightLegs.{cleared_light}
use Rattle.ch_contract.proofs.remaining.Remaining.take_out.Goals.{After-set_aside-2, After-take_from-2}
use Rattle.ch_contract.proofs.remaining.Remaining.take_out.Goals as goal

-- the node has a list
inside : (c : After-set_aside-2) → c.args.v < c.self.inside.nodes
inside c = subst (λ (m : RemainingLegs). c.args.v < m.nodes) (sym c.self.view_is) c.requires.node

pub take_from-requires : goal.take_from-requires
take_from-requires c =
    let within = c.self.invariant.0 in
    let outs = c.self.inside.outs.rows in
    let lent = c.aside.ensures ∙ c.set_aside-2.ensures.aside.here in
    let here : c.args.v < length outs =
    (let lt = inside (goal.at.take_from-requires c).After-set_aside-2 in omega (arith, within.sizes.0)) in
    let size = aside_size c.args.v outs c.set_aside.new.self.rows here c.set_aside.ensures.rows in
    record {
      rows = aside_rows c.args.v outs c.set_aside.new.self.rows here c.set_aside.ensures.rows within.rows.0;
      nodes = subst (λ n. All (λ (l : Leg). l.node < n) c.aside.result.now) (sym size)
          (subst (λ (z : List Leg). All (λ l. l.node < length outs) z) (sym lent)
          (ins_within c.self.inside.nodes outs c.self.inside.ins.rows within c.args.v));
      covers = subst (HaveAll c.set_aside.new.self.rows c.args.v) (sym lent)
          (aside_all c.args.v outs c.set_aside.new.self.rows here c.set_aside.ensures.rows (row c.self.inside.ins.rows c.args.v)
          (outs_at c.self.inside.nodes outs c.self.inside.ins.rows within c.args.v));
    }

pub take_from-requires-2 : goal.take_from-requires-2
take_from-requires-2 c =
    let within = c.self.invariant.0 in
    let ins = c.self.inside.ins.rows in
    let lent = c.aside-2.ensures ∙ ap (λ l. row l c.args.v) c.take_from.ensures.aside ∙ c.set_aside.ensures.aside.here in
    let here : c.args.v < length ins =
    (let lt = inside (goal.at.take_from-requires-2 c).After-set_aside-2 in omega (arith, within.sizes.1)) in
    let size = aside_size c.args.v ins c.set_aside-2.new.self.rows here c.set_aside-2.ensures.rows in
    record {
      rows = aside_rows c.args.v ins c.set_aside-2.new.self.rows here c.set_aside-2.ensures.rows within.rows.1;
      nodes = subst (λ n. All (λ (l : Leg). l.node < n) c.aside-2.result.now) (sym size)
          (subst (λ (z : List Leg). All (λ l. l.node < length ins) z) (sym lent)
          (outs_within c.self.inside.nodes c.self.inside.outs.rows ins within c.args.v));
      covers = subst (HaveAll c.set_aside-2.new.self.rows c.args.v) (sym lent)
          (aside_all c.args.v ins c.set_aside-2.new.self.rows here c.set_aside-2.ensures.rows (row c.self.inside.outs.rows c.args.v)
          (ins_at c.self.inside.nodes c.self.inside.outs.rows ins within c.args.v));
    }

-- both sides keep the limits, and have the legs that do not touch the node
left : (c : After-take_from-2) →
    IsWithinLimits c.self.inside.nodes c.take_from.new.self.rows c.take_from-2.new.self.rows × SameLegs
    (legs_from c.take_from.new.self.rows) (legs_after_contraction (legs_from c.self.inside.outs.rows) c.args.v [])
left c =
    let within = subst (λ (m : RemainingLegs). c.args.v < m.nodes) (sym c.self.view_is) c.requires.node in
    clearing_leaves c.self.inside.nodes c.self.inside.outs.rows c.self.inside.ins.rows c.self.invariant.0 c.args.v within _ _ _ _
    c.set_aside.ensures.rows c.set_aside-2.ensures.rows
    (record { size = c.take_from.ensures.size; rows = c.take_from.ensures.rows; legs = c.take_from.ensures.legs })
    (record { size = c.take_from-2.ensures.size; rows = c.take_from-2.ensures.rows; legs = c.take_from-2.ensures.legs })

-- the legs that are set aside, as the later calls leave them
set_aside : (L : Legs) (v : ℕ) (legs : List Leg) (old mid new told : List (List Leg)) → AreLegsFrom L v legs → IsReplaced v legs old mid →
    new ≡ mid → old ≡ told → IsSetAside L v told new
set_aside L v legs old mid new told are put same was =
    subst (λ z. IsSetAside L v told z) (sym same)
    (subst (λ z. IsSetAside L v z mid) was
    (record { size = put.size; legs = subst (AreLegsFrom L v) (sym put.here) are; kept = put.kept }))

pub invariant_of-result : goal.invariant_of-result
invariant_of-result c =
    let kept = left (goal.at.invariant_of-result c).After-take_from-2 in (
      kept.0,
      λ yes. cleared_light MOST_LIGHT (legs_from c.self.inside.outs.rows) c.args.v (legs_from c.take_from.new.self.rows)
          (c.self.invariant.1 yes) kept.1,
    )

pub returns : goal.returns
unfolding legs_of
returns c =
    let v = c.args.v in
    let outs = c.self.inside.outs in
    let ins = c.self.inside.ins in
    record {
      nodes = ap (λ (m : RemainingLegs). m.nodes) c.self.view_is;
      legs = subst (λ (m : RemainingLegs). SameLegs (legs_from c.take_from.new.self.rows) (legs_after_contraction (legs_of m) v []))
          c.self.view_is (left (goal.at.returns c).After-take_from-2).1;
      up = set_aside (legs_of c.args.self) v (row outs.rows v) outs.aside c.set_aside.new.self.aside c.take_from.new.self.aside
          c.args.self.ups
          (subst (λ (m : RemainingLegs). AreLegsFrom (legs_of m) v (row outs.rows v)) c.self.view_is
          (from_rows c.self.inside.nodes outs.rows ins.rows c.self.invariant.0 v))
          c.set_aside.ensures.aside c.take_from.ensures.aside (ap (λ (m : RemainingLegs). m.ups) c.self.view_is);
      down = set_aside (turned_legs (legs_of c.args.self)) v (row ins.rows v) ins.aside c.set_aside-2.new.self.aside
          c.take_from-2.new.self.aside c.args.self.downs
          (subst (λ (m : RemainingLegs). AreLegsFrom (turned_legs (legs_of m)) v (row ins.rows v)) c.self.view_is
          (to_rows c.self.inside.nodes outs.rows ins.rows c.self.invariant.0 v))
          c.set_aside-2.ensures.aside c.take_from-2.ensures.aside (ap (λ (m : RemainingLegs). m.downs) c.self.view_is);
      limits = subst (λ (m : RemainingLegs). AreLegsWithin m.nodes (legs_of m)) c.self.view_is c.self.invariant.0.legs;
    }
