-- The shortcuts that are kept for the node are its shortcuts, so putting them in contracts it, and none is kept afterwards.
use Rattle.std.proofs.Common.{◌≡◌, ◌<◌, ℕ, List, sym, subst, arith, length}
use Rattle.std.specs.Prelude.{slice_index}
use Rattle.ch_contract.specs.Remaining.{legs_of}
use Rattle.ch_contract.specs.declared.room.Room.{Room}
use Rattle.ch_contract.specs.Rooms.{IsReady, list_at}
use Rattle.ch_contract.specs.declared.shortcut.Shortcut.{Shortcut}
use Rattle.ch_contract.specs.Legs.{Legs, SameLegs}
use Rattle.ch_contract.specs.Contraction.{AreShortcuts, Contracts, legs_after_contraction}
use Rattle.ch_contract.proofs.room.Room.contract.Goals as goal

-- the shortcuts that are lent make the contraction
contracts : (n h v : ℕ) (L M : Legs) (list lent : List Shortcut) → lent ≡ list → AreShortcuts n h L v list →
    SameLegs M (legs_after_contraction L v lent) → Contracts n h L v M
contracts n h v L M list lent e are same = (lent, subst (AreShortcuts n h L v) (sym e) are, same)

-- the kept shortcuts at the place of v are those of v
kept : (n h v place : ℕ) (L : Legs) (room : Room) → IsReady n h L room →
    (place < length room.judged.items) × (slice_index room.judged.items place ≡ v) → AreShortcuts n h L v (list_at room place)
kept n h v place L room ready at = subst (λ x. AreShortcuts n h L x (list_at room place)) at.1 (ready.kept place at.0)

pub shortcuts-requires : goal.shortcuts-requires
shortcuts-requires c =
    let places = c.in_ok-place.ensures.ready.places in
    let inside = c.in_ok-place.ensures.place.0 in
    omega arith

pub contract_with-requires-clause-shortcuts : goal.contract_with-requires-clause-shortcuts
contract_with-requires-clause-shortcuts c = (
  c.args.hops.number,
  subst (AreShortcuts c.args.remaining.nodes c.args.hops.number (legs_of c.args.remaining) c.args.node)
      (sym c.shortcuts.ensures) (kept _ _ _ _ _ _ c.in_ok-place.ensures.ready c.in_ok-place.ensures.place),
)

pub returns-clause-legs : goal.returns-clause-legs
returns-clause-legs c = contracts _ _ _ _ _ _ _ c.shortcuts.ensures
    (kept _ _ _ _ _ _ c.in_ok-place.ensures.ready c.in_ok-place.ensures.place) c.in_ok-contracted.ensures.legs

pub returns-clause-ready : goal.returns-clause-ready
returns-clause-ready c = c.forget.ensures _ _ _ c.in_ok-place.ensures.ready.idle
