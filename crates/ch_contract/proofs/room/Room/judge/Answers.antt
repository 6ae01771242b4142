-- The judged node's shortcuts are kept at its place, and those that were kept before stay at theirs.
use Rattle.std.proofs.Common.{◌≡◌, ◌<◌, ℕ, [], ◌∷◌, ◌++◌, length, set, get_or, ◌∙◌, ap, arith, length-append}
use Rattle.ch_contract.specs.declared.room.Room.{Room}
use Rattle.ch_contract.specs.Remaining.{legs_of}
use Rattle.ch_contract.specs.Rooms.{list_at}
use Rattle.ch_contract.proofs.code.Counted.{whole_measure}
use Rattle.ch_contract.proofs.code.Rooms.{views, ready_more, spare_more}
use Rattle.ch_contract.proofs.room.Room.judge.Goals.{then-place-len+in_ok-push, else-place-len}
use Rattle.ch_contract.proofs.room.Room.judge.Goals as goal

pub returns-clause-ready : goal.returns-clause-ready
returns-clause-ready c =
    let old : Room = c.args.self.now in
    let counted = old.judged.ok in
    let listed = old.lists.ok in
    let place : c.len-place.result ≡ length old.judged.items = omega (arith, c.len-place.ensures) in
    let inside : length old.judged.items < length c.if-place-len.self.lists.items = elim c.if-place-len.branch [
      | then-place-len+in_ok-push w ↦
          omega (
            arith,
            ap (λ (r : Room). length r.lists.items) w.self-is,
            ap length w.in_ok-push.ensures.items,
            length-append old.lists.items (w.new.result ∷ []),
            c.requires.ready.places,
          )
      | else-place-len w ↦ omega (
        arith,
        ap (λ (r : Room). length r.lists.items) w.self-is,
        c.len.ensures,
        w.if-place-len.false,
        c.requires.ready.places,
      )
    ] in
    let same : (k : ℕ) → k < length old.judged.items →
    get_or (views c.if-place-len.self.lists.items) k [] ≡ list_at old k = λ k lt. elim c.if-place-len.branch [
      | then-place-len+in_ok-push w ↦
          spare_more old.lists.items _ w.new.result k (ap (λ (r : Room). r.lists.items) w.self-is ∙ w.in_ok-push.ensures.items)
          (omega (arith, c.requires.ready.places))
      | else-place-len w ↦ ap (λ (r : Room). list_at r k) w.self-is
    ] in
    let judged : c.if-place-len.self.judged.items ≡ old.judged.items = elim c.if-place-len.branch [
      | then-place-len+in_ok-push w ↦ ap (λ (r : Room). r.judged.items) w.self-is
      | else-place-len w ↦ ap (λ (r : Room). r.judged.items) w.self-is
    ] in
    ready_more c.args.remaining.now.nodes c.args.hops.number (legs_of c.args.remaining.now) old _ c.if-place-len.self.lists.items
    c.args.node c.measure.new.list c.requires.ready c.in_ok-measure.ensures.idle
    (c.in_ok-push-2.ensures.items ∙ ap (λ z. z ++ c.args.node ∷ []) judged)
    (ap (λ k. set c.if-place-len.self.lists.items k c.measure.new.list) place) inside same
    (c.in_ok-measure.ensures.list.0 (omega (arith, c.measure.new.list.ok, c.measure.new.list.small)))

pub returns-clause-measure : goal.returns-clause-measure
returns-clause-measure c =
    whole_measure _ _ _ _ _ c.in_ok-measure.measure (omega (arith, c.in_ok-measure.measure.small)) c.in_ok-measure.ensures.measure
