-- The item of a rank is computed without an underflow.
use Rattle.std.proofs.Common.{◌≡◌, sym, ap, ◌∙◌, arith}
use Rattle.ch_rows.specs.Dealing.{Deal, turn_of}
use Rattle.ch_rows.proofs.Deals.{round_fits}
use Rattle.ch_rows.proofs.dealing.Dealing.item.Goals as goal

pub overflow_sub-result-2 : goal.overflow_sub-result-2
overflow_sub-result-2 c =
    let inside = c.self.inside in
    let d : Deal = record { nodes = inside.nodes; piece = inside.piece } in
    let rank = c.args.rank in
    let nodes = ap (λ (q : Deal). q.nodes) c.self.view_is in
    let low = c.requires in
    let turn : c.turn-place.result ≡ turn_of d rank = c.turn-place.ensures ∙ ap (λ (q : Deal). turn_of q rank) (sym c.self.view_is) in
    let fits = round_fits d c.self.invariant.1 rank (omega arith) c.turn-place.result turn in
    let end = c.min-end.ensures in omega arith
