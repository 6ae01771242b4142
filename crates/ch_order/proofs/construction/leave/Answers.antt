-- Where no node has a key, nothing has to be taken out.
use Rattle.std.proofs.Common.{◌≡◌, List, Option, None, sym, subst}
use Rattle.std.specs.Prelude.{ℤ, slice_set}
use Rattle.std.proofs.lemmas.List.{set-get_or}
use Rattle.ch_queue.specs.Queue.{HasNone}
use Rattle.ch_order.proofs.construction.leave.Goals as goal

pub returns-else-not-is_empty : goal.returns-else-not-is_empty
returns-else-not-is_empty c =
    let keys : List (Option ℤ) = c.args.waiting.now in
    let none : HasNone keys = c.is_empty.ensures.0 c.if-not-is_empty.false in
    sym (subst (λ (o : Option ℤ). slice_set keys c.args.node o ≡ keys) (none c.args.node) (set-get_or keys c.args.node None))
