-- The item at this place is one that the check takes, and is judged by it.
use Rattle.std.proofs.Common.{get_or, ◌<◌, List, length, sym, subst}
use Rattle.std.specs.Prelude.{◌↔◌, IsTrue}
use Rattle.std.proofs.lemmas.List.Elements.{Contains-get_or}
use Rattle.ch_query.proofs.faults.Firsts.{tells_at}
use Rattle.ch_query.proofs.checking.lists.NumberedItemCheck.is_right.Goals as goal

pub is_right-requires : goal.is_right-requires
is_right-requires g c =
    let within = subst (λ (v : g.row.C.Denot × List g.row.C-Item.Denot). c.args.place < length v.1) (sym c.self.view_is)
    c.requires.inside in
    c.self.invariant _ (Contains-get_or c.self.inside.items.now c.args.place _ within)

pub returns-clause-right : goal.returns-clause-right
returns-clause-right g c =
    let check = c.self.inside in
    let within = subst (λ (v : g.row.C.Denot × List g.row.C-Item.Denot). c.args.place < length v.1) (sym c.self.view_is)
    c.requires.inside in
    subst (λ (v : g.row.C.Denot × List g.row.C-Item.Denot).
    IsTrue c.is_right.result ↔ ((d : g.row.C-Item.Denot) → g.C.ListCheck.right v.0 (get_or v.1 c.args.place d))) c.self.view_is
    (tells_at (g.C.ListCheck.right check.check.now) check.items.now _ c.args.place _ within c.is_right.ensures)
