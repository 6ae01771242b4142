-- The rows that were gathered are kept as they are, and they are few enough for a table.
use Rattle.std.proofs.Common.{ℕ, List, Option, Vec, map, arith, sym, subst}
use Rattle.std.specs.declared.alloc.Global.{Global}
use Rattle.std.specs.List.{AllZip}
use Rattle.std.proofs.lemmas.List.{length-map}
use Rattle.std.proofs.lemmas.Slice.Zip.{AllZip-long}
use Rattle.ch_rows.specs.Table.{IsRowBy}
use Rattle.ch_rows.proofs.Gathering.{kept_rows}
use Rattle.ch_rows.proofs.many_to_many.table.Goals as goal

abbrev items : Vec (Option ℕ) Global → List (Option ℕ)
items row = row.items

pub invariant_of-result : goal.invariant_of-result
invariant_of-result g c =
    let a = c.args in
    let R = IsRowBy a.hierarchy.now a.within a.targets.now in
    let kept = kept_rows a.hierarchy.now a.within a.targets.now a.sources.now c.in_ok-parts.parts.items c.in_ok-parts.ensures in
    let rows = subst (λ (list : List (Vec (Option ℕ) Global)). AllZip R a.sources.now (map items list)) (sym c.in_ok-rows.ensures) kept in
    let count = AllZip-long R a.sources.now (map items c.in_ok-rows.rows.items) rows in
    omega (arith, c.in_ok-rows.rows.ok.0, count, length-map c.in_ok-rows.rows.items items, c.requires.lists.0)

pub returns : goal.returns
returns g c =
    let a = c.args in
    let R = IsRowBy a.hierarchy.now a.within a.targets.now in
    let kept = kept_rows a.hierarchy.now a.within a.targets.now a.sources.now c.in_ok-parts.parts.items c.in_ok-parts.ensures in
    subst (λ (list : List (Vec (Option ℕ) Global)). AllZip R a.sources.now (map items list)) (sym c.in_ok-rows.ensures) kept
