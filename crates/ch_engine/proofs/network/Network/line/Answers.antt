-- The word beside the leg in the row of the lower of two nodes is the line of the arc between them.
use Rattle.std.proofs.Common.{◌≢◌, ◌∙◌, ℕ, ◌<◌, ◌≤◌, List, [], get_or, length, sym, ap, subst, arith}
use Rattle.ch_hierarchy.specs.Hierarchy.{LevelsAndLegs, nodes_of}
use Rattle.ch_hierarchy.specs.declared.leg.Leg.{Leg}
use Rattle.ch_hierarchy.specs.Rows.{row, IsRow}
use Rattle.ch_hierarchy.specs.declared.side.Side.TheVariants.{Up, Down}
use Rattle.ch_query.proofs.one_side.Expanding.{rows_size}
use Rattle.ch_query.proofs.routing.Rows.{rows_ordered}
use Rattle.ch_engine.specs.Lines.{IsLineBy, IsWordAt, Lines}
use Rattle.ch_engine.proofs.LineOfPair.{line_down, line_up}
use Rattle.ch_engine.proofs.network.Network.line.Goals as goal

pub word_at-requires : goal.word_at-requires
word_at-requires c =
    let H = c.self.inside.hierarchy in
    let from = c.args.from in
    let levelled = c.level.ensures.levelled in
    let low : from < nodes_of H = subst (λ (v : LevelsAndLegs × Lines). from < nodes_of v.0) (sym c.self.view_is) c.requires.from in
    let long = c.self.invariant.0.3.0.long from (let size = rows_size H levelled Up in omega (arith, size, low)) in
    let words = ap length c.row.ensures in
    let legs = ap (λ (l : List Leg). length l) c.up.ensures.row in
    record {
      order = subst IsRow (sym c.up.ensures.row) (rows_ordered H levelled Up from);
      long = words ∙ long ∙ sym legs;
    }

pub word_at-requires-else-level : goal.word_at-requires-else-level
word_at-requires-else-level c =
    let H = c.self.inside.hierarchy in
    let to = c.args.to in
    let levelled = c.level.ensures.levelled in
    let low : to < nodes_of H = subst (λ (v : LevelsAndLegs × Lines). to < nodes_of v.0) (sym c.self.view_is) c.requires.to in
    let long = c.self.invariant.0.3.1.long to (let size = rows_size H levelled Down in omega (arith, size, low)) in
    let words = ap length c.row-else-level.ensures in
    let legs = ap (λ (l : List Leg). length l) c.down.ensures.row in
    record {
      order = subst IsRow (sym c.down.ensures.row) (rows_ordered H levelled Down to);
      long = words ∙ long ∙ sym legs;
    }

pub returns-then-level : goal.returns-then-level
returns-then-level c =
    let H = c.self.inside.hierarchy in
    let lines : Lines = record { up = c.self.inside.ups; down = c.self.inside.downs; count = c.self.inside.count } in
    let from = c.args.from in
    let to = c.args.to in
    let word = c.word_at.result in
    let low : from < nodes_of H = subst (λ (v : LevelsAndLegs × Lines). from < nodes_of v.0) (sym c.self.view_is) c.requires.from in
    let inside : from < length H.up = let size = rows_size H c.level.ensures.levelled Up in omega (arith, size, low) in
    let rises : get_or H.level from 0 < get_or H.level to 0 =
    omega (arith, c.if-level.true, c.level.ensures.level, c.level-2.ensures.level) in
    let at : IsWordAt (row H.up from) (get_or lines.up from []) to word =
    subst (λ (legs : List Leg). IsWordAt legs (get_or lines.up from []) to word) c.up.ensures.row
    (subst (λ (ws : List ℕ). IsWordAt c.up.result.now ws to word) c.row.ensures c.word_at.ensures) in
    let is : from ≢ to → IsLineBy H lines from to word =
    λ differ g within kept are. line_up g H lines kept are from to differ inside rises word at in
    subst (λ (v : LevelsAndLegs × Lines). from ≢ to → IsLineBy v.0 v.1 from to word) c.self.view_is is

pub returns-else-level : goal.returns-else-level
returns-else-level c =
    let H = c.self.inside.hierarchy in
    let lines : Lines = record { up = c.self.inside.ups; down = c.self.inside.downs; count = c.self.inside.count } in
    let from = c.args.from in
    let to = c.args.to in
    let word = c.word_at-else-level.result in
    let low : to < nodes_of H = subst (λ (v : LevelsAndLegs × Lines). to < nodes_of v.0) (sym c.self.view_is) c.requires.to in
    let inside : to < length H.down = let size = rows_size H c.level.ensures.levelled Down in omega (arith, size, low) in
    let falls : get_or H.level to 0 ≤ get_or H.level from 0 =
    omega (arith, c.if-level.false, c.level.ensures.level, c.level-2.ensures.level) in
    let at : IsWordAt (row H.down to) (get_or lines.down to []) from word =
    subst (λ (legs : List Leg). IsWordAt legs (get_or lines.down to []) from word) c.down.ensures.row
    (subst (λ (ws : List ℕ). IsWordAt c.down.result.now ws from word) c.row-else-level.ensures c.word_at-else-level.ensures) in
    let is : from ≢ to → IsLineBy H lines from to word =
    λ differ g within kept are. line_down g H lines kept are from to differ inside falls word at in
    subst (λ (v : LevelsAndLegs × Lines). from ≢ to → IsLineBy v.0 v.1 from to word) c.self.view_is is
