-- A root that knows nothing may be split into one pass and the passes that are left.
use Rattle.std.proofs.Common.{sym, subst}
use Rattle.atomic_table.specs.Table.{Splits, Me}
use Rattle.ch_work.specs.declared.board.known.Known.{Known}
use Rattle.ch_work.specs.Rule.{Kept}
use Rattle.ch_work.specs.Steps.{less_one, one_part}
use Rattle.ch_work.proofs.Ends.{splits}
use Rattle.ch_work.proofs.board.make.split_off.Goals as goal

pub split_seat-seat-requires : goal.split_seat-seat-requires
split_seat-seat-requires c =
    let k = c.args.table.now.shared.key in
    let id = c.args.root.now.id in (
      c.requires.table.0,
      c.requires.table.1,
      subst (λ (m : Me (Unit {0}) Known). Splits (Kept k) id m.0 (less_one m.0) (one_part m.0)) (sym c.requires.root.1)
          (splits k id c.args.pieces c.args.left c.requires.root.0),
    )
