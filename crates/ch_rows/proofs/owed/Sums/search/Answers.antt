-- The buckets of sources and of targets, dealt over the items, are both sides of the sums.
use Rattle.std.proofs.Common.{refl, ap, subst}
use Rattle.ch_hierarchy.specs.declared.side.Side.TheVariants.{Up, Down}
use Rattle.ch_rows.specs.Buckets.{HoldSearchSpaces}
use Rattle.ch_rows.specs.Dealing.{Deal, item_of}
use Rattle.ch_rows.proofs.Deals.{dealt_by}
use Rattle.ch_rows.proofs.Tables.{within}
use Rattle.ch_rows.proofs.owed.Sums.search.Goals as goal

pub search_side-requires-clause-dealing : goal.search_side-requires-clause-dealing
search_side-requires-clause-dealing g c κs within =
    ap (λ (d : Deal). d.nodes) (dealt_by c.args.hierarchy.now c.new-dealing.result c.nodes.result c.piece.result c.args.crew.now.plan.piece
    c.new-dealing.ensures c.nodes.ensures.nodes c.piece.ensures.piece)

pub search_side-requires-2-clause-dealing : goal.search_side-requires-2-clause-dealing
search_side-requires-2-clause-dealing g c κs within =
    ap (λ (d : Deal). d.nodes) (dealt_by c.args.hierarchy.now c.new-dealing.result c.nodes.result c.piece.result c.args.crew.now.plan.piece
    c.new-dealing.ensures c.nodes.ensures.nodes c.piece.ensures.piece)

pub invariant_of-result : goal.invariant_of-result
invariant_of-result g c = within c.in_ok-ups.ensures.buckets c.in_ok-downs.ensures.buckets c.requires.cells

pub returns : goal.returns
returns g c =
    let a = c.args in
    let H = a.hierarchy.now in
    let dealt = dealt_by H c.new-dealing.result c.nodes.result c.piece.result a.crew.now.plan.piece c.new-dealing.ensures
    c.nodes.ensures.nodes c.piece.ensures.piece in
    record {
      rise = subst (λ (d : Deal). HoldSearchSpaces H Up a.within (item_of d) a.sources.now c.in_ok-ups.ups) dealt
          c.in_ok-ups.ensures.buckets;
      fall = subst (λ (d : Deal). HoldSearchSpaces H Down a.within (item_of d) a.targets.now c.in_ok-downs.downs) dealt
          c.in_ok-downs.ensures.buckets;
      rows = refl;
      columns = refl;
      limit = refl;
    }
