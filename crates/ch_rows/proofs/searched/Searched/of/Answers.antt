-- The search spaces of the targets have ranks of nodes, each once, and their buckets are those of the search.
use Rattle.std.proofs.Common.{sym, subst}
use Rattle.ch_hierarchy.specs.declared.side.Side.TheVariants.{Down}
use Rattle.ch_rows.specs.Buckets.{HoldFirst, HoldNearest}
use Rattle.ch_hierarchy.specs.Direction.{facing}
use Rattle.ch_rows.proofs.Facing.{kept_facing}
use Rattle.ch_rows.proofs.HeldSpaces.{spaces_apart, spaces_few, spaces_held, spaces_within}
use Rattle.ch_rows.proofs.searched.Searched.of.Goals as goal

pub buckets_of-requires-clause-listed : goal.buckets_of-requires-clause-listed
buckets_of-requires-clause-listed c =
    let a = c.args in
    spaces_few (facing a.direction a.hierarchy.now) Down a.within a.targets.now a.spaces.items c.requires.spaces c.requires.listed

pub buckets_of-requires-clause-ranks : goal.buckets_of-requires-clause-ranks
buckets_of-requires-clause-ranks c =
    let a = c.args in
    spaces_within (facing a.direction a.hierarchy.now) Down a.within a.targets.now a.spaces.items c.requires.spaces
    (kept_facing a.direction a.hierarchy.now c.requires.kept).2.levelled c.nodes.result c.nodes.ensures.nodes

pub buckets_of-requires-clause-apart : goal.buckets_of-requires-clause-apart
buckets_of-requires-clause-apart c =
    let a = c.args in
    spaces_apart (facing a.direction a.hierarchy.now) Down a.within a.targets.now a.spaces.items c.requires.spaces

pub returns-clause-searched : goal.returns-clause-searched
returns-clause-searched c =
    let a = c.args in
    let buckets = c.in_ok-buckets.buckets in
    subst (λ list. HoldNearest (facing a.direction a.hierarchy.now) a.within a.count list buckets) (sym c.in_ok-listed.ensures.items)
    (spaces_held (facing a.direction a.hierarchy.now) Down a.within a.targets.now a.spaces.items c.requires.spaces
    (kept_facing a.direction a.hierarchy.now c.requires.kept) c.requires.listed (λ n spaces. HoldFirst n a.count spaces buckets)
    c.nodes.result c.nodes.ensures.nodes c.in_ok-buckets.ensures)
