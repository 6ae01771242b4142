-- How the nodes of a hierarchy are dealt over the pieces of a job. Each piece has its share of the high nodes.
use Rattle.std.specs.Prelude.{ℕ, ◌+◌, ◌-◌, ◌*◌, ◌/◌, ◌%◌, nat_lt, cond, min}
use Rattle.ch_hierarchy.specs.Hierarchy.{LevelsAndLegs, nodes_of}

-- the number of nodes, with an item for each, and the number of items in a piece; the last piece may have fewer
pub record Deal : Type 0 where
  pub nodes : ℕ
  pub piece : ℕ

-- the number of pieces before the last
abbrev pub before_last : Deal → ℕ
before_last d = (d.nodes - 1) / d.piece

-- the number of items of the last piece
abbrev pub last_size : Deal → ℕ
last_size d = d.nodes - before_last d * d.piece

-- the number of nodes that are dealt over all pieces, round after round, until the last piece is full
abbrev pub to_all : Deal → ℕ
to_all d = last_size d * (before_last d + 1)

-- the piece and the round of the node of a rank, where the highest node has rank 0; once the last piece is full, the
-- others get the rest
abbrev pub turn_of : Deal → ℕ → ℕ × ℕ
turn_of d rank = cond (nat_lt rank (to_all d)) (rank % (before_last d + 1), rank / (before_last d + 1))
    ((rank - to_all d) % before_last d, last_size d + (rank - to_all d) / before_last d)

-- the item of a piece and a round: a piece is filled from its end
abbrev pub item_at : Deal → ℕ × ℕ → ℕ
item_at d turn = min ((turn.0 + 1) * d.piece) d.nodes - 1 - turn.1

-- the item of the node of a rank
abbrev pub item_of : Deal → ℕ → ℕ
item_of d rank = item_at d (turn_of d rank)

-- a rank and a weight, with the rank's item in place of the rank
abbrev pub dealt : (ℕ → ℕ) → ℕ × ℕ → ℕ × ℕ
dealt item entry = (item entry.0, entry.1)

-- the nodes of a hierarchy, dealt over pieces of `piece` items
abbrev pub deal_of : LevelsAndLegs → ℕ → Deal
deal_of H piece = record { nodes = nodes_of H; piece = piece }
