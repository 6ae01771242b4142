-- The texts of the reasons why no hierarchy in an order like a given one is built.
use Rattle.std.specs.Prelude.{ℕ, ◌++◌, List, codes, decimal}
use Rattle.ch_order.specs.declared.construction.like.LikeError.{LikeError}
use Rattle.ch_order.specs.declared.construction.like.OrderError.{OrderError}
use Rattle.ch_order.specs.declared.construction.like.OrderError.TheVariants.{Order, NoMemory}

abbrev pub order_text : OrderError → List ℕ
order_text Order = codes "order"
order_text NoMemory = codes "out of memory"

abbrev pub like_text : LikeError → List ℕ
like_text LikeError.Order = codes "order"
like_text (LikeError.Crowded node) = codes "too many legs at node " ++ decimal node
like_text LikeError.NoMemory = codes "out of memory"
