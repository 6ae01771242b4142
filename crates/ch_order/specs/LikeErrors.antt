-- The same reason, where the order is named.
use Rattle.ch_order.specs.declared.construction.like.LikeError.{LikeError}
use Rattle.ch_order.specs.declared.construction.like.OrderError.{OrderError}

abbrev pub like_error : OrderError → LikeError
like_error OrderError.Order = LikeError.Order
like_error OrderError.NoMemory = LikeError.NoMemory
