-- A first word that is no number leaves no first number.
use Rattle.ch_read.proofs.Numbers.{no_first}
use Rattle.ch_read.proofs.number.any_first_number.Goals as goal

pub returns-in_err-value : goal.returns-in_err-value
returns-in_err-value c = rw (c.from_residual-in_err-value.ensures) (no_first _ _ _ c.in_ok-word.ensures.0 c.in_err-value.ensures)
